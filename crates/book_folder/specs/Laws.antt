-- Laws of a folder's files (this project's own rule).
use Rattle.std.specs.Prelude.{◌≡◌, ◌⊎◌, ℕ, true, List, None, Ok}
use Rattle.std.specs.List.{Contains}
use Rattle.std.specs.Str.{is_utf8}
use Rattle.usfm_ref.specs.Keys.{KeyParts}
use Rattle.usfm_ref.specs.Segments.{segment}
use Rattle.usfm_ref.specs.declared.segment.Segment.{Segment}
use Rattle.verse_cut.specs.Pieces.{PieceParts}
use Rattle.op_core.specs.Ids.{Id}
use Rattle.op_core.specs.Ops.{Operation, own_text}
use Rattle.op_core.specs.Export.{has_book}
use Rattle.op_core.specs.Sets.{clash, join}
use Rattle.op_core.specs.Shown.{shown}
use Rattle.op_core.specs.NextIds.{next_number}
use Rattle.replica_state.specs.Changes.{edits_from}
use Rattle.replica_state.specs.Imports.{piece_at}
use Rattle.replica_state.specs.SinceLaws.{StoodInFile}
use Rattle.replica_state.specs.States.{State, IsState}
use Rattle.book_folder.specs.Files.{FileParts}
use Rattle.book_folder.specs.Likes.{like}
use Rattle.book_folder.specs.Taking.{StoodParts, Taken, file_changes, has_other, is_wanted, taken_changed, taken_in}
use Rattle.book_folder.specs.Wanted.{WantedParts, WishParts}

-- Line ends say nothing: two files of a book that are like each other, and were written from the
-- same base, lead to the same project, or are refused alike.
abbrev pub LineEndsSayNothing : Type 0
LineEndsSayNothing =
    (s base : State) (older : List State) (wishes : WishParts) (stood : List StoodParts)
    (f g : FileParts) →
    like f.bytes g.bytes ≡ true → is_utf8 f.bytes ≡ true → is_utf8 g.bytes ≡ true →
    f.at ≡ g.at → f.book ≡ g.book → has_book base.held f.book ≡ true →
    taken_in s base older wishes stood f ≡ taken_in s base older wishes stood g

-- an operation of the id is one that a base shows in a segment
pub record ShownByBase (base : List Operation) (g : Segment) (id : Id) : Type 0 where
  pub op : Operation
  pub shown : Contains (shown base g) op
  pub of_id : op.id ≡ id

-- Nothing unseen is replaced: each id that an edit of a file names is one that the file's base
-- shows with the text that the file was written with; or the segment is one that the file is to
-- settle, and it is one that the base shows.
abbrev pub NothingUnseenIsReplaced : Type 0
NothingUnseenIsReplaced =
    (s base : State) (wanted : List WantedParts) (book : List ℕ) (pieces : List PieceParts)
    (edit : Operation) (id : Id) →
    Contains (edits_from (next_number s.held) s book
    (file_changes s.held base.held wanted book pieces)) edit →
    Contains edit.replaced id →
    StoodInFile base.held edit.segment id
    ⊎ ((is_wanted wanted edit.segment.book edit.segment.key ≡ true)
    × ShownByBase base.held edit.segment id)

-- an operation of a segment with a text
pub record HasText (ops : List Operation) (g : Segment) (text : List ℕ) : Type 0 where
  pub op : Operation
  pub held : Contains ops op
  pub of : op.segment ≡ g
  pub is : own_text op ≡ text

-- Nothing written is lost: where a file has another text in a segment than its base picks, and the
-- base was received, the project holds an operation of that segment with the file's text after the
-- file was taken in.
abbrev pub NothingWrittenIsLost : Type 0
NothingWrittenIsLost =
    (s base : State) (older : List State) (wishes : WishParts) (stood : List StoodParts)
    (f : FileParts) (pieces : List PieceParts) (key : KeyParts) (t : Taken) →
    IsState s → IsState base → clash s.held base.held ≡ None → join s.held base.held ≡ s.held →
    taken_changed s base older wishes stood f pieces ≡ Ok t →
    has_other base.held f.book pieces key ≡ true →
    HasText t.after.held (segment f.book key) (piece_at pieces key)
