-- A law of a file that is read again, where a sync was cut short before the file was replaced (this
-- project's own rule): by the base that makes the files as they were read, nothing comes in of it.
use Rattle.std.specs.Prelude.{◌≡◌, ℕ, true, false, List, [], Option, None, Some, Ok, if◌then◌else◌}
use Rattle.std.specs.Str.{is_utf8}
use Rattle.usfm_ref.specs.Keys.{KeyParts}
use Rattle.usfm_ref.specs.Segments.{segment}
use Rattle.verse_cut.specs.Pieces.{PieceParts}
use Rattle.verse_cut.specs.Reading.{book_in}
use Rattle.op_core.specs.Export.{export}
use Rattle.op_core.specs.Ops.{Operation}
use Rattle.op_core.specs.Sets.{clash, join}
use Rattle.replica_state.specs.Imports.{loses_line, piece_at}
use Rattle.replica_state.specs.Since.{shows_text}
use Rattle.replica_state.specs.States.{State, IsState}
use Rattle.book_folder.specs.Bases.{found_shown, kept_shown, stood_text}
use Rattle.book_folder.specs.Files.{FileParts}
use Rattle.book_folder.specs.Restored.{coming_pieces, in_manner_of}
use Rattle.book_folder.specs.Taking.{StoodParts, has_other, taken_in}
use Rattle.book_folder.specs.Wanted.{WishParts}

-- the base that makes the files as they were read, as a replica
abbrev pub read_base : List StoodParts → State → State → State
read_base stood base s = record {
  name = base.name;
  held = join (kept_shown stood base.held) (found_shown stood s.held);
}

-- the pieces of a file that was written from a base
abbrev pub pieces_by : State → FileParts → List PieceParts
pieces_by base f = coming_pieces base.held f.book f.bytes

-- the text that a file has for a key, where that is another one than its base picks
abbrev pub other_text : State → FileParts → KeyParts → Option (List ℕ)
other_text base f key =
    if has_other base.held f.book (pieces_by base f) key
    then Some (piece_at (pieces_by base f) key) else None

-- A file was taken in that was written from a base: where it has another text than the base picks,
-- the project shows that, and it is written down. It begins with its book, and no chapter lost all
-- its verses and kept the line that the base makes for it.
pub record IsTaken (s base : State) (stood : List StoodParts) (f : FileParts) : Type 0 where
  pub begun : book_in (in_manner_of (export base.held f.book) f.bytes) ≡ Ok f.book
  pub shown : (key : KeyParts) → has_other base.held f.book (pieces_by base f) key ≡ true →
      shows_text s.held (segment f.book key) (piece_at (pieces_by base f) key) ≡ true
  pub written : (o : Operation) (key : KeyParts) → o.segment ≡ segment f.book key →
      stood_text stood o ≡ other_text base f key
  pub lines : (key : KeyParts) → loses_line base.held f.book (pieces_by base f) key ≡ false

-- Read again, nothing comes in: of a file that was taken in, by the base that makes the files as they
-- were read, no edit is made and nothing is asked; where the line ends of the two bases' exports are
-- of one manner, and no conflict is to be settled.
abbrev pub ReadAgainNothingComesIn : Type 0
ReadAgainNothingComesIn =
    (s base : State) (older : List State) (wishes : WishParts) (stood more : List StoodParts)
    (f : FileParts) →
    IsState s → IsState base → clash s.held base.held ≡ None → is_utf8 f.bytes ≡ true →
    IsTaken s base stood f →
    in_manner_of (export (read_base stood base s).held f.book) f.bytes
    ≡ in_manner_of (export base.held f.book) f.bytes →
    wishes.settled ≡ [] →
    taken_in s (read_base stood base s) older wishes more f
    ≡ Ok (record { after = s; stood = more; count = 0 })
