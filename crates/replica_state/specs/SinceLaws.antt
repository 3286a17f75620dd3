-- Laws of imports since a base (this project's own rule).
use Rattle.std.specs.Prelude.{◌≡◌, ℕ, true, List, ◌∷◌, None, Ok}
use Rattle.std.specs.List.{Contains, list_all, list_any}
use Rattle.usfm_ref.specs.Keys.{KeyParts, book_head}
use Rattle.usfm_ref.specs.Segments.{segment}
use Rattle.usfm_ref.specs.declared.segment.Segment.{Segment}
use Rattle.verse_cut.specs.Pieces.{PieceParts, pieces_of}
use Rattle.verse_cut.specs.Reading.{book_in}
use Rattle.op_core.specs.Ids.{Id}
use Rattle.op_core.specs.Ops.{Operation, in_segment, own_text}
use Rattle.op_core.specs.Sets.{IsOpSet, clash}
use Rattle.op_core.specs.Shown.{shown, text_of}
use Rattle.op_core.specs.NextIds.{next_number}
use Rattle.op_core.specs.Export.{export}
use Rattle.replica_state.specs.States.{State, IsState}
use Rattle.replica_state.specs.Steps.{Command, Receive, Import, Imported, step, with_ops}
use Rattle.replica_state.specs.Runs.{after_all, NoneRefused}
use Rattle.replica_state.specs.Changes.{edits_from}
use Rattle.replica_state.specs.ChangeLaws.{edits_over}
use Rattle.replica_state.specs.Since.{has_greatest_text, since_changes, imported_since}

-- the edits that a replica which has received the base makes of the changed keys
abbrev pub changes_of : State → List Operation → List ℕ → List PieceParts → List Operation
changes_of s base book pieces =
    edits_from (next_number s.held) s book (since_changes s.held base book pieces)

-- an operation of the id stood in the file: the base shows it in the segment, with the text of the
-- greatest one that it shows there
pub record StoodInFile (base : List Operation) (g : Segment) (id : Id) : Type 0 where
  pub op : Operation
  pub shown : Contains (shown base g) op
  pub of_id : op.id ≡ id
  pub text : own_text op ≡ text_of base g

-- It replaces nothing unseen: each id that an edit names stood in the file.
abbrev pub ReplacesNothingUnseen : Type 0
ReplacesNothingUnseen =
    (s : State) (base : List Operation) (book : List ℕ) (pieces : List PieceParts)
    (edit : Operation)
    (id : Id) →
    Contains (changes_of s base book pieces) edit → Contains edit.replaced id →
    StoodInFile base edit.segment id

-- What did not stand in the file stays: of what the replica shows once it has received the base, an
-- operation that did not stand in the file is shown after the edits.
abbrev pub UnseenStays : Type 0
UnseenStays =
    (s : State) (base : List Operation) (book : List ℕ) (pieces : List PieceParts) (g : Segment)
    (o : Operation) →
    IsState s → Contains (shown s.held g) o → (StoodInFile base g o.id → ⊥) →
    Contains (shown (with_ops s (changes_of s base book pieces)).held g) o

-- An unchanged file changes nothing: where it is the base's export, whatever came in since, there
-- is no edit.
abbrev pub UnchangedFilesAddNothing : Type 0
UnchangedFilesAddNothing =
    (s b : State) (book : List ℕ) → IsState s → IsState b → clash s.held b.held ≡ None →
    list_any (in_segment (segment book book_head)) b.held ≡ true →
    imported_since s b.held (export b.held book)
    ≡ record { after = with_ops s b.held; answer = Ok 0 }

-- the commands that an import of a book since a base is: the base is received, and then each
-- changed key is edited
abbrev pub since_commands : State → List Operation → List ℕ → List PieceParts → List Command
since_commands s base book pieces =
    Receive base ∷ edits_over book (since_changes (with_ops s base).held base book pieces)

-- An import since a base that is not refused is a receiving and then edits over given ids, of which
-- none is refused; so all that holds of receivings and edits holds of it.
abbrev pub IsReceivingAndEdits : Type 0
IsReceivingAndEdits =
    (s : State) (base : List Operation) (file book : List ℕ) (count : ℕ) →
    IsState s → IsOpSet base → book_in file ≡ Ok book →
    (imported_since s base file).answer ≡ Ok count →
    NoneRefused s (since_commands s base book (pieces_of file))
    × (after_all s (since_commands s base book (pieces_of file))
    ≡ (imported_since s base file).after)

-- Twice is once: the same base and file again add nothing.
abbrev pub TwiceIsOnce : Type 0
TwiceIsOnce =
    (s : State) (base : List Operation) (file : List ℕ) (count : ℕ) → IsState s → IsOpSet base →
    (imported_since s base file).answer ≡ Ok count →
    imported_since (imported_since s base file).after base file
    ≡ record { after = (imported_since s base file).after; answer = Ok 0 }

-- It is the import of the file where, with the base received, each segment of the file's book shows
-- what the base shows there, and of several operations that the base shows in one segment all have
-- one text, so that nothing is in conflict there.
abbrev pub IsImportWhereNothingCame : Type 0
IsImportWhereNothingCame =
    (s : State) (base : List Operation) (file book : List ℕ) (count : ℕ) →
    IsState s → IsOpSet base → clash s.held base ≡ None → book_in file ≡ Ok book →
    ((key : KeyParts) →
    shown (with_ops s base).held (segment book key) ≡ shown base (segment book key)) →
    ((key : KeyParts) → list_all (has_greatest_text base (segment book key))
    (shown base (segment book key)) ≡ true) →
    (step (with_ops s base) (Import file)).reply ≡ Imported (Ok count) →
    imported_since s base file
    ≡ record { after = (step (with_ops s base) (Import file)).after; answer = Ok count }
