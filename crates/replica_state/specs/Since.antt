-- Imports of a file that was changed since a bundle (this project's own rule): what was changed in
-- it replaces what stood in it, and nothing else. The bundle is the base: the file was written from
-- it, and then changed.
use Rattle.std.specs.Prelude.{ℕ, Bool, not, ◌&&◌, List, map, filter, Option, None, Some, Result, Ok, Err}
use Rattle.std.specs.List.{list_any}
use Rattle.usfm_ref.specs.Books.{same_bytes}
use Rattle.usfm_ref.specs.Keys.{KeyParts}
use Rattle.usfm_ref.specs.Segments.{segment}
use Rattle.usfm_ref.specs.declared.segment.Segment.{Segment}
use Rattle.verse_cut.specs.Pieces.{PieceParts, pieces_of}
use Rattle.verse_cut.specs.Reading.{book_in}
use Rattle.verse_cut.specs.declared.fault.BookFault.{BookFault}
use Rattle.op_core.specs.Ids.{Id, is_none_left}
use Rattle.op_core.specs.Ops.{Operation, own_text}
use Rattle.op_core.specs.Sets.{clash}
use Rattle.op_core.specs.Shown.{shown, text_of}
use Rattle.op_core.specs.Lists.{ids_of}
use Rattle.op_core.specs.NextIds.{given_ids}
use Rattle.replica_state.specs.States.{State}
use Rattle.replica_state.specs.Changes.{ChangeParts, edits_or}
use Rattle.replica_state.specs.Steps.{EditsStep, with_ops, edited_all}
use Rattle.replica_state.specs.Imports.{piece_at, is_due, walked_keys}
use Rattle.replica_state.specs.declared.fault.ReceiveFault.{ReceiveFault}
use Rattle.replica_state.specs.declared.fault.ReceiveFault.TheVariants as receiving
use Rattle.replica_state.specs.declared.fault.SinceFault.{SinceFault}
use Rattle.replica_state.specs.declared.fault.SinceFault.TheVariants.{Memory, BadFile, Clash}
use Rattle.replica_state.specs.declared.fault.SinceFault.TheVariants.{NumbersUsedUp}

-- the fault of a base that is not received
abbrev pub of_receiving : ReceiveFault → SinceFault
of_receiving receiving.Memory = Memory
of_receiving (receiving.Clash id) = Clash id

-- whether an operation has the text of the greatest one that the base shows in the segment
abbrev pub has_greatest_text : List Operation → Segment → Operation → Bool
has_greatest_text base g o = same_bytes (own_text o) (text_of base g)

-- the ids that the base shows in a segment with the text of the greatest of them: those whose text
-- stood in the file
abbrev pub stood_ids : List Operation → Segment → List Id
stood_ids base g = ids_of (filter (has_greatest_text base g) (shown base g))

-- the ids that a segment shows, of those whose text stood in the file
abbrev pub seen_ids : List Operation → List Operation → Segment → List Id
seen_ids held base g = given_ids held g (stood_ids base g)

-- whether an operation that the segment shows has the text
abbrev pub shows_text : List Operation → Segment → List ℕ → Bool
shows_text held g text = list_any (λ o. same_bytes (own_text o) text) (shown held g)

-- Whether the key was changed in the file since the base, as an import into the base would see it;
-- but not where nothing is shown any more of what stood in the file, and the new text is shown
-- already.
abbrev pub is_changed : List Operation → List Operation → List ℕ → List PieceParts → KeyParts → Bool
is_changed held base book pieces key =
    is_due base book pieces key
    && not (is_none_left (seen_ids held base (segment book key))
    && shows_text held (segment book key) (piece_at pieces key))

-- the keys that were changed, rising, of those of the book and of the file
abbrev pub changed_keys : List Operation → List Operation → List ℕ → List PieceParts → List KeyParts
changed_keys held base book pieces =
    filter (is_changed held base book pieces) (walked_keys held book pieces)

-- the change of a key to the file's piece, which replaces what the segment shows of that which
-- stood in the file
abbrev pub since_change : List Operation → List Operation → List ℕ → List PieceParts → KeyParts
    → ChangeParts
since_change held base book pieces key = record {
  key = key;
  text = piece_at pieces key;
  ids = seen_ids held base (segment book key);
}

-- what was changed in the file, of rising keys
abbrev pub since_changes : List Operation → List Operation → List ℕ → List PieceParts
    → List ChangeParts
since_changes held base book pieces =
    map (since_change held base book pieces) (changed_keys held base book pieces)

-- what a replica is after an import since a base, and what it answers
abbrev pub SinceStep : Type 0
SinceStep = EditsStep SinceFault

-- The changes of a replica that has received the base are made; where they are refused it is as it
-- was before.
abbrev pub changed : State → State → List ℕ → List ChangeParts → SinceStep
changed before s book changes = edited_all before s (edits_or NumbersUsedUp s book changes)

-- the same where the base is first received, unless it clashes with what is held
abbrev pub changed_after : State → List Operation → List ℕ → List PieceParts → Option Id → SinceStep
changed_after s base book pieces (Some id) = record { after = s; answer = Err (Clash id) }
changed_after s base book pieces None =
    changed s (with_ops s base) book (since_changes (with_ops s base).held base book pieces)

-- the same for the book that the file begins with, or that it begins with none
abbrev pub changed_in : State → List Operation → List PieceParts → Result (List ℕ) BookFault →
    SinceStep
changed_in s base pieces (Err fault) = record { after = s; answer = Err (BadFile fault) }
changed_in s base pieces (Ok book) = changed_after s base book pieces (clash s.held base)

-- An import of a file since a base: the base is received, and then what was changed in the file is
-- made, by edits over what the replica shows of that which stood there, by rising numbers. Refused
-- are a file that begins with no book, then a base that clashes with what is held, then an edit for
-- which no number is left.
abbrev pub imported_since : State → List Operation → List ℕ → SinceStep
imported_since s base file = changed_in s base (pieces_of file) (book_in file)
