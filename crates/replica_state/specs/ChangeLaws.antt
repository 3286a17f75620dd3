-- Laws of changes (this project's own rule).
use Rattle.std.specs.Prelude.{◌≡◌, ℕ, true, Bool, ◌||◌, List, [], ◌∷◌, map, Ok}
use Rattle.usfm_ref.specs.Keys.{key_cmp, book_head, same_key}
use Rattle.usfm_ref.specs.Rising.{rises_by}
use Rattle.usfm_ref.specs.Segments.{segment}
use Rattle.op_core.specs.Ops.{Operation}
use Rattle.op_core.specs.Export.{has_book}
use Rattle.replica_state.specs.States.{State, IsState}
use Rattle.replica_state.specs.Changes.{ChangeParts, changes_ops}
use Rattle.replica_state.specs.Steps.{Command, EditOver, with_ops}
use Rattle.replica_state.specs.Runs.{after_all, NoneRefused}

-- the edits over given ids that some changes of a book are
abbrev pub edits_over : List ℕ → List ChangeParts → List Command
edits_over book changes = map (λ c. EditOver (segment book c.key) c.text c.ids) changes

-- the book is begun by the first of some changes, if it is not yet: it has an operation, or the
-- change is that of its head
abbrev pub begins : List Operation → List ℕ → List ChangeParts → Bool
begins held book [] = true
begins held book (c ∷ later) = has_book held book || same_key c.key book_head

-- Changes of rising keys of a book that is begun, where they are not refused, are edits over their
-- ids, one after the other, of which none is refused; so all that holds of edits holds of them.
abbrev pub ChangesAreEdits : Type 0
ChangesAreEdits =
    (s : State) (book : List ℕ) (changes : List ChangeParts) (ops : List Operation) → IsState s →
    rises_by key_cmp (λ k. k) (map (λ c. c.key) changes) ≡ true →
    begins s.held book changes ≡ true → changes_ops s book changes ≡ Ok ops →
    NoneRefused s (edits_over book changes)
    × (after_all s (edits_over book changes) ≡ with_ops s ops)
