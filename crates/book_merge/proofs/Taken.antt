-- What an import that is not refused makes.
use Rattle.std.proofs.Common.{◌≡◌, ℕ, true, List, ◌++◌, length, Option, Some, None, Result, Ok, Err, arith, refl, sym, ap, ◌∙◌}
use Rattle.verse_cut.specs.Pieces.{pieces_of}
use Rattle.verse_cut.specs.Reading.{book_in}
use Rattle.verse_cut.specs.declared.fault.BookFault.{BookFault}
use Rattle.op_core.specs.Sets.{rises, join}
use Rattle.op_core.specs.NextIds.{next_number}
use Rattle.replica_state.specs.States.{State}
use Rattle.replica_state.specs.Edits.{first_number}
use Rattle.replica_state.specs.Changes.{ChangeParts, edits_from, edits_by}
use Rattle.replica_state.specs.Imports.{due_changes, import_into}
use Rattle.replica_state.specs.Steps.{edited_all, with_ops}
use Rattle.replica_state.specs.declared.fault.ImportFault.TheVariants as importing
use Rattle.replica_state.proofs.Changes.{is_first, edits_after}
use Rattle.book_merge.specs.Merges.{after, taken, after_import, imported}
use Rattle.book_merge.specs.declared.fault.MergeFault.{MergeFault}

-- what is made of a result that is not refused
pub after_is : {X Y : Type 0} (r : Result X MergeFault) (f : X → Result Y MergeFault) (y : Y) → after r f ≡ Ok y
    → (x : X) × (r ≡ Ok x) × (f x ≡ Ok y)
after_is (Ok x) f y e = (x, refl, e)
after_is (Err fault) f y e = cc e

-- an import that is not refused answers a count
pub taken_is : {F : Type 0} (t : State) (r : Result ℕ F) (y : State) → taken t r ≡ Ok y → (n : ℕ) × (r ≡ Ok n) × (t ≡ y)
taken_is t (Ok n) y e = (n, refl, cc e)
taken_is t (Err fault) y e = cc e

-- after an import a replica holds what it held, and then the edits
pub record Made (s : State) (file book : List ℕ) (t : State) : Type 0 where
  pub name : t.name ≡ s.name
  pub held : t.held ≡ s.held ++ edits_from (next_number s.held) s book (due_changes s.held book (pieces_of file))

pub made : (s : State) (file book : List ℕ) (t : State) → rises s.held ≡ true → book_in file ≡ Ok book → imported s file ≡ Ok t
    → Made s file book t
made s file book t rise named e =
    by (first_number s.held (length changes)) refl
    (sym (ap (λ (r : Result (List ℕ) BookFault). after_import (edited_all s s (import_into s (pieces_of file) r))) named) ∙ e)
  where
    changes : List ChangeParts
    changes = due_changes s.held book (pieces_of file)

    by : (f : Option ℕ) → first_number s.held (length changes) ≡ f
        → after_import (edited_all s s (edits_by importing.NumbersUsedUp f s book changes)) ≡ Ok t
        → Made s file book t
    by None g e = cc e
    by (Some first) g e =
        let is : with_ops s (edits_from first s book changes) ≡ t = cc e in
        record {
          name = ap (λ (x : State). x.name) (sym is);
          held = ap (λ (x : State). x.held) (sym is)
              ∙ ap (λ (n : ℕ). join s.held (edits_from n s book changes)) (is_first s.held (length changes) first (sym g)).is
              ∙ edits_after s book s.held (next_number s.held) changes rise (omega arith);
        }
