-- What an import since a base is, by its parts, where the edits are made beside the replica.
use Rattle.std.proofs.Common.{◌≡◌, ℕ, List, None, Option, Result, Ok, Err, sym, ap, ◌∙◌}
use Rattle.verse_cut.specs.Pieces.{PieceParts, pieces_of}
use Rattle.verse_cut.specs.Reading.{book_in}
use Rattle.verse_cut.specs.declared.fault.BookFault.{BookFault}
use Rattle.op_core.specs.Ids.{Id}
use Rattle.op_core.specs.Ops.{Operation}
use Rattle.op_core.specs.Sets.{clash}
use Rattle.replica_state.specs.States.{State}
use Rattle.replica_state.specs.Changes.{edits_or}
use Rattle.replica_state.specs.Steps.{with_ops, edited_all}
use Rattle.replica_state.specs.Since.{SinceStep, since_changes, changed, changed_after, changed_in, imported_since}
use Rattle.replica_state.specs.declared.fault.SinceFault.{SinceFault}
use Rattle.replica_state.specs.declared.fault.SinceFault.TheVariants.{NumbersUsedUp}

-- edits that are made do not hang on the replica that stands where none are
still_made : (b c s x : State) (r : Result (List Operation) SinceFault) (n : ℕ) → edited_all b s r ≡ record { after = x; answer = Ok n }
    → edited_all c s r ≡ record { after = x; answer = Ok n }
still_made b c s x (Ok ops) n e = e
still_made b c s x (Err fault) n e = cc (ap (λ (y : SinceStep). y.answer) e)

module _ (s : State) (base was : List Operation) (file book : List ℕ) (pieces : List PieceParts)
    (held : was ≡ base) (cut : pieces ≡ pieces_of file) (named : book_in file ≡ Ok book) (none : clash s.held base ≡ None) where
  since_is : (t : State) → t ≡ with_ops s base → imported_since s base file ≡ changed s t book (since_changes t.held was book pieces)
  since_is t received =
      ap (λ (r : Result (List ℕ) BookFault). changed_in s base (pieces_of file) r) named
      ∙ ap (λ (c : Option Id). changed_after s base book (pieces_of file) c) none
      ∙ (λ i. changed s (sym received i) book (since_changes (sym received i).held (sym held i) book (sym cut i)))

  pub made_as : (t x y : State) (n : ℕ) → t ≡ with_ops s base → y ≡ x
      → changed t t book (since_changes t.held was book pieces) ≡ record { after = x; answer = Ok n }
      → imported_since s base file ≡ record { after = y; answer = Ok n }
  made_as t x y n received is e =
      since_is t received ∙ still_made t s t x (edits_or NumbersUsedUp t book (since_changes t.held was book pieces)) n e
      ∙ (λ i. record { after = sym is i; answer = Ok n })

  -- where there is nothing to be received, the edits are those of the replica as it is
  pub unreceived : with_ops s base ≡ s → (x : SinceStep) → changed s s book (since_changes s.held was book pieces) ≡ x
      → imported_since s base file ≡ x
  unreceived kept x e = since_is s (sym kept) ∙ e
