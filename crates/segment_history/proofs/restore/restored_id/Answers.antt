use Rattle.std.proofs.Common.{◌≡◌, ℕ, List, Option, None, Some, cond, is_some, sym, ap, ◌∙◌}
use Rattle.std.proofs.lemmas.Result.{err_from_is_err_and}
use Rattle.usfm_ref.specs.declared.segment.Segment.{Segment}
use Rattle.op_core.specs.Ids.{Id}
use Rattle.op_core.specs.Ops.{Operation, or_empty}
use Rattle.op_core.specs.Sets.{get}
use Rattle.segment_history.specs.Restores.{restored_text, restored_of, restored_id, refusal_of, refusal_at}
use Rattle.segment_history.specs.declared.fault.RestoreFault.TheVariants.{LeftOut}
use Rattle.segment_history.proofs.restore.restored_id.Goals as goal

-- by the operation of the id
module _ (held : List Operation) (id : Id) (o : Operation) (is : get held id ≡ Some o) where
  thinned : o.text ≡ None → refusal_at held id ≡ Some (LeftOut id)
  thinned t = ap (refusal_of id) is ∙ ap (λ (u : Option (List ℕ)). cond (is_some u) None (Some (LeftOut id))) t

  module _ (text : List ℕ) (t : o.text ≡ Some text) where
    there : refusal_at held id ≡ None
    there = ap (refusal_of id) is ∙ ap (λ (u : Option (List ℕ)). cond (is_some u) None (Some (LeftOut id))) t

    restored : restored_text held o.segment text ≡ restored_id held id
    restored = sym (ap (restored_of held) is ∙ ap (λ (u : Option (List ℕ)). restored_text held o.segment (or_empty u)) t)

pub returns-in_default-clause-refused : goal.returns-in_default-clause-refused
returns-in_default-clause-refused c = ap (refusal_of c.args.id) (sym c.in_default.ensures)

pub returns-in_default-text-clause-refused : goal.returns-in_default-text-clause-refused
returns-in_default-text-clause-refused c =
    thinned c.args.bundle.now c.args.id c.in-Some.op (sym c.in-Some.ensures) (sym c.in_default-text.ensures)

pub returns-in_err-restored_over-clause-refused : goal.returns-in_err-restored_over-clause-refused
returns-in_err-restored_over-clause-refused c =
    let from = err_from_is_err_and c.from_residual.result c.from_residual.ensures.1 in
    rw (from.1, from.2) (there c.args.bundle.now c.args.id c.in-Some.op (sym c.in-Some.ensures) c.in-Some-text.text.now
    (sym c.in-Some-text.ensures))

pub returns-clause-edit : goal.returns-clause-edit
returns-clause-edit c =
    c.in_ok-restored_over.ensures
    ∙ ap (λ (g : Segment). restored_text c.args.bundle.now g c.in-Some-text.text.now) c.segment_of.ensures
    ∙ restored c.args.bundle.now c.args.id c.in-Some.op (sym c.in-Some.ensures) c.in-Some-text.text.now (sym c.in-Some-text.ensures)

pub returns-clause-there : goal.returns-clause-there
returns-clause-there c =
    there c.args.bundle.now c.args.id c.in-Some.op (sym c.in-Some.ensures) c.in-Some-text.text.now (sym c.in-Some-text.ensures)
