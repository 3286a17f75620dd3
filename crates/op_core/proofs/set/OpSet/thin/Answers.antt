use Rattle.std.proofs.Common.{List, length, filter, sym, ap, subst, ◌∙◌}
use Rattle.std.specs.Prelude.{IsTrue}
use Rattle.op_core.specs.Ops.{Operation}
use Rattle.op_core.specs.Sets.{IsOpSet}
use Rattle.op_core.specs.Loops.Index.{IsIndex}
use Rattle.op_core.specs.Thinned.{is_legal, is_left_out, thin}
use Rattle.op_core.proofs.Sets.Legal.{thin_legal}
use Rattle.op_core.proofs.ThinnedSets.Left.{IsOpSet-thin, index_thin, length_thin, written}
use Rattle.op_core.proofs.set.OpSet.thin.Goals as goal

pub invariant_of-self : goal.invariant_of-self
invariant_of-self c =
    let s = c.self.inside.ops.items in
    let e = written c.leave_past.new.ops s c.self.inside.ops.len
    (ap length c.leave_past.ensures.thin ∙ length_thin c.deref_mut.result.now ∙ c.deref_mut.ensures.len)
    ∙ c.leave_past.ensures.thin ∙ ap thin c.deref_mut.ensures.value in
    subst (λ (xs : List Operation). IsOpSet xs × IsIndex xs c.self.inside.chapters.items × IsTrue (is_legal xs)) (sym e)
    (IsOpSet-thin s c.self.invariant.0, index_thin s c.self.inside.chapters.items c.self.invariant.1, thin_legal s c.self.invariant.2)

pub returns-clause-thin : goal.returns-clause-thin
returns-clause-thin c =
    written c.leave_past.new.ops c.self.inside.ops.items c.self.inside.ops.len
    (ap length c.leave_past.ensures.thin ∙ length_thin c.deref_mut.result.now ∙ c.deref_mut.ensures.len)
    ∙ c.leave_past.ensures.thin ∙ ap thin (c.deref_mut.ensures.value ∙ c.self.view_is)

pub returns-clause-count : goal.returns-clause-count
returns-clause-count c =
    c.leave_past.ensures.count
    ∙ ap (λ (xs : List Operation). length (filter (is_left_out xs) xs)) (c.deref_mut.ensures.value ∙ c.self.view_is)
