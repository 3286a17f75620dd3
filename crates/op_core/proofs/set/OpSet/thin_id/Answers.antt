use Rattle.std.proofs.Common.{List, length, sym, ap, subst, ◌∙◌}
use Rattle.std.specs.Prelude.{IsTrue}
use Rattle.op_core.specs.Ids.{same_id}
use Rattle.op_core.specs.Ops.{Operation}
use Rattle.op_core.specs.Sets.{get, IsOpSet}
use Rattle.op_core.specs.Loops.Index.{IsIndex}
use Rattle.op_core.specs.Thinned.{is_legal, thin_where, has_text}
use Rattle.op_core.proofs.ThinnedSets.TwoSteps.{where_legal}
use Rattle.op_core.proofs.ThinnedSets.Left.{IsOpSet-where, index_where, written, length_where}
use Rattle.op_core.proofs.set.OpSet.thin_id.Goals as goal

pub invariant_of-self : goal.invariant_of-self
invariant_of-self c =
    let items = c.self.inside.ops.items in
    let now = c.leave_text_at.ensures.thin ∙ ap (thin_where (same_id c.args.id.now)) c.deref_mut.ensures.value in
    let e = written c.leave_text_at.new.ops items c.self.inside.ops.len
    (ap length c.leave_text_at.ensures.thin ∙ length_where (same_id c.args.id.now) c.deref_mut.result.now ∙ c.deref_mut.ensures.len)
    ∙ now in
    subst (λ (xs : List Operation). IsOpSet xs × IsIndex xs c.self.inside.chapters.items × IsTrue (is_legal xs)) (sym e) (
      IsOpSet-where (same_id c.args.id.now) items c.self.invariant.0,
      index_where
          (same_id c.args.id.now) items c.self.inside.chapters.items c.self.invariant.1,
      where_legal
          (same_id c.args.id.now) items c.self.invariant.0.rising c.self.invariant.2
          (λ o g named. rw c.self.view_is (c.requires.past o (rw (← c.self.view_is) g) named)),
    )

pub returns-clause-thin : goal.returns-clause-thin
returns-clause-thin c =
    let now = c.leave_text_at.ensures.thin ∙ ap (thin_where (same_id c.args.id.now)) (c.deref_mut.ensures.value ∙ c.self.view_is) in
    written c.leave_text_at.new.ops c.self.inside.ops.items c.self.inside.ops.len
    (ap length c.leave_text_at.ensures.thin ∙ length_where (same_id c.args.id.now) c.deref_mut.result.now ∙ c.deref_mut.ensures.len)
    ∙ now

pub returns-clause-was : goal.returns-clause-was
returns-clause-was c =
    c.leave_text_at.ensures.was ∙ ap (λ (xs : List Operation). has_text (get xs c.args.id.now)) (c.deref_mut.ensures.value ∙ c.self.view_is)
