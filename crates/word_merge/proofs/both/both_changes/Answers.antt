use Rattle.std.proofs.Common.{◌∙◌}
use Rattle.std.proofs.lemmas.Result.{IfOk-weaker}
use Rattle.word_diff.specs.Parts.{spans}
use Rattle.word_merge.specs.Merging.{merged}
use Rattle.word_merge.proofs.Told.{both_is, of_one_place}
use Rattle.word_merge.proofs.both.both_changes.Goals as goal

pub returns-clause-both : goal.returns-clause-both
returns-clause-both c =
    IfOk-weaker c.merged.result _ _
    (λ found is. both_is c.args.common.now c.args.one.now c.args.other.now (spans c.in_ok-one_steps.one_steps.items)
    (spans c.in_ok-other_steps.other_steps.items) found c.in_ok-one_steps.ensures c.in_ok-other_steps.ensures
    (is ∙ (λ i. merged (spans (c.deref.ensures.value i)) (spans (c.deref-2.ensures.value i)))))
    c.merged.ensures

pub returns-clause-none : goal.returns-clause-none
returns-clause-none c =
    IfOk-weaker c.merged.result _ _
    (λ found is none. of_one_place c.args.common.now c.args.one.now c.args.other.now (spans c.in_ok-one_steps.one_steps.items)
    (spans c.in_ok-other_steps.other_steps.items) found c.in_ok-one_steps.ensures c.in_ok-other_steps.ensures
    (is ∙ (λ i. merged (spans (c.deref.ensures.value i)) (spans (c.deref-2.ensures.value i)))) none)
    c.merged.ensures
