use Rattle.std.proofs.Common.{ap, ◌∙◌}
use Rattle.std.proofs.lemmas.Result.{IfOk-weaker}
use Rattle.word_diff.specs.Parts.{spans}
use Rattle.word_merge.specs.Steps.{steps_of}
use Rattle.word_merge.proofs.StepWords.{lead}
use Rattle.word_merge.proofs.both.steps.Goals as goal

pub returns : goal.returns
returns c =
    let parts = c.in_ok-parts in
    IfOk-weaker c.steps_of.result _ _
    (λ made is. lead c.args.old.now c.args.new.now parts.parts.items (spans made.items) parts.ensures.old_words
    parts.ensures.new_words parts.ensures.longest (is ∙ ap (λ ps. steps_of (spans ps)) c.deref.ensures.value))
    c.steps_of.ensures
