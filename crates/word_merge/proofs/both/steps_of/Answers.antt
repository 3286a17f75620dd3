use Rattle.std.proofs.Common.{[], arith, ap, ◌∙◌}
use Rattle.std.proofs.lemmas.List.{take_all}
use Rattle.word_diff.specs.declared.part.Kind.TheVariants.{Kept}
use Rattle.word_diff.specs.declared.part.Part.{Part}
use Rattle.word_diff.specs.Parts.{spans}
use Rattle.word_merge.specs.Steps.{steps_of}
use Rattle.word_merge.proofs.Pushed.{part_more}
use Rattle.word_merge.proofs.both.steps_of.Goals as goal

abbrev no_part : Part
no_part = record { kind = Kept; text = record { ref_ptr = (0, 0); now = [] } }

pub loop-part-preserved : goal.loop-part-preserved
loop-part-preserved c =
    part_more c.args.parts.now c.loop-part.part-index no_part c.loop-part.made.items c.push_steps.new.made.items
    c.loop-part-test.true c.in_ok-push_steps.ensures c.loop-part.invariant

pub returns : goal.returns
returns c =
    c.loop-part.invariant
    ∙ ap (λ parts. steps_of (spans parts)) (take_all c.loop-part.part-index c.args.parts.now (omega (arith, c.loop-part-test.false)))
