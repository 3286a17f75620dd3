use Rattle.std.proofs.Common.{List, map, arith, ap, ◌∙◌}
use Rattle.std.proofs.lemmas.List.{take_all}
use Rattle.usfm_ref.specs.Rising.{rising}
use Rattle.op_core.specs.Names.{name_cmp}
use Rattle.op_core.specs.Ops.{Operation}
use Rattle.op_core.specs.Thinned.{of_ids}
use Rattle.sync_changes.proofs.Listed.{names_once}
use Rattle.sync_changes.specs.Loops.Parts.{in_part}
use Rattle.sync_changes.proofs.gathered.makers.Goals as goal

pub returns : goal.returns
returns c =
    names_once c.loop-op.names.items c.sort_unstable.new.self.items c.dedup.new.self.items c.sort_unstable.ensures.permutation
    c.sort_unstable.ensures.sorted c.dedup.ensures.filtered
    ∙ ap (rising name_cmp)
    (c.loop-op.invariant
    ∙ ap (λ (os : List Operation). map (λ o. o.id.name) (of_ids (in_part c.args.part) os))
    (take_all c.loop-op.op-index c.args.ops.now (omega (arith, c.loop-op-test.false))))
