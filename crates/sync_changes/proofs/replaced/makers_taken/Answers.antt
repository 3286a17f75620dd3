use Rattle.std.proofs.Common.{List, map, filter, arith, ap, ◌∙◌}
use Rattle.std.proofs.lemmas.List.{take_all}
use Rattle.usfm_ref.specs.Rising.{rising}
use Rattle.op_core.specs.Ids.{Id}
use Rattle.op_core.specs.Names.{name_cmp}
use Rattle.sync_changes.proofs.Listed.{names_once}
use Rattle.sync_changes.specs.Loops.Parts.{is_taken}
use Rattle.sync_changes.proofs.replaced.makers_taken.Goals as goal

pub returns : goal.returns
returns c =
    names_once c.loop-id.names.items c.sort_unstable.new.self.items c.dedup.new.self.items c.sort_unstable.ensures.permutation
    c.sort_unstable.ensures.sorted c.dedup.ensures.filtered
    ∙ ap (rising name_cmp)
    (c.loop-id.invariant
    ∙ ap (λ (ids : List Id). map (λ id. id.name) (filter (is_taken c.args.files.now c.args.named.now c.args.sets.now) ids))
    (take_all c.loop-id.id-index c.args.ids.now (omega (arith, c.loop-id-test.false))))
