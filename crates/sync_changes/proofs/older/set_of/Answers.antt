use Rattle.std.proofs.Common.{arith, ap, ◌∙◌}
use Rattle.std.specs.List.{list_any}
use Rattle.std.proofs.lemmas.List.{take_all}
use Rattle.op_core.specs.Ids.{same_id}
use Rattle.sync_changes.proofs.Olds.{set_more}
use Rattle.sync_changes.proofs.older.set_of.Goals as goal

pub loop-id-preserved : goal.loop-id-preserved
loop-id-preserved c =
    set_more c.args.ids.now c.loop-id.id-index c.id-item.result c.loop-id.set c.insert.new.self c.loop-id-test.true
    c.id-item.is c.in_ok-insert.ensures.updates.0 c.loop-id.invariant

pub returns : goal.returns
returns c = λ q.
    c.loop-id.invariant q
    ∙ ap (list_any (same_id q))
    (take_all c.loop-id.id-index c.args.ids.now (omega (arith, c.loop-id-test.false)))
