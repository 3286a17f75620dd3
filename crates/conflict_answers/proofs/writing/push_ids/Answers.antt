use Rattle.std.proofs.Common.{◌∷◌}
use Rattle.op_core.specs.Ids.{Id, id_text}
use Rattle.conflict_answers.proofs.Appending.{appended}
use Rattle.conflict_answers.proofs.writing.push_ids.Goals as goal

pub loop-id-preserved : goal.loop-id-preserved
loop-id-preserved c =
    appended (λ (id : Id). 32 ∷ id_text id) c.args.ids.now c.loop-id.id-index c.id-item.result c.args.bytes.now.items
    c.loop-id.bytes.items c.push_id.new.bytes.items c.loop-id-test.true c.id-item.is c.in_ok-push_id.ensures c.loop-id.invariant
