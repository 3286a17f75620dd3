use Rattle.segment_history.proofs.Keeping.{text_put}
use Rattle.segment_history.proofs.texts.put.Goals as goal

pub returns-in-Ok : goal.returns-in-Ok
returns-in-Ok c =
    text_put c.args.op.now c.id.result c.kept.result c.args.texts.now c.insert.new.self c.id.ensures.id c.kept.ensures
    c.in-Ok.ensures.updates.0
