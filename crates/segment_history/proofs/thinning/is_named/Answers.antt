use Rattle.std.proofs.Common.{◌∙◌}
use Rattle.segment_history.proofs.NamedIds.{has_at}
use Rattle.segment_history.proofs.thinning.is_named.Goals as goal

pub returns : goal.returns
returns c = c.contains.ensures
    ∙ has_at c.args.named.now c.args.op.now c.id.result c.book.result c.key.result c.id.ensures.id c.book.ensures c.key.ensures
