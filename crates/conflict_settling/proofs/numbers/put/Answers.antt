use Rattle.std.proofs.lemmas.Map.Text.{btree_map_updates_str}
use Rattle.conflict_settling.proofs.numbers.put.Goals as goal

pub returns-in-Ok : goal.returns-in-Ok
returns-in-Ok c = btree_map_updates_str c.args.text.now c.args.by_text.now c.insert.new.self _ c.in-Ok.ensures.updates
