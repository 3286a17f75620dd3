use Rattle.std.proofs.Common.{◌≡◌, false, take, is_none}
use Rattle.std.specs.List.{list_any}
use Rattle.op_core.specs.Sets.{get}
use Rattle.op_core.proofs.lists.merge.has_new.Given as goal

abbrev pub invariant-loop-op : goal.invariant-loop-op
invariant-loop-op l = list_any (λ o. is_none (get l.held o.id)) (take l.op-index l.new) ≡ false
