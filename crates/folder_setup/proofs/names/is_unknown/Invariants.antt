use Rattle.std.proofs.Common.{◌≡◌, length}
use Rattle.folder_setup.specs.Names as names
use Rattle.folder_setup.proofs.names.is_unknown.Given as goal

abbrev pub invariant-known : goal.invariant-known
invariant-known l = names.is_unknown_id l.left l.id ≡ names.is_unknown_id l.known l.id

abbrev pub decreases-known : goal.decreases-known
decreases-known l = length l.left
