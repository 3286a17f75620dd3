use Rattle.std.proofs.Common.{◌≤◌, ◌-◌, length}
use Rattle.bare_stream.proofs.Parts.{IsBared}
use Rattle.bare_stream.proofs.stream.bared.Given as goal

abbrev pub invariant-parts : goal.invariant-parts
invariant-parts l = (l.kept ≤ l.at) × (l.at ≤ length l.bytes.items) × IsBared l.fn.bytes.items l.bytes.items l.kept l.at

abbrev pub decreases-parts : goal.decreases-parts
decreases-parts l = length l.bytes.items - l.at
