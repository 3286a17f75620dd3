use Rattle.std.proofs.Common.{◌≡◌, false, take}
use Rattle.covered_verses.specs.Covers.{has_ink}
use Rattle.covered_verses.proofs.written.has_ink.Given as goal

abbrev pub invariant-loop-byte : goal.invariant-loop-byte
invariant-loop-byte l = has_ink (take l.byte-index l.bytes) ≡ false
