use Rattle.std.proofs.Common.{◌≡◌, ◌++◌, map, take}
use Rattle.usfm_ref.specs.Keys.{head_of}
use Rattle.replica_state.proofs.import.push_heads.Given as goal

abbrev pub invariant-loop-key : goal.invariant-loop-key
invariant-loop-key l = l.keys.items ≡ l.initial.keys.items ++ map head_of (take l.key-index l.held)
