use Rattle.std.proofs.Common.{◌≡◌, ◌++◌, take}
use Rattle.std.specs.List.{flat_map}
use Rattle.conflict_settling.specs.Questions.{set_off_byte}
use Rattle.conflict_settling.proofs.question.push_set_off.Given as goal

-- the bytes of the escaped text so far
abbrev pub invariant-loop-byte : goal.invariant-loop-byte
invariant-loop-byte l =
    l.bytes.items ≡ l.initial.bytes.items ++ flat_map (set_off_byte l.manner) (take l.byte-index l.byte-items)
