use Rattle.std.proofs.Common.{◌≡◌, ◌++◌, map, take}
use Rattle.merged_file.specs.Remarks as remarks
use Rattle.merged_file.proofs.lines.push_slashed.Given as goal

-- the bytes so far
abbrev pub invariant-loop-byte : goal.invariant-loop-byte
invariant-loop-byte l = l.made.items ≡ l.fn.made.items ++ map remarks.slashed (take l.byte-index l.line)
