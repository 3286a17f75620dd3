use Rattle.std.proofs.Common.{◌≡◌, ◌++◌, string_bytes, encode_utf8_all}
use Rattle.std.specs.List.{flat_map}
use Rattle.plain_line.specs.Plain as plain
use Rattle.plain_line.proofs.plain.push_line.Given as goal

abbrev pub invariant-loop-sign : goal.invariant-loop-sign
invariant-loop-sign l = string_bytes l.line ≡ string_bytes l.initial.line ++ encode_utf8_all (flat_map plain.sign l.yielded)
