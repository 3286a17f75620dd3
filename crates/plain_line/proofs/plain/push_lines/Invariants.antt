use Rattle.std.proofs.Common.{◌≡◌, ◌++◌, string_bytes, encode_utf8_all}
use Rattle.std.specs.List.{flat_map}
use Rattle.plain_line.specs.Plain as plain
use Rattle.plain_line.proofs.plain.push_lines.Given as goal

abbrev pub invariant-loop-sign : goal.invariant-loop-sign
invariant-loop-sign l =
    string_bytes l.lines ≡ string_bytes l.initial.lines ++ encode_utf8_all (flat_map plain.sign_of_lines l.yielded)
