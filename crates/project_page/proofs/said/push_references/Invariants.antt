use Rattle.std.proofs.Common.{◌≡◌, ◌++◌, string_bytes, encode_utf8_all}
use Rattle.std.specs.List.{flat_map}
use Rattle.project_page.specs.Said.{reference}
use Rattle.project_page.proofs.said.push_references.Given as goal

abbrev pub invariant-loop-sign : goal.invariant-loop-sign
invariant-loop-sign l = string_bytes l.said ≡ string_bytes l.initial.said ++ encode_utf8_all (flat_map reference l.yielded)
