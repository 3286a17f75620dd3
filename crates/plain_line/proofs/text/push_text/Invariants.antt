use Rattle.std.proofs.Common.{◌≡◌, ◌++◌, length, string_bytes, encode_utf8_all}
use Rattle.std.specs.List.{flat_map}
use Rattle.std.specs.Str.{chars}
use denote.Text.{Utf8}
use denote.Shadow.{shadow}
use Rattle.plain_line.specs.Plain.{sign_of_text, shown}
use Rattle.plain_line.proofs.text.push_text.Given as goal

-- the lines so far, and what stands for the rest of the text
abbrev pub invariant-loop-sign : goal.invariant-loop-sign
invariant-loop-sign l =
    shadow (Utf8 l.rest)
    × (string_bytes l.lines ++ encode_utf8_all (flat_map sign_of_text (shown l.returns (chars l.rest)))
    ≡ string_bytes l.fn.lines ++ encode_utf8_all (flat_map sign_of_text (shown l.returns (chars l.text))))

abbrev pub decreases-loop-sign : goal.decreases-loop-sign
decreases-loop-sign l = length l.rest
