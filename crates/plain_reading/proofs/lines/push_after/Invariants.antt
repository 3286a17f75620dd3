use Rattle.std.proofs.Common.{◌≡◌, ◌++◌, length, string_bytes}
use denote.Shadow.{shadow}
use denote.Text.{Utf8}
use Rattle.sty_sheet.specs.Records.{words_of}
use Rattle.plain_reading.specs.Lines.{lines_after}
use Rattle.plain_reading.proofs.lines.push_after.Given as goal

-- the text so far, and the lines of the words that are left
abbrev pub invariant-loop-word : goal.invariant-loop-word
invariant-loop-word l =
    shadow (Utf8 l.rest)
    × (string_bytes l.text ++ lines_after l.width l.later l.room (words_of l.rest)
    ≡ string_bytes l.fn.text ++ lines_after l.width l.later l.fn.room (words_of l.words))

abbrev pub decreases-loop-word : goal.decreases-loop-word
decreases-loop-word l = length (words_of l.rest)
