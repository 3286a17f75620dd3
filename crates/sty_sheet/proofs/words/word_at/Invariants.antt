use Rattle.std.proofs.Common.{◌≡◌}
use Rattle.std.specs.Prelude.{slice_get}
use denote.Text.{Utf8}
use denote.Shadow.{shadow}
use Rattle.sty_sheet.specs.Records.{words_of}
use Rattle.sty_sheet.proofs.words.word_at.Given as goal

abbrev pub invariant-loop-word : goal.invariant-loop-word
invariant-loop-word l = shadow (Utf8 l.ahead) × (slice_get (words_of l.ahead) l.more ≡ slice_get (words_of l.text) l.place)

abbrev pub decreases-loop-word : goal.decreases-loop-word
decreases-loop-word l = l.more
