-- The names of the codes of findings (this project's own).
use Rattle.std.specs.Prelude.{ℕ, List, codes}
use Rattle.segment_check.specs.declared.code.Code.{Code}
use Rattle.segment_check.specs.declared.code.Code.TheVariants as code

-- the name of a code
abbrev pub code_name : Code → List ℕ
code_name code.UnknownMarker = codes "unknown-marker"
code_name code.StrayClose = codes "stray-close"
code_name code.UnclosedChar = codes "unclosed-char"
code_name code.UnclosedNote = codes "unclosed-note"
code_name code.TooDeep = codes "too-deep"
code_name code.BadNumber = codes "bad-number"
code_name code.BadBridge = codes "bad-bridge"
code_name code.NotRising = codes "not-rising"
code_name code.Overlap = codes "overlap"
code_name code.NotUnder = codes "not-under"
