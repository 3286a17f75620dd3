use Rattle.std.proofs.Common.{◌≡◌, ◌+◌, ◌≤◌, List, ℕ, map, length}
use Rattle.std.specs.Prelude.{is_some}
use Rattle.std.specs.Iterator.{AlwaysYields}
use Rattle.std.specs.Str.Iter.{lines_steps, lines_rest}
use Rattle.sty_sheet.specs.Fields.{field_of}
use Rattle.sty_sheet.specs.Memory.{begun_before_fault}
use Rattle.sty_sheet.specs.Sheets.{sheet_of}
use Rattle.sty_sheet.specs.Loops.Steps.{reading_of}
use Rattle.sty_sheet.proofs.MemoryLemmas.{begun_ahead}
use Rattle.sty_sheet.proofs.Resume.{resume}
use Rattle.sty_sheet.proofs.sheet.Sheet.read.Given as goal

abbrev pub invariant-loop-line : goal.invariant-loop-line
invariant-loop-line l =
    (ls : List (List ℕ)) × AlwaysYields lines_steps (λ x. x.now) l.line-iterator ls
    × (l.number + length (lines_rest l.line-iterator) ≤ length l.text)
    × (resume (reading_of l.reader) l.number (map field_of ls) ≡ sheet_of l.text)
    × (begun_ahead (is_some (reading_of l.reader).begun) (l.number + 1) (map field_of ls) ≤ begun_before_fault l.text)
