use Rattle.std.proofs.Common.{◌≡◌, ◌<◌, ◌≤◌, ◌+◌, Err, length, map, ◌∙◌, ap, sym, subst, arith}
use Rattle.std.specs.Prelude.{is_some}
use Rattle.std.specs.Str.Iter.{lines_rest}
use Rattle.std.specs.Str.Lines.{lines}
use Rattle.std.proofs.lemmas.Iterator.Splits.{YieldsList-from_lines}
use Rattle.std.proofs.lemmas.Result.{err_from_is_err_and}
use Rattle.sty_sheet.specs.Loops.FieldViews.{field_view}
use Rattle.sty_sheet.specs.Fields.{field_of}
use Rattle.sty_sheet.specs.Lines.{after_feff}
use Rattle.sty_sheet.specs.Memory.{begun_before_fault}
use Rattle.sty_sheet.specs.Sheets.{field_fault, sheet_of}
use Rattle.sty_sheet.specs.Loops.Steps.{Reading, reading_of, Tells}
use Rattle.sty_sheet.specs.Views.{Gives, record_of}
use Rattle.sty_sheet.specs.declared.fault.SheetFault.TheVariants.{Memory}
use Rattle.sty_sheet.proofs.LineSteps.{next_line, no_line, feff_le}
use Rattle.sty_sheet.proofs.MemoryLemmas.{begun_ahead, still_within, within_at_first, takes_here, right_takes}
use Rattle.sty_sheet.proofs.Resume.{resume, ends, starts, takes_line, refuses_line}
use Rattle.sty_sheet.proofs.Telling.{is_some_map}
use Rattle.sty_sheet.proofs.sheet.Sheet.read.Goals as goal

pub loop-line-init : goal.loop-line-init
loop-line-init c =
    let text = c.args.text.now in
    let lines_are = c.lines-line-items.ensures.rest ∙ c.after_feff.ensures in
    let rest = ap lines_rest c.into_iter-line-iterator.ensures.into_iter_gives ∙ lines_are in
    let fs = map field_of (lines (after_feff text)) in (
      lines (after_feff text),
      (YieldsList-from_lines (after_feff text) rest).runs,
      omega (arith, ap length rest, feff_le text),
      ap (λ s. resume s 0 fs) c.new-reader.ensures ∙ starts text,
      subst (λ (r : Reading). begun_ahead (is_some r.begun) 1 fs ≤ begun_before_fault text) (sym c.new-reader.ensures)
          (within_at_first text),
    )

pub loop-line-preserved : goal.loop-line-preserved
loop-line-preserved c =
    let inv = c.loop-line.invariant in
    let next = next_line inv.0 c.loop-line.line-iterator c.next.new.self c.in-Some.line inv.1 c.in-Some.ensures.steps in
    let less : length (lines_rest c.next.new.self) < length (lines_rest c.loop-line.line-iterator) = (c.in-Some.ensures.goes.on tt).2 in
    let line = ap (map field_of) next.1 in (
      next.0,
      next.2,
      omega (arith, inv.2, less),
      takes_line _ _ c.loop-line.number _ _ (map field_of next.0) (map field_of inv.0) _
          line c.field_of.ensures c.in_ok-take.ensures.fault c.in_ok-take.ensures.reads inv.3,
      still_within _ _ c.loop-line.number _ _ _ (map field_of next.0) (map field_of inv.0)
          line c.field_of.ensures c.in_ok-take.ensures.fault c.in_ok-take.ensures.reads inv.4,
    )

pub returns-in_err-take-clause-sheet : goal.returns-in_err-take-clause-sheet
returns-in_err-take-clause-sheet c =
    let inv = c.loop-line.invariant in
    let next = next_line inv.0 c.loop-line.line-iterator c.next.new.self c.in-Some.line inv.1 c.in-Some.ensures.steps in
    let p = err_from_is_err_and c.from_residual.result c.from_residual.ensures.1 in
    let told = refuses_line _ c.loop-line.number _ _ (map field_of next.0) (map field_of inv.0)
    (sheet_of c.args.text.now) c.in_err-take.field-0.0 (ap (map field_of) next.1) c.field_of.ensures c.in_err-take.ensures.fault
    inv.3 in
    rw (p.1, p.2) told

pub returns-in_err-take-clause-memory : goal.returns-in_err-take-clause-memory
returns-in_err-take-clause-memory c =
    let inv = c.loop-line.invariant in
    let next = next_line inv.0 c.loop-line.line-iterator c.next.new.self c.in-Some.line inv.1 c.in-Some.ensures.steps in
    let p = err_from_is_err_and c.from_residual.result c.from_residual.ensures.1 in
    let s = reading_of c.loop-line.reader in
    rw (p.1, p.2) (λ e.
    let memory : c.in_err-take.field-0.0 ≡ Memory = cc e in
    let another = c.in_err-take.ensures.memory (ap Err memory) in
    let due = subst (λ x. Tells (Err x) (field_fault (is_some s.begun) (c.loop-line.number + 1) (field_view c.field_of.result)))
    memory c.in_err-take.ensures.fault in
    takes_here c.args.text.now s c.loop-line.number _ _ (map field_of next.0) (map field_of inv.0)
    (ap (map field_of) next.1) c.field_of.ensures (is_some_map record_of c.loop-line.reader.begun ∙ another.0) another.1
    due inv.4 inv.3)

pub returns-clause-sheet : goal.returns-clause-sheet
returns-clause-sheet c =
    let inv = c.loop-line.invariant in
    let none = no_line inv.0 _ _ inv.1 c.in-None.ensures.steps in
    let read = sym inv.3 ∙ ap (λ ls. resume (reading_of c.loop-line.reader) c.loop-line.number (map field_of ls)) none
    ∙ ends (reading_of c.loop-line.reader) c.loop-line.number in
    subst (Gives c.finish.result) (sym read) c.finish.ensures

pub returns-clause-memory : goal.returns-clause-memory
returns-clause-memory c =
    let inv = c.loop-line.invariant in
    let none = no_line inv.0 _ _ inv.1 c.in-None.ensures.steps in
    λ e. right_takes c.args.text.now _ (sym inv.3
    ∙ ap (λ ls. resume (reading_of c.loop-line.reader) c.loop-line.number (map field_of ls)) none
    ∙ ends (reading_of c.loop-line.reader) c.loop-line.number)
