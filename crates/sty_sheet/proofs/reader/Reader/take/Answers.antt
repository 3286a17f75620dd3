use Rattle.std.proofs.Common.{◌≡◌, Some, ◌∙◌, ap, sym}
use Rattle.sty_sheet.specs.Loops.FieldViews.{field_view}
use Rattle.sty_sheet.specs.Sheets.{field_fault}
use Rattle.std.specs.Prelude.{is_some}
use Rattle.sty_sheet.specs.Loops.Steps.{reading_of}
use Rattle.sty_sheet.specs.Views.{record_of}
use Rattle.sty_sheet.specs.declared.fault.SheetFault.TheVariants.{Memory}
use Rattle.sty_sheet.proofs.Telling.{tells_due, is_some_map, no_memory}
use Rattle.sty_sheet.proofs.reader.Reader.take.Goals.{In-Some}
use Rattle.sty_sheet.proofs.reader.Reader.take.Goals as goal

-- the fault that the field has
due : (c : In-Some) → field_fault (is_some (reading_of c.args.self.now).begun) c.args.line (field_view c.args.field) ≡ Some c.in-Some.fault
due c =
    ap (λ seen. field_fault seen c.args.line (field_view c.args.field))
    (is_some_map record_of c.args.self.now.begun ∙ sym c.is_some.ensures) ∙ sym c.field_fault.ensures ∙ c.in-Some.is

pub returns-in-Some-clause-fault : goal.returns-in-Some-clause-fault
returns-in-Some-clause-fault c =
    tells_due (is_some (reading_of c.args.self.now).begun) c.args.line (field_view c.args.field) c.in-Some.fault
    (due (goal.at.returns-in-Some-clause-fault c).In-Some)

pub returns-in-Some-clause-memory : goal.returns-in-Some-clause-memory
returns-in-Some-clause-memory c = λ e.
    let memory : c.in-Some.fault ≡ Memory = cc e in
    absurd (no_memory (is_some (reading_of c.args.self.now).begun) c.args.line (field_view c.args.field)
    (due (goal.at.returns-in-Some-clause-memory c).In-Some ∙ ap Some memory))
