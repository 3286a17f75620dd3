use Rattle.std.proofs.Common.{◌∙◌, ap}
use Rattle.std.specs.Option.{option_map}
use Rattle.sty_sheet.specs.Records.{has_word, under_in, or_milestone}
use Rattle.sty_sheet.specs.StyleViews.{record_of}
use Rattle.sty_sheet.specs.Views.{records_of}
use Rattle.sty_sheet.specs.declared.listed.Listed.{Listed}
use Rattle.sty_sheet.proofs.Entries.{finds}
use Rattle.sty_sheet.proofs.sheet.Sheet.has_under.Goals as goal

pub returns-in-Some : goal.returns-in-Some
returns-in-Some c =
    let sheet = c.args.self.now in
    c.has_under.ensures
    ∙ ap (λ o. has_word c.args.word.now (under_in (or_milestone (records_of sheet) c.args.name.now o)))
    (ap (option_map (λ (l : Listed). record_of l.style)) c.in-Some.ensures.value
    ∙ finds sheet.styles.entries c.args.name.now sheet.keyed)
