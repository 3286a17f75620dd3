use Rattle.std.proofs.Common.{◌∙◌, ap}
use Rattle.std.specs.Option.{option_map}
use Rattle.sty_sheet.specs.StyleViews.{record_of}
use Rattle.sty_sheet.specs.declared.listed.Listed.{Listed}
use Rattle.sty_sheet.proofs.Entries.{finds}
use Rattle.sty_sheet.proofs.sheet.Sheet.style.Goals as goal

pub returns-in-Some : goal.returns-in-Some
returns-in-Some c =
    ap (option_map (λ (l : Listed). record_of l.style)) c.in-Some.ensures.value
    ∙ finds c.args.self.now.styles.entries c.args.name.now c.args.self.now.keyed

pub returns-in-None : goal.returns-in-None
returns-in-None c =
    ap (option_map (λ (l : Listed). record_of l.style)) c.in-None.ensures.value
    ∙ finds c.args.self.now.styles.entries c.args.name.now c.args.self.now.keyed
