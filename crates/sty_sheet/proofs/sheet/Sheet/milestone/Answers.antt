use Rattle.std.proofs.Common.{◌∙◌, ap, sym}
use Rattle.std.specs.Option.{option_map}
use Rattle.sty_sheet.specs.Records.{closes_milestone}
use Rattle.sty_sheet.specs.StyleViews.{record_of}
use Rattle.sty_sheet.specs.Listing.{styles_in}
use Rattle.sty_sheet.proofs.Entries.{copied}
use Rattle.sty_sheet.proofs.Finding.{find_of_map}
use Rattle.sty_sheet.proofs.sheet.Sheet.milestone.Goals as goal

pub returns : goal.returns
returns c =
    let sheet = c.args.self.now in
    let name = c.args.name.now in
    copied c.get.result _ c.get.ensures.value ∙ ap (option_map record_of) (sheet.closed name)
    ∙ sym (find_of_map record_of (closes_milestone name) (styles_in sheet.styles))
