use Rattle.std.proofs.Common.{◌∙◌, ap, refl}
use Rattle.sty_sheet.specs.Views.{records_of}
use Rattle.usfm_tree.specs.Reading.{tree_of}
use Rattle.usfm_tree.specs.SheetViews.{styles_of}
use Rattle.segment_check.specs.Reading.{found_in}
use Rattle.segment_check.proofs.FoundLaw.{tree_findings}
use Rattle.segment_check.proofs.checker.check.Goals as goal

pub returns : goal.returns
returns c =
    let sheet = c.args.sheet.now in
    let text = c.args.text.now in
    tree_findings (records_of sheet) text (tree_of (styles_of sheet) text) c.in_ok-seen.seen.items
    c.in_ok-findings.findings.items refl c.in_ok-seen.ensures
    (c.in_ok-findings.ensures ∙ ap (λ t. found_in t text) c.as_slice.ensures.value)
