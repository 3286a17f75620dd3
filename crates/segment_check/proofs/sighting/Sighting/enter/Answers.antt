use Rattle.std.proofs.Common.{◌∙◌, ap, sym}
use Rattle.sty_sheet.specs.Views.{records_of}
use Rattle.usfm_token.specs.View.{mark_parts}
use Rattle.usfm_tree.specs.StepViews.{entry_before}
use Rattle.segment_check.specs.Loops.Sightings.{seen_with}
use Rattle.segment_check.proofs.sighting.Sighting.enter.Goals as goal

pub returns-in_ok-close-in-Close : goal.returns-in_ok-close-in-Close
returns-in_ok-close-in-Close c =
    λ later.
    (let rs = records_of c.args.sheet.now in
    c.in_ok-close-in-Close.ensures rs (mark_parts c.in-Close.field-0) later
    ∙ ap (λ e. seen_with rs c.args.self.now (entry_before e later)) (sym c.in-Close.is))
