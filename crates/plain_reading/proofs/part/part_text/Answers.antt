use Rattle.std.proofs.Common.{◌≡◌, ◌∙◌, ℕ, Vec, Global, ap}
use Rattle.usfm_tree.specs.SheetViews.{styles_of}
use Rattle.book_reading.specs.Readings.{reading_of}
use Rattle.book_reading.specs.Views.{runs_view}
use Rattle.plain_reading.specs.Lines.{plain}
use Rattle.plain_reading.specs.Parts.{marked, part_text}
use Rattle.plain_reading.proofs.part.part_text.Goals as goal

pub returns : goal.returns
unfolding part_text
returns c =
    let styles = styles_of c.args.sheet.now in
    let gaps_are = c.deref-2.ensures.value ∙ c.in_ok-selected.ensures.gaps in
    let text_is = c.deref.ensures ∙ c.in_ok-selected.ensures.text in
    let runs_are = c.runs.ensures ∙ c.in_ok-reading.ensures.value ∙ ap (reading_of styles) text_is in
    ap (λ (v : Vec ℕ Global). v.items) c.into_bytes.ensures.value ∙ c.in_ok-plain.ensures
    ∙ ap (plain c.args.width) (ap runs_view c.deref-3.ensures.value ∙ c.in_ok-runs.ensures ∙ (λ i. marked (gaps_are i) (runs_are i)))
