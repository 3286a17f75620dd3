use Rattle.std.proofs.Common.{◌∙◌, ◌∷◌}
use Rattle.book_reading.specs.Views.{block_view, runs_view}
use Rattle.plain_reading.specs.Loops.{page_with}
use Rattle.plain_reading.specs.Paragraphs.{text_paragraph}
use Rattle.plain_reading.proofs.page.Page.push_block.Goals as goal

pub returns : goal.returns
returns c =
    λ later. c.in_ok-push_runs-2.ensures later
    ∙ c.in_ok-push_runs.ensures (text_paragraph c.block_setting.result (runs_view c.split_number.result.1.now) ∷ later)
    ∙ (λ i. page_with c.args.self.now
    (text_paragraph (c.number_setting.ensures i) (c.split_number.ensures.number i)
    ∷ text_paragraph (c.block_setting.ensures i) (c.split_number.ensures.others i) ∷ later))
