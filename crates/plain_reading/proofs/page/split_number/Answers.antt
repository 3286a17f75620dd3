use Rattle.std.proofs.Common.{◌≡◌}
use Rattle.plain_reading.proofs.PageLemmas.{front_view, back_view}
use Rattle.plain_reading.specs.Paragraphs.{number_length}
use Rattle.book_reading.specs.Views.{block_view}
use Rattle.plain_reading.proofs.page.split_number.Goals as goal

pub returns-clause-number : goal.returns-clause-number
returns-clause-number c =
    front_view c.number_length.result (number_length (block_view c.args.block)) c.args.block.runs.now c.split_at.result.0.now
    c.number_length.ensures.value c.split_at.ensures.front

pub returns-clause-others : goal.returns-clause-others
returns-clause-others c =
    back_view c.number_length.result (number_length (block_view c.args.block)) c.args.block.runs.now c.split_at.result.1.now
    c.number_length.ensures.value c.split_at.ensures.back
