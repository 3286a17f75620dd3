use Rattle.std.proofs.Common.{arith}
use Rattle.op_core.proofs.IdOrders.LineLengths.{digits_of_chapter}
use Rattle.op_core.proofs.operations.line.chapter_line.Goals as goal

pub push_number-requires : goal.push_number-requires
push_number-requires c =
    omega (
      arith,
      c.new-line.ensures.len,
      c.push_text.ensures.len,
      c.from.ensures,
      digits_of_chapter c.from.result
          (omega (arith, c.from.ensures, c.ranges.chapter.fits)),
    )

pub push_text-requires-2 : goal.push_text-requires-2
push_text-requires-2 c =
    omega (
      arith,
      c.new-line.ensures.len,
      c.push_text.ensures.len,
      c.push_number.ensures.len,
      c.from.ensures,
      digits_of_chapter
          c.from.result (omega (arith, c.from.ensures, c.ranges.chapter.fits)),
    )
