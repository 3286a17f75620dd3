use Rattle.std.proofs.Common.{◌∙◌, subst}
use Rattle.memchr.specs.Find.{IsFirstByte, is_byte}
use Rattle.book_reading.proofs.Bars.{first_bar}
use Rattle.book_reading.proofs.place.bar_or_end.Goals as goal

pub returns-clause-value : goal.returns-clause-value
returns-clause-value c =
    c.unwrap_or.ensures
    ∙ first_bar c.args.text.now c.memchr.result
    (subst (λ b. IsFirstByte (is_byte 124) b c.memchr.result) c.as_bytes.ensures.value c.memchr.ensures)
