use Rattle.std.proofs.Common.{◌∙◌, ap, take, subst}
use Rattle.memchr.specs.Find.{IsFirstByte, is_byte}
use Rattle.concordance.proofs.Bars.{first_bar}
use Rattle.concordance.proofs.plain.before_bar.Goals as goal

pub returns : goal.returns
returns c =
    c.split_at.ensures.front
    ∙ ap (λ n. take n c.args.text.now)
    (c.unwrap_or-end.ensures ∙ first_bar c.args.text.now c.memchr.result
    (subst (λ b. IsFirstByte (is_byte 124) b c.memchr.result) c.as_bytes.ensures.value c.memchr.ensures))
