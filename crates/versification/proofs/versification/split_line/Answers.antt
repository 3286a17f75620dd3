use Rattle.std.proofs.Common.{◌∙◌, ap, take, drop}
use Rattle.versification.proofs.Splits.{last_line, next_line}
use Rattle.versification.proofs.versification.split_line.Goals as goal

pub returns-in-empty : goal.returns-in-empty
returns-in-empty c =
    let bs = c.args.bytes.now in
    last_line bs _ _ (c.split_at.ensures.front ∙ ap (λ n. take n bs) c.line_len.ensures.value)
    (c.split_at.ensures.back ∙ ap (λ n. drop n bs) c.line_len.ensures.value) c.in-empty.len_below

pub returns-in-len1-up : goal.returns-in-len1-up
returns-in-len1-up c =
    let bs = c.args.bytes.now in
    next_line bs _ _ (c.split_at.ensures.front ∙ ap (λ n. take n bs) c.line_len.ensures.value)
    (c.split_at.ensures.back ∙ ap (λ n. drop n bs) c.line_len.ensures.value) c.in-len1-up.len_at_least
