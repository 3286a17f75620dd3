use Rattle.std.proofs.Common.{◌∙◌, ap, take, drop, Some}
use Rattle.conflict_answers.proofs.Cuts.{cut_is, cut_only, no_cut}
use Rattle.conflict_answers.proofs.cut.cut.Goals as goal

pub returns-in-empty-clause-only : goal.returns-in-empty-clause-only
returns-in-empty-clause-only c front rest lacks e =
    let bs = c.args.bytes.now in
    absurd
    (no_cut c.args.at bs c.split_at.result.0.now c.split_at.result.1.now
    (c.split_at.ensures.front ∙ ap (λ n. take n bs) c.len_before.ensures.value)
    (c.split_at.ensures.back ∙ ap (λ n. drop n bs) c.len_before.ensures.value) c.in-empty.len_below front rest e)

pub returns-in-len1-up-clause-cut : goal.returns-in-len1-up-clause-cut
returns-in-len1-up-clause-cut c =
    let bs = c.args.bytes.now in
    cut_is c.args.at bs c.split_at.result.0.now c.split_at.result.1.now
    (c.split_at.ensures.front ∙ ap (λ n. take n bs) c.len_before.ensures.value)
    (c.split_at.ensures.back ∙ ap (λ n. drop n bs) c.len_before.ensures.value) c.in-len1-up.len_at_least

pub returns-in-len1-up-clause-only : goal.returns-in-len1-up-clause-only
returns-in-len1-up-clause-only c front rest lacks e =
    let bs = c.args.bytes.now in
    let both = cut_only c.args.at bs c.split_at.result.0.now c.split_at.result.1.now
    (c.split_at.ensures.front ∙ ap (λ n. take n bs) c.len_before.ensures.value)
    (c.split_at.ensures.back ∙ ap (λ n. drop n bs) c.len_before.ensures.value) c.in-len1-up.len_at_least front rest lacks e in
    λ i. Some (both.0 i, both.1 i)
