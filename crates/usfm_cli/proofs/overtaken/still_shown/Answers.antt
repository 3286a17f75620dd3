use Rattle.std.proofs.Common.{◌≡◌, List, Ok, filter, sym, ap, ◌∙◌}
use Rattle.std.specs.List.{list_all}
use Rattle.usfm_ref.specs.Segments.{segment}
use Rattle.op_core.specs.Lists.{shown_ids}
use Rattle.op_core.specs.NextIds.{is_among}
use Rattle.op_core.specs.Ops.{Operation}
use Rattle.usfm_cli.specs.Overtaken as overtaken
use Rattle.usfm_cli.proofs.overtaken.still_shown.Goals as goal

pub returns-clause-answer : goal.returns-clause-answer
returns-clause-answer c = λ _.
    let g = segment c.args.book c.args.key in
    let before = c.in_ok-before.before.held in
    let now = c.in_ok-now.now.held in
    let was : c.shown_ids.result.now ≡ shown_ids before g =
    c.shown_ids.ensures ∙ ap (λ (ops : List Operation). shown_ids ops g) c.set.ensures in
    let is : c.shown_ids-2.result.now ≡ shown_ids now g =
    c.shown_ids-2.ensures ∙ ap (λ (ops : List Operation). shown_ids ops g) c.set-2.ensures in
    let ids : c.in_ok-ids.ids.items ≡ filter (is_among (shown_ids now g)) (shown_ids before g) =
    c.in_ok-ids.ensures ∙ ap (filter (is_among (shown_ids now g))) was in
    let all : c.shows_all-is_all.result ≡ list_all (is_among (shown_ids before g)) (shown_ids now g) =
    c.shows_all-is_all.ensures ∙ ap (list_all (is_among (shown_ids before g))) is in
    (λ i. overtaken.still_shown (c.in_ok-before.ensures.loaded i) (c.in_ok-now.ensures.loaded i) g)
    ∙ (λ i. Ok (record { ids = sym ids i; is_all = sym all i }))
