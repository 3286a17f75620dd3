use Rattle.std.proofs.Common.{◌++◌, ◌∙◌, inr, subst, sym}
use Rattle.conflict_answers.specs.Answers.{Chosen, MayBeChosen, chosen, taken}
use Rattle.conflict_answers.specs.Spelling.{chosen_lines}
use Rattle.conflict_answers.proofs.Choices.{as_given, none_chosen, own_only, same_parts, taken_only}
use Rattle.conflict_answers.proofs.Readers.{nothing_is}
use Rattle.conflict_answers.proofs.chosen.choice_at.Goals as goal

pub returns-in-Some-clause-spelled : goal.returns-in-Some-clause-spelled
returns-in-Some-clause-spelled c =
    c.in-Some.ensures.spelled ∙ (λ i. chosen_lines (sym c.choice_of.ensures.choice i) ++ sym c.choice_of.ensures.after i)

pub returns-in-Some-clause-may : goal.returns-in-Some-clause-may
returns-in-Some-clause-may c =
    subst (λ (d : Chosen). MayBeChosen c.args.ids.now d) (sym c.choice_of.ensures.choice) c.in-Some.ensures.listed

pub returns-in-Some-clause-only : goal.returns-in-Some-clause-only
returns-in-Some-clause-only c d rest v may e =
    let found = c.in-Some.found in
    as_given d (taken found.0) (chosen c.choice_of.result.0) rest found.1.now c.choice_of.result.1.now c.choice_of.ensures.choice
    c.choice_of.ensures.after
    (taken_only c.args.ids.now c.args.bytes.now found.0 found.1.now
    (λ x r w h f. same_parts found.0 x found.1.now r (c.in-Some.ensures.only x r w h f)) c.in-Some.ensures.spelled d rest v may e)

pub returns-in-Some-counted_at-clause-only : goal.returns-in-Some-counted_at-clause-only
returns-in-Some-counted_at-clause-only c d rest v may e =
    own_only c.args.ids.now c.args.bytes.now c.in-Some-counted_at.text.now c.in-Some-counted_at.rest.now
    (λ x r w h f. nothing_is (x, r) (c.in_default.ensures.only x r w h f))
    (λ t r is f. same_parts c.in-Some-counted_at.text.now t c.in-Some-counted_at.rest.now r (c.in-Some-counted_at.ensures.only t r is f))
    d rest v may e

pub returns-in-None-clause-only : goal.returns-in-None-clause-only
returns-in-None-clause-only c d rest v may e =
    inr
    (none_chosen c.args.ids.now c.args.bytes.now (λ x r w h f. nothing_is (x, r) (c.in_default.ensures.only x r w h f))
    (λ t r is f. nothing_is (t, r) (c.in-None.ensures.only t r is f)) d rest v may e)
