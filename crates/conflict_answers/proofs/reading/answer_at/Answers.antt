use Rattle.std.proofs.Common.{◌≡◌, ◌++◌, ◌∙◌, true, List, ap, sym, subst}
use Rattle.std.specs.List.{list_all}
use Rattle.std.specs.Option.{option_map}
use Rattle.op_core.specs.Ids.{Id, is_id}
use Rattle.conflict_answers.specs.Answers.{MayBeChosen, chosen}
use Rattle.conflict_answers.specs.Loops.Cuts.{segment_and_ids}
use Rattle.conflict_answers.specs.Spelling.{chosen_lines, conflict_words, remark_lines}
use Rattle.conflict_answers.proofs.Choices.{same_parts}
use Rattle.conflict_answers.proofs.Readers.{missed, nothing_is}
use Rattle.conflict_answers.proofs.Walks.{conflict_lacks, lines_are, part, read_is}
use Rattle.conflict_answers.proofs.reading.answer_at.Goals as goal

pub returns-in_default-clause-only : goal.returns-in_default-clause-only
returns-in_default-clause-only c a rest is e =
    let line = conflict_words a.segment a.ids in
    let below = chosen_lines a.chosen ++ (remark_lines a.remark ++ rest) in
    nothing_is (line, below)
    (c.in_default.ensures.only line below (conflict_lacks a.segment a.ids is.conflict) (e ∙ lines_are a rest))

pub returns-in_default-2-clause-only : goal.returns-in_default-2-clause-only
returns-in_default-2-clause-only c a rest is e =
    let line = conflict_words a.segment a.ids in
    let below = chosen_lines a.chosen ++ (remark_lines a.remark ++ rest) in
    let first = same_parts c.in-Some.line.now line c.in-Some.below.now below
    (c.in-Some.ensures.only line below (conflict_lacks a.segment a.ids is.conflict) (e ∙ lines_are a rest)) in
    missed segment_and_ids c.in_ok-segment.field-0 (a.segment, a.ids) c.in_default-2.is
    (c.in_ok-segment.ensures.only a.segment a.ids is.conflict first.0)

pub returns-clause-only : goal.returns-clause-only
returns-clause-only c a rest is e =
    let line = conflict_words a.segment a.ids in
    let below = chosen_lines a.chosen ++ (remark_lines a.remark ++ rest) in
    let first = same_parts c.in-Some.line.now line c.in-Some.below.now below
    (c.in-Some.ensures.only line below (conflict_lacks a.segment a.ids is.conflict) (e ∙ lines_are a rest)) in
    let found = c.in_ok-segment.ensures.only a.segment a.ids is.conflict first.0 in
    let over = same_parts c.in-Some-2.segment a.segment c.in-Some-2.ids.items a.ids
    (sym (ap (option_map segment_and_ids) c.in-Some-2.is) ∙ found) in
    let listed = c.deref.ensures.value ∙ over.1 in
    read_is a rest c.in-Some-2.segment c.in-Some-2.ids.items (chosen c.choice_at-choice.result.0)
    (option_map (λ t. t.now) c.remark_at.result.0) c.remark_at.result.1.now over.0 over.1
    (part a.ids c.in-Some.below.now c.choice_at-choice.result.1.now c.remark_at.result.1.now a.chosen a.remark rest
    (chosen c.choice_at-choice.result.0) (option_map (λ t. t.now) c.remark_at.result.0) c.choice_at-choice.ensures.spelled
    c.remark_at.ensures.spelled
    (λ d x may f. c.choice_at-choice.ensures.only d x
    (subst (λ (ids : List Id). list_all is_id ids ≡ true) (sym listed) is.conflict.valid)
    (subst (λ (ids : List Id). MayBeChosen ids d) (sym listed) may) f)
    c.remark_at.ensures.only is.chosen is.remark first.1)
