use Rattle.std.proofs.Common.{◌≡◌, ◌∷◌, ◌++◌, ◌∙◌, ℕ, List, Some, ap, sym, false, true, codes}
use Rattle.op_core.specs.Ids.{id_text}
use Rattle.op_core.specs.NextIds.{is_among}
use Rattle.conflict_answers.specs.Loops.Cuts.{both_now}
use Rattle.conflict_answers.proofs.Choices.{same_parts}
use Rattle.conflict_answers.proofs.Readers.{id_lacks, missed, none_is, some_is, take_told}
use Rattle.conflict_answers.proofs.chosen.take_at.Goals as goal

pub returns-in_err-word-clause-only : goal.returns-in_err-word-clause-only
returns-in_err-word-clause-only c id rest v a e =
    absurd
    (missed both_now c.told_by.result (id_text id, rest) c.in_err-word.was
    (c.told_by.ensures.only (id_text id) rest (id_lacks id v) (e ∙ take_told id rest)))

pub returns-in_err-id-clause-only : goal.returns-in_err-id-clause-only
returns-in_err-id-clause-only c id rest v a e =
    let word = same_parts c.in_ok-word.word.now (id_text id) c.in_ok-word.rest.now rest
    (c.in_ok-word.ensures.only (id_text id) rest (id_lacks id v) (e ∙ take_told id rest)) in
    absurd (none_is c.id_in.result id c.in_err-id.was (c.id_in.ensures.only id v word.0))

pub returns-then-not-is_listed-clause-only : goal.returns-then-not-is_listed-clause-only
returns-then-not-is_listed-clause-only c id rest v a e =
    let word = same_parts c.in_ok-word.word.now (id_text id) c.in_ok-word.rest.now rest
    (c.in_ok-word.ensures.only (id_text id) rest (id_lacks id v) (e ∙ take_told id rest)) in
    let same = some_is c.in_ok-id.id id (c.in_ok-id.ensures.only id v word.0) in
    let no : false ≡ true = sym c.if-not-is_listed.true ∙ (c.is_listed.ensures ∙ (ap (is_among c.args.ids.now) same ∙ a)) in
    cc

pub returns-clause-spelled : goal.returns-clause-spelled
returns-clause-spelled c =
    c.in_ok-word.ensures.told
    ∙ ap (λ (bs : List ℕ). codes "take" ++ 32 ∷ (bs ++ 10 ∷ c.in_ok-word.rest.now)) c.in_ok-id.ensures.spelled
    ∙ sym (take_told c.in_ok-id.id c.in_ok-word.rest.now)

pub returns-clause-listed : goal.returns-clause-listed
returns-clause-listed c = sym c.is_listed.ensures ∙ c.if-not-is_listed.false

pub returns-clause-only : goal.returns-clause-only
returns-clause-only c id rest v a e =
    let word = same_parts c.in_ok-word.word.now (id_text id) c.in_ok-word.rest.now rest
    (c.in_ok-word.ensures.only (id_text id) rest (id_lacks id v) (e ∙ take_told id rest)) in
    let same = some_is c.in_ok-id.id id (c.in_ok-id.ensures.only id v word.0) in
    λ i. Some (same i, word.1 i)
