use Rattle.std.proofs.Common.{◌∷◌, ◌++◌, ◌∙◌, [], ℕ, List, ap}
use Rattle.conflict_answers.specs.Loops.Cuts.{both_now}
use Rattle.conflict_answers.proofs.Readers.{missed, same_rest}
use Rattle.conflict_answers.proofs.cut.told_by.Goals as goal

pub returns-in_err-spaced-clause-only : goal.returns-in_err-spaced-clause-only
returns-in_err-spaced-clause-only c line rest lacks e = absurd (c.in_err-spaced.ensures (32 ∷ (line ++ 10 ∷ rest)) e)

pub returns-in_err-told-clause-only : goal.returns-in_err-told-clause-only
returns-in_err-told-clause-only c line rest lacks e =
    absurd
    (c.in_err-told.ensures (line ++ 10 ∷ rest)
    (same_rest c.args.word.now c.in_ok-spaced.spaced.now (32 ∷ (line ++ 10 ∷ rest)) c.args.bytes.now c.in_ok-spaced.ensures e))

pub returns-in_err-line-clause-only : goal.returns-in_err-line-clause-only
returns-in_err-line-clause-only c line rest lacks e =
    let spaced = c.in_ok-spaced.spaced.now in
    let after = same_rest c.args.word.now spaced (32 ∷ (line ++ 10 ∷ rest)) c.args.bytes.now c.in_ok-spaced.ensures e in
    let told = same_rest (32 ∷ []) c.in_ok-told.told.now (line ++ 10 ∷ rest) spaced c.in_ok-told.ensures after in
    absurd (missed both_now c.cut.result (line, rest) c.in_err-line.was (c.cut.ensures.only line rest lacks told))

pub returns-clause-told : goal.returns-clause-told
returns-clause-told c =
    c.in_ok-spaced.ensures
    ∙ ap (λ (bs : List ℕ). c.args.word.now ++ bs) (c.in_ok-told.ensures ∙ ap (λ (bs : List ℕ). 32 ∷ bs) c.in_ok-line.ensures.cut)

pub returns-clause-only : goal.returns-clause-only
returns-clause-only c line rest lacks e =
    let spaced = c.in_ok-spaced.spaced.now in
    let after = same_rest c.args.word.now spaced (32 ∷ (line ++ 10 ∷ rest)) c.args.bytes.now c.in_ok-spaced.ensures e in
    let told = same_rest (32 ∷ []) c.in_ok-told.told.now (line ++ 10 ∷ rest) spaced c.in_ok-told.ensures after in
    c.in_ok-line.ensures.only line rest lacks told
