use Rattle.std.proofs.Common.{◌∷◌, ◌++◌, ◌∙◌, [], ℕ, List, length, Some, ap, sym, arith, length-append, take-append-drop}
use Rattle.conflict_answers.proofs.Readers.{same_rest, split_so}
use Rattle.conflict_answers.proofs.cut.counted.Goals as goal

pub returns-in_err-front-clause-only : goal.returns-in_err-front-clause-only
returns-in_err-front-clause-only c front rest long e =
    let all = ap length e ∙ length-append front (10 ∷ rest) in absurd (omega (arith, all, long, c.in_err-front.ensures.cases))

pub returns-in_err-left-clause-only : goal.returns-in_err-left-clause-only
returns-in_err-left-clause-only c front rest long e =
    let split = c.in_ok-front.ensures.cases in
    let both = split_so c.args.len c.args.bytes.now c.in_ok-front.front.now c.in_ok-front.rest.now front (10 ∷ rest) split.1 split.2
    split.3 long e in
    absurd (c.in_err-left.ensures rest both.1)

pub returns-clause-counted : goal.returns-clause-counted
returns-clause-counted c =
    let split = c.in_ok-front.ensures.cases in
    sym ((λ i. split.1 i ++ split.2 i) ∙ take-append-drop c.args.len c.args.bytes.now)
    ∙ ap (λ (bs : List ℕ). c.in_ok-front.front.now ++ bs) c.in_ok-left.ensures

pub returns-clause-many : goal.returns-clause-many
returns-clause-many c = c.in_ok-front.ensures.cases.3

pub returns-clause-only : goal.returns-clause-only
returns-clause-only c front rest long e =
    let split = c.in_ok-front.ensures.cases in
    let both = split_so c.args.len c.args.bytes.now c.in_ok-front.front.now c.in_ok-front.rest.now front (10 ∷ rest) split.1 split.2
    split.3 long e in
    let after = same_rest (10 ∷ []) c.in_ok-left.left.now rest c.in_ok-front.rest.now c.in_ok-left.ensures both.1 in
    λ i. Some (both.0 i, after i)
