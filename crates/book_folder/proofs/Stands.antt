-- How a folder stands, by one plan after another.
use Rattle.std.proofs.Common.{◌≡◌, ◌<◌, ◌-◌, ℕ, zero, suc, List, Result, Ok, Err, arith, ap, sym, ◌∙◌}
use Rattle.book_folder.specs.Plans.{PlanParts, plan_view, planned}
use Rattle.book_folder.specs.Refusals.{◌>>=◌, AnswersAfter, AnswersBy}
use Rattle.book_folder.specs.Standing.{LeftOutParts, RemainingParts, StandingParts, remaining_after, standing_by, standing_or, standing_view, stands_without}
use Rattle.book_folder.specs.Wanted.{no_wishes}
use Rattle.book_folder.specs.declared.refusal.Refusal.{Refusal}
use Rattle.book_folder.specs.declared.refusal.Refusal.TheVariants.{Memory, Of}

-- a folder stands by the plan of what is left
pub stands_planned : (more : ℕ) (r : RemainingParts) (p : PlanParts) → planned r.seen no_wishes ≡ Ok p
    → stands_without more r ≡ Ok (standing_by r p)
unfolding stands_without
stands_planned zero r p e = ap (λ q. q >>= λ p. Ok (standing_by r p)) e
stands_planned (suc more) r p e = ap (standing_or (stands_without more) r) e

-- a folder stands as it does without what is refused
pub stands_refused : (more : ℕ) (r : RemainingParts) (refusal : Refusal) → planned r.seen no_wishes ≡ Err refusal
    → stands_without (suc more) r ≡ (remaining_after r refusal >>= stands_without more)
unfolding stands_without
stands_refused more r refusal e = ap (standing_or (stands_without more) r) e

-- a folder that is refused where nothing more may be left out
pub stands_not : (r : RemainingParts) (refusal : Refusal) → planned r.seen no_wishes ≡ Err refusal
    → stands_without zero r ≡ Err refusal
unfolding stands_without
stands_not r refusal e = ap (λ q. q >>= λ p. Ok (standing_by r p)) e

-- what is answered where nothing more may be left out, and a plan is refused
pub refused_at_last : (wanted : Result StandingParts Refusal) (r : RemainingParts) (refusal : Refusal)
    → stands_without zero r ≡ wanted → AnswersBy plan_view (planned r.seen no_wishes) (Err refusal)
    → AnswersBy standing_view wanted (Err refusal)
refused_at_last wanted r Memory is planned_so = tt
refused_at_last wanted r (Of place fault) is planned_so = sym is ∙ stands_not r (Of place fault) planned_so

-- what is answered where what is refused cannot be left out
pub refused_in_place : (more : ℕ) (wanted : Result StandingParts Refusal) (r after : RemainingParts) (refusal other : Refusal)
    → 0 < more → stands_without more r ≡ wanted → AnswersBy plan_view (planned r.seen no_wishes) (Err refusal)
    → AnswersAfter (remaining_after r refusal) after (Err other) → AnswersBy standing_view wanted (Err other)
refused_in_place zero wanted r after refusal other some is planned_so left = absurd (omega (arith, some))
refused_in_place (suc more) wanted r after refusal Memory some is planned_so left = tt
refused_in_place (suc more) wanted r after Memory (Of place fault) some is planned_so left = cc left
refused_in_place (suc more) wanted r after (Of p f) (Of place fault) some is planned_so left =
    sym is ∙ stands_refused more r (Of p f) planned_so ∙ ap (λ q. q >>= stands_without more) left

-- what is still to be found where what is refused is left out
pub one_less : (more : ℕ) (r after : RemainingParts) (refusal : Refusal) (done : Unit {0})
    → 0 < more → AnswersBy plan_view (planned r.seen no_wishes) (Err refusal)
    → AnswersAfter (remaining_after r refusal) after (Ok done) → stands_without (more - 1) after ≡ stands_without more r
one_less zero r after refusal done some planned_so left = absurd (omega (arith, some))
one_less (suc more) r after Memory done some planned_so left = cc left
one_less (suc more) r after (Of place fault) done some planned_so left =
    let less : suc more - 1 ≡ more = omega arith in
    ap (λ (n : ℕ). stands_without n after) less
    ∙ sym (stands_refused more r (Of place fault) planned_so ∙ ap (λ q. q >>= stands_without more) left)

-- what is answered once one thing more is put to what is left out
pub left_one : (wanted : Result RemainingParts Refusal) (after : RemainingParts) (items new : List LeftOutParts)
    (result : Result (Unit {0}) Refusal) → AnswersAfter (Ok items) new result → (new ≡ items → wanted ≡ Ok after)
    → AnswersAfter wanted after result
left_one wanted after items new (Ok done) answer is = is (cc answer)
left_one wanted after items new (Err Memory) answer is = tt
left_one wanted after items new (Err (Of place fault)) answer is = cc answer
