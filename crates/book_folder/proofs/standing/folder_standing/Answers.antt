use Rattle.std.proofs.Common.{◌≡◌, ℕ, zero, Ok, arith, ap, sym, ◌∙◌}
use Rattle.std.proofs.lemmas.Result.{err_from_is_err_and}
use Rattle.book_folder.specs.Plans.{plan_view}
use Rattle.book_folder.specs.Standing.{RemainingParts, remaining_view, stands, stands_without}
use Rattle.book_folder.specs.Wanted.{seen_view}
use Rattle.book_folder.proofs.Stands.{one_less, refused_at_last, refused_in_place, stands_planned}
use Rattle.book_folder.proofs.standing.folder_standing.Goals as goal

pub returns-in-Ok : goal.returns-in-Ok
returns-in-Ok c =
    sym c.refused.invariant
    ∙ stands_planned c.refused.more (remaining_view c.refused.remaining) (plan_view c.in-Ok.plan) c.in-Ok.ensures
    ∙ ap Ok (sym c.in_ok-standing_by-in-Ok.ensures)

pub refused-preserved : goal.refused-preserved
refused-preserved c =
    one_less c.refused.more (remaining_view c.refused.remaining) (remaining_view c.leave_out.new.remaining) c.in-Err.refusal
    c.in-Ok-leave_out.field-0 c.refused-test.true c.in-Err.ensures c.in-Ok-leave_out.ensures
    ∙ c.refused.invariant

pub returns-in-Err-leave_out : goal.returns-in-Err-leave_out
returns-in-Err-leave_out c =
    refused_in_place c.refused.more (stands (seen_view c.args.seen.now)) (remaining_view c.refused.remaining)
    (remaining_view c.leave_out.new.remaining) c.in-Err.refusal c.in-Err-leave_out.refusal c.refused-test.true
    c.refused.invariant c.in-Err.ensures c.in-Err-leave_out.ensures

pub returns-in_err-plan : goal.returns-in_err-plan
returns-in_err-plan c =
    let r : RemainingParts = remaining_view c.refused.remaining in
    let none : c.refused.more ≡ zero = omega (arith, c.refused-test.false) in
    let at_last = ap (λ (n : ℕ). stands_without n r) (sym none) ∙ c.refused.invariant in
    let from = err_from_is_err_and c.from_residual-in_err-plan.result c.from_residual-in_err-plan.ensures.1 in
    rw (from.1, from.2) (refused_at_last (stands (seen_view c.args.seen.now)) r c.in_err-plan.field-0.0 at_last c.in_err-plan.ensures)

pub returns : goal.returns
returns c =
    let r : RemainingParts = remaining_view c.refused.remaining in
    let none : c.refused.more ≡ zero = omega (arith, c.refused-test.false) in
    sym (ap (λ (n : ℕ). stands_without n r) (sym none) ∙ c.refused.invariant)
    ∙ stands_planned zero r (plan_view c.in_ok-plan.plan) c.in_ok-plan.ensures
    ∙ ap Ok (sym c.in_ok-standing_by.ensures)
