use Rattle.std.proofs.Common.{◌≡◌, ◌∙◌, ◌+◌, ◌<◌, ◌≤◌, ℕ, Bool, true, false, cond, length, sym, ap, subst, arith}
use Rattle.std.proofs.lemmas.Bool.{cond-true, cond-false}
use Rattle.std.proofs.lemmas.Bool.Decides.{nat_tests}
use Rattle.std.proofs.lemmas.List.{length-map}
use Rattle.std.specs.Prelude.{nat_lt}
use Rattle.book_reading.specs.Views.{run_view, runs_view}
use Rattle.book_reading.proofs.Fronts.{prefix_len_of_views}
use Rattle.plain_reading.specs.Paragraphs.{is_no_number}
use Rattle.plain_reading.proofs.setting.through_number.Goals as goal

-- whether one number is less than another
less : (n m : ℕ) → n < m → nat_lt n m ≡ true
less n m h = grind (arith, nat_tests)

not_less : (n m : ℕ) → m ≤ n → nat_lt n m ≡ false
not_less n m h = grind (arith, nat_tests)

pub returns-then-before-runs-clause-value : goal.returns-then-before-runs-clause-value
returns-then-before-runs-clause-value c =
    let runs = c.args.runs.now in
    let n = c.before_number-before.result in
    let is = c.before_number-before.ensures.value ∙ prefix_len_of_views (λ r. is_no_number r.sort) runs in
    sym (cond-true _ (n + 1) 0 (less n (length (runs_view runs)) (omega (arith, c.if-before-runs.true, length-map runs run_view))))
    ∙ ap (λ m. cond (nat_lt m (length (runs_view runs))) (m + 1) 0) is

pub returns-else-before-runs-clause-value : goal.returns-else-before-runs-clause-value
returns-else-before-runs-clause-value c =
    let runs = c.args.runs.now in
    let n = c.before_number-before.result in
    let is = c.before_number-before.ensures.value ∙ prefix_len_of_views (λ r. is_no_number r.sort) runs in
    sym (cond-false _ (n + 1) 0 (not_less n (length (runs_view runs)) (omega (arith, c.if-before-runs.false, length-map runs run_view))))
    ∙ ap (λ m. cond (nat_lt m (length (runs_view runs))) (m + 1) 0) is
