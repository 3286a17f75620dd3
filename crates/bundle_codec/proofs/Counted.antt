-- Ranges that lie apart have no more numbers than there are from 1 to 10^15.
use Rattle.std.proofs.Common.{◌≡◌, ℕ, suc, ◌+◌, ◌≤◌, true, ltb, List, [], ◌∷◌, arith}
use Rattle.std.specs.List.{list_all, sum_by}
use Rattle.std.proofs.lemmas.Bool.{and_parts, and_from, ltb-true, lt-ltb}
use Rattle.std.proofs.lemmas.List.Sums.{sum_by-cons}
use Rattle.bundle_codec.specs.declared.summaries.range.NumberRange.{NumberRange}
use Rattle.bundle_codec.specs.Summaries.{is_range, are_apart, range_size}
use Rattle.bundle_codec.proofs.SummaryReads.{range_bounds}

-- ranges that begin above a number
abbrev Over : ℕ → List NumberRange → Type 0
Over n rs = list_all (λ (r : NumberRange). ltb n r.first) rs ≡ true

over_less : (n m : ℕ) (rs : List NumberRange) → n ≤ m → Over m rs → Over n rs
over_less n m [] le h = cc
over_less n m (r ∷ rs) le h =
    let p = and_parts (ltb m r.first) (list_all (λ (s : NumberRange). ltb m s.first) rs) h in
    let above = ltb-true m r.first p.0 in
    and_from _ _ (lt-ltb n r.first (omega (arith, above, le))) (over_less n m rs le p.1)

-- ranges above a number, with it
size_over : (n : ℕ) (rs : List NumberRange) → list_all is_range rs ≡ true → are_apart rs ≡ true → Over n rs → n ≤ 1000000000000000
    → sum_by range_size rs + n ≤ 1000000000000000
size_over n [] each apart over le = omega (arith, le)
size_over n (r ∷ rs) each apart over le =
    let e = and_parts (is_range r) (list_all is_range rs) each in
    let a = and_parts (list_all (λ (s : NumberRange). ltb (suc r.last) s.first) rs) (are_apart rs) apart in
    let o = and_parts (ltb n r.first) (list_all (λ (s : NumberRange). ltb n s.first) rs) over in
    let b = range_bounds r e.0 in
    let above = ltb-true n r.first o.0 in
    let rest = size_over r.last rs e.1 a.1 (over_less r.last (suc r.last) rs (omega arith) a.0) b.1.1 in
    omega (arith, sum_by-cons range_size r rs, b.0, b.1.0, b.1.1, above, rest)

over_none : (rs : List NumberRange) → list_all is_range rs ≡ true → Over 0 rs
over_none [] h = cc
over_none (r ∷ rs) h =
    let p = and_parts (is_range r) (list_all is_range rs) h in
    let b = range_bounds r p.0 in
    and_from _ _ (lt-ltb 0 r.first (omega (arith, b.0))) (over_none rs p.1)

pub size_within : (rs : List NumberRange) → list_all is_range rs ≡ true → are_apart rs ≡ true → sum_by range_size rs ≤ 1000000000000000
size_within rs each apart = omega (arith, size_over 0 rs each apart (over_none rs each) (omega arith))
