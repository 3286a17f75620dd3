-- A part of a set, joined to the set, alone or with operations of new ids.
use Rattle.std.proofs.Common.{◌≡◌, Bool, true, List, filter, Option, Some, None, refl, sym, ap, subst, ◌∙◌}
use Rattle.op_core.specs.Ids.{Id}
use Rattle.op_core.specs.Ops.{Operation}
use Rattle.op_core.specs.Sets.{clash, get, join, met, rises}
use Rattle.op_core.specs.Loops.Index.{AreApart}
use Rattle.op_core.proofs.Indexed.Enrolled.{apart_at}
use Rattle.op_core.proofs.Sets.Agreement.{Agree, agree_itself}
use Rattle.op_core.proofs.Sets.Filters.{filter_within, rises-filter}
use Rattle.op_core.proofs.Sets.NoClash.{no_clash}
use Rattle.op_core.proofs.Sets.Union.{get-join, join_assoc, join_itself, met_none, rises-join, same_gets}

-- a union with a part of a set is the set
pub join_part : (p : Operation → Bool) (xs : List Operation) → rises xs ≡ true → join xs (filter p xs) ≡ xs
join_part p xs h =
    let hp = rises-filter p xs h in
    same_gets (join xs (filter p xs)) xs (rises-join xs (filter p xs) h) h
    (λ q. get-join xs (filter p xs) q h hp ∙ by q (get (filter p xs) q) refl)
  where
    itself : (q : Id) → met (get xs q) (get xs q) ≡ get xs q
    itself q = sym (get-join xs xs q h h) ∙ ap (λ (ops : List Operation). get ops q) (join_itself xs h)

    by : (q : Id) (r : Option Operation) → get (filter p xs) q ≡ r → met (get xs q) r ≡ get xs q
    by q None e = met_none (get xs q)
    by q (Some o) e = ap (met (get xs q)) (sym (filter_within p xs h q o e)) ∙ itself q

-- and the two do not clash
pub no_clash_part : (p : Operation → Bool) (xs : List Operation) → rises xs ≡ true → clash xs (filter p xs) ≡ None
no_clash_part p xs h =
    no_clash xs (filter p xs) (rises-filter p xs h)
    (λ q x y gx gy. let same : x ≡ y = cc (sym gx ∙ filter_within p xs h q y gy) in subst (Agree x) same (agree_itself x))

-- a union with a part of a set and more is that with more
pub join_part_more : (p : Operation → Bool) (xs new : List Operation) → rises xs ≡ true → rises new ≡ true
    → join xs (join (filter p xs) new) ≡ join xs new
join_part_more p xs new h hn =
    sym (join_assoc xs (filter p xs) new h (rises-filter p xs h) hn) ∙ ap (λ (ops : List Operation). join ops new) (join_part p xs h)

-- and the two do not clash where more are of new ids
pub no_clash_part_more : (p : Operation → Bool) (xs new : List Operation) → rises xs ≡ true → rises new ≡ true → AreApart xs new
    → clash xs (join (filter p xs) new) ≡ None
no_clash_part_more p xs new h hn apart =
    let hp = rises-filter p xs h in
    no_clash xs (join (filter p xs) new) (rises-join (filter p xs) new hp)
    (λ q x y gx gy. by q x y gx (get new q) refl (sym (get-join (filter p xs) new q hp hn) ∙ gy))
  where
    by : (q : Id) (x y : Operation) → get xs q ≡ Some x → (r : Option Operation) → get new q ≡ r
        → met (get (filter p xs) q) (get new q) ≡ Some y → Agree x y
    by q x y gx (Some o) e m = let none : get xs q ≡ None = apart_at xs new q o apart e in cc (sym gx ∙ none)
    by q x y gx None e m =
        let own : get (filter p xs) q ≡ Some y = sym (met_none (get (filter p xs) q)) ∙ sym (ap (met (get (filter p xs) q)) e) ∙ m in
        let same : x ≡ y = cc (sym gx ∙ filter_within p xs h q y own) in
        subst (Agree x) same (agree_itself x)
