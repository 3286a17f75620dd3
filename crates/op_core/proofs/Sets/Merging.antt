-- New operations merged into a rising list from the back.
use Rattle.std.proofs.Common.{◌≡◌, ℕ, zero, suc, ◌≤◌, ◌-◌, Bool, true, false, List, [], ◌∷◌, ◌++◌, Option, Some, None, length, take, drop, reverse, arith, append_assoc, take_all, refl, sym, ap, subst, ◌∙◌}
use Rattle.std.specs.declared.cmp.Ordering.{Ordering}
use Rattle.std.specs.declared.cmp.Ordering.TheVariants.{Less, Equal, Greater}
use Rattle.std.specs.Ordering.{is_eq, is_lt, ordering_reverse}
use Rattle.std.specs.List.{list_all, AllByRecursion}
use Rattle.std.specs.Option.{option_or}
use Rattle.std.specs.FinMap.Entries.{by_order}
use Rattle.std.proofs.lemmas.Bool.{and_parts, and_from, cond-true, cond-false}
use Rattle.std.proofs.Math.Seq.{take-append_seam, drop-append_seam}
use Rattle.std.proofs.lemmas.List.{append-nil, drop_all, take-append-drop, reverse-append, reverse-reverse}
use Rattle.usfm_ref.proofs.Sorted.{is_less}
use Rattle.usfm_ref.proofs.Sorted as sorted
use Rattle.op_core.specs.Ids.{Id, id_cmp, id_below, same_id}
use Rattle.op_core.specs.Ops.{Operation}
use Rattle.op_core.specs.Sets.{rises, get, meet, put, join}
use Rattle.op_core.specs.Loops.Index.{AreApart, IsBefore}
use Rattle.op_core.proofs.IdOrders.Rising.{id_total, same_id-cmp, below_trans}
use Rattle.op_core.proofs.Sets.Union.{AllAbove, rises_parts, above_trans, join_push}
use Rattle.op_core.proofs.Indexed.Enrolled.{AllBelow, split_rises, front_rises, get-append}
use Rattle.op_core.proofs.Sets.Fronts.{put_first}

abbrev pub place : Id → List Operation → ℕ
place = sorted.place id_cmp id_total (λ (o : Operation). o.id)

-- ---- a new operation in its place

-- a new operation is after this many, and what follows is above it
record At (n : ℕ) (o : Operation) (ops : List Operation) : Type 0 where
  stands : put o ops ≡ take n ops ++ o ∷ drop n ops
  above : AllAbove o.id (drop n ops)

at_place : (o : Operation) (ops : List Operation) (n : ℕ) → n ≡ place o.id ops → rises ops ≡ true → get ops o.id ≡ None → At n o ops
at_place o [] n e h g = subst (λ (k : ℕ). At k o []) (sym e) (record { stands = refl; above = refl })
at_place o (p ∷ ops) n e h g = by (λ f. at_place o ops (place o.id ops) refl (rises_parts p ops h).1 f) (id_cmp o.id p.id) refl
  where
    rest : is_eq (id_cmp o.id p.id) ≡ false → get ops o.id ≡ None
    rest f = sym (cond-false (same_id o.id p.id) (Some p) (get ops o.id) (same_id-cmp o.id p.id ∙ f)) ∙ g

    back : (r : Ordering) → id_cmp o.id p.id ≡ r → id_below p.id o.id ≡ is_lt (ordering_reverse r)
    back r c = ap is_lt (id_total.antisymm p.id o.id ∙ ap ordering_reverse c)

    by : (get ops o.id ≡ None → At (place o.id ops) o ops) → (r : Ordering) → id_cmp o.id p.id ≡ r → At n o (p ∷ ops)
    by later Less c =
        let above : AllAbove o.id (p ∷ ops) = and_from _ _ (ap is_lt c) (above_trans o.id p.id ops (ap is_lt c) (rises_parts p ops h).0) in
        subst (λ (k : ℕ). At k o (p ∷ ops))
        (sym (e ∙ sorted.place_here id_cmp id_total (λ (o : Operation). o.id) o.id p ops (back Less c)))
        (record { stands = put_first o (p ∷ ops) above; above = above })
    by later Equal c = cc (sym (cond-true (same_id o.id p.id) (Some p) (get ops o.id) (same_id-cmp o.id p.id ∙ ap is_eq c)) ∙ g)
    by later Greater c =
        let r = later (rest (ap is_eq c)) in
        subst (λ (k : ℕ). At k o (p ∷ ops))
        (sym (e ∙ sorted.place_later id_cmp id_total (λ (o : Operation). o.id) o.id p ops (back Greater c)))
        (record { stands = rw c (ap (λ zs. p ∷ zs) r.stands); above = r.above })

-- ---- what is joined in front of a list that is above all of it

put_under : (y : Operation) (xs zs : List Operation) → AllAbove y.id zs → put y (xs ++ zs) ≡ put y xs ++ zs
put_under y [] zs h = put_first y zs h
put_under y (x ∷ xs) zs h =
    elim (id_cmp y.id x.id) as
    (λ r. by_order r (y ∷ x ∷ (xs ++ zs)) (meet x y ∷ (xs ++ zs)) (x ∷ put y (xs ++ zs))
    ≡ by_order r (y ∷ x ∷ xs) (meet x y ∷ xs) (x ∷ put y xs) ++ zs) [
      | Less ↦ refl
      | Equal ↦ refl
      | Greater ↦ ap (λ ws. x ∷ ws) (put_under y xs zs h)
    ]

join_under : (xs zs ys : List Operation) → AllByRecursion (λ y. AllAbove y.id zs) ys → join (xs ++ zs) ys ≡ join xs ys ++ zs
join_under xs zs [] h = refl
join_under xs zs (y ∷ ys) h = ap (put y) (join_under xs zs ys h.1) ∙ put_under y (join xs ys) zs h.0

all_under : (o : Operation) (zs ys : List Operation) → AllBelow o.id ys → AllAbove o.id zs → AllByRecursion (λ y. AllAbove y.id (o ∷ zs)) ys
all_under o zs [] h a = tt
all_under o zs (y ∷ ys) h a =
    let p = and_parts (id_below y.id o.id) (list_all (λ p. id_below p.id o.id) ys) h in
    (and_from _ _ p.0 (above_trans y.id o.id zs p.0 a), all_under o zs ys p.1 a)

-- the last of the new operations goes before what stands at its place
pub join_last : (ops ys : List Operation) (o : Operation) (n : ℕ) → n ≡ place o.id ops → rises ops ≡ true → rises (ys ++ o ∷ []) ≡ true
    → get ops o.id ≡ None → join ops (ys ++ o ∷ []) ≡ join (take n ops) ys ++ o ∷ drop n ops
join_last ops ys o n e h hy g =
    let at = at_place o ops n e h g in
    let below = (split_rises ys o [] hy).below in
    join_push ops ys o ∙ ap (λ (xs : List Operation). join xs ys) at.stands
    ∙ join_under (take n ops) (o ∷ drop n ops) ys (all_under o (drop n ops) ys below at.above)

-- ---- what is left of the lists

-- new operations after all of a list go to its end
pub join_after : (held new : List Operation) (n : ℕ) → length held ≤ n → rises held ≡ true → rises new ≡ true → AreApart held new
    → IsBefore n held new → join held new ≡ held ++ new
join_after held [] n l hh hn a b = sym (append-nil held)
join_after held (o ∷ new) n l hh hn a b =
    let p = rises_parts o new hn in
    let m = b.0 in
    let after : length held ≤ place o.id held = omega (arith, m, l) in
    let at = at_place o held (place o.id held) refl hh a.0 in
    ap (put o) (join_after held new n l hh p.1 a.1 b.1)
    ∙ put_under o held new p.0
    ∙ ap (λ (xs : List Operation). xs ++ new)
    (at.stands ∙ (λ i. take_all (place o.id held) held after i ++ o ∷ drop_all (place o.id held) held after i))
    ∙ append_assoc held (o ∷ []) new

pub rises_take : (ops : List Operation) (n : ℕ) → rises ops ≡ true → rises (take n ops) ≡ true
rises_take ops n h =
    front_rises (take n ops) (drop n ops) (subst (λ (xs : List Operation). rises xs ≡ true) (sym (take-append-drop n ops)) h)

get_take : (ops : List Operation) (n : ℕ) (q : Id) → get ops q ≡ None → get (take n ops) q ≡ None
get_take ops n q g = none (get (take n ops) q) (get (drop n ops) q)
    (sym (get-append (take n ops) (drop n ops) q) ∙ ap (λ (xs : List Operation). get xs q) (take-append-drop n ops) ∙ g)
  where
    none : (a b : Option Operation) → option_or a b ≡ None → a ≡ None
    none None b h = refl
    none (Some x) b h = cc h

all_first : {X : Type 0} (P : X → Type 0) (xs ys : List X) → AllByRecursion P (xs ++ ys) → AllByRecursion P xs
all_first P [] ys h = tt
all_first P (x ∷ xs) ys h = (h.0, all_first P xs ys h.1)

pub all_last : {X : Type 0} (P : X → Type 0) (xs : List X) (y : X) → AllByRecursion P (xs ++ y ∷ []) → P y
all_last P [] y h = h.0
all_last P (x ∷ xs) y h = all_last P xs y h.1

pub apart_left : (ops ys : List Operation) (o : Operation) (n : ℕ) → AreApart ops (ys ++ o ∷ []) → AreApart (take n ops) ys
apart_left ops ys o n a = each ys (all_first (λ o. get ops o.id ≡ None) ys (o ∷ []) a)
  where
    each : (zs : List Operation) → AreApart ops zs → AreApart (take n ops) zs
    each [] h = tt
    each (z ∷ zs) h = (get_take ops n z.id h.0, each zs h.1)

place_take : (q : Id) (ops : List Operation) (n m : ℕ) → m ≤ n → n ≤ length ops → m ≤ place q ops → m ≤ place q (take n ops)
place_take q [] n m a b c = omega (arith, a, b)
place_take q (x ∷ ops) zero m a b c = omega (arith, a)
place_take q (x ∷ ops) (suc n) m a b c = by (place_take q ops n (m - 1) (omega (arith, a)) (omega (arith, b))) (id_below x.id q) refl
  where
    by : (m - 1 ≤ place q ops → m - 1 ≤ place q (take n ops)) → (t : Bool) → id_below x.id q ≡ t → m ≤ place q (take (suc n) (x ∷ ops))
    by later false t = let z = sorted.place_here id_cmp id_total (λ (o : Operation). o.id) q x ops t in omega (arith, c, z)
    by later true t =
        let z = sorted.place_later id_cmp id_total (λ (o : Operation). o.id) q x ops t in
        let w = sorted.place_later id_cmp id_total (λ (o : Operation). o.id) q x (take n ops) t in
        let r = later (omega (arith, c, z)) in
        omega (arith, r, w)

pub before_left : (from n : ℕ) (ops ys : List Operation) (o : Operation) → from ≤ n → n ≤ length ops → IsBefore from ops (ys ++ o ∷ [])
    → IsBefore from (take n ops) ys
before_left from' n ops ys o l b a = each ys (all_first (λ o. from' ≤ place o.id ops) ys (o ∷ []) a)
  where
    each : (zs : List Operation) → IsBefore from' ops zs → IsBefore from' (take n ops) zs
    each [] h = tt
    each (z ∷ zs) h = (place_take z.id ops n from' l b h.0, each zs h.1)

-- what is before the first of rising operations is before each
place_more : (p q : Id) (ops : List Operation) → id_below p q ≡ true → place p ops ≤ place q ops
place_more p q [] l = omega arith
place_more p q (x ∷ ops) l = by (place_more p q ops l) (id_below x.id p) refl
  where
    by : place p ops ≤ place q ops → (t : Bool) → id_below x.id p ≡ t → place p (x ∷ ops) ≤ place q (x ∷ ops)
    by r false t = let z = sorted.place_here id_cmp id_total (λ (o : Operation). o.id) p x ops t in omega (arith, z)
    by r true t =
        let z = sorted.place_later id_cmp id_total (λ (o : Operation). o.id) p x ops t in
        let w = sorted.place_later id_cmp id_total (λ (o : Operation). o.id) q x ops (below_trans x.id p q t l) in
        omega (arith, z, w, r)

pub before_first : (held : List Operation) (o : Operation) (new : List Operation) (n : ℕ) → n ≡ place o.id held → rises (o ∷ new) ≡ true
    → IsBefore n held (o ∷ new)
before_first held o new n e h = (omega (arith, e), each new (rises_parts o new h).0)
  where
    each : (zs : List Operation) → AllAbove o.id zs → IsBefore n held zs
    each [] a = tt
    each (z ∷ zs) a =
        let p = and_parts (id_below o.id z.id) (list_all (λ q. id_below o.id q.id) zs) a in
        let r = place_more o.id z.id held p.0 in
        (omega (arith, e, r), each zs p.1)

-- ---- moved from one list's end to another's

pub record Moved {X : Type 0} (all left start to : List X) : Type 0 where
  pub gone : List X
  pub whole : all ≡ left ++ gone
  pub after : to ≡ start ++ reverse gone

pub moved_none : {X : Type 0} (all start : List X) → Moved all all start start
moved_none all start = record { gone = []; whole = sym (append-nil all); after = sym (append-nil start) }

pub moved_more : {X : Type 0} (all left left' start to to' : List X) (o : X) → left ≡ left' ++ o ∷ [] → to' ≡ to ++ o ∷ []
    → Moved all left start to → Moved all left' start to'
moved_more {X} all left left' start to to' o e f m = record {
  gone = o ∷ m.gone;
  whole = m.whole ∙ ap (λ (xs : List X). xs ++ m.gone) e ∙ append_assoc left' (o ∷ []) m.gone;
  after = f ∙ ap (λ (xs : List X). xs ++ o ∷ []) m.after ∙ append_assoc start (reverse m.gone) (o ∷ [])
      ∙ ap (λ (xs : List X). start ++ xs) (sym (reverse-append (o ∷ []) m.gone));
}

pub moved_left : {X : Type 0} (all left start to : List X) (n : ℕ) → n ≡ length left → Moved all left start to → left ≡ take n all
moved_left all left start to n e m = sym (ap (take n) m.whole ∙ ap (λ (k : ℕ). take k (left ++ m.gone)) e ∙ take-append_seam left m.gone)

pub moved_after : {X : Type 0} (all left start to : List X) (n : ℕ) → n ≡ length left → Moved all left start to
    → to ≡ start ++ reverse (drop n all)
moved_after {X} all left start to n e m = m.after
    ∙ ap (λ (xs : List X). start ++ reverse xs)
    (sym (ap (drop n) m.whole ∙ ap (λ (k : ℕ). drop k (left ++ m.gone)) e ∙ drop-append_seam left m.gone))

-- one new operation more is where it belongs
pub union_more : (ops ops' ys new t t' all : List Operation) (o : Operation) (n : ℕ)
    → join ops (ys ++ o ∷ []) ≡ join (take n ops) ys ++ o ∷ drop n ops → ops' ≡ take n ops → t' ≡ (t ++ reverse (drop n ops)) ++ o ∷ []
    → new ≡ ys ++ o ∷ [] → join ops new ++ reverse t ≡ all → join ops' ys ++ reverse t' ≡ all
union_more ops ops' ys new t t' all o n e a b d h =
    (λ i. join (a i) ys ++ reverse (b i))
    ∙ ap (λ (xs : List Operation). join (take n ops) ys ++ xs)
    (reverse-append (t ++ reverse (drop n ops)) (o ∷ [])
    ∙ ap (λ (xs : List Operation). o ∷ xs)
    (reverse-append t (reverse (drop n ops)) ∙ ap (λ (xs : List Operation). xs ++ reverse t) (reverse-reverse (drop n ops))))
    ∙ sym (append_assoc (join (take n ops) ys) (o ∷ drop n ops) (reverse t))
    ∙ ap (λ (xs : List Operation). xs ++ reverse t) (sym e ∙ ap (join ops) (sym d))
    ∙ h
