-- Joining what is not held yet.
use Rattle.std.proofs.Common.{◌≡◌, ℕ, suc, ◌+◌, ◌<◌, Bor, get_or, take, Bool, true, false, ◌||◌, not, cond, List, [], ◌∷◌, Option, Some, None, length, filter, is_none, arith, refl, sym, ap, ◌∙◌}
use Rattle.std.specs.declared.cmp.Ordering.TheVariants.{Less, Equal, Greater}
use Rattle.std.specs.List.{find, list_any}
use Rattle.std.proofs.lemmas.Bool.{false≢true}
use Rattle.std.proofs.lemmas.List.Folds.{list_any-append}
use Rattle.std.specs.Option.{option_map, option_copied, is_some}
use Rattle.std.specs.FinMap.Entries.{by_order}
use Rattle.usfm_ref.proofs.Sorted.{rises_filter}
use Rattle.op_core.specs.Ids.{Id, id_cmp, same_id}
use Rattle.op_core.specs.Equal.{id_from_same}
use Rattle.op_core.specs.Ops.{Operation, is_full, with_text}
use Rattle.op_core.specs.Sets.{rises, get, meet, met, put, join, differs, is_like, clash, AreHeld}
use Rattle.op_core.specs.Loops.Index.{AreApart}
use Rattle.op_core.specs.Thinned.{all_full}
use Rattle.op_core.proofs.IdOrders.Rising.{id_total}
use Rattle.op_core.proofs.Sets.Union.{rises_parts, get_above, rises-join, get-join, same_gets}
use Rattle.op_core.proofs.Indexed.Kept.{tied_held, rest_none}
use Rattle.op_core.proofs.Indexed.Enrolled.{more_items}
use Rattle.op_core.proofs.Sets.Agreement.{kept_text}
use Rattle.op_core.proofs.Sets.Filters.{all-filter}
use Rattle.op_core.proofs.Sets.Gets.{all_at}

-- the operations whose ids are not held
abbrev pub fresh : List Operation → List Operation → List Operation
fresh held new = filter (λ o. is_none (get held o.id)) new

-- what is new of a set rises
pub fresh_rises : (held new : List Operation) → rises new ≡ true → rises (fresh held new) ≡ true
fresh_rises held new h = rises_filter id_cmp id_total (λ (o : Operation). o.id) (λ (o : Operation). is_none (get held o.id)) new h

-- what is new has no id of what is held
pub fresh_apart : (held new : List Operation) → AreApart held (fresh held new)
fresh_apart held [] = tt
fresh_apart held (o ∷ new) = by (get held o.id) refl (fresh_apart held new)
  where
    by : (r : Option Operation) → get held o.id ≡ r → AreApart held (fresh held new)
        → AreApart held (cond (is_none r) (o ∷ fresh held new) (fresh held new))
    by None e rest = (e, rest)
    by (Some x) e rest = rest

pub get_fresh : (held new : List Operation) (q : Id) → get held q ≡ None → get (fresh held new) q ≡ get new q
get_fresh held [] q n = refl
get_fresh held (o ∷ new) q n = by (get_fresh held new q n) (same_id q o.id) refl (get held o.id) refl
  where
    by : get (fresh held new) q ≡ get new q → (b : Bool) → same_id q o.id ≡ b → (r : Option Operation) → get held o.id ≡ r
        → get (cond (is_none r) (o ∷ fresh held new) (fresh held new)) q ≡ cond b (Some o) (get new q)
    by rest b e None f = λ i. cond (e i) (Some o) (rest i)
    by rest true e (Some x) f = cc (sym f ∙ ap (get held) (sym (id_from_same q o.id e)) ∙ n)
    by rest false e (Some x) f = rest

-- what is new adds to a set as much as a whole full set
pub join_fresh : (held new : List Operation) → rises held ≡ true → rises new ≡ true → all_full new ≡ true
    → join held (fresh held new) ≡ join held new
join_fresh held new hh hn f = same_gets _ _ (rises-join held (fresh held new) hh) (rises-join held new hh) (λ q.
    get-join held (fresh held new) q hh (fresh_rises held new hn) ∙ by q (get held q) refl (get (fresh held new) q) refl (get new q) refl
    ∙ sym (get-join held new q hh hn))
  where
    kept : (x : Operation) (ops : List Operation) (q : Id) (r : Option Operation) → all_full ops ≡ true → get ops q ≡ r
        → met (Some x) r ≡ Some x
    kept x ops q None full e = refl
    kept x ops q (Some y) full e = ap (λ t. Some (with_text x t)) (kept_text x.text y.text (all_at is_full ops q y full e))

    by : (q : Id) (x : Option Operation) → get held q ≡ x → (y : Option Operation) → get (fresh held new) q ≡ y → (z : Option Operation)
        → get new q ≡ z → met (get held q) (get (fresh held new) q) ≡ met (get held q) (get new q)
    by q None e y d z g = ap (met (get held q)) (get_fresh held new q e)
    by q (Some x) e y d z g =
        (λ i. met (e i) (d i)) ∙ kept x (fresh held new) q y (all-filter is_full (λ o. is_none (get held o.id)) new f) d
        ∙ sym (kept x new q z f g) ∙ (λ i. met (sym e i) (sym g i))

-- ---- whether one is new

-- what a look-up says of an operation
pub looked_up : (held : List Operation) (o : Operation) (id : Id) (r : Option (Bor Operation)) (b : Bool) → id ≡ o.id
    → option_copied r ≡ get held id → is_some r ≡ not b → is_none (get held o.id) ≡ b
looked_up held o id r b e f g = ap (λ (i : Id). is_none (get held i)) (sym e) ∙ ap is_none (sym f) ∙ by r b g
  where
    by : (r : Option (Bor Operation)) (b : Bool) → is_some r ≡ not b → is_none (option_copied r) ≡ b
    by None true g = refl
    by None false g = cc g
    by (Some x) true g = cc g
    by (Some x) false g = refl

-- none of the first ones passes, nor the next
pub none_more : (p : Operation → Bool) (ops : List Operation) (i : ℕ) (o : Operation) → i < length ops → o ≡ get_or ops i o → p o ≡ false
    → list_any p (take i ops) ≡ false → list_any p (take (i + 1) ops) ≡ false
none_more p ops i o l e q h =
    ap (list_any p) (more_items ops i o l e) ∙ list_any-append p (take i ops) (o ∷ []) ∙ (λ j. h j || (q j || false))

-- whether one of the operations has an id that is not held
abbrev pub some_new : List Operation → List Operation → Bool
some_new held ops = list_any (λ o. is_none (get held o.id)) ops

-- of operations that are all held none is new
pub none_new : (held ops : List Operation) → AreHeld held ops → list_any (λ o. is_none (get held o.id)) ops ≡ false
none_new held [] h = refl
none_new held (o ∷ ops) h = by (get held o.id) h.0 (none_new held ops h.1)
  where
    by : (r : Option Operation) → is_like r o ≡ true → list_any (λ p. is_none (get held p.id)) ops ≡ false
        → (is_none r || list_any (λ p. is_none (get held p.id)) ops) ≡ false
    by None e rest = absurd (false≢true e)
    by (Some p) e rest = rest

-- where none is new, none is left
pub nothing_fresh : (held ops : List Operation) → list_any (λ o. is_none (get held o.id)) ops ≡ false → fresh held ops ≡ []
nothing_fresh held [] h = refl
nothing_fresh held (o ∷ ops) h = by (is_none (get held o.id)) h (nothing_fresh held ops)
  where
    by : (b : Bool) → (b || list_any (λ p. is_none (get held p.id)) ops) ≡ false
        → (list_any (λ p. is_none (get held p.id)) ops ≡ false → fresh held ops ≡ []) → cond b (o ∷ fresh held ops) (fresh held ops) ≡ []
    by true e rest = cc e
    by false e rest = rest e

-- operations that are all held clash with nothing
pub held_without_clash : (held ops : List Operation) → AreHeld held ops → clash held ops ≡ None
held_without_clash held [] h = refl
held_without_clash held (o ∷ ops) h = ap (option_map (λ (q : Operation). q.id)) (find_none held (o ∷ ops) h)
  where
    alike : (r : Option Operation) (p : Operation) → is_like r p ≡ true → differs r p ≡ false
    alike None p e = refl
    alike (Some q) p e = ap not e

    find_none : (held xs : List Operation) → AreHeld held xs → find (λ (q : Operation). differs (get held q.id) q) xs ≡ None
    find_none held [] h = refl
    find_none held (x ∷ xs) h =
        ap (λ b. cond b (Some x) (find (λ (q : Operation). differs (get held q.id) q) xs)) (alike (get held x.id) x h.0)
        ∙ find_none held xs h.1

-- ---- how many they are

length_put : (o : Operation) (ops : List Operation) → get ops o.id ≡ None → length (put o ops) ≡ suc (length ops)
length_put o [] g = refl
length_put o (p ∷ ops) g =
    elim (id_cmp o.id p.id)
    as (λ r. id_cmp o.id p.id ≡ r → length (by_order r (o ∷ p ∷ ops) (meet p o ∷ ops) (p ∷ put o ops)) ≡ suc (suc (length ops))) [
      | Less ↦ λ e. refl
      | Equal ↦ λ e. absurd (tied_held o p ops e g)
      | Greater ↦ λ e. ap suc (length_put o ops (rest_none o p ops e g))
    ] refl

-- a union of what is apart has as many operations as both
pub length_join : (held new : List Operation) → rises held ≡ true → rises new ≡ true → AreApart held new
    → length (join held new) ≡ length held + length new
length_join held [] hh hn a = omega arith
length_join held (o ∷ new) hh hn a =
    let p = rises_parts o new hn in
    let none : get (join held new) o.id ≡ None = get-join held new o.id hh p.1 ∙ (λ i. met (a.0 i) (get_above o.id new p.0 i)) in
    let one = length_put o (join held new) none in
    let rest = length_join held new hh p.1 a.1 in
    omega (arith, one, rest)
