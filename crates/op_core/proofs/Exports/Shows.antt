-- A segment with an operation shows one.
use Rattle.std.proofs.Common.{◌≡◌, ◌≢◌, ℕ, ◌≤◌, Bool, true, false, not, cond, ◌&&◌, ◌||◌, List, [], ◌∷◌, filter, arith, refl, sym, ap, ◌∙◌, ltb}
use Rattle.std.specs.List.{list_all, list_any, AllByRecursion}
use Rattle.std.proofs.lemmas.Bool.{and_parts, ltb-true, false_from_ne_true, true≢false, false≢true, and_right, or_from}
use Rattle.usfm_ref.specs.declared.segment.Segment.{Segment}
use Rattle.op_core.specs.Ids.{Id, same_id, id_below, ids_rise}
use Rattle.op_core.specs.Ops.{Operation, IsOperation, in_segment, names}
use Rattle.op_core.specs.Sets.{rises, IsOpSet}
use Rattle.op_core.specs.Shown.{is_replaced, is_shown, shown}
use Rattle.op_core.specs.Equal.{id_from_same}
use Rattle.op_core.specs.NextIds.{greatest_number}
use Rattle.op_core.proofs.IdOrders.NextIds.{below_number}

-- no id of no smaller number is named
pub not_named : (n : ℕ) (id : Id) (named : List Id) → list_all (λ (r : Id). ltb r.number n) named ≡ true → n ≤ id.number
    → list_any (same_id id) named ≡ false
not_named n id [] h l = refl
not_named n id (r ∷ named) h l =
    let p = and_parts (ltb r.number n) (list_all (λ (r : Id). ltb r.number n) named) h in
    let apart : same_id id r
    ≡ false = false_from_ne_true _ (λ s. let e = ap (λ (i : Id). i.number) (id_from_same id r s) in omega (arith, ltb-true _ _ p.0)) in
    rw apart (not_named n id named p.1 l)

-- an operation names no id whose number is not smaller than its own
pub names_none : (o : Operation) (id : Id) → IsOperation o → o.id.number ≤ id.number → names o id ≡ false
names_none o id h l = not_named o.id.number id o.replaced
    (and_parts (ids_rise o.replaced) (list_all (λ (r : Id). ltb r.number o.id.number) o.replaced) h.falls).1 l

-- so no operation names an id whose number is not smaller than that of any
pub named_by_none : (g : Segment) (id : Id) (ops : List Operation) → AllByRecursion IsOperation ops → greatest_number ops ≤ id.number
    → is_replaced ops g id ≡ false
named_by_none g id [] all l = refl
named_by_none g id (o ∷ ops) all l =
    or_from _ _ (and_right (in_segment g o) (names o id) (names_none o id all.0 (omega (arith, l))))
    (named_by_none g id ops all.1 (omega (arith, l)))

module _ (g : Segment) where
  -- one operation before those above it hides none of them
  hides_none : (o : Operation) (held rest : List Operation) → IsOperation o → list_all (λ p. id_below o.id p.id) rest ≡ true
      → list_any (is_shown (o ∷ held) g) rest ≡ list_any (is_shown held g) rest
  hides_none o held [] h above = refl
  hides_none o held (x ∷ rest) h above =
      let p = and_parts (id_below o.id x.id) (list_all (λ p. id_below o.id p.id) rest) above in
      let unnamed : names o x.id ≡ false = names_none o x.id h (below_number o.id x.id p.0) in
      let one : is_shown (o ∷ held) g x
      ≡ is_shown held g x = ap (λ b. in_segment g x && not (b || is_replaced held g x.id)) (and_right (in_segment g o) _ unnamed) in
      λ i. one i || hides_none o held rest h p.1 i

  none_replaces : (id : Id) (held : List Operation) → list_any (in_segment g) held ≡ false → is_replaced held g id ≡ false
  none_replaces id [] h = refl
  none_replaces id (o ∷ held) h = by (none_replaces id held) (in_segment g o) refl h
    where
      by : (list_any (in_segment g) held ≡ false → is_replaced held g id ≡ false) → (b : Bool) → in_segment g o ≡ b
          → (b || list_any (in_segment g) held) ≡ false → is_replaced (o ∷ held) g id ≡ false
      by rest true e h = absurd (true≢false h)
      by rest false e h = rw e (rest h)

  any_shown : (held : List Operation) → rises held ≡ true → AllByRecursion IsOperation held → list_any (in_segment g) held ≡ true
      → list_any (is_shown held g) held ≡ true
  any_shown [] r e h = h
  any_shown (o ∷ held) r e h = by (any_shown held parts.1 e.1) (list_any (in_segment g) held) refl
    where
      parts : (list_all (λ p. id_below o.id p.id) held ≡ true) × (rises held ≡ true)
      parts = and_parts _ _ r

      or_second : (a b : Bool) → b ≡ true → (a || b) ≡ true
      or_second true b h = refl
      or_second false b h = h

      or_first : (a b : Bool) → b ≡ false → (a || b) ≡ true → a ≡ true
      or_first true b e h = refl
      or_first false b e h = absurd (false≢true (sym e ∙ h))

      by : (list_any (in_segment g) held ≡ true → list_any (is_shown held g) held ≡ true) → (b : Bool) → list_any (in_segment g) held ≡ b
          → list_any (is_shown (o ∷ held) g) (o ∷ held) ≡ true
      by rest true e2 = or_second _ _ (hides_none o held held e.0 parts.0 ∙ rest e2)
      by rest false e2 =
          let here : in_segment g o ≡ true = or_first _ _ e2 h in
          let itself : names o o.id ≡ false = names_none o o.id e.0 (omega arith) in
          rw (here, itself, none_replaces o.id held e2) refl

  not_empty : (p : Operation → Bool) (ops : List Operation) → list_any p ops ≡ true → filter p ops ≢ []
  not_empty p [] h e = false≢true h
  not_empty p (o ∷ ops) h e = by (not_empty p ops) (p o) h e
    where
      by : (list_any p ops ≡ true → filter p ops ≢ []) → (b : Bool) → (b || list_any p ops) ≡ true
          → cond b (o ∷ filter p ops) (filter p ops) ≡ [] → ⊥
      by rest true h e = cc e
      by rest false h e = rest h e

  -- a segment with an operation shows one
  pub shows_one : (held : List Operation) → IsOpSet held → list_any (in_segment g) held ≡ true → shown held g ≢ []
  shows_one held s h = not_empty (is_shown held g) held (any_shown held s.rising s.each h)
