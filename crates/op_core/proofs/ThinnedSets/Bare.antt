-- What does not hang on texts: it is the same of sets with equal skeletons.
use Rattle.std.proofs.Common.{map, ◌≡◌, Bool, not, ◌&&◌, ◌||◌, max, List, [], ◌∷◌, ◌++◌, filter, cond, true, false, refl, sym, ap, ◌∙◌}
use Rattle.std.specs.List.{list_any, list_all, flat_map}
use Rattle.usfm_ref.specs.Rising.{rising}
use Rattle.op_core.specs.Ids.{Id, id_cmp, id_below, same_id}
use Rattle.op_core.specs.Ops.{Operation, bare, in_segment, names}
use Rattle.op_core.specs.Sets.{rises}
use Rattle.op_core.specs.Lists.{ids_of, is_held, awaited}
use Rattle.op_core.specs.NextIds.{greatest_number}
use Rattle.op_core.specs.Shown.{is_replaced, is_shown}
use Rattle.op_core.specs.Thinned.{skeleton, is_past}
use Rattle.usfm_ref.specs.declared.segment.Segment.{Segment}

-- ---- one set and its skeleton

pub any_bare : (P : Operation → Bool) (ops : List Operation) → list_any (λ o. P (bare o)) ops ≡ list_any P (skeleton ops)
any_bare P [] = refl
any_bare P (o ∷ ops) = ap (λ b. P (bare o) || b) (any_bare P ops)

pub all_bare : (P : Operation → Bool) (ops : List Operation) → list_all (λ o. P (bare o)) ops ≡ list_all P (skeleton ops)
all_bare P [] = refl
all_bare P (o ∷ ops) = ap (λ b. P (bare o) && b) (all_bare P ops)

pub ids_bare : (ops : List Operation) → ids_of ops ≡ ids_of (skeleton ops)
ids_bare [] = refl
ids_bare (o ∷ ops) = ap (λ xs. o.id ∷ xs) (ids_bare ops)

pub number_bare : (ops : List Operation) → greatest_number ops ≡ greatest_number (skeleton ops)
number_bare [] = refl
number_bare (o ∷ ops) = ap (max o.id.number) (number_bare ops)

-- a set rises where its skeleton does
pub rises_bare : (ops : List Operation) → rises ops ≡ rises (skeleton ops)
rises_bare [] = refl
rises_bare (o ∷ ops) = λ i. all_bare (λ p. id_below o.id p.id) ops i && rises_bare ops i

named_bare : (ops : List Operation) → flat_map (λ o. o.replaced) ops ≡ flat_map (λ o. o.replaced) (skeleton ops)
named_bare [] = refl
named_bare (o ∷ ops) = ap (λ ids. o.replaced ++ ids) (named_bare ops)

told_bare : {X : Type 0} (P : Operation → Bool) (f : Operation → X) (ops : List Operation)
    → map (λ o. f (bare o)) (filter (λ o. P (bare o)) ops) ≡ map f (filter P (skeleton ops))
told_bare P f [] = refl
told_bare P f (o ∷ ops) = by (P (bare o)) (told_bare P f ops)
  where
    by : (b : Bool) → map (λ o. f (bare o)) (filter (λ o. P (bare o)) ops) ≡ map f (filter P (skeleton ops))
        → map (λ o. f (bare o)) (cond b (o ∷ filter (λ o. P (bare o)) ops) (filter (λ o. P (bare o)) ops))
        ≡ map f (cond b (bare o ∷ filter P (skeleton ops)) (filter P (skeleton ops)))
    by true rest = ap (λ xs. f (bare o) ∷ xs) rest
    by false rest = rest

-- ---- two sets with equal skeletons

module _ (s u : List Operation) (e : skeleton s ≡ skeleton u) where
  -- of two sets with one skeleton, a test that no text decides holds in both or in neither
  pub any_same : (P : Operation → Bool) → list_any (λ o. P (bare o)) s ≡ list_any (λ o. P (bare o)) u
  any_same P = any_bare P s ∙ ap (list_any P) e ∙ sym (any_bare P u)

  -- sets with one skeleton have the same ids
  pub ids_same : ids_of s ≡ ids_of u
  ids_same = ids_bare s ∙ ap ids_of e ∙ sym (ids_bare u)

  pub number_same : greatest_number s ≡ greatest_number u
  number_same = number_bare s ∙ ap greatest_number e ∙ sym (number_bare u)

  pub rises_same : rises s ≡ rises u
  rises_same = rises_bare s ∙ ap rises e ∙ sym (rises_bare u)

  pub replaced_same : (seg : Segment) (id : Id) → is_replaced s seg id ≡ is_replaced u seg id
  replaced_same seg id = any_same (λ p. in_segment seg p && names p id)

  -- sets with one skeleton replace the same operations
  pub past_same : (o : Operation) → is_past s o ≡ is_past u o
  past_same o = replaced_same o.segment o.id

  pub is_shown_same : (seg : Segment) (o : Operation) → is_shown s seg o ≡ is_shown u seg o
  is_shown_same seg o = ap (λ b. in_segment seg o && not b) (replaced_same seg o.id)

  -- sets with one skeleton hold the same ids
  pub held_same : (id : Id) → is_held s id ≡ is_held u id
  held_same id = any_same (λ o. same_id id o.id)

  pub named_same : flat_map (λ o. o.replaced) s ≡ flat_map (λ o. o.replaced) u
  named_same = named_bare s ∙ ap (flat_map (λ (o : Operation). o.replaced)) e ∙ sym (named_bare u)

  pub awaited_same : awaited s ≡ awaited u
  awaited_same = λ i. rising id_cmp (filter (λ id. not (held_same id i)) (named_same i))

  -- what is said of the operations that pass a test, where neither reads the texts
  pub told_same : {X : Type 0} (P : Operation → Bool) (f : Operation → X)
      → map (λ o. f (bare o)) (filter (λ o. P (bare o)) s) ≡ map (λ o. f (bare o)) (filter (λ o. P (bare o)) u)
  told_same P f = told_bare P f s ∙ ap (λ ops. map f (filter P ops)) e ∙ sym (told_bare P f u)
