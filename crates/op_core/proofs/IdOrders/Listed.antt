-- Operations looked up by their ids.
use Rattle.std.proofs.Common.{◌≡◌, ℕ, suc, ◌+◌, ◌-◌, ◌<◌, Bool, true, false, cond, List, [], ◌∷◌, ◌++◌, Option, Some, None, length, get_or, take, filter, arith, refl, sym, ap, ◌∙◌, append-nil, append_assoc}
use Rattle.std.specs.List.{AllByRecursion, slice_get, flat_map}
use Rattle.std.specs.Option.{option_to_list}
use Rattle.op_core.specs.Ids.{Id}
use Rattle.op_core.specs.Ops.{Operation}
use Rattle.op_core.specs.Sets.{rises, get}
use Rattle.op_core.specs.Shown.{last}
use Rattle.op_core.specs.Lists.{ids_of}
use Rattle.op_core.proofs.Sets.Union.{held_itself}
use Rattle.op_core.proofs.Indexed.Enrolled.{more_items}

abbrev Held : List Operation → List Operation → Type 0
Held held ops = AllByRecursion (λ o. get held o.id ≡ Some o) ops

pub held_filter : (held : List Operation) (p : Operation → Bool) → rises held ≡ true → Held held (filter p held)
held_filter held p h = over held (held_itself held h)
  where
    over : (ops : List Operation) → Held held ops → Held held (filter p ops)
    over [] a = tt
    over (o ∷ ops) a =
        elim (p o) as (λ b. Held held (cond b (o ∷ filter p ops) (filter p ops))) [ true ↦ (a.0, over ops a.1) | false ↦ over ops a.1 ]

-- ---- the last of them

abbrev pub get_from : List Operation → Option Id → Option Operation
get_from held None = None
get_from held (Some id) = get held id

pub last_held : (held ops : List Operation) → Held held ops → get_from held (slice_get (ids_of ops) (length (ids_of ops) - 1)) ≡ last ops
last_held held [] h = refl
last_held held (o ∷ []) h = h.0
last_held held (o ∷ p ∷ ops) h =
    let e : length (ids_of (o ∷ p ∷ ops)) - 1 ≡ suc (length (ids_of (p ∷ ops)) - 1) = omega arith in
    ap (λ (n : ℕ). get_from held (slice_get (ids_of (o ∷ p ∷ ops)) n)) e ∙ last_held held (p ∷ ops) h.1

-- ---- all of them

abbrev pub gets : List Operation → List Id → List Operation
gets held ids = flat_map (λ id. option_to_list (get held id)) ids

pub gets_all : (held ops : List Operation) → Held held ops → gets held (ids_of ops) ≡ ops
gets_all held [] h = refl
gets_all held (o ∷ ops) h = (λ i. option_to_list (h.0 i) ++ gets_all held ops h.1 i)

gets-append : (held : List Operation) (xs ys : List Id) → gets held (xs ++ ys) ≡ gets held xs ++ gets held ys
gets-append held [] ys = refl
gets-append held (x ∷ xs) ys = ap (λ (zs : List Operation). option_to_list (get held x) ++ zs) (gets-append held xs ys)
    ∙ sym (append_assoc (option_to_list (get held x)) (gets held xs) (gets held ys))

pub gets_more : (held : List Operation) (ids : List Id) (i : ℕ) (id : Id) → i < length ids → id ≡ get_or ids i id
    → gets held (take (i + 1) ids) ≡ gets held (take i ids) ++ option_to_list (get held id)
gets_more held ids i id l e = ap (gets held) (more_items ids i id l e) ∙ gets-append held (take i ids) (id ∷ [])
    ∙ ap (λ (zs : List Operation). gets held (take i ids) ++ zs) (append-nil (option_to_list (get held id)))
