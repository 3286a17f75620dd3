-- Rising operations, before and after one of them.
use Rattle.std.proofs.Common.{◌≡◌, ℕ, zero, suc, ◌<◌, ◌+◌, Bool, true, false, cond, List, [], ◌∷◌, ◌++◌, Some, None, length, get_or, take, drop, arith, add-one, refl, sym, ap, subst, ◌∙◌}
use Rattle.std.specs.Ordering.{is_eq}
use Rattle.std.specs.List.{list_all, AllByRecursion}
use Rattle.std.specs.Option.{option_or}
use Rattle.std.specs.Cmp.{tied_itself}
use Rattle.std.proofs.Math.Seq.{take-suc, drop-cons}
use Rattle.std.proofs.lemmas.List.{take-append-drop}
use Rattle.std.proofs.lemmas.Bool.{and_parts, and_from, cond-false}
use Rattle.usfm_ref.proofs.Orders.{segment_total}
use Rattle.op_core.specs.Ids.{Id, id_below, same_id}
use Rattle.op_core.specs.Ops.{Operation, in_segment}
use Rattle.op_core.specs.Sets.{rises, get}
use Rattle.op_core.specs.Loops.Index.{AreApart}
use Rattle.op_core.proofs.Sets.Union.{rises_parts, apart_above}
use Rattle.op_core.proofs.Sets.Clashes.{get_cases}
use Rattle.op_core.proofs.Indexed.Kept.{in_segment-is}

-- ---- a list at one of its items

-- a list, parted at one of its items
pub at_item : {X : Type 0} (xs : List X) (i : ℕ) (x : X) → i < length xs → x ≡ get_or xs i x → xs ≡ take i xs ++ x ∷ drop (i + 1) xs
at_item {X} xs i x l hx =
    sym (take-append-drop i xs) ∙ ap (λ (ys : List X). take i xs ++ ys) (drop-cons xs i x l ∙ (λ j. sym hx j ∷ drop (sym (add-one i) j) xs))

-- one more item of a front
pub more_items : {X : Type 0} (xs : List X) (i : ℕ) (x : X) → i < length xs → x ≡ get_or xs i x → take (i + 1) xs ≡ take i xs ++ x ∷ []
more_items {X} xs i x l hx = ap (λ (n : ℕ). take n xs) (add-one i) ∙ take-suc xs i x l ∙ ap (λ (y : X). take i xs ++ y ∷ []) (sym hx)

pub each_at : {X : Type 0} (P : X → Type 0) (xs : List X) (i : ℕ) (x : X) → i < length xs → x ≡ get_or xs i x → AllByRecursion P xs → P x
each_at P [] i x l hx h = absurd (omega arith)
each_at P (y ∷ xs) zero x l hx h = subst P (sym hx) h.0
each_at P (y ∷ xs) (suc i) x l hx h = each_at P xs i x (omega arith) hx h.1

pub all_more : {X : Type 0} (P : X → Type 0) (xs : List X) (i : ℕ) (x : X) → i < length xs → x ≡ get_or xs i x
    → AllByRecursion P (take i xs) → P x → AllByRecursion P (take (i + 1) xs)
all_more {X} P xs i x l hx h p = subst (AllByRecursion P) (sym (more_items xs i x l hx)) (push (take i xs) h)
  where
    push : (ys : List X) → AllByRecursion P ys → AllByRecursion P (ys ++ x ∷ [])
    push [] h = (p, tt)
    push (y ∷ ys) h = (h.0, push ys h.1)

-- ---- rising operations, before and after one of them

-- each has a smaller id
abbrev pub AllBelow : Id → List Operation → Type 0
AllBelow id ops = list_all (λ p. id_below p.id id) ops ≡ true

all_front : (p : Operation → Bool) (xs ys : List Operation) → list_all p (xs ++ ys) ≡ true → (list_all p xs ≡ true) × (list_all p ys ≡ true)
all_front p [] ys h = (refl, h)
all_front p (x ∷ xs) ys h =
    let q = and_parts (p x) (list_all p (xs ++ ys)) h in
    let r = all_front p xs ys q.1 in
    (and_from _ _ q.0 r.0, r.1)

pub record Split (xs : List Operation) (o : Operation) (ys : List Operation) : Type 0 where
  pub front : rises xs ≡ true
  pub below : AllBelow o.id xs
  pub back : rises (o ∷ ys) ≡ true

pub split_rises : (xs : List Operation) (o : Operation) (ys : List Operation) → rises (xs ++ o ∷ ys) ≡ true → Split xs o ys
split_rises [] o ys h = record { front = refl; below = refl; back = h }
split_rises (x ∷ xs) o ys h =
    let p = rises_parts x (xs ++ o ∷ ys) h in
    let a = all_front (λ p. id_below x.id p.id) xs (o ∷ ys) p.0 in
    let r = split_rises xs o ys p.1 in
    record {
      front = and_from _ _ a.0 r.front;
      below = and_from _ _ (and_parts (id_below x.id o.id) (list_all (λ p. id_below x.id p.id) ys) a.1).0 r.below;
      back = r.back;
    }

pub front_rises : (xs ys : List Operation) → rises (xs ++ ys) ≡ true → rises xs ≡ true
front_rises [] ys h = refl
front_rises (x ∷ xs) ys h =
    let p = rises_parts x (xs ++ ys) h in
    and_from _ _ (all_front (λ p. id_below x.id p.id) xs ys p.0).0 (front_rises xs ys p.1)

pub get_below : (id : Id) (ops : List Operation) → AllBelow id ops → get ops id ≡ None
get_below id [] h = refl
get_below id (o ∷ ops) h =
    let q = and_parts (id_below o.id id) (list_all (λ p. id_below p.id id) ops) h in
    cond-false _ _ _ (apart_above id o.id q.0) ∙ get_below id ops q.1

pub get-append : (xs ys : List Operation) (q : Id) → get (xs ++ ys) q ≡ option_or (get xs q) (get ys q)
get-append [] ys q = refl
get-append (x ∷ xs) ys q = ap (cond (same_id q x.id) (Some x)) (get-append xs ys q) ∙ by (same_id q x.id)
  where
    by : (b : Bool) → cond b (Some x) (option_or (get xs q) (get ys q)) ≡ option_or (cond b (Some x) (get xs q)) (get ys q)
    by true = refl
    by false = refl

-- what is new is not held
pub apart_at : (held new : List Operation) (q : Id) (z : Operation) → AreApart held new → get new q ≡ Some z → get held q ≡ None
apart_at held [] q z a g = cc g
apart_at held (o ∷ new) q z a g = get_cases q o new z g (λ e _. ap (get held) e ∙ a.0) (λ g. apart_at held new q z a.1 g)

-- an operation is of its own segment
pub here : (o : Operation) → in_segment o.segment o ≡ true
here o = in_segment-is o.segment o ∙ ap is_eq (tied_itself segment_total o.segment)
