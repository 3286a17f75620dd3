-- Sets of ids as rising lists.
use Rattle.std.proofs.Common.{◌≡◌, ℕ, ◌<◌, ◌≤◌, ◌+◌, Bool, true, false, not, cond, ◌&&◌, ◌||◌, List, [], ◌∷◌, ◌++◌, length, get_or, take, filter, Result, Ok, Err, IfOk, arith, refl, sym, ap, ◌∙◌}
use Rattle.std.specs.Ordering.{is_lt}
use Rattle.std.specs.List.{list_any, dedup}
use Rattle.std.specs.List.Sorted.{IsSorted, IsPermutation}
use Rattle.std.specs.Cmp.{IsStrictWeakOrder}
use Rattle.std.proofs.lemmas.List.Elements.{filter_more}
use Rattle.std.proofs.lemmas.List.Folds.{list_any_more}
use Rattle.std.proofs.lemmas.List.Sorted.{list_any-IsPermutation, ranks_by}
use Rattle.std.proofs.lemmas.List.Kept.{IsStrictlySortedBy-dedup}
use Rattle.usfm_ref.specs.Rising.{placed}
use Rattle.usfm_ref.proofs.Sorted.{rises_filter}
use Rattle.op_core.specs.Ids.{Id, id_cmp, same_id, ids_rise}
use Rattle.op_core.specs.NextIds.{is_among}
use Rattle.op_core.specs.Loops.Index.{without}
use Rattle.op_core.proofs.IdOrders.Rising.{id_total, same_id-cmp}
use Rattle.op_core.proofs.IdOrders.IdLists.{any_without, any_placed}
use Rattle.op_core.proofs.Indexed.Awaited.{any_dedup, strict_rises, any_filtered, any_append}

-- ---- sorted, each once

pub ids_rank : IsStrictWeakOrder (λ (x y : Id). is_lt (id_cmp x y))
ids_rank = ranks_by id_total (λ (i : Id). i)

-- sorted ids, each once, rise
pub sorted_rises : (sorted ys : List Id) → IsSorted id_cmp sorted → ys ≡ dedup same_id sorted → ids_rise ys ≡ true
sorted_rises sorted ys s e =
    ap ids_rise e ∙ strict_rises (dedup same_id sorted) (IsStrictlySortedBy-dedup id_total (λ x y. same_id-cmp x y) sorted s)

-- and are the ids that were there before
pub sorted_members : (xs sorted ys : List Id) → IsPermutation xs sorted → ys ≡ dedup same_id sorted → (q : Id)
    → is_among ys q ≡ is_among xs q
sorted_members xs sorted ys p e q = ap (list_any (same_id q)) e ∙ any_dedup q sorted ∙ sym (list_any-IsPermutation (same_id q) xs sorted p)

-- ---- what is left

pub filter_rises : (p : Id → Bool) (xs ys : List Id) → ys ≡ filter p xs → ids_rise xs ≡ true → ids_rise ys ≡ true
filter_rises p xs ys e h = ap ids_rise e ∙ rises_filter id_cmp id_total (λ (i : Id). i) p xs h

pub filter_members : (p : Id → Bool) (xs ys : List Id) → ys ≡ filter p xs → (q : Id) → is_among ys q ≡ (is_among xs q && p q)
filter_members p xs ys e q = ap (list_any (same_id q)) e ∙ any_filtered q p xs

or_false : (b : Bool) → (b || false) ≡ b
or_false true = refl
or_false false = refl

pub and_true : (b : Bool) → b ≡ (b && true)
and_true true = refl
and_true false = refl

pub no_longer : (q n : Id) (xs ys : List Id) → ys ≡ without n xs → is_among ys q ≡ (is_among xs q && not (is_among (n ∷ []) q))
no_longer q n xs ys e =
    ap (list_any (same_id q)) e ∙ any_without q n xs ∙ ap (λ b. list_any (same_id q) xs && not b) (sym (or_false (same_id q n)))

-- one more of those that pass, or that do not
pub filter_one : (p : Id → Bool) (xs : List Id) (i : ℕ) (x : Id) (b : Bool) → i < length xs → x ≡ get_or xs i x → p x ≡ b → (ys : List Id)
    → ys ≡ filter p (take i xs) → ys ++ cond b (x ∷ []) [] ≡ filter p (take (i + 1) xs)
filter_one p xs i x b l hx e ys h =
    sym (filter_more p xs i x l ∙ (λ j. sym h j ++ cond (p (sym hx j)) (sym hx j ∷ []) []) ∙ ap (λ t. ys ++ cond t (x ∷ []) []) e)

-- ---- one put in after the other

pub put_one : (q : Id) (a : Bool) (more xs ys : List Id) (i : ℕ) (n : Id) → i < length more → n ≡ get_or more i n
    → ys ≡ placed id_cmp (λ (k : Id). k) n xs → is_among xs q ≡ (a || is_among (take i more) q)
    → is_among ys q ≡ (a || is_among (take (i + 1) more) q)
put_one q a more xs ys i n l hn e h =
    ap (list_any (same_id q)) e ∙ any_placed q n xs ∙ ap (λ b. same_id q n || b) h
    ∙ turn (same_id q n) a (list_any (same_id q) (take i more))
    ∙ ap (λ b. a || b) (sym (list_any_more (same_id q) more i n l
    ∙ ap (λ (m : Id). list_any (same_id q) (take i more) || same_id q m) (sym hn)))
  where
    turn : (s a b : Bool) → (s || (a || b)) ≡ (a || (b || s))
    turn true true b = refl
    turn true false true = refl
    turn true false false = refl
    turn false true b = refl
    turn false false true = refl
    turn false false false = refl

pub none_before : (a : Bool) → a ≡ (a || false)
none_before true = refl
none_before false = refl

pub appended : (q : Id) (xs ys zs : List Id) → zs ≡ xs ++ ys → is_among zs q ≡ (is_among xs q || is_among ys q)
appended q xs ys zs e = ap (list_any (same_id q)) e ∙ any_append (same_id q) xs ys

-- ---- what holds of a result

pub if_ok : {T E : Type 0} {P Q : T → Type 0} (r : Result T E) → ((x : T) → P x → Q x) → IfOk r P → IfOk r Q
if_ok (Ok x) f h = f x h
if_ok (Err e) f h = tt

-- ---- what changes at a segment, by its sets

pub arrived_table : (a n m : Bool) → ((a && not n) && not (a && m)) ≡ ((a && not n) && not m)
arrived_table true true m = refl
arrived_table true false m = refl
arrived_table false n m = refl

pub lacking_table : (a n s m h : Bool) → ((((n && not a) && not (n && s)) && not m) && not h)
    ≡ ((((n && not a) && not s) && not m) && not h)
lacking_table true true s m h = refl
lacking_table false true s m h = refl
lacking_table a false s m h = refl

-- a list of one
pub only_one : (xs : List Id) (x : Id) → 1 ≤ length xs → length xs < 2 → x ≡ get_or xs 0 x → xs ≡ x ∷ []
only_one [] x l m e = absurd (omega arith)
only_one (y ∷ []) x l m e = ap (λ (i : Id). i ∷ []) (sym e)
only_one (y ∷ z ∷ xs) x l m e = absurd (omega arith)
