-- Names, each once, and how often each is among others.
use Rattle.std.proofs.Common.{◌≡◌, ℕ, zero, suc, ◌+◌, ◌-◌, ◌<◌, ◌≤◌, true, false, cond, List, [], ◌∷◌, ◌++◌, length, get_or, set, map, take, replicate, arith, refl, sym, ap, ◌∙◌}
use Rattle.std.specs.declared.cmp.Ordering.{Ordering}
use Rattle.std.specs.declared.cmp.Ordering.TheVariants.{Less, Equal, Greater}
use Rattle.std.specs.Cmp.{IsTotalOrder}
use Rattle.std.specs.Cmp.Lexicographic.{texts_ties, nat_list_cmp_total}
use Rattle.std.specs.FinMap.{slice_cmp-IsAntisymmetric, nat_cmp-IsAntisymmetric}
use Rattle.std.specs.Ordering.{is_eq, is_lt, ordering_index}
use Rattle.std.specs.List.{list_all, count_by}
use Rattle.std.specs.List.Sorted.{IsNonDecreasingBy, IsPartitionPoint}
use Rattle.std.proofs.lemmas.List.{map_more}
use Rattle.std.proofs.lemmas.List.Filters.{length-filter_more}
use Rattle.std.proofs.lemmas.List.Sums.{length-filter}
use Rattle.usfm_ref.specs.Books.{same_bytes}
use Rattle.usfm_ref.specs.Rising.{rises_by}
use Rattle.usfm_ref.proofs.Orders.{same_bytes-refl}
use Rattle.usfm_ref.proofs.Sorted.{is_less, parts, first_above, back}
use Rattle.op_core.specs.Names.{name_cmp}
use Rattle.project_status.specs.Numbers.{maker_of}

pub name_total : IsTotalOrder name_cmp
name_total = nat_list_cmp_total

pub name_exact : (a b : List ℕ) → name_cmp a b ≡ Equal → a ≡ b
name_exact a b h = slice_cmp-IsAntisymmetric nat_cmp-IsAntisymmetric a b h

pub name_ties : (a b : List ℕ) → same_bytes a b ≡ is_eq (name_cmp a b)
name_ties a b = texts_ties a b

-- each name is below all later ones
abbrev pub Rise : List (List ℕ) → Type 0
Rise names = rises_by name_cmp (λ (name : List ℕ). name) names ≡ true

abbrev Above : List ℕ → List (List ℕ) → Type 0
Above name names = list_all (λ m. is_lt (name_cmp name m)) names ≡ true

above_at : (name : List ℕ) (names : List (List ℕ)) (j : ℕ) (d : List ℕ) → Above name names → j < length names
    → name_cmp name (get_or names j d) ≡ Less
above_at name [] j d h l = absurd (omega (arith, l))
above_at name (m ∷ names) zero d h l = is_less _ (first_above name_cmp name_total (λ (x : List ℕ). x) name m names h).0
above_at name (m ∷ names) (suc j) d h l =
    above_at name names j d (first_above name_cmp name_total (λ (x : List ℕ). x) name m names h).1 (omega (arith, l))

less_at : (names : List (List ℕ)) (i j : ℕ) (d : List ℕ) → Rise names → i < j → j < length names
    → name_cmp (get_or names i d) (get_or names j d) ≡ Less
less_at [] i j d h l m = absurd (omega (arith, m))
less_at (name ∷ names) i zero d h l m = absurd (omega (arith, l))
less_at (name ∷ names) zero (suc j) d h l m =
    above_at name names j d (parts name_cmp name_total (λ (x : List ℕ). x) name names h).0 (omega (arith, m))
less_at (name ∷ names) (suc i) (suc j) d h l m =
    less_at names i j d (parts name_cmp name_total (λ (x : List ℕ). x) name names h).1 (omega (arith, l)) (omega (arith, m))

-- ---- how names that rise compare to one

turned : (a b x : List ℕ) → name_cmp a b ≡ Less → ordering_index (name_cmp a x) ≤ ordering_index (name_cmp b x)
turned a b x h = by (name_cmp a x) refl
  where
    greater : name_cmp x b ≡ Less → name_cmp b x ≡ Greater
    greater l = back name_cmp name_total (λ (y : List ℕ). y) x b Less l

    by : (r : Ordering) → name_cmp a x ≡ r → ordering_index r ≤ ordering_index (name_cmp b x)
    by Less e = omega arith
    by Equal e =
        let l : name_cmp x b ≡ Less = ap (λ (y : List ℕ). name_cmp y b) (sym (name_exact a x e)) ∙ h in rw (greater l) (omega arith)
    by Greater e =
        let l = name_total.trans x a b (back name_cmp name_total (λ (y : List ℕ). y) a x Greater e) h in
        rw (greater l) (omega arith)

pub compared : (names : List (List ℕ)) (x : List ℕ) → Rise names → IsNonDecreasingBy (λ y. ordering_index (name_cmp y x)) names
compared names x h i j d l m = by (j - i) refl
  where
    by : (k : ℕ) → j - i ≡ k
        → ordering_index (name_cmp (get_or names i d) x) ≤ ordering_index (name_cmp (get_or names j d) x)
    by zero e = let same : i ≡ j = omega (arith, e, l) in rw same (omega arith)
    by (suc k) e = turned (get_or names i d) (get_or names j d) x (less_at names i j d h (omega (arith, e)) m)

-- ---- counts

-- how often each of some names is among others, where it is counted once more for one name
abbrev pub one_more : (List ℕ → ℕ) → List ℕ → List ℕ → ℕ
one_more f x name = f name + cond (same_bytes name x) 1 0

none_later : (f : List ℕ → ℕ) (x : List ℕ) (names : List (List ℕ)) → Above x names → map (one_more f x) names ≡ map f names
none_later f x [] h = refl
none_later f x (name ∷ names) h =
    let p = first_above name_cmp name_total (λ (y : List ℕ). y) x name names h in
    let other : same_bytes name x ≡ false =
    name_ties name x ∙ ap is_eq (back name_cmp name_total (λ (y : List ℕ). y) x name Less (is_less _ p.0)) in
    let none : one_more f x name ≡ f name = rw other (omega arith) in
    λ i. none i ∷ none_later f x names p.1 i

-- where the name is there, and so often by then
pub counted_at : (f : List ℕ → ℕ) (x : List ℕ) (names : List (List ℕ)) (place : ℕ) (n : ℕ) → Rise names → place < length names
    → get_or names place x ≡ x → n ≡ get_or (map f names) place n → set (map f names) place (n + 1) ≡ map (one_more f x) names
counted_at f x [] place n h l e so = absurd (omega (arith, l))
counted_at f x (name ∷ names) zero n h l e so =
    let p = parts name_cmp name_total (λ (y : List ℕ). y) name names h in
    let here : one_more f x name ≡ n + 1 = rw (ap (same_bytes name) (sym e) ∙ same_bytes-refl name) (omega (arith, so)) in
    let later = none_later f x names (ap (λ (y : List ℕ). list_all (λ m. is_lt (name_cmp y m)) names) (sym e) ∙ p.0) in
    λ i. sym here i ∷ sym later i
counted_at f x (name ∷ names) (suc place) n h l e so =
    let p = parts name_cmp name_total (λ (y : List ℕ). y) name names h in
    let less = above_at name names place x p.0 (omega (arith, l)) in
    let other : same_bytes name x ≡ false = name_ties name x ∙ ap (λ (y : List ℕ). is_eq (name_cmp name y)) (sym e) ∙ ap is_eq less in
    let none : one_more f x name ≡ f name = rw other (omega arith) in
    λ i. sym none i ∷ counted_at f x names place n p.1 (omega (arith, l)) e so i

-- where it is not
pub counted_not : (f : List ℕ → ℕ) (x : List ℕ) (names : List (List ℕ))
    → ((k : ℕ) → k < length names → same_bytes (get_or names k x) x ≡ false) → map f names ≡ map (one_more f x) names
counted_not f x [] h = refl
counted_not f x (name ∷ names) h =
    let none : f name ≡ one_more f x name = rw (h 0 (omega arith)) (omega arith) in
    λ i. none i ∷ counted_not f x names (λ k l. h (suc k) (omega (arith, l))) i

-- before any is counted
pub none_yet : (names : List (List ℕ)) → replicate (length names) 0 ≡ map (λ name. count_by (same_bytes name) []) names
none_yet [] = refl
none_yet (name ∷ names) = λ i. 0 ∷ none_yet names i

-- with one more
pub counts_more : (xs : List (List ℕ)) (i : ℕ) (x : List ℕ) → i < length xs → x ≡ get_or xs i x → (names : List (List ℕ))
    → map (λ name. count_by (same_bytes name) (take (i + 1) xs)) names
    ≡ map (one_more (λ name. count_by (same_bytes name) (take i xs)) x) names
counts_more xs i x l is [] = refl
counts_more xs i x l is (name ∷ names) = λ j. one j ∷ counts_more xs i x l is names j
  where
    one : count_by (same_bytes name) (take (i + 1) xs) ≡ count_by (same_bytes name) (take i xs) + cond (same_bytes name x) 1 0
    one =
        sym (length-filter (same_bytes name) (take (i + 1) xs)) ∙ length-filter_more (same_bytes name) xs i x l
        ∙ (λ j. length-filter (same_bytes name) (take i xs) j + cond (same_bytes name (sym is j)) 1 0)

-- no count is above a bound of all
pub count_at : (f : List ℕ → ℕ) (n : ℕ) → ((name : List ℕ) → f name ≤ n) → (names : List (List ℕ)) (place : ℕ) (d : ℕ)
    → place < length names → get_or (map f names) place d ≤ n
count_at f n each [] place d l = absurd (omega (arith, l))
count_at f n each (name ∷ names) zero d l = each name
count_at f n each (name ∷ names) (suc place) d l = count_at f n each names place d (omega (arith, l))

-- what is not found is none of them
pub found_none : (names : List (List ℕ)) (x : List ℕ) (i : ℕ) → Rise names
    → (IsNonDecreasingBy (λ y. ordering_index (name_cmp y x)) names
    → IsPartitionPoint (λ y. name_cmp y x ≡ Less) (λ y. name_cmp y x ≡ Greater) names i)
    → (k : ℕ) → k < length names → same_bytes (get_or names k x) x ≡ false
found_none names x i h r k l = by (i - k) refl (r (compared names x h))
  where
    by : (d : ℕ) → i - k ≡ d → IsPartitionPoint (λ y. name_cmp y x ≡ Less) (λ y. name_cmp y x ≡ Greater) names i
        → same_bytes (get_or names k x) x ≡ false
    by zero e both = name_ties (get_or names k x) x ∙ ap is_eq (both.1 k x (omega (arith, e)) l)
    by (suc d) e both = name_ties (get_or names k x) x ∙ ap is_eq (both.0 k x (omega arith) (omega (arith, e)))

at_map : (f : List ℕ → ℕ) (names : List (List ℕ)) (place : ℕ) (d : List ℕ) (n : ℕ) → place < length names
    → get_or (map f names) place n ≡ f (get_or names place d)
at_map f [] place d n l = absurd (omega (arith, l))
at_map f (name ∷ names) zero d n l = refl
at_map f (name ∷ names) (suc place) d n l = at_map f names place d n (omega (arith, l))

-- one maker more
pub maker_more : (names once : List (List ℕ)) (place : ℕ) (name : List ℕ) (n : ℕ) → place < length once → name ≡ get_or once place name
    → n ≡ get_or (map (λ m. count_by (same_bytes m) names) once) place n
    → map (maker_of names) (take (place + 1) once) ≡ map (maker_of names) (take place once) ++ record { name = name; count = n } ∷ []
maker_more names once place name n l e so =
    map_more (maker_of names) once place name l
    ∙ (λ i. map (maker_of names) (take place once)
    ++ record { name = sym e i; count = sym (so ∙ at_map (λ m. count_by (same_bytes m) names) once place name n l) i } ∷ [])
