-- Lists of keys, sorted, each once; and pieces by their keys.
use Rattle.std.proofs.Common.{◌≡◌, ℕ, Bool, true, false, cond, ◌&&◌, ◌||◌, List, [], ◌∷◌, Some, map, refl, sym, ap, subst, ◌∙◌}
use Rattle.std.specs.declared.cmp.Ordering.{Ordering}
use Rattle.std.specs.declared.cmp.Ordering.TheVariants.{Less}
use Rattle.std.specs.Cmp.{Equal-is, both_ways, tied_itself}
use Rattle.std.specs.List.{find, list_any, list_all, dedup, dedup_from, AllByRecursion}
use Rattle.std.specs.List.Retain.{IsFiltered, DiffersFromLast}
use Rattle.std.specs.List.Sorted.{IsSorted, IsStrictlySortedBy, IsPermutation}
use Rattle.std.specs.Option.{option_map}
use Rattle.std.specs.Ordering.{is_eq, is_lt, eq_by_cmp}
use Rattle.std.proofs.lemmas.Bool.{and_from}
use Rattle.std.proofs.lemmas.List.Filters.{dedup_is}
use Rattle.std.proofs.lemmas.List.Kept.{IsStrictlySortedBy-dedup}
use Rattle.std.proofs.lemmas.List.Sorted.{list_any-IsPermutation}
use Rattle.usfm_ref.specs.Keys.{KeyParts, key_cmp, same_key, is_verse_of}
use Rattle.usfm_ref.specs.Rising.{rises_by, rising}
use Rattle.usfm_ref.proofs.Members.{same_tested, tested_rising}
use Rattle.usfm_ref.proofs.Orders.{key_total, key_exact, same_key-is, same_key-refl}
use Rattle.usfm_ref.proofs.Sorted.{rises-rising}
use Rattle.verse_cut.specs.Views.{piece_view, pieces_view}
use Rattle.verse_cut.specs.declared.cutter.Piece.{Piece}
use Rattle.replica_state.specs.Imports.{piece_of, has_verse}

abbrev tested : KeyParts → List KeyParts → Bool
tested q ks = list_any (λ k. is_eq (key_cmp q k)) ks

any_dedup_from : (q k : KeyParts) (ks : List KeyParts) → tested q (dedup_from same_key k ks) ≡ (is_eq (key_cmp q k) || tested q ks)
any_dedup_from q k [] = refl
any_dedup_from q k (x ∷ ks) = by (any_dedup_from q k ks) (any_dedup_from q x ks) (same_key x k) refl
  where
    twice : (a b : Bool) → (a || b) ≡ (a || (a || b))
    twice true b = refl
    twice false b = refl

    by : tested q (dedup_from same_key k ks) ≡ (is_eq (key_cmp q k) || tested q ks)
        → tested q (dedup_from same_key x ks) ≡ (is_eq (key_cmp q x) || tested q ks) → (b : Bool) → same_key x k ≡ b
        → tested q (cond b (dedup_from same_key k ks) (k ∷ dedup_from same_key x ks))
        ≡ (is_eq (key_cmp q k) || (is_eq (key_cmp q x) || tested q ks))
    by one other true e = one ∙ twice (is_eq (key_cmp q k)) (tested q ks)
        ∙ ap (λ (i : KeyParts). is_eq (key_cmp q k) || (is_eq (key_cmp q i) || tested q ks)) (sym (same_key-is x k e))
    by one other false e = ap (λ b. is_eq (key_cmp q k) || b) other

any_dedup : (q : KeyParts) (ks : List KeyParts) → tested q (dedup same_key ks) ≡ tested q ks
any_dedup q [] = refl
any_dedup q (k ∷ ks) = any_dedup_from q k ks

strict_rises : (ks : List KeyParts) → IsStrictlySortedBy key_cmp ks → rises_by key_cmp (λ k. k) ks ≡ true
unfolding IsStrictlySortedBy
strict_rises [] h = refl
strict_rises (k ∷ ks) h = and_from _ _ (over ks h.0) (strict_rises ks h.1)
  where
    over : (ys : List KeyParts) → AllByRecursion (λ y. key_cmp k y ≡ Less) ys → list_all (λ y. is_lt (key_cmp k y)) ys ≡ true
    over [] a = refl
    over (y ∷ ys) a = and_from _ _ (ap is_lt a.0) (over ys a.1)

pub same_key-cmp : (a b : KeyParts) → same_key a b ≡ eq_by_cmp key_cmp a b
same_key-cmp a b = both_ways (same_key a b) (eq_by_cmp key_cmp a b)
    (λ h. subst (λ c. is_eq (key_cmp a c) ≡ true) (same_key-is a b h) (ap is_eq (tied_itself key_total a)))
    (λ h. subst (λ c. same_key a c ≡ true) (key_exact a b ((Equal-is _).0 h)) (same_key-refl a))

sorted_is : (keys sorted : List KeyParts) → IsPermutation keys sorted → IsSorted key_cmp sorted
    → dedup same_key sorted ≡ rising key_cmp keys
sorted_is keys sorted p s =
    same_tested key_cmp key_total key_exact (dedup same_key sorted) (rising key_cmp keys)
    (strict_rises (dedup same_key sorted) (IsStrictlySortedBy-dedup key_total same_key-cmp sorted s))
    (rises-rising key_cmp key_total keys)
    (λ q. any_dedup q sorted ∙ sym (list_any-IsPermutation (λ k. is_eq (key_cmp q k)) keys sorted p)
    ∙ sym (tested_rising key_cmp key_total key_exact q keys))

-- keys sorted, each once, are the rising ones
pub sorted_once : (cmp : KeyParts → KeyParts → Ordering) (eq : KeyParts → KeyParts → Bool) → ((a b : KeyParts) → cmp a b ≡ key_cmp a b)
    → ((a b : KeyParts) → eq a b ≡ same_key a b) → (keys sorted once : List KeyParts) → IsPermutation keys sorted → IsSorted cmp sorted
    → IsFiltered (DiffersFromLast eq) [] sorted once → once ≡ rising key_cmp keys
sorted_once cmp eq c e keys sorted once p s f =
    dedup_is eq sorted once f ∙ ap (λ (t : KeyParts → KeyParts → Bool). dedup t sorted) (λ i a b. e a b i)
    ∙ sorted_is keys sorted p (subst (λ (t : KeyParts → KeyParts → Ordering). IsSorted t sorted) (λ i a b. c a b i) s)

-- ---- pieces as parts

pub piece_found : (key : KeyParts) (pieces : List Piece)
    → piece_of (pieces_view pieces) key ≡ option_map piece_view (find (λ p. is_eq (key_cmp key p.key)) pieces)
piece_found key [] = refl
piece_found key (p ∷ pieces) = by (piece_found key pieces) (is_eq (key_cmp key p.key))
  where
    by : piece_of (pieces_view pieces) key ≡ option_map piece_view (find (λ p. is_eq (key_cmp key p.key)) pieces) → (b : Bool)
        → cond b (Some (piece_view p)) (piece_of (pieces_view pieces) key)
        ≡ option_map piece_view (cond b (Some p) (find (λ p. is_eq (key_cmp key p.key)) pieces))
    by rest true = refl
    by rest false = rest

pub piece_keys : (pieces : List Piece) → map (λ p. p.key) (pieces_view pieces) ≡ map (λ p. p.key) pieces
piece_keys [] = refl
piece_keys (p ∷ pieces) = ap (λ (ks : List KeyParts). p.key ∷ ks) (piece_keys pieces)

-- pieces rise by their keys as their views do
pub piece_keys_rise : (pieces : List Piece) → rises_by key_cmp (λ p. p.key) (pieces_view pieces) ≡ rises_by key_cmp (λ p. p.key) pieces
piece_keys_rise [] = refl
piece_keys_rise (p ∷ pieces) = λ i. above p.key pieces i && piece_keys_rise pieces i
  where
    above : (k : KeyParts) (ps : List Piece)
        → list_all (λ q. is_lt (key_cmp k q.key)) (pieces_view ps) ≡ list_all (λ q. is_lt (key_cmp k q.key)) ps
    above k [] = refl
    above k (q ∷ ps) = ap (λ b. is_lt (key_cmp k q.key) && b) (above k ps)

pub piece_verses : (chapter : ℕ) (pieces : List Piece)
    → has_verse (pieces_view pieces) chapter ≡ list_any (λ p. is_verse_of chapter p.key) pieces
piece_verses chapter [] = refl
piece_verses chapter (p ∷ pieces) = ap (λ b. is_verse_of chapter p.key || b) (piece_verses chapter pieces)
