-- What is next to a key: in a list that rises the last key before it is where the list is parted, and
-- so is the first one after it.
use Rattle.std.proofs.Common.{◌≡◌, ℕ, zero, suc, ◌-◌, ◌<◌, ◌≤◌, Bool, true, false, not, cond, ◌&&◌, List, [], ◌∷◌, filter, Option, None, Some, length, get_or, arith, refl, sym, ap, ◌∙◌, if◌then◌else◌}
use Rattle.std.specs.List.{find}
use Rattle.std.specs.List.Sorted.{IsPartitionedBy, IsPartitionPoint}
use Rattle.std.specs.Ordering.{is_lt}
use Rattle.std.proofs.lemmas.Bool.{not-false, not-true, true≢false}
use Rattle.std.proofs.lemmas.List.Folds.{list_all_at}
use Rattle.std.proofs.lemmas.List.Recursion.{found_at, found_nowhere}
use Rattle.usfm_ref.specs.Keys.{KeyParts, key_cmp}
use Rattle.usfm_ref.specs.Rising.{rises_by}
use Rattle.usfm_ref.specs.Segments.{segment}
use Rattle.usfm_ref.proofs.Orders.{key_total}
use Rattle.usfm_ref.proofs.Sorted.{above_trans, is_less, parts, rises_filter}
use Rattle.op_core.specs.Ops.{Operation}
use Rattle.op_core.specs.Export.{exported_keys}
use Rattle.op_core.proofs.Exports.CutsBack.{keys_rise}
use Rattle.conflict_settling.specs.After.{text_after}
use Rattle.conflict_settling.specs.Before.{is_filled, last_from, text_at, text_before}
use Rattle.conflict_settling.specs.Filled.{filled_keys}

-- ---- where a list is parted by a test

module _ (p : KeyParts → Bool) where
  -- where no key passes, the one given is the last
  last_stays : (last : Option KeyParts) (ks : List KeyParts) → ((i : ℕ) (d : KeyParts) → i < length ks → p (get_or ks i d) ≡ false)
      → last_from p last ks ≡ last
  last_stays last [] h = refl
  last_stays last (k ∷ ks) h =
      ap (λ b. last_from p (if b then Some k else last) ks) (h 0 k (omega arith))
      ∙ last_stays last ks (λ i d l. h (suc i) d (omega arith))

  -- a key that passes is the last one, where none after it passes
  last_at : (last : Option KeyParts) (ks : List KeyParts) (n : ℕ) (k : KeyParts) → n < length ks → k ≡ get_or ks n k → p k ≡ true
      → ((i : ℕ) (d : KeyParts) → n < i → i < length ks → p (get_or ks i d) ≡ false) → last_from p last ks ≡ Some k
  last_at last [] n k l is here later = absurd (omega arith)
  last_at last (x ∷ ks) zero k l is here later =
      ap (λ b. last_from p (if b then Some x else last) ks) (ap p (sym is) ∙ here)
      ∙ last_stays (Some x) ks (λ i d m. later (suc i) d (omega arith) (omega arith)) ∙ ap Some (sym is)
  last_at last (x ∷ ks) (suc n) k l is here later =
      last_at (if p x then Some x else last) ks n k (omega arith) is here (λ i d m w. later (suc i) d (omega arith) (omega arith))

  -- those that pass come first, so the last of them is before the place where the list is parted
  pub last_parted : (ks : List KeyParts) (n : ℕ) (k : KeyParts) → n ≤ length ks → 0 < n
      → IsPartitionPoint (λ x. p x ≡ true) (λ x. p x ≡ false) ks n → k ≡ get_or ks (n - 1) k → Some k ≡ last_from p None ks
  last_parted ks n k within some h is = sym (last_at None ks (n - 1) k (omega arith) is
      (ap p is ∙ h.0 (n - 1) k (omega arith) (omega arith)) (λ i d m w. h.1 i d (omega arith) w))

  pub none_parted : (ks : List KeyParts) (n : ℕ) → n ≡ 0 → IsPartitionPoint (λ x. p x ≡ true) (λ x. p x ≡ false) ks n
      → None ≡ last_from p None ks
  none_parted ks n none h = sym (last_stays None ks (λ i d l. h.1 i d (omega (arith, none)) l))

  -- those that fail come first, so the first that passes is at that place
  pub first_parted : (ks : List KeyParts) (n : ℕ) (k : KeyParts) → n < length ks
      → IsPartitionPoint (λ x. not (p x) ≡ true) (λ x. not (p x) ≡ false) ks n → k ≡ get_or ks n k → Some k ≡ find p ks
  first_parted ks n k within h is = sym (found_at (find p) p Some None refl (λ _ _. refl) ks n k within
      (λ i l. not-true _ (h.0 i k (omega arith) l)) (not-false _ (h.1 n k (omega arith) within)) ∙ ap Some (sym is))

  pub nothing_parted : (ks : List KeyParts) (n : ℕ) → length ks ≤ n
      → IsPartitionPoint (λ x. not (p x) ≡ true) (λ x. not (p x) ≡ false) ks n → None ≡ find p ks
  nothing_parted [] n whole h = refl
  nothing_parted (k ∷ ks) n whole h = sym (found_nowhere (find p) p Some None refl (λ _ _. refl) (k ∷ ks) k
      (λ i l. not-true _ (h.0 i k (omega arith) (omega (arith, whole)))))

-- in keys that rise, those that are not after a key come first
pub parted_after : (q : KeyParts) (ks : List KeyParts) → rises_by key_cmp (λ k. k) ks ≡ true
    → IsPartitionedBy (λ k. not (is_lt (key_cmp q k))) ks
parted_after q [] h i j d l m e = absurd (omega arith)
parted_after q (k ∷ ks) h zero zero d l m e = e
parted_after q (k ∷ ks) h zero (suc j) d l m e = by (is_lt (key_cmp q k)) refl
  where
    by : (b : Bool) → is_lt (key_cmp q k) ≡ b → not b ≡ true
    by false f = refl
    by true f = absurd (true≢false
        (sym (above_trans key_cmp key_total (λ (x : KeyParts). x) q k ks (is_less _ f)
        (parts key_cmp key_total (λ (x : KeyParts). x) k ks h).0)
        ∙ list_all_at (λ x. is_lt (key_cmp q x)) ks j d (omega arith) (not-true _ e)))
parted_after q (k ∷ ks) h (suc i) zero d l m e = absurd (omega arith)
parted_after q (k ∷ ks) h (suc i) (suc j) d l m e =
    parted_after q ks (parts key_cmp key_total (λ (x : KeyParts). x) k ks h).1 i j d (omega arith) (omega arith) e

-- ---- the keys of a book at which it has a text

module _ (p q : KeyParts → Bool) where
  -- the last that passes two tests is the last by one of those that pass the other
  last_filter : (last : Option KeyParts) (ks : List KeyParts) → last_from (λ k. p k && q k) last ks ≡ last_from p last (filter q ks)
  last_filter last [] = refl
  last_filter last (k ∷ ks) = by (p k) (q k) refl (λ l. last_filter l ks)
    where
      by : (a b : Bool) → p k ≡ a → ((l : Option KeyParts) → last_from (λ x. p x && q x) l ks ≡ last_from p l (filter q ks))
          → last_from (λ x. p x && q x) (if a && b then Some k else last) ks
          ≡ last_from p last (cond b (k ∷ filter q ks) (filter q ks))
      by true true e rest = rest (Some k) ∙ ap (λ c. last_from p (if c then Some k else last) (filter q ks)) (sym e)
      by false true e rest = rest last ∙ ap (λ c. last_from p (if c then Some k else last) (filter q ks)) (sym e)
      by true false e rest = rest last
      by false false e rest = rest last

  -- and so is the first
  find_filter : (ks : List KeyParts) → find (λ k. p k && q k) ks ≡ find p (filter q ks)
  find_filter [] = refl
  find_filter (k ∷ ks) = by (p k) (q k) refl (find_filter ks)
    where
      by : (a b : Bool) → p k ≡ a → find (λ x. p x && q x) ks ≡ find p (filter q ks)
          → cond (a && b) (Some k) (find (λ x. p x && q x) ks) ≡ find p (cond b (k ∷ filter q ks) (filter q ks))
      by true true e rest = ap (λ c. cond c (Some k) (find p (filter q ks))) (sym e)
      by false true e rest = rest ∙ ap (λ c. cond c (Some k) (find p (filter q ks))) (sym e)
      by true false e rest = rest
      by false false e rest = rest

module _ (held : List Operation) (book : List ℕ) (ks : List KeyParts) (is : ks ≡ filled_keys held book) where
  -- they rise
  pub filled_rise : rises_by key_cmp (λ k. k) ks ≡ true
  filled_rise =
      ap (rises_by key_cmp (λ k. k)) is
      ∙ rises_filter key_cmp key_total (λ (k : KeyParts). k) (is_filled held book) (exported_keys held book) (keys_rise held book)

  -- the text at the last of them before a key, and that at the first one after it
  pub before_is : (key : KeyParts) (at : Option KeyParts) → at ≡ last_from (λ k. is_lt (key_cmp k key)) None ks
      → text_at held book at ≡ text_before held (segment book key)
  before_is key at e =
      ap (text_at held book) (e ∙ ap (last_from (λ k. is_lt (key_cmp k key)) None) is
      ∙ sym (last_filter (λ k. is_lt (key_cmp k key)) (is_filled held book) None (exported_keys held book)))

  pub after_is : (key : KeyParts) (at : Option KeyParts) → at ≡ find (λ k. is_lt (key_cmp key k)) ks
      → text_at held book at ≡ text_after held (segment book key)
  after_is key at e =
      ap (text_at held book) (e ∙ ap (find (λ k. is_lt (key_cmp key k))) is
      ∙ sym (find_filter (λ k. is_lt (key_cmp key k)) (is_filled held book) (exported_keys held book)))
