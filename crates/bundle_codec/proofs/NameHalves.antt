-- Names of a summary, found by binary search.
use Rattle.std.proofs.Common.{◌≡◌, ℕ, zero, suc, ◌+◌, ◌<◌, ◌≤◌, Bool, true, false, not, List, [], ◌∷◌, length, get_or, Some, None, Ordering, Less, Equal, Greater, sym, ap, subst, ◌∙◌, arith, inl, inr}
use Rattle.std.specs.List.{AllByRecursion, position_or_len}
use Rattle.std.specs.Ordering.{is_eq, is_lt, ordering_reverse}
use Rattle.std.proofs.lemmas.Bool.{cases_lt}
use Rattle.std.proofs.lemmas.List.{get_or_default}
use Rattle.usfm_ref.specs.Rising.{rises_by}
use Rattle.usfm_ref.proofs.Orders.{same_bytes-is}
use Rattle.usfm_ref.proofs.Sorted.{back, parted, each_found, found_not, found_end}
use Rattle.usfm_ref.proofs.Placed.{IsNarrowed, narrowed_all, narrowed_low, narrowed_high, narrowed_end}
use Rattle.op_core.specs.Names.{name_cmp}
use Rattle.bundle_codec.specs.Summaries.{NameRanges}
use Rattle.bundle_codec.proofs.SummaryReads.{name_total}
use Rattle.bundle_codec.proofs.Covered.{under_name, same_tied}

all_at : {X : Type 0} (P : X → Type 0) (xs : List X) (k : ℕ) (x : X) → AllByRecursion P xs → k < length xs → x ≡ get_or xs k x → P x
all_at P [] k x h lt e = absurd (omega (arith, lt))
all_at P (y ∷ ys) zero x h lt e = subst P (sym e) h.0
all_at P (y ∷ ys) (suc k) x h lt e = all_at P ys k x h.1 (omega (arith, lt)) e

abbrev is_before : List ℕ → NameRanges → Bool
is_before q k = is_lt (name_cmp k.name q)

-- names up to `low` are below the one that is looked for, those from `high` on are above
pub record IsAround (q : List ℕ) (ks : List NameRanges) (low high : ℕ) : Type 0 where
  pub narrowed : IsNarrowed (is_before q) ks low high
  pub other : (d : NameRanges) → high < length ks → is_eq (name_cmp q (get_or ks high d).name) ≡ false

module _ (q : List ℕ) (ks : List NameRanges) where
  pub around_all : IsAround q ks 0 (length ks)
  around_all = record { narrowed = narrowed_all (is_before q) ks; other = λ d lt. absurd (omega (arith, lt)) }

  module _ (rises : rises_by name_cmp (λ (k : NameRanges). k.name) ks ≡ true) where
    module _ (low high middle : ℕ) (k : NameRanges) (a : IsAround q ks low high) (le : low ≤ middle) (lt : middle < high)
        (is : k ≡ get_or ks middle k) where
      order_back : (r : Ordering) → name_cmp k.name q ≡ r → name_cmp q k.name ≡ ordering_reverse r
      order_back r e = back name_cmp name_total (λ (x : List ℕ). x) k.name q r e

      within : middle < length ks
      within = omega (arith, lt, a.narrowed.within)

      pub around_low : name_cmp k.name q ≡ Less → IsAround q ks (middle + 1) high
      around_low e = record {
        narrowed = narrowed_low (is_before q) ks low high middle k (parted name_cmp name_total (λ (x : NameRanges). x.name) q ks rises)
            a.narrowed lt is (ap is_lt e);
        other = a.other;
      }

      pub around_high : name_cmp k.name q ≡ Greater → IsAround q ks low middle
      around_high e = record {
        narrowed = narrowed_high (is_before q) ks low high middle k (parted name_cmp name_total (λ (x : NameRanges). x.name) q ks rises)
            a.narrowed le lt is (ap is_lt e);
        other = λ d l. ap (λ (x : NameRanges). is_eq (name_cmp q x.name)) (sym (is ∙ get_or_default ks middle k d within))
            ∙ ap is_eq (order_back Greater e);
      }

      pub around_found : name_cmp k.name q ≡ Equal → under_name q ks ≡ Some k
      around_found e =
          let same : k.name ≡ q = sym (same_bytes-is q k.name (same_tied k.name q ∙ ap is_eq e)) in
          sym (ap (λ (w : List ℕ). under_name w ks) same)
          ∙ all_at (λ (x : NameRanges). under_name x.name ks ≡ Some x) ks middle k
          (each_found name_cmp name_total (λ (x : NameRanges). x.name) ks rises)
          within is

    pub around_none : (low high : ℕ) → IsAround q ks low high → high ≤ low → under_name q ks ≡ None
    around_none low high a le = elim (cases_lt high (length ks)) [
      | inl lt ↦ found_not name_cmp name_total (λ (x : NameRanges). x.name) q ks high (get_or ks high nothing) rises place
          (get_or_default ks high nothing (get_or ks high nothing) lt) (a.other nothing lt)
      | inr more ↦ found_end name_cmp name_total (λ (x : NameRanges). x.name) q ks high rises place more
    ]
      where
        nothing : NameRanges
        nothing = record { name = []; ranges = [] }

        place : high ≡ position_or_len (λ (x : NameRanges). not (is_before q x)) ks
        place = omega (arith, a.narrowed.ordered, le, narrowed_end (is_before q) ks low high nothing a.narrowed le)
