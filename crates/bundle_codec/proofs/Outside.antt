-- The operations of a set that lie outside a summary, and those that go with them.
use Rattle.std.proofs.Common.{◌≡◌, ℕ, suc, ◌+◌, ◌-◌, ◌≤◌, Bool, true, false, cond, ◌&&◌, List, [], ◌∷◌, ◌++◌, length, filter, drop, sym, ap, ◌∙◌, arith}
use Rattle.std.proofs.Math.Bool.{and-true, and_assoc}
use Rattle.std.specs.Int.{w64, to_be_bytes}
use Rattle.std.specs.List.{AllByRecursion, flat_map}
use Rattle.std.proofs.lemmas.List.{append-nil, append_assoc}
use Rattle.usfm_ref.proofs.Sorted.{rises_filter}
use Rattle.op_core.specs.Ids.{id_cmp}
use Rattle.op_core.specs.Ops.{Operation, is_full}
use Rattle.op_core.specs.Sets.{IsOpSet}
use Rattle.op_core.specs.Thinned.{all_full, is_sent}
use Rattle.op_core.proofs.IdOrders.Rising.{id_total}
use Rattle.bundle_codec.specs.Spelling.{magic_of, operation, bundle}
use Rattle.bundle_codec.specs.Summaries.{NameRanges, covers, outside}
use Rattle.bundle_codec.proofs.Refronted.{begun, refronted}
use Rattle.op_core.proofs.ThinnedSets.Past.{counts_within}

all_filter : {A : Type 0} (P : A → Type 0) (p : A → Bool) (xs : List A) → AllByRecursion P xs → AllByRecursion P (filter p xs)
all_filter P p [] h = tt
all_filter P p (x ∷ xs) h = let rest = all_filter P p xs h.1 in
    elim (p x) as (λ b. AllByRecursion P (cond b (x ∷ filter p xs) (filter p xs))) [ true ↦ (h.0, rest) | false ↦ rest ]

-- what lies outside a summary is a set
pub outside_set : (s : List NameRanges) (held : List Operation) → IsOpSet held → IsOpSet (outside s held)
outside_set s held set = record {
  rising = rises_filter id_cmp id_total (λ (o : Operation). o.id) (is_sent held (covers s)) held set.rising;
  each = all_filter _ (is_sent held (covers s)) held set.each;
}

-- ---- a walk over operations that writes those that pass, and counts the others off

pub record Written (p : Operation → Bool) (all rest : List Operation) (bytes : List ℕ) (full : Bool) (count : ℕ) : Type 0 where
  pub written : bytes ++ flat_map operation (filter p rest) ≡ begun ++ flat_map operation (filter p all)
  pub format : (full && all_full (filter p rest)) ≡ all_full (filter p all)
  pub counted : count + length (filter p rest) ≡ length (filter p all) + length rest

module _ (p : Operation → Bool) (all it rest : List Operation) (o : Operation) (bytes : List ℕ) (full : Bool) (count : ℕ)
    (next : it ≡ o ∷ rest)
    (w : Written p all it bytes full count) where
  longer : length it ≡ suc (length rest)
  longer = ap length next

  module _ (off : p o ≡ false) where
    same : filter p it ≡ filter p rest
    same = ap (filter p) next ∙ ap (λ b. cond b (o ∷ filter p rest) (filter p rest)) off

    pub counted_some : 1 ≤ count
    counted_some = omega (arith, ap length same, longer, w.counted, counts_within p rest)

    pub goes_past : Written p all rest bytes full (count - 1)
    goes_past = record {
      written = ap (λ (ops : List Operation). bytes ++ flat_map operation ops) (sym same) ∙ w.written;
      format = ap (λ (ops : List Operation). full && all_full ops) (sym same) ∙ w.format;
      counted = omega (arith, ap length same, longer, w.counted, counted_some);
    }

  module _ (on : p o ≡ true) where
    with_it : filter p it ≡ o ∷ filter p rest
    with_it = ap (filter p) next ∙ ap (λ b. cond b (o ∷ filter p rest) (filter p rest)) on

    pub writes_on : (now : List ℕ) (still : Bool) → now ≡ bytes ++ operation o → still ≡ (full && is_full o)
        → Written p all rest now still count
    writes_on now still e f = record {
      written =
          ap (λ (b : List ℕ). b ++ flat_map operation (filter p rest)) e
          ∙ append_assoc bytes (operation o) (flat_map operation (filter p rest))
          ∙ ap (λ (ops : List Operation). bytes ++ flat_map operation ops) (sym with_it) ∙ w.written;
      format =
          ap (λ b. b && all_full (filter p rest)) f ∙ and_assoc full (is_full o) (all_full (filter p rest))
          ∙ ap (λ (ops : List Operation). full && all_full ops) (sym with_it) ∙ w.format;
      counted = omega (arith, ap length with_it, longer, w.counted);
    }

-- at the end all that pass are written
module _ (p : Operation → Bool) (all it : List Operation) (bytes : List ℕ) (full : Bool) (count : ℕ) (end : it ≡ [])
    (w : Written p all it bytes full count) where
  none : filter p it ≡ []
  none = ap (filter p) end

  pub written_all : bytes ≡ begun ++ flat_map operation (filter p all)
  written_all =
      sym (append-nil bytes) ∙ ap (λ (ops : List Operation). bytes ++ flat_map operation ops) (sym none) ∙ w.written

  pub is_bundle : (made : List ℕ) → made ≡ (magic_of full ++ to_be_bytes w64 count) ++ drop 16 bytes → made ≡ bundle (filter p all)
  is_bundle made h = refronted (filter p all) bytes written_all full count made
      (sym (and-true full) ∙ ap (λ (ops : List Operation). full && all_full ops) (sym none) ∙ w.format)
      (omega (arith, w.counted, ap length none, ap length end)) h
