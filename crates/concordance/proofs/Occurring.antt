-- Where a needle occurs in a passage: a text may be cut there, and the places do not overlap.
use Rattle.std.proofs.Common.{◌≡◌, ℕ, zero, suc, ◌+◌, ◌-◌, ◌<◌, ◌≤◌, Bool, true, false, cond, List}
use Rattle.std.proofs.Common.{[], ◌∷◌, ◌++◌, length, take, drop, map, refl, sym, ap, subst, ◌∙◌}
use Rattle.std.proofs.Common.{arith, slice_index, IsUtf8, length-drop, slice_range, append_assoc}
use Rattle.std.proofs.Common.{All}
use Rattle.std.specs.Str.{IsCharBoundary}
use Rattle.std.proofs.lemmas.List.Elements.{All-head, All-tail}
use Rattle.std.proofs.lemmas.List.{map-append, take-append-drop, length-take-le}
use Rattle.std.proofs.lemmas.Str.{IsCharBoundary-start, IsCharBoundary-from_rest}
use Rattle.std.proofs.lemmas.Str.{IsCharBoundary-from_take, IsUtf8-drop}
use Rattle.memchr.specs.Find.{OccursAt, occurs_at, match_len, matches_from}
use Rattle.memchr.proofs.lemmas.MatchLemmas.{OccursAt-part, OccursAt-split, OccursAt-true}
use Rattle.concordance.specs.Passages.{Passage}
use Rattle.concordance.specs.Hits.{occurrences}
use Rattle.concordance.specs.Loops.LeafViews.{passage_view, passages_view}
use Rattle.concordance.specs.declared.passage.Passage as passages
use Rattle.concordance.proofs.Standing.{Stands, Apart, apart_from, stands_within}

module _ (hay needle : List ℕ) (k : ℕ) (utf8 : IsUtf8 hay) (needle_utf8 : IsUtf8 needle)
    (some : 0 < length needle) (h : OccursAt hay needle k) where
  first_is : slice_index hay k ≡ slice_index needle 0
  first_is = (let e : k + 0 ≡ k = omega arith in ap (slice_index hay) (sym e)) ∙ h.reads 0 some

  pub boundary_before : IsCharBoundary hay k
  boundary_before =
      let low = h.fits in (
        omega arith,
        λ lt high. (let c = (IsCharBoundary-start needle needle_utf8).1 some in
            let f = first_is in
            let high' : 128 ≤ slice_index needle 0 = omega arith in
            let d = c high' in omega arith),
      )

  pub boundary_after : IsCharBoundary hay (k + length needle)
  boundary_after =
      let low = h.fits in
      let l = length-drop k hay in
      IsCharBoundary-from_rest hay k (length needle) (omega arith)
      (IsCharBoundary-from_take (drop k hay) (length needle) (IsUtf8-drop hay k utf8 boundary_before) (omega arith)
      (subst IsUtf8 (sym (OccursAt-part hay needle k h)) needle_utf8))

-- ---- apart

module _ (s needle : List ℕ) (some : 0 < length needle) (p : Passage) (stands : Stands s p) where
  abbrev place : ℕ → Passage
  place at = record { start = p.start + at; text = needle }

  pub stands_at : (at : ℕ) → OccursAt p.text needle at → Stands s (place at)
  stands_at at h =
      let low = h.fits in
      stands_within s p (place at) (take at p.text) (drop (at + length needle) p.text) stands
      (sym (take-append-drop at p.text) ∙ ap (λ l. take at p.text ++ l) (OccursAt-split p.text needle at h))
      (ap (λ n. p.start + n) (length-take-le at p.text (omega arith)))

  apart_from_match : (skip i n : ℕ)
      → Apart s (p.start + (i + skip)) (p.start + length p.text) (map place (matches_from p.text needle skip i n))
  unfolding matches_from
  apart_from_match skip i zero = tt
  apart_from_match zero i (suc n) =
      by (apart_from_match (match_len needle - 1) (i + 1) n) (apart_from_match 0 (i + 1) n) (occurs_at p.text needle i) refl
    where
      after : (m : ℕ) → m ≡ length needle
          → Apart s (p.start + (i + 1 + (m - 1))) (p.start + length p.text) (map place (matches_from p.text needle (m - 1) (i + 1) n))
          → Apart s (p.start + i + length needle) (p.start + length p.text) (map place (matches_from p.text needle (m - 1) (i + 1) n))
      after m e a =
          subst (λ (k : ℕ). Apart s k (p.start + length p.text) (map place (matches_from p.text needle (m - 1) (i + 1) n))) (omega arith) a

      by : Apart s (p.start + (i + 1 + (match_len needle - 1))) (p.start + length p.text)
          (map place (matches_from p.text needle (match_len needle - 1) (i + 1) n))
          → Apart s (p.start + (i + 1 + 0)) (p.start + length p.text) (map place (matches_from p.text needle 0 (i + 1) n)) → (b : Bool)
          → occurs_at p.text needle i ≡ b
          → Apart s (p.start + (i + 0)) (p.start + length p.text)
          (map place (cond b (i ∷ matches_from p.text needle (match_len needle - 1) (i + 1) n) (matches_from p.text needle 0 (i + 1) n)))
      by hit miss true e =
          let h = OccursAt-true p.text needle i e in
          let low = h.fits in
          (omega arith, stands_at i h, omega arith, after (match_len needle) (omega arith) hit)
      by hit miss false e = apart_from s (p.start + (i + 0)) (p.start + (i + 1 + 0)) (p.start + length p.text) _ (omega arith) miss
  apart_from_match (suc skip) i (suc n) =
      subst (λ (k : ℕ). Apart s k (p.start + length p.text) (map place (matches_from p.text needle skip (i + 1) n))) (omega arith)
      (apart_from_match skip (i + 1) n)

  pub occurrences_apart : Apart s p.start (p.start + length p.text) (occurrences needle p)
  occurrences_apart =
      let e : p.start + (0 + 0) ≡ p.start = omega arith in
      subst (λ (k : ℕ). Apart s k (p.start + length p.text) (occurrences needle p)) e (apart_from_match 0 0 (length p.text + 1 - 0))

-- ---- the loop over the places

occurrence_is : (hay needle : List ℕ) (k : ℕ) → OccursAt hay needle k → slice_range hay k (k + length needle) ≡ needle
occurrence_is hay needle k h =
    (let e : k + length needle - k ≡ length needle = omega arith in ap (λ n. take n (drop k hay)) e) ∙ OccursAt-part hay needle k h

-- one more occurrence was put after those that were found
pub one_more : (start at : ℕ) (hay needle : List ℕ) (items new : List passages.Passage) (x : passages.Passage) (its rest : List ℕ)
    (target : List Passage) → new ≡ items ++ x ∷ [] → its ≡ at ∷ rest → OccursAt hay needle at → x.start ≡ start + at → x.text.now
    ≡ slice_range hay at (at + length needle)
    → passages_view items ++ map (λ at. (let one : Passage = record { start = start + at; text = needle } in one)) its ≡ target
    → passages_view new ++ map (λ at. (let one : Passage = record { start = start + at; text = needle } in one)) rest ≡ target
one_more start at hay needle items new x its rest target is next h s t e =
    let place : ℕ → Passage = λ at. record { start = start + at; text = needle } in
    ap (λ (l : List passages.Passage). passages_view l ++ map place rest) is
    ∙ ap (λ l. l ++ map place rest) (map-append passage_view items (x ∷ []))
    ∙ append_assoc (passages_view items) (passage_view x ∷ []) (map place rest)
    ∙ (λ i. passages_view items ++ (let one : Passage = record { start = s i; text = (t ∙ occurrence_is hay needle at h) i } in one)
    ∷ map place rest)
    ∙ ap (λ l. passages_view items ++ map place l) (sym next)
    ∙ e

-- the first of some occurrences is one
pub head_occurs : (hay needle its rest : List ℕ) (at : ℕ) → its ≡ at ∷ rest → All (OccursAt hay needle) its → OccursAt hay needle at
head_occurs hay needle its rest at e h = All-head (OccursAt hay needle) at rest (subst (All (OccursAt hay needle)) e h)

-- the others are occurrences too
pub tail_occurs : (hay needle its rest : List ℕ) (at : ℕ) → its ≡ at ∷ rest → All (OccursAt hay needle) its → All (OccursAt hay needle) rest
tail_occurs hay needle its rest at e h = All-tail (OccursAt hay needle) at rest (subst (All (OccursAt hay needle)) e h)
