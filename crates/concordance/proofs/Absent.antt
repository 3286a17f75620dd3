-- A needle that occurs nowhere in a text has no hits in it.
use Rattle.std.proofs.Common.{◌≡◌, ℕ, ◌+◌, ◌<◌, true, false, true≢false, List, [], ◌∷◌, ◌++◌, length, take, drop, Option, None, Some, is_some, sym, ap, ◌∙◌, refl, arith, length-append}
use Rattle.std.specs.List.{flat_map}
use Rattle.std.specs.Prelude.{map}
use Rattle.std.proofs.Math.Seq.{take-append_seam, drop-append_seam}
use Rattle.memchr.specs.Find.{Nowhere, OccursAt, FindsNeedle, matches}
use Rattle.memchr.proofs.lemmas.MatchLemmas.{OccursAt-from_part, matches-none, matches-first}
use Rattle.sty_sheet.specs.Records.{Record}
use Rattle.verse_cut.specs.Pieces.{pieces_of}
use Rattle.concordance.specs.Hits.{keyed, occurrences, hits_of}
use Rattle.concordance.specs.Passages.{Passage}
use Rattle.concordance.specs.Plain.{plain_leaves}
use Rattle.concordance.proofs.Occurring.{stands_at}
use Rattle.concordance.proofs.Standing.{Stands, Apart, leaves_apart}

-- what a search answers
pub found_somewhere : (s needle : List ℕ) (r : Option ℕ) → FindsNeedle s needle 0 r → is_some r ≡ true → matches s needle 0 ≡ [] → ⊥
found_somewhere s needle None h e none = absurd (true≢false (sym e))
found_somewhere s needle (Some k) h e none = let l = ap length (sym none ∙ matches-first s needle 0 k h.0 h.1) in absurd (omega arith)

-- where a search finds nothing, the needle occurs nowhere
pub found_nowhere : (s needle : List ℕ) (r : Option ℕ) → FindsNeedle s needle 0 r → is_some r ≡ false
    → Nowhere (OccursAt s needle) 0 (length s + 1)
found_nowhere s needle None h e = h
found_nowhere s needle (Some k) h e = absurd (true≢false e)

-- a passage that is in a text occurs there
occurs_where : (s : List ℕ) (p : Passage) → Stands s p → OccursAt s p.text p.start
occurs_where s p (x, y, is, at) =
    let whole = ap length is ∙ length-append x (p.text ++ y) in
    let inner = length-append p.text y in
    OccursAt-from_part s p.text p.start (omega arith)
    (ap (λ k. take (length p.text) (drop k s)) (sym at)
    ∙ ap (λ l. take (length p.text) (drop (length x) l)) is
    ∙ ap (take (length p.text)) (drop-append_seam x (p.text ++ y))
    ∙ take-append_seam p.text y)

module _ (s needle : List ℕ) (some : 0 < length needle) (none : Nowhere (OccursAt s needle) 0 (length s + 1)) where
  none_in : (p : Passage) → Stands s p → occurrences needle p ≡ []
  none_in p stands =
      ap (map (λ at. (let one : Passage = record { start = p.start + at; text = needle } in one)))
      (matches-none p.text needle 0 (λ k low high h.
      let here : Passage = record { start = p.start + k; text = needle } in
      let there = occurs_where s here (stands_at s needle some p stands k h) in
      let fits = there.fits in
      none (p.start + k) (omega arith) (omega arith) there))

  none_in_each : (low high : ℕ) (ps : List Passage) → Apart s low high ps → flat_map (occurrences needle) ps ≡ []
  none_in_each low high [] a = refl
  none_in_each low high (p ∷ ps) a =
      λ i. none_in p a.1 i ++ none_in_each (p.start + length p.text) high ps a.3 i

  pub no_hits : (sheet : List Record) → [] ≡ hits_of sheet s needle
  unfolding hits_of
  no_hits sheet =
      sym (ap (map (keyed (pieces_of s))) (none_in_each 0 (length s) (plain_leaves sheet s) (leaves_apart sheet s)))
