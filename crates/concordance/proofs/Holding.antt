-- Pieces that hold the starts of passages, and passages that end at places that fit.
use Rattle.std.proofs.Common.{◌≡◌, ℕ, zero, suc, ◌+◌, ◌^◌, ◌<◌, ◌≤◌, true, List, [], ◌∷◌, ◌++◌, All}
use Rattle.std.proofs.Common.{length, get_or, map, refl, sym, ap, subst, ◌∙◌, arith}
use Rattle.std.specs.List.{flat_map}
use Rattle.std.proofs.lemmas.Bool.{and_from}
use Rattle.std.proofs.lemmas.Bool.Decides.{nat_tests}
use Rattle.std.proofs.lemmas.List.Elements.{All-nil, All-cons, All-head, All-tail}
use Rattle.sty_sheet.specs.Records.{Record}
use Rattle.verse_cut.specs.Pieces.{PieceParts, AreNeighbours, pieces_of, IsCutOf}
use Rattle.concordance.specs.Hits.{keyed, occurrences, passage_of, hits_of}
use Rattle.concordance.specs.Passages.{Passage, StandApart}
use Rattle.concordance.specs.Plain.{plain_leaves}
use Rattle.concordance.specs.Loops.Reading.{begin_of, end_of, are_neighbours, rise_between}
use Rattle.concordance.specs.Loops.Reading.{hold_all, EndsWithin}
use Rattle.concordance.specs.Loops.LeafViews.{passage_view, passages_view}
use Rattle.concordance.specs.declared.passage.Passage as passages
use Rattle.concordance.proofs.Standing.{Apart, apart_within, leaves_apart, stand_apart}
use Rattle.concordance.proofs.Occurring.{occurrences_apart}

-- a passage that is one of some ends below 2^64 where all do
pub fits_at : (ps : List passages.Passage) (k : ℕ) (d : passages.Passage) → All EndsWithin (passages_view ps) → k < length ps
    → (get_or ps k d).start + length (get_or ps k d).text.now < 2 ^ 64
fits_at [] k d h l = absurd (omega arith)
fits_at (p ∷ ps) zero d h l = All-head EndsWithin (passage_view p) (passages_view ps) h
fits_at (p ∷ ps) (suc k) d h l = fits_at ps k d (All-tail EndsWithin (passage_view p) (passages_view ps) h) (omega arith)

-- passages that lie apart in a text end below 2^64 where it does
pub all_fit : (s : List ℕ) (low high : ℕ) (ps : List Passage) → Apart s low high ps → high < 2 ^ 64 → All EndsWithin ps
all_fit s low high [] a h = All-nil EndsWithin
all_fit s low high (p ∷ ps) a h = All-cons EndsWithin p ps (let e = a.2 in omega arith) (all_fit s (p.start + length p.text) high ps a.3 h)

-- none of the passages is empty
abbrev pub Filled : List Passage → Type 0
Filled [] = Unit {0}
Filled (p ∷ ps) = (0 < length p.text) × Filled ps

-- passages that are not empty, and more of them
pub filled_append : (ps qs : List Passage) → Filled ps → Filled qs → Filled (ps ++ qs)
filled_append [] qs a b = b
filled_append (p ∷ ps) qs a b = (a.0, filled_append ps qs a.1 b)

-- parts of passages are not empty where those of each are not
pub filled_each : (parts : Passage → List Passage) (ps : List Passage) → ((p : Passage) → Filled (parts p)) → Filled (flat_map parts ps)
filled_each parts [] h = tt
filled_each parts (p ∷ ps) h = filled_append (parts p) (flat_map parts ps) (h p) (filled_each parts ps h)

filled_places : (start : ℕ) (needle : List ℕ) (places : List ℕ) → 0 < length needle
    → Filled (map (λ at. (let one : Passage = record { start = start + at; text = needle } in one)) places)
filled_places start needle [] h = tt
filled_places start needle (at ∷ places) h = (h, filled_places start needle places h)

occurrences_filled : (needle : List ℕ) → 0 < length needle → (p : Passage) → Filled (occurrences needle p)
occurrences_filled needle h p = filled_places p.start needle _ h

rise_apart : (s : List ℕ) (low high : ℕ) (ps : List Passage) → Apart s low high ps → Filled ps → rise_between low high ps ≡ true
rise_apart s low high [] a f = refl
rise_apart s low high (p ∷ ps) a f =
    let l = a.0 in let e = a.2 in let n = f.0 in
    and_from _ _ (grind (arith, nat_tests))
    (and_from _ _ (grind (arith, nat_tests)) (rise_apart s p.start high ps (from p.start ps (omega arith) a.3) f.1))
  where
    from : (k : ℕ) (qs : List Passage) → k ≤ p.start + length p.text → Apart s (p.start + length p.text) high qs → Apart s k high qs
    from k [] h b = tt
    from k (q ∷ qs) h b = (let c = b.0 in omega arith, b.1, b.2, b.3)

neighbours_tested : (at : ℕ) (ps : List PieceParts) → AreNeighbours at ps → are_neighbours at ps ≡ true
neighbours_tested at [] h = refl
neighbours_tested at (p ∷ ps) h = and_from _ _ (let e = h.0 in grind (arith, nat_tests)) (neighbours_tested (at + length p.text) ps h.1)

begin_is : (ps : List PieceParts) → AreNeighbours 0 ps → begin_of ps ≡ 0
begin_is [] h = refl
begin_is (p ∷ ps) h = h.0

-- the pieces of a text hold passages of it that are not empty
pub pieces_hold : (s : List ℕ) (pieces : List PieceParts) (ps : List Passage) → IsCutOf pieces s → Apart s 0 (length s) ps → Filled ps
    → hold_all pieces ps ≡ true
pieces_hold s pieces ps cut a f =
    let zero_is = begin_is pieces cut.neighbours in
    let end_is : end_of pieces ≡ length s = (let l = ap length cut.join in omega arith) in
    and_from _ _ (ap (λ n. are_neighbours n pieces) zero_is ∙ neighbours_tested 0 pieces cut.neighbours)
    ((λ i. rise_between (zero_is i) (end_is i) ps) ∙ rise_apart s 0 (length s) ps a f)

-- ---- hits

-- occurrences in the plain leaves of a text lie apart
pub found_apart : (sheet : List Record) (s needle : List ℕ) → 0 < length needle
    → Apart s 0 (length s) (flat_map (occurrences needle) (plain_leaves sheet s))
found_apart sheet s needle some =
    apart_within s (occurrences needle) 0 (length s) (plain_leaves sheet s) (λ p h. occurrences_apart s needle some p h)
    (leaves_apart sheet s)

-- no occurrence is empty
pub found_filled : (sheet : List Record) (s needle : List ℕ) → 0 < length needle
    → Filled (flat_map (occurrences needle) (plain_leaves sheet s))
found_filled sheet s needle some = filled_each (occurrences needle) (plain_leaves sheet s) (occurrences_filled needle some)

passages_keyed : (pieces : List PieceParts) (ps : List Passage) → map passage_of (map (keyed pieces) ps) ≡ ps
passages_keyed pieces [] = refl
passages_keyed pieces (p ∷ ps) = ap (λ l. p ∷ l) (passages_keyed pieces ps)

-- no two hits overlap
pub hits_apart : (sheet : List Record) (s needle : List ℕ) → 0 < length needle → StandApart s 0 (map passage_of (hits_of sheet s needle))
unfolding hits_of
hits_apart sheet s needle some =
    subst (StandApart s 0) (sym (passages_keyed (pieces_of s) _)) (stand_apart s 0 _ (found_apart sheet s needle some))
