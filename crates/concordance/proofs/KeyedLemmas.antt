-- Passages by rising starts, each with the key of the piece that holds its start.
use Rattle.std.proofs.Common.{◌≡◌, ℕ, ◌<◌, ◌≤◌, true, ◌&&◌, IsTrue, List, [], ◌∷◌, length, drop}
use Rattle.std.proofs.Common.{get_or, map, refl, sym, ap, ◌∙◌, arith}
use Rattle.std.specs.Prelude.{nat_le, nat_lt}
use Rattle.std.proofs.lemmas.Bool.{and_parts}
use Rattle.std.proofs.lemmas.Bool.Decides.{nat_tests}
use Rattle.usfm_ref.specs.Keys.{KeyParts}
use Rattle.verse_cut.specs.Pieces.{PieceParts}
use Rattle.verse_cut.specs.Places.{key_at}
use Rattle.concordance.specs.Hits.{HitParts, keyed}
use Rattle.concordance.specs.Passages.{Passage}
use Rattle.concordance.specs.Loops.Reading.{begin_of, end_of, are_neighbours, rise_between}
use Rattle.concordance.specs.Loops.Reading.{hold_all}
use Rattle.concordance.specs.Loops.LeafViews.{passages_view}
use Rattle.concordance.specs.declared.passage.Passage as passages

le_from : (a b : ℕ) → nat_le a b ≡ true → a ≤ b
le_from a b h = grind (arith, nat_tests)

keyed_from : (ps ps' : List PieceParts) (low end : ℕ) (qs : List Passage) → rise_between low end qs ≡ true
    → ((n : ℕ) → low ≤ n → key_at ps' n ≡ key_at ps n) → map (keyed ps) qs ≡ map (keyed ps') qs
keyed_from ps ps' low end [] h same = refl
keyed_from ps ps' low end (q ∷ qs) h same =
    let a = and_parts (nat_le low q.start) (nat_lt q.start end && rise_between q.start end qs) h in
    let b = and_parts (nat_lt q.start end) (rise_between q.start end qs) a.1 in
    let le = le_from low q.start a.0 in
    λ i. (let one : HitParts = record { key = sym (same q.start le) i; start = q.start; text = q.text } in one)
    ∷ keyed_from ps ps' q.start end qs b.1 (λ n l. same n (omega arith)) i

-- the first passage gets the key of its piece, and the others theirs, from the pieces that are left
pub keyed_step : (ps ps' : List PieceParts) (items : List passages.Passage) (p : passages.Passage) (key : KeyParts) → 0 < length items
    → p ≡ get_or items 0 p → IsTrue (hold_all ps (passages_view items)) → ((n : ℕ) → p.start ≤ n → key_at ps' n ≡ key_at ps n)
    → key ≡ key_at ps p.start
    → map (keyed ps) (passages_view items) ≡ (let one : HitParts = record { key = key; start = p.start; text = p.text.now } in one)
    ∷ map (keyed ps') (passages_view (drop 1 items))
keyed_step ps ps' [] p key l e held same is = absurd (omega arith)
keyed_step ps ps' (x ∷ items) p key l e held same is =
    let rise = (and_parts (are_neighbours (begin_of ps) ps) (rise_between (begin_of ps) (end_of ps) (passages_view (x ∷ items))) held).1 in
    let a =
    and_parts (nat_le (begin_of ps) x.start) (nat_lt x.start (end_of ps) && rise_between x.start (end_of ps) (passages_view items)) rise in
    let b = and_parts (nat_lt x.start (end_of ps)) (rise_between x.start (end_of ps) (passages_view items)) a.1 in
    let same' : (n : ℕ) → x.start ≤ n → key_at ps' n ≡ key_at ps n =
    λ n h. same n (let s = ap (λ (q : passages.Passage). q.start) e in omega arith) in
    λ i. (let one : HitParts = record {
      key = (ap (λ (q : passages.Passage). key_at ps q.start) (sym e) ∙ sym is) i;
      start = (sym e i).start;
      text = (sym e i).text.now;
    }
    in one)
    ∷ keyed_from ps ps' x.start (end_of ps) (passages_view items) b.1 same' i
