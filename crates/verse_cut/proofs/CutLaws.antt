-- Each text has exactly one cut, whose keys rise and whose pieces lie in the text.
use Rattle.std.proofs.Common.{◌≡◌, ℕ, ◌+◌, ◌-◌, ◌&&◌, List, [], ◌∷◌, ◌++◌, length, map, take, drop, sym, refl, ap, ◌∙◌, subst, arith, append_assoc, length-append}
use Rattle.std.proofs.lemmas.List.{append-nil, take_at, drop_at}
use Rattle.std.proofs.lemmas.List.Elements.{All-nil, All-cons}
use Rattle.std.specs.List.{list_all, slice_range}
use Rattle.usfm_ref.specs.Keys.{KeyParts, key_cmp, book_head}
use Rattle.usfm_ref.specs.Rising.{rises_by}
use Rattle.verse_cut.specs.Keys.{key_below}
use Rattle.verse_cut.specs.Marks.{Keyed, keyed_marks, opening}
use Rattle.verse_cut.specs.Pieces.{PieceParts, pieces_between, pieces_of, pieces_joined, AreNeighbours, opened, IsCutOf, OneCut, KeysRise, PiecesRise, LieIn, PiecesLie}
use Rattle.verse_cut.specs.Joins.{KeyText, texts_joined, at_book_head, pieces_from}
use Rattle.verse_cut.proofs.BookLaws.{parted, texts_rise}

-- ---- pieces of texts

joined_from : (at : ℕ) (ts : List KeyText) → pieces_joined (pieces_from at ts) ≡ texts_joined ts
joined_from at [] = refl
joined_from at (t ∷ ts) = ap (λ r. t.text ++ r) (joined_from (at + length t.text) ts)

neighbours_from : (at : ℕ) (ts : List KeyText) → AreNeighbours at (pieces_from at ts)
neighbours_from at [] = tt
neighbours_from at (t ∷ ts) = (refl, neighbours_from (at + length t.text) ts)

above_from : (k : KeyParts) (at : ℕ) (ts : List KeyText)
    → list_all (λ p. key_below k p.key) (pieces_from at ts) ≡ list_all (λ t. key_below k t.key) ts
above_from k at [] = refl
above_from k at (t ∷ ts) = ap (λ e. key_below k t.key && e) (above_from k (at + length t.text) ts)

rises_from : (at : ℕ) (ts : List KeyText) → rises_by key_cmp (λ p. p.key) (pieces_from at ts) ≡ rises_by key_cmp (λ t. t.key) ts
rises_from at [] = refl
rises_from at (t ∷ ts) = λ i. above_from t.key (at + length t.text) ts i && rises_from (at + length t.text) ts i

lie_from : (s pre : List ℕ) (at : ℕ) (ts : List KeyText) → s ≡ pre ++ texts_joined ts → length pre ≡ at → LieIn s (pieces_from at ts)
lie_from s pre at [] whole here = All-nil (λ p. slice_range s p.start (p.start + length p.text) ≡ p.text)
lie_from s pre at (t ∷ ts) whole here =
    All-cons (λ p. slice_range s p.start (p.start + length p.text) ≡ p.text) (record { key = t.key; start = at; text = t.text })
    (pieces_from (at + length t.text) ts)
    (ap (take (at + length t.text - at)) (ap (drop at) whole ∙ drop_at pre (t.text ++ texts_joined ts) at here)
    ∙ take_at t.text (texts_joined ts) _ (omega arith))
    (lie_from s (pre ++ t.text) (at + length t.text) ts (whole ∙ sym (append_assoc pre t.text (texts_joined ts)))
    (omega (arith, length-append pre t.text)))

-- the keys of pieces rise
pub pieces_rise : PiecesRise
pieces_rise s =
    let r = parted s in
    subst KeysRise (sym r.pieces) (rises_from 0 (at_book_head r.head ∷ r.later) ∙ texts_rise r.head r.later r.rise)

-- each piece lies in the text at its start
pub pieces_lie : PiecesLie
pieces_lie s =
    let r = parted s in
    subst (LieIn s) (sym r.pieces) (lie_from s [] 0 (at_book_head r.head ∷ r.later) r.join refl)

-- ---- the one cut

opened_between : (s : List ℕ) (k : KeyParts) (at : ℕ) (ms : List Keyed)
    → map opened (pieces_between s k at ms) ≡ record { key = k; at = at } ∷ ms
opened_between s k at [] = refl
opened_between s k at (m ∷ ms) = ap (λ r. record { key = k; at = at } ∷ r) (opened_between s m.key m.at ms)

opened_of : (s : List ℕ) → map opened (pieces_of s) ≡ record { key = book_head; at = 0 } ∷ opening (keyed_marks 0 s)
unfolding pieces_of
opened_of s = opened_between s book_head 0 (opening (keyed_marks 0 s))

is_cut : (s : List ℕ) → IsCutOf (pieces_of s) s
is_cut s =
    let r = parted s in
    record {
      join = ap pieces_joined r.pieces ∙ joined_from 0 (at_book_head r.head ∷ r.later) ∙ sym r.join;
      neighbours = subst (AreNeighbours 0) (sym r.pieces) (neighbours_from 0 (at_book_head r.head ∷ r.later));
      opened = opened_of s;
    }

unique : (s pre : List ℕ) (k : KeyParts) (at : ℕ) (ms : List Keyed) (ps : List PieceParts)
    → map opened ps ≡ record { key = k; at = at } ∷ ms
    → AreNeighbours at ps → s ≡ pre ++ pieces_joined ps → length pre ≡ at → ps ≡ pieces_between s k at ms
unique s pre k at ms [] o n whole here = absurd (cc)
unique s pre k at [] (p ∷ []) o n whole here =
    let key_is : p.key ≡ k = ap (λ (m : Keyed). m.key) (first_is o) in
    let text_is : p.text ≡ drop at s = sym (append-nil p.text) ∙ sym (ap (drop at) whole ∙ drop_at pre (p.text ++ []) at here) in
    λ i. record { key = key_is i; start = n.0 i; text = text_is i } ∷ []
  where
    first_is : opened p ∷ [] ≡ record { key = k; at = at } ∷ [] → opened p ≡ record { key = k; at = at }
    first_is o = cc
unique s pre k at (m ∷ ms) (p ∷ []) o n whole here = absurd (cc)
unique s pre k at [] (p ∷ q ∷ ps) o n whole here = absurd (cc)
unique s pre k at (m ∷ ms) (p ∷ q ∷ ps) o n whole here =
    let heads = parts o in
    let key_is : p.key ≡ k = ap (λ (m : Keyed). m.key) heads.0 in
    let next : m.at ≡ at + length p.text = sym (ap (λ (m : Keyed). m.at) heads.1) ∙ n.1.0 in
    let text_is : p.text ≡ take (m.at - at) (drop at s) =
    sym (ap (take (m.at - at)) (ap (drop at) whole ∙ drop_at pre (p.text ++ pieces_joined (q ∷ ps)) at here)
    ∙ take_at p.text (pieces_joined (q ∷ ps)) (m.at - at) (omega (arith, next)))
    in
    let more : q ∷ ps ≡ pieces_between s m.key m.at ms =
    unique s (pre ++ p.text) m.key m.at ms (q ∷ ps) heads.2 (subst (λ a. AreNeighbours a (q ∷ ps)) (sym next) n.1)
    (whole ∙ sym (append_assoc pre p.text (pieces_joined (q ∷ ps)))) (omega (arith, length-append pre p.text, next))
    in
    λ i. record { key = key_is i; start = n.0 i; text = text_is i } ∷ more i
  where
    parts : opened p ∷ opened q ∷ map opened ps ≡ record { key = k; at = at } ∷ m ∷ ms
        → (opened p ≡ record { key = k; at = at }) × (opened q ≡ m) × (opened q ∷ map opened ps ≡ m ∷ ms)
    parts o = (cc, cc, cc)

-- a text has one cut alone
pub one_cut : OneCut
unfolding pieces_of
one_cut ps s = (
  λ h. unique s [] book_head 0 (opening (keyed_marks 0 s)) ps h.opened h.neighbours (sym h.join) refl,
  λ e. subst (λ r. IsCutOf r s) (sym e) (is_cut s),
)
