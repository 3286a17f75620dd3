-- The pieces of a chapter stand one after another, since keys rise.
use Rattle.std.proofs.Common.{◌≡◌, ℕ, suc, ◌+◌, ◌<◌, ◌≤◌, Bool, true, false, cond, ◌&&◌, ◌==◌, List, [], ◌∷◌, map, filter, take, drop, arith, refl, sym, ap, ◌∙◌, eqb-true, false-eqb}
use Rattle.std.specs.Prelude.{not}
use Rattle.std.specs.declared.cmp.Ordering.{Ordering}
use Rattle.std.specs.declared.cmp.Ordering.TheVariants.{Less, Equal, Greater}
use Rattle.std.specs.Ordering.{nat_cmp, ordering_then, is_lt}
use Rattle.std.specs.List.{list_all, prefix_len, position_or_len, AllByRecursion}
use Rattle.std.proofs.lemmas.Bool.{and_parts}
use Rattle.usfm_ref.specs.declared.key.Place.{Place}
use Rattle.usfm_ref.specs.declared.key.Place.TheVariants as place
use Rattle.usfm_ref.specs.Keys.{KeyParts, key_cmp, place_cmp, chapter_head}
use Rattle.usfm_ref.specs.Rising.{rises_by}
use Rattle.usfm_ref.proofs.Sorted.{is_less}
use Rattle.verse_cut.specs.Pieces.{PieceParts}
use Rattle.verse_cut.specs.Views.{piece_view, pieces_view}
use Rattle.verse_cut.specs.declared.cutter.Piece.{Piece}
use Rattle.missing_verses.specs.Numbers.{of_chapter}

-- ---- rising views

all_map : (p : PieceParts → Bool) (xs : List Piece) → list_all p (map piece_view xs) ≡ list_all (λ x. p (piece_view x)) xs
all_map p [] = refl
all_map p (x ∷ xs) = ap (λ b. p (piece_view x) && b) (all_map p xs)

-- pieces rise where their views do
pub rises_view : (xs : List Piece) → rises_by key_cmp (λ (p : PieceParts). p.key) (pieces_view xs) ≡ true
    → rises_by key_cmp (λ (x : Piece). x.key) xs ≡ true
rises_view xs h = sym (same xs) ∙ h
  where
    same : (xs : List Piece) → rises_by key_cmp (λ (p : PieceParts). p.key) (pieces_view xs) ≡ rises_by key_cmp (λ (x : Piece). x.key) xs
    same [] = refl
    same (x ∷ xs) = (λ i. all_map (λ y. is_lt (key_cmp x.key y.key)) xs i && same xs i)

-- ---- chapters in turn

-- the pieces are of this chapter, or of later ones
abbrev From : ℕ → List Piece → Type 0
From c xs = AllByRecursion (λ (x : Piece). c ≤ x.key.chapter) xs

-- each piece is followed by those of its chapter, or of later ones
abbrev InTurn : List Piece → Type 0
InTurn [] = Unit {0}
InTurn (x ∷ xs) = From x.key.chapter xs × InTurn xs

less_chapter : (a b : KeyParts) → key_cmp a b ≡ Less → a.chapter ≤ b.chapter
less_chapter a b h = by (nat_cmp a.chapter b.chapter) refl h
  where
    by : (r : Ordering) → nat_cmp a.chapter b.chapter ≡ r → ordering_then r (place_cmp a.place b.place) ≡ Less → a.chapter ≤ b.chapter
    by Less e t = grind (arith, e)
    by Equal e t = grind (arith, e)
    by Greater e t = cc t

above_from : (k : KeyParts) (xs : List Piece) → list_all (λ (y : Piece). is_lt (key_cmp k y.key)) xs ≡ true → From k.chapter xs
above_from k [] h = tt
above_from k (x ∷ xs) h =
    let p = and_parts (is_lt (key_cmp k x.key)) (list_all (λ (y : Piece). is_lt (key_cmp k y.key)) xs) h in
    (less_chapter k x.key (is_less _ p.0), above_from k xs p.1)

in_turn : (xs : List Piece) → rises_by key_cmp (λ (x : Piece). x.key) xs ≡ true → InTurn xs
in_turn [] h = tt
in_turn (x ∷ xs) h =
    let p = and_parts (list_all (λ (y : Piece). is_lt (key_cmp x.key y.key)) xs) (rises_by key_cmp (λ (x : Piece). x.key) xs) h in
    (above_from x.key xs p.0, in_turn xs p.1)

from_later : (c d : ℕ) (xs : List Piece) → c ≤ d → From d xs → From c xs
from_later c d [] l h = tt
from_later c d (x ∷ xs) l h = (let a = h.0 in omega (arith, a, l), from_later c d xs l h.1)

-- ---- those of a chapter

abbrev own : ℕ → List Piece → List Piece
own c xs = filter (λ (x : Piece). x.key.chapter == c) xs

abbrev own_len : ℕ → List Piece → ℕ
own_len c xs = prefix_len (λ (x : Piece). x.key.chapter == c) xs

-- how many come before the head of a chapter
abbrev pub before_head : ℕ → List Piece → ℕ
before_head c xs = position_or_len (λ (x : Piece). not (is_lt (key_cmp x.key (chapter_head c)))) xs

take_more : (n : ℕ) (x : Piece) (xs : List Piece) → take (1 + n) (x ∷ xs) ≡ x ∷ take n xs
take_more n x xs = let e : 1 + n ≡ suc n = omega arith in ap (λ k. take k (x ∷ xs)) e

drop_more : (n : ℕ) (x : Piece) (xs : List Piece) → drop (1 + n) (x ∷ xs) ≡ drop n xs
drop_more n x xs = let e : 1 + n ≡ suc n = omega arith in ap (λ k. drop k (x ∷ xs)) e

later_none : (c : ℕ) (xs : List Piece) → From (c + 1) xs → own c xs ≡ []
later_none c [] h = refl
later_none c (x ∷ xs) h = by (later_none c xs h.1) (x.key.chapter == c) refl
  where
    by : own c xs ≡ [] → (b : Bool) → (x.key.chapter == c) ≡ b → cond b (x ∷ own c xs) (own c xs) ≡ []
    by rest true e = absurd (let a = h.0 in let is = eqb-true x.key.chapter c e in omega (arith, a, is))
    by rest false e = rest

front : (c : ℕ) (xs : List Piece) → From c xs → InTurn xs → take (own_len c xs) xs ≡ own c xs
front c [] h t = refl
front c (x ∷ xs) h t = by (front c xs h.1 t.1) (x.key.chapter == c) refl
  where
    by : take (own_len c xs) xs ≡ own c xs → (b : Bool) → (x.key.chapter == c) ≡ b
        → take (cond b (1 + own_len c xs) 0) (x ∷ xs) ≡ cond b (x ∷ own c xs) (own c xs)
    by rest true e = take_more (own_len c xs) x xs ∙ ap (λ (ys : List Piece). x ∷ ys) rest
    by rest false e =
        let a = h.0 in
        let ne = false-eqb x.key.chapter c (sym e) in
        let later : c + 1 ≤ x.key.chapter = omega (arith, a, ne) in
        sym (later_none c xs (from_later (c + 1) x.key.chapter xs later t.0))

head_below : (k : KeyParts) (c : ℕ) (b : Bool) → is_lt (key_cmp k (chapter_head c)) ≡ b
    → (b ≡ true → k.chapter < c) × (b ≡ false → c ≤ k.chapter)
head_below k c b e = (
  λ t. by (nat_cmp k.chapter c) refl (e ∙ t),
  λ f. not_by (nat_cmp k.chapter c) refl (e ∙ f),
)
  where
    no : (p : Place) → is_lt (place_cmp p place.Head) ≡ true → ⊥
    no place.Head h = cc h
    no (place.Verse n l) h = cc h

    by : (r : Ordering) → nat_cmp k.chapter c ≡ r → is_lt (ordering_then r (place_cmp k.place place.Head)) ≡ true → k.chapter < c
    by Less e h = grind (arith, e)
    by Equal e h = absurd (no k.place h)
    by Greater e h = cc h

    not_by : (r : Ordering) → nat_cmp k.chapter c ≡ r → is_lt (ordering_then r (place_cmp k.place place.Head)) ≡ false → c ≤ k.chapter
    not_by Less e h = cc h
    not_by Equal e h = grind (arith, e)
    not_by Greater e h = grind (arith, e)

from_all : (c : ℕ) (x : Piece) (xs : List Piece) → c ≤ x.key.chapter → From x.key.chapter xs → From c (x ∷ xs)
from_all c x xs l h = (l, from_later c x.key.chapter xs l h)

between : (c : ℕ) (xs : List Piece) → InTurn xs
    → take (own_len c (drop (before_head c xs) xs)) (drop (before_head c xs) xs) ≡ own c xs
between c [] t = refl
between c (x ∷ xs) t = by (between c xs t.1) (is_lt (key_cmp x.key (chapter_head c))) refl
  where
    by : take (own_len c (drop (before_head c xs) xs)) (drop (before_head c xs) xs) ≡ own c xs → (b : Bool)
        → is_lt (key_cmp x.key (chapter_head c)) ≡ b
        → take (own_len c (drop (before_head c (x ∷ xs)) (x ∷ xs))) (drop (before_head c (x ∷ xs)) (x ∷ xs)) ≡ own c (x ∷ xs)
    by later true e =
        let n : before_head c (x ∷ xs) ≡ 1 + before_head c xs = ap (λ b. cond (not (not b)) (1 + before_head c xs) 0) e in
        let d : drop (before_head c (x ∷ xs)) (x ∷ xs) ≡ drop (before_head c xs) xs =
        ap (λ k. drop k (x ∷ xs)) n ∙ drop_more (before_head c xs) x xs in
        let low = (head_below x.key c true e).0 refl in
        ap (λ (ys : List Piece). take (own_len c ys) ys) d ∙ later ∙ skip low (x.key.chapter == c) refl
      where
        skip : x.key.chapter < c → (b : Bool) → (x.key.chapter == c) ≡ b → own c xs ≡ cond b (x ∷ own c xs) (own c xs)
        skip low true e = absurd (let is = eqb-true x.key.chapter c e in omega (arith, is, low))
        skip low false e = refl
    by later false e =
        let n : before_head c (x ∷ xs) ≡ 0 = ap (λ b. cond (not (not b)) (1 + before_head c xs) 0) e in
        ap (λ k. take (own_len c (drop k (x ∷ xs))) (drop k (x ∷ xs))) n
        ∙ front c (x ∷ xs) (from_all c x xs ((head_below x.key c false e).1 refl) t.0) t

view_own : (c : ℕ) (xs : List Piece) → pieces_view (own c xs) ≡ of_chapter c (pieces_view xs)
view_own c [] = refl
view_own c (x ∷ xs) = by (view_own c xs) (x.key.chapter == c)
  where
    by : pieces_view (own c xs) ≡ of_chapter c (pieces_view xs) → (b : Bool)
        → pieces_view (cond b (x ∷ own c xs) (own c xs))
        ≡ cond b (piece_view x ∷ of_chapter c (pieces_view xs)) (of_chapter c (pieces_view xs))
    by rest true = ap (λ (ps : List PieceParts). piece_view x ∷ ps) rest
    by rest false = rest

-- after the pieces before a chapter's head come those of the chapter
pub chapter_between : (c : ℕ) (xs : List Piece) → rises_by key_cmp (λ (p : PieceParts). p.key) (pieces_view xs) ≡ true
    → (n m : ℕ) → n ≡ before_head c xs → m ≡ prefix_len (λ (x : Piece). x.key.chapter == c) (drop n xs)
    → pieces_view (take m (drop n xs)) ≡ of_chapter c (pieces_view xs)
chapter_between c xs rises n m n_is m_is =
    ap (λ k. pieces_view (take k (drop n xs))) m_is
    ∙ ap (λ k. pieces_view (take (own_len c (drop k xs)) (drop k xs))) n_is
    ∙ ap pieces_view (between c xs (in_turn xs (rises_view xs rises)))
    ∙ view_own c xs
