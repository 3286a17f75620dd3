-- A key is covered by a bridge where the pieces before it go to it, and so where the greatest key does to which one of them goes.
use Rattle.std.proofs.Common.{◌≡◌, ℕ, zero, suc, ◌-◌, ◌<◌, Bool, true, false, cond, ◌&&◌, ◌||◌, List, [], ◌∷◌, length, take, get_or, Option, None, Some}
use Rattle.std.proofs.Common.{arith, refl, sym, ap, ◌∙◌}
use Rattle.std.specs.List.{list_any}
use Rattle.std.specs.Ordering.{is_gt, is_le, is_lt, ordering_reverse}
use Rattle.std.specs.declared.cmp.Ordering.{Ordering}
use Rattle.std.specs.declared.cmp.Ordering.TheVariants.{Less, Equal, Greater}
use Rattle.std.proofs.lemmas.Bool.{false≢true, true≢false}
use Rattle.usfm_ref.specs.Keys.{KeyParts, key_cmp}
use Rattle.usfm_ref.specs.Rising.{rises_by}
use Rattle.usfm_ref.proofs.Orders.{key_exact, key_total}
use Rattle.usfm_ref.proofs.Sorted.{Above, first_above, is_less, parts, place, place_here, place_later}
use Rattle.verse_cut.specs.Views.{piece_view, pieces_view}
use Rattle.verse_cut.specs.declared.cutter.Piece.{Piece}
use Rattle.book_folder.specs.BridgeLoops.{farther, farthest_from}
use Rattle.book_folder.specs.Bridges.{goes_to, is_covered}

abbrev key_of : Piece → KeyParts
key_of p = p.key

-- ---- the order of keys

-- what is up to a key is up to a later one
le_later : (q a b : KeyParts) → key_cmp a b ≡ Less → is_le (key_cmp q a) ≡ true → is_le (key_cmp q b) ≡ true
le_later q a b l h = by (key_cmp q a) refl h
  where
    by : (o : Ordering) → key_cmp q a ≡ o → is_le o ≡ true → is_le (key_cmp q b) ≡ true
    by Less e h = ap is_le (key_total.trans q a b e l)
    by Equal e h = ap is_le (key_total.congr q a b e ∙ l)
    by Greater e h = absurd (false≢true h)

or_of : (x y : Bool) → (y ≡ true → x ≡ true) → x ≡ (x || y)
or_of true y h = refl
or_of false true h = h refl
or_of false false h = refl

or_by : (x y : Bool) → (x ≡ true → y ≡ true) → y ≡ (x || y)
or_by true y h = h refl
or_by false y h = refl

-- the greater of two keys is reached where one of them is
le_farther : (q f e : KeyParts) → is_le (key_cmp q (farther (Some f) e)) ≡ (is_le (key_cmp q f) || is_le (key_cmp q e))
le_farther q f e = by (key_cmp f e) refl
  where
    by : (o : Ordering) → key_cmp f e ≡ o
        → is_le (key_cmp q (cond (is_gt o) f e)) ≡ (is_le (key_cmp q f) || is_le (key_cmp q e))
    by Less l = or_by (is_le (key_cmp q f)) (is_le (key_cmp q e)) (le_later q f e l)
    by Equal l = or_by (is_le (key_cmp q f)) (is_le (key_cmp q e)) (λ h. ap (λ k. is_le (key_cmp q k)) (sym (key_exact f e l)) ∙ h)
    by Greater l = or_of (is_le (key_cmp q f)) (is_le (key_cmp q e))
        (le_later q e f (key_total.antisymm e f ∙ ap ordering_reverse l))

-- ---- how far the pieces go

abbrev within : KeyParts → Option KeyParts → Bool
within q None = false
within q (Some far) = is_le (key_cmp q far)

abbrev reaches : KeyParts → Piece → Bool
reaches q p = is_le (key_cmp q (goes_to (piece_view p)))

next_within : (q : KeyParts) (far : Option KeyParts) (e : KeyParts)
    → is_le (key_cmp q (farther far e)) ≡ (within q far || is_le (key_cmp q e))
next_within q None e = refl
next_within q (Some f) e = le_farther q f e

or_none : (x : Bool) → (x || false) ≡ x
or_none true = refl
or_none false = refl

or_assoc : (x y z : Bool) → ((x || y) || z) ≡ (x || (y || z))
or_assoc true y z = refl
or_assoc false y z = refl

farthest_is : (q : KeyParts) (far : Option KeyParts) (ps : List Piece) (n : ℕ) (d : KeyParts) → n < length ps
    → is_le (key_cmp q (get_or (farthest_from far (pieces_view ps)) n d)) ≡ (within q far || list_any (reaches q) (take (suc n) ps))
farthest_is q far [] n d l = absurd (omega arith)
farthest_is q far (p ∷ ps) zero d l =
    next_within q far (goes_to (piece_view p)) ∙ ap (λ b. within q far || b) (sym (or_none (reaches q p)))
farthest_is q far (p ∷ ps) (suc n) d l =
    farthest_is q (Some (farther far (goes_to (piece_view p)))) ps n d (omega arith)
    ∙ ap (λ b. b || list_any (reaches q) (take (suc n) ps)) (next_within q far (goes_to (piece_view p)))
    ∙ or_assoc (within q far) (reaches q p) (list_any (reaches q) (take (suc n) ps))

pub farthest_length : (far : Option KeyParts) (ps : List Piece) → length (farthest_from far (pieces_view ps)) ≡ length ps
farthest_length far [] = refl
farthest_length far (p ∷ ps) = ap suc (farthest_length (Some (farther far (goes_to (piece_view p)))) ps)

-- ---- which pieces cover a key

-- no piece does that is not before it
none_later : (q a : KeyParts) (ps : List Piece) → is_lt (key_cmp a q) ≡ false → Above key_cmp key_total key_of a ps
    → is_covered (pieces_view ps) q ≡ false
none_later q a [] h above = refl
none_later q a (p ∷ ps) h above =
    let first = first_above key_cmp key_total key_of a p ps above in
    λ i. (one (is_lt (key_cmp p.key q)) refl first.0 i && reaches q p) || none_later q a ps h first.1 i
  where
    one : (b : Bool) → is_lt (key_cmp p.key q) ≡ b → is_lt (key_cmp a p.key) ≡ true → is_lt (key_cmp p.key q) ≡ false
    one false e l = e
    one true e l = absurd (true≢false (sym (ap is_lt (key_total.trans a p.key q (is_less _ l) (is_less _ e))) ∙ h))

-- how many pieces come before a key
abbrev before : KeyParts → List Piece → ℕ
before q ps = place key_cmp key_total key_of q ps

-- the pieces before a key cover it where one of them goes to it
covered_before : (q : KeyParts) (ps : List Piece) → rises_by key_cmp key_of ps ≡ true
    → is_covered (pieces_view ps) q ≡ list_any (reaches q) (take (before q ps) ps)
covered_before q [] h = refl
covered_before q (p ∷ ps) h =
    by (is_lt (key_cmp p.key q)) refl (covered_before q ps (parts key_cmp key_total key_of p ps h).1)
  where
    by : (b : Bool) → is_lt (key_cmp p.key q) ≡ b
        → is_covered (pieces_view ps) q ≡ list_any (reaches q) (take (before q ps) ps)
        → ((b && reaches q p) || is_covered (pieces_view ps) q) ≡ list_any (reaches q) (take (before q (p ∷ ps)) (p ∷ ps))
    by true e later =
        ap (λ b. reaches q p || b) later
        ∙ ap (λ n. list_any (reaches q) (take n (p ∷ ps))) (sym (place_later key_cmp key_total key_of q p ps e))
    by false e later =
        none_later q p.key ps e (parts key_cmp key_total key_of p ps h).0
        ∙ ap (λ n. list_any (reaches q) (take n (p ∷ ps))) (sym (place_here key_cmp key_total key_of q p ps e))

-- so none does where no piece comes before it
pub covered_none : (q : KeyParts) (ps : List Piece) → rises_by key_cmp key_of ps ≡ true → before q ps ≡ 0
    → is_covered (pieces_view ps) q ≡ false
covered_none q ps h none = covered_before q ps h ∙ ap (λ n. list_any (reaches q) (take n ps)) none

-- and else where the greatest key to which they go is not below it
pub covered_at : (q : KeyParts) (ps : List Piece) (n : ℕ) (d : KeyParts) → rises_by key_cmp key_of ps ≡ true → before q ps ≡ suc n
    → n < length ps → is_covered (pieces_view ps) q ≡ is_le (key_cmp q (get_or (farthest_from None (pieces_view ps)) n d))
covered_at q ps n d h some l =
    covered_before q ps h ∙ ap (λ n. list_any (reaches q) (take n ps)) some ∙ sym (farthest_is q None ps n d l)

-- a number that is not 0 comes after the one before it
pub after_one : (n : ℕ) → (n ≡ 0 → ⊥) → n ≡ suc (n - 1)
after_one zero h = absurd (h refl)
after_one (suc n) h = omega arith
