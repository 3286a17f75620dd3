-- The test of what fits, against its definition.
use Rattle.std.proofs.Common.{◌≡◌, ℕ, Bool, true, false, cond, ◌||◌, ◌&&◌, ◌==◌, ◌↔◌, List, [], ◌∷◌, length, refl, sym, ap, ◌∙◌, inl, inr, arith}
use Rattle.std.proofs.lemmas.Bool.{and_parts, and_from, cond-true, cond-false, ne_eqb}
use Rattle.std.specs.Bool.{Decides}
use Rattle.usfm_ref.specs.Keys.{KeyParts, book_head, same_key}
use Rattle.usfm_ref.proofs.Orders.{same_key-is}
use Rattle.usfm_token.specs.Tokens.{tokens_of}
use Rattle.verse_cut.specs.Fits.{FitsKey, FitsBy, Fits}
use Rattle.verse_cut.specs.Reading.{is_headed, is_quiet, leads, is_empty, text_fits, FitsIsRead}
use Rattle.verse_cut.proofs.Headings.{is_headed-is, is_headed-of}
use Rattle.verse_cut.proofs.Quiet.{head_quiet, quiet_head, lead_with, fits_leads}

fits_key : (k : KeyParts) (text : List ℕ) → (is_empty text || leads k (tokens_of text) ≡ true) ↔ FitsKey k text
fits_key k [] = (λ h. inl refl, λ f. refl)
fits_key k (b ∷ bs) = (λ h. inr (lead_with k (b ∷ bs) h), λ f. fits_leads k b bs f)

-- a text fits exactly where the reading says so
pub fits_is_read : FitsIsRead
unfolding text_fits
fits_is_read book k text = by (same_key k book_head)
  where
    by : (e : Bool) → (cond e (is_headed book text && is_quiet book_head (tokens_of text)) (is_empty text || leads k (tokens_of text))
        ≡ true) ↔ FitsBy book k text e
    by true = (
      λ h. let p =
          and_parts (is_headed book text) (is_quiet book_head (tokens_of text)) h in (is_headed-is book text p.0, quiet_head text p.1),
      λ f. and_from (is_headed book text) (is_quiet book_head (tokens_of text)) (is_headed-of book text f.0) (head_quiet text f.1),
    )
    by false = fits_key k text

-- ---- what the steps of a call test

-- the reading of a text tests whether it fits
pub fits_by : (book : List ℕ) (k : KeyParts) (text : List ℕ) (r : Bool) → r ≡ text_fits book k text → Decides r (Fits book k text)
fits_by book k text r is = (λ e. (fits_is_read book k text).0 (sym is ∙ e), λ f. is ∙ (fits_is_read book k text).1 f)

-- at the head of the book
pub fits_head : (book : List ℕ) (k : KeyParts) (text : List ℕ) → same_key k book_head ≡ true
    → (is_headed book text && is_quiet k (tokens_of text)) ≡ text_fits book k text
unfolding text_fits
fits_head book k text h =
    ap (λ (q : KeyParts). is_headed book text && is_quiet q (tokens_of text)) (same_key-is k book_head h)
    ∙ sym (cond-true _ _ _ h)

-- and at every other key
pub fits_other : (book : List ℕ) (k : KeyParts) (text : List ℕ) → same_key k book_head ≡ false
    → (is_empty text || leads k (tokens_of text)) ≡ text_fits book k text
unfolding text_fits
fits_other book k text h = sym (cond-false _ _ _ h)

-- a text is empty where it has no bytes
pub empty_is : (text : List ℕ) → (length text == 0) ≡ is_empty text
empty_is [] = refl
empty_is (b ∷ bs) = ne_eqb (length (b ∷ bs)) 0 (λ e. omega arith)
