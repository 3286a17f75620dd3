-- The text directly after a mark: a number that is read there is read alike where more follows the next mark.
use Rattle.std.proofs.Common.{◌≡◌, ℕ, Bool, true, false, not, ◌==◌, List, [], ◌∷◌, ◌++◌, length, drop, refl, sym, ap, ◌∙◌, eqb-true, take-append-drop}
use Rattle.std.proofs.lemmas.List.{append-nil}
use Rattle.std.specs.List.{before_first, prefix_len}
use Rattle.usfm_ref.specs.Numbers.{chapter_in, verse_in}
use Rattle.usfm_ref.proofs.Runs.{stops, stops-run}
use Rattle.usfm_ref.proofs.Fronts.{chapter_in-before, verse_in-before}
use Rattle.usfm_token.specs.Tokens.{Lexeme, is_backslash, first_lexeme, slice_of, tokens_of}
use Rattle.usfm_token.proofs.TokenLemmas.{tokens_of-nil, tokens_of-cons}
use Rattle.verse_cut.specs.Keys.{text_after}

-- the first text is what stands before the first backslash
text_front : (s : List ℕ) → text_after (tokens_of s) ≡ before_first is_backslash s
text_front [] = ap text_after tokens_of-nil
text_front (b ∷ bs) =
    ap text_after (tokens_of-cons b bs) ∙ by (tokens_of (drop (length (slice_of (first_lexeme b bs))) (b ∷ bs))) (b == 92) refl
  where
    by : (later : List Lexeme) (e : Bool) → (b == 92) ≡ e → text_after (first_lexeme b bs ∷ later) ≡ before_first is_backslash (b ∷ bs)
    by later true is = rw is refl
    by later false is = rw is refl

-- a reading that a backslash ends reads what stands before the first one
module _ {T : Type 0} (read : List ℕ → T) (ends : (front rest : List ℕ) → read (front ++ 92 ∷ rest) ≡ read front) where
  reads_front : (s : List ℕ) → read s ≡ read (before_first is_backslash s)
  reads_front s =
      by (drop (prefix_len (λ b. not (is_backslash b)) s) s) (stops-run (λ b. not (is_backslash b)) s)
      (take-append-drop (prefix_len (λ b. not (is_backslash b)) s) s)
    where
      by : (rest : List ℕ) → stops (λ b. not (is_backslash b)) rest ≡ true → before_first is_backslash s ++ rest ≡ s
          → read s ≡ read (before_first is_backslash s)
      by [] h is = ap read (sym is ∙ append-nil (before_first is_backslash s))
      by (b ∷ rest) h is = step (b == 92) refl h
        where
          step : (e : Bool) → (b == 92) ≡ e → not (not e) ≡ true → read s ≡ read (before_first is_backslash s)
          step true byte ok =
              ap read (sym is ∙ ap (λ x. before_first is_backslash s ++ x ∷ rest) (eqb-true b 92 byte))
              ∙ ends (before_first is_backslash s) rest
          step false byte ok = cc

-- the chapter's number in what follows a mark is that in the text directly after it
pub chapter_after_mark : (s : List ℕ) → chapter_in s ≡ chapter_in (text_after (tokens_of s))
chapter_after_mark s = reads_front chapter_in chapter_in-before s ∙ ap chapter_in (sym (text_front s))

-- and so is the verse
pub verse_after_mark : (s : List ℕ) → verse_in s ≡ verse_in (text_after (tokens_of s))
verse_after_mark s = reads_front verse_in verse_in-before s ∙ ap verse_in (sym (text_front s))
