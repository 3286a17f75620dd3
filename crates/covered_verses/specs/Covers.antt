-- Which verses the text of a verse covers, and whether it is written (this project's own rule, over
-- the bridges and parts of verses of USFM 3.0).
use Rattle.std.specs.Prelude.{ℕ, nat_lt, not, ◌||◌, Bool, false, List, [], ◌∷◌, drop, Option, None, Some, if◌then◌else◌}
use Rattle.std.specs.List.{list_any}
use Rattle.usfm_ref.specs.Numbers.{is_blank, verse_in}
use Rattle.usfm_ref.specs.declared.number.VerseMark.{VerseMark}
use Rattle.usfm_token.specs.Tokens.{Lexeme, mark, words}
use Rattle.covered_verses.specs.declared.covered.Covered.{Covered}

-- ---- what is written

-- whether bytes have one that is no blank
abbrev pub has_ink : List ℕ → Bool
has_ink bytes = list_any (λ b. not (is_blank b)) bytes

-- whether a token is a text that has more than blanks
abbrev pub is_inked : Lexeme → Bool
is_inked (mark m) = false
is_inked (words text) = has_ink text

-- the token's text, empty where it is a mark
abbrev pub plain : Lexeme → List ℕ
plain (mark m) = []
plain (words text) = text

-- the same of a token that may be missing
abbrev pub plain_if_any : Option Lexeme → List ℕ
plain_if_any None = []
plain_if_any (Some t) = plain t

-- of a verse's tokens the text directly after its mark, which has its number
abbrev pub number_text : List Lexeme → List ℕ
number_text [] = []
number_text (t ∷ []) = []
number_text (t ∷ number ∷ rest) = plain number

-- how many bytes a verse's number takes, with the blanks before it and its bridge
abbrev pub number_length : Option VerseMark → ℕ
number_length None = 0
number_length (Some verse) = verse.length

-- Whether a verse's tokens have more than its mark, its number, other marks and blanks. A verse of
-- which no more stands in its book, as in a book that was only laid out, is not written.
abbrev pub is_written : List Lexeme → Bool
is_written ts =
    has_ink (drop (number_length (verse_in (number_text ts))) (number_text ts))
    || list_any is_inked (drop 2 ts)

-- ---- its verses

-- the last verse of a bridge, if there is one
abbrev pub bridge_in : Option VerseMark → Option (ℕ × Option ℕ)
bridge_in None = None
bridge_in (Some verse) = verse.last

-- the last verse that is covered, with the letter of its part: that of a bridge to a greater number,
-- or else the verse itself
abbrev pub end_of : ℕ → Option ℕ → Option (ℕ × Option ℕ) → ℕ × Option ℕ
end_of number letter None = (number, letter)
end_of number letter (Some last) = if nat_lt number last.0 then last else (number, letter)

-- what the tokens cover of the text of a verse that has this number and this letter
abbrev pub covered_by : ℕ → Option ℕ → List Lexeme → Covered
covered_by number letter ts =
    let end = end_of number letter (bridge_in (verse_in (number_text ts))) in
    record {
      first = number;
      letter = letter;
      last = end.0;
      last_letter = end.1;
      written = is_written ts;
    }
