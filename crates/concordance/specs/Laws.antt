-- What holds of the runs of word characters in every passage.
use Rattle.std.specs.Prelude.{◌≡◌, ℕ, ◌+◌, ◌<◌, nat_le, nat_lt, Bool, false, ◌&&◌, List, [], ◌∷◌}
use Rattle.std.specs.Prelude.{◌++◌, All, count_by, length, if◌then◌else◌, chars, encode_utf8_all}
use Rattle.std.specs.List.{AllPass}
use Rattle.concordance.specs.Passages.{Passage}
use Rattle.concordance.specs.Words.{is_word_char, runs_in}

-- A run is a longest one of a passage. The passage's characters are those before the run, the run's
-- own, and those after it; the run has at least one, and all of its own are word characters. The
-- last one before it is none, and the first one after it is none; or there is none before, or
-- after.
pub record IsLongestRun (p run : Passage) : Type 0 where
  pub before : List ℕ
  pub own : List ℕ
  pub after : List ℕ
  pub characters : chars p.text ≡ before ++ (own ++ after)
  pub start : run.start ≡ p.start + length (encode_utf8_all before)
  pub bytes : run.text ≡ encode_utf8_all own
  pub some : 0 < length own
  pub of_words : AllPass is_word_char own
  pub none_before : (front : List ℕ) (c : ℕ) → before ≡ front ++ c ∷ [] → is_word_char c ≡ false
  pub none_after : (c : ℕ) (rest : List ℕ) → after ≡ c ∷ rest → is_word_char c ≡ false

-- each run of a passage is a longest one
abbrev pub RunsAreLongest : Type 0
RunsAreLongest = (p : Passage) → All (IsLongestRun p) (runs_in p)

-- a place lies in a passage
abbrev pub lies_in : ℕ → Passage → Bool
lies_in at p = nat_le p.start at && nat_lt at (p.start + length p.text)

-- A character that is in a passage after others lies in exactly one run of the passage if it is a
-- word character, and else in none.
abbrev pub WordCharactersAreInOneRun : Type 0
WordCharactersAreInOneRun =
    (p : Passage) (before : List ℕ) (c : ℕ) (after : List ℕ)
    → chars p.text ≡ before ++ c ∷ after
    → count_by (lies_in (p.start + length (encode_utf8_all before))) (runs_in p)
    ≡ (if is_word_char c then 1 else 0)
