-- The runs of word characters as a reading from the left.
use Rattle.std.specs.Prelude.{ℕ, Bool, true, false, not, List, [], ◌∷◌, take_while, if◌then◌else◌}
use Rattle.std.specs.Prelude.{encode_utf8_all}
use Rattle.concordance.specs.Words.{is_word_char}

-- a word character, or another
abbrev pub is_like : Bool → ℕ → Bool
is_like true c = is_word_char c
is_like false c = not (is_word_char c)

-- what comes after the characters at the front that are so
abbrev pub rest_after : Bool → List ℕ → List ℕ
rest_after is_word [] = []
rest_after is_word (c ∷ cs) = if is_like is_word c then rest_after is_word cs else c ∷ cs

-- the bytes of those characters
abbrev pub front_bytes : Bool → List ℕ → List ℕ
front_bytes is_word cs = encode_utf8_all (take_while (is_like is_word) cs)
