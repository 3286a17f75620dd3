-- Texts without characters that a terminal obeys (this project's own rule).
use Rattle.std.specs.Prelude.{ℕ, ◌/◌, ◌%◌, Bool, false, List, [], ◌∷◌, ◌++◌, not, ◌||◌, ◌&&◌, ◌==◌, if◌then◌else◌, chars, encode_utf8_all}
use Rattle.std.specs.List.{flat_map, list_all}
use Rattle.std.specs.Char.{digit_char, is_control}
use Rattle.std.specs.Int.{is_in_range}
use Rattle.plain_line.specs.declared.text.CarriageReturn.{CarriageReturn}
use Rattle.plain_line.specs.declared.text.CarriageReturn.TheVariants.{LeftOut, Spelled}

-- whether a character is a bidirectional control: one of the explicit directional formatting
-- characters of Unicode (UAX 9), U+202A to U+202E and U+2066 to U+2069
abbrev pub is_direction : ℕ → Bool
is_direction c = is_in_range 0x202A 0x202E c || is_in_range 0x2066 0x2069 c

-- whether a terminal obeys a character: a control character (Unicode's general category Cc), or a
-- bidirectional control
abbrev pub is_obeyed : ℕ → Bool
is_obeyed c = is_control c || is_direction c

-- a number below 256 in two hexadecimal digits
abbrev pub two_digits : ℕ → List ℕ
two_digits n = digit_char (n / 16) ∷ digit_char (n % 16) ∷ []

-- a control character: a backslash (92), x (120) and its two digits
abbrev pub control_spelled : ℕ → List ℕ
control_spelled c = 92 ∷ 120 ∷ two_digits c

-- a bidirectional control: a backslash, u (117) and its four digits
abbrev pub direction_spelled : ℕ → List ℕ
direction_spelled c = 92 ∷ 117 ∷ (two_digits (c / 256) ++ two_digits (c % 256))

-- what stands for a character: one that a terminal obeys is spelled out
abbrev pub sign : ℕ → List ℕ
sign c =
    if is_control c then control_spelled c
    else if is_direction c then direction_spelled c
    else c ∷ []

-- whether a character is a line feed (10) or a tab (9)
abbrev pub parts_lines : ℕ → Bool
parts_lines c = (c == 10) || (c == 9)

-- the same, but a line feed and a tab stand for themselves
abbrev pub sign_of_lines : ℕ → List ℕ
sign_of_lines c = if parts_lines c then c ∷ [] else sign c

-- the same, but a line feed stands for itself
abbrev pub sign_of_text : ℕ → List ℕ
sign_of_text c = if c == 10 then c ∷ [] else sign c

-- a text as one line
unfoldable pub line : List ℕ → List ℕ
line text = encode_utf8_all (flat_map sign (chars text))

-- a text as lines
unfoldable pub lines : List ℕ → List ℕ
lines text = encode_utf8_all (flat_map sign_of_lines (chars text))

-- whether a character before others is left out: the carriage return (13) before a line feed, where
-- that is to be
abbrev pub is_left_out : CarriageReturn → ℕ → List ℕ → Bool
is_left_out LeftOut c (d ∷ cs) = (c == 13) && (d == 10)
is_left_out LeftOut c [] = false
is_left_out Spelled c cs = false

-- the characters that are not left out
abbrev pub shown : CarriageReturn → List ℕ → List ℕ
shown returns [] = []
shown returns (c ∷ cs) =
    if is_left_out returns c cs then shown returns cs else c ∷ shown returns cs

-- a text as lines in which also tabs are spelled out, without what is left out
unfoldable pub text : CarriageReturn → List ℕ → List ℕ
text returns bytes = encode_utf8_all (flat_map sign_of_text (shown returns (chars bytes)))

-- whether a text has no character that a terminal obeys
abbrev pub is_plain : List ℕ → Bool
is_plain text = list_all (λ c. not (is_obeyed c)) (chars text)
