-- What holds of every text, which is UTF-8.
use Rattle.std.specs.Prelude.{◌≡◌, ℕ, Bool, List, not, ◌||◌, ◌==◌, chars, IsTrue}
use Rattle.std.specs.List.{list_all}
use Rattle.std.specs.Str.Lossy.{utf8_lossy}
use Rattle.plain_line.specs.Plain.{line, lines, text, is_plain, is_obeyed, parts_lines}
use Rattle.plain_line.specs.declared.text.CarriageReturn.{CarriageReturn}

-- the line has no character that a terminal obeys
abbrev pub LineIsPlain : List ℕ → Type 0
LineIsPlain bytes = IsTrue (is_plain (line bytes))

-- each such character of the lines is a line feed or a tab
abbrev pub LinesArePlain : List ℕ → Type 0
LinesArePlain bytes =
    IsTrue (list_all (λ c. parts_lines c || not (is_obeyed c)) (chars (lines bytes)))

-- whether each such character is a line feed
abbrev pub is_plain_text : List ℕ → Bool
is_plain_text bytes = list_all (λ c. (c == 10) || not (is_obeyed c)) (chars bytes)

-- so it is of a text in which tabs are spelled out
abbrev pub TextIsPlain : CarriageReturn → List ℕ → Type 0
TextIsPlain returns bytes = IsTrue (is_plain_text (text returns bytes))

-- the line that is written of any bytes has no such character
abbrev pub BytesArePlain : List ℕ → Type 0
BytesArePlain bytes = LineIsPlain (utf8_lossy bytes)

-- a text without such a character is its own line
abbrev pub PlainStays : List ℕ → Type 0
PlainStays bytes = IsTrue (is_plain bytes) → line bytes ≡ bytes

-- a text without such a character but line feeds is written as it is
abbrev pub PlainTextStays : CarriageReturn → List ℕ → Type 0
PlainTextStays returns bytes = IsTrue (is_plain_text bytes) → text returns bytes ≡ bytes
