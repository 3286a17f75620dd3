-- A place in a text, shown by its line (this project's own rule).
use Rattle.std.specs.Prelude.{ℕ, ◌+◌, ◌-◌, Bool, not, ◌&&◌, ◌||◌, ◌==◌, nat_le, nat_lt, List, ◌∷◌, ◌++◌, take, drop, take_while, slice_range, codes}
use Rattle.std.specs.List.{prefix_len, after_last}
use Rattle.std.specs.Str.Lossy.{utf8_lossy}
use Rattle.plain_line.specs.Plain.{line}
use Rattle.line_excerpt.specs.declared.excerpt.SetOff.{SetOff}
use Rattle.line_excerpt.specs.declared.excerpt.SetOff.TheVariants.{Brackets, Reverse}

-- how many bytes of a line are shown at most on either side of a place, but for the rest of a
-- character
abbrev pub reach : ℕ
reach = 200

-- a byte that ends a line: a line feed (10) or a carriage return (13)
abbrev pub ends_line : ℕ → Bool
ends_line b = b == 10 || b == 13

-- a byte that ends no line
abbrev pub is_in_line : ℕ → Bool
is_in_line b = not (ends_line b)

-- a byte of UTF-8 that goes on with a character (RFC 3629)
abbrev pub is_continuation : ℕ → Bool
is_continuation b = nat_le 128 b && nat_lt b 192

-- what comes after the rest of a character at the front
abbrev pub after_continued : List ℕ → List ℕ
after_continued bytes = drop (prefix_len is_continuation bytes) bytes

-- what comes before a place in its line, of the bytes within reach, without the rest of a character
-- whose first byte is not
abbrev pub before : List ℕ → ℕ → List ℕ
before text at = after_continued (after_last ends_line (slice_range text (at - reach) at))

-- this many bytes at the front, and the rest of the character that they end in
abbrev pub whole_characters : ℕ → List ℕ → List ℕ
whole_characters count bytes = take (count + prefix_len is_continuation (drop count bytes)) bytes

-- the line from a place on: of this many bytes and of those that are within reach after them
abbrev pub from_place : List ℕ → ℕ → ℕ → List ℕ
from_place text start len =
    take_while is_in_line (whole_characters (len + reach) (drop start text))

-- a part of the text: as it is between brackets, and at a terminal without control characters
abbrev pub shown : SetOff → List ℕ → List ℕ
shown Brackets part = part
shown Reverse part = line (utf8_lossy part)

-- what comes before what is set off
abbrev pub opening : SetOff → List ℕ
opening Brackets = codes "["
opening Reverse = 27 ∷ codes "[7m"

-- and what comes after it
abbrev pub closing : SetOff → List ℕ
closing Brackets = codes "]"
closing Reverse = 27 ∷ codes "[27m"

-- what is set off
abbrev pub found_shown : SetOff → List ℕ → List ℕ
found_shown set_off found = opening set_off ++ shown set_off found ++ closing set_off

-- the line of a place, where this many bytes from the place on are set off, as far as they are in
-- the line
abbrev pub excerpt : SetOff → List ℕ → ℕ → ℕ → List ℕ
excerpt set_off text start len =
    let line = from_place text start len in
    shown set_off (before text start) ++ found_shown set_off (take len line)
    ++ shown set_off (drop len line)
