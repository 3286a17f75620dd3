-- Where an offset of a text is, by lines and columns, as editors and compilers count them: a line
-- ends with a line feed, and a column is a character (this project's own rule). U+FEFF at the front
-- of a text is a signature and no part of it (The Unicode Standard, 23.8).
use Rattle.std.specs.Prelude.{ℕ, ◌+◌, Bool, ◌||◌, ◌==◌, nat_le, nat_lt, List, [], ◌∷◌, length, take, drop, filter, if◌then◌else◌}
use Rattle.std.specs.Cmp.Lexicographic.{pointwise}
use Rattle.std.specs.List.{after_last}
use Rattle.line_column.specs.declared.walk.Place.{Place}

-- a line feed
abbrev pub is_line_feed : ℕ → Bool
is_line_feed b = b == 10

-- a byte of UTF-8 that begins a character: one that goes on with none (RFC 3629)
abbrev pub begins_character : ℕ → Bool
begins_character b = nat_lt b 128 || nat_le 192 b

-- U+FEFF in UTF-8
abbrev pub byte_order_mark : List ℕ
byte_order_mark = 239 ∷ 187 ∷ 191 ∷ []

-- how many bytes at the front of a text are U+FEFF
abbrev pub mark_length : List ℕ → ℕ
mark_length text = if pointwise ◌==◌ (take 3 text) byte_order_mark then 3 else 0

-- the line and the column at the end of bytes: 1 and the line feeds, and 1 and the characters after
-- the last line feed
abbrev pub end_of : List ℕ → Place
end_of bytes = record {
  line = 1 + length (filter is_line_feed bytes);
  column = 1 + length (filter begins_character (after_last is_line_feed bytes));
}

-- the bytes of a text before an offset, without U+FEFF at the front
abbrev pub before : List ℕ → ℕ → List ℕ
before text offset = drop (mark_length text) (take offset text)

-- the line and the column of an offset
abbrev pub place_at : List ℕ → ℕ → Place
place_at text offset = end_of (before text offset)
