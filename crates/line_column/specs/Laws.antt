-- That places rise (this project's own rule).
use Rattle.std.specs.Prelude.{◌≡◌, ◌⊎◌, ℕ, ◌<◌, ◌≤◌, true, List, length, slice_index}
use Rattle.line_column.specs.Places.{mark_length, begins_character, place_at}
use Rattle.line_column.specs.declared.walk.Place.{Place}

-- a place comes before another one: it is in an earlier line, or in the same line at an earlier
-- column
abbrev pub ComesBefore : Place → Place → Type 0
ComesBefore a b = (a.line < b.line) ⊎ (a.line ≡ b.line) × (a.column < b.column)

-- Where a character begins at an offset, not before the end of U+FEFF at the front of the text, its
-- place comes before that of each later offset in the text.
abbrev pub PlacesRise : Type 0
PlacesRise = (text : List ℕ) (a b : ℕ) → mark_length text ≤ a → a < b → b ≤ length text
    → begins_character (slice_index text a) ≡ true → ComesBefore (place_at text a) (place_at text b)
