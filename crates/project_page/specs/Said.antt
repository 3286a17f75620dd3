-- How a text of a project stands in a page (this project's own rule, over HTML 5): without what a
-- terminal obeys, with references in the place of what HTML reads as markup, and without characters
-- that HTML does not permit.
use Rattle.std.specs.Prelude.{ℕ, ◌%◌, ◌==◌, nat_le, Bool, ◌||◌, List, [], ◌∷◌, codes, chars, encode_utf8_all, if◌then◌else◌}
use Rattle.std.specs.Int.{is_in_range}
use Rattle.std.specs.List.{flat_map}
use Rattle.plain_line.specs.Plain.{text}
use Rattle.plain_line.specs.declared.text.CarriageReturn.{CarriageReturn}

-- whether a character is a noncharacter (Unicode, section 23.7): U+FDD0 to U+FDEF, and the last two
-- code points of each plane
abbrev pub is_noncharacter : ℕ → Bool
is_noncharacter c = is_in_range 0xFDD0 0xFDEF c || nat_le 0xFFFE (c % 0x1_0000)

-- what stands for a character: a reference for `&` (38), `<` (60), `>` (62), `"` (34) and `'` (39),
-- U+FFFD for a noncharacter, and each other character for itself
abbrev pub reference : ℕ → List ℕ
reference c =
    if c == 38 then codes "&amp;"
    else if c == 60 then codes "&lt;"
    else if c == 62 then codes "&gt;"
    else if c == 34 then codes "&quot;"
    else if c == 39 then codes "&#39;"
    else if is_noncharacter c then 0xFFFD ∷ []
    else c ∷ []

-- a text or a name as it stands in a page
unfoldable pub said : CarriageReturn → List ℕ → List ℕ
said returns bytes = encode_utf8_all (flat_map reference (chars (text returns bytes)))
