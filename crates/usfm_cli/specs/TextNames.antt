-- Which files of a folder are texts that have another ending than books' files (this project's own
-- rule).
use Rattle.std.specs.Prelude.{ℕ, ◌-◌, Bool, false, not, ◌&&◌, List, [], ◌∷◌, length, drop, map, codes}
use Rattle.std.specs.Char.{to_ascii_lowercase}
use Rattle.usfm_ref.specs.Books.{same_bytes}

-- whether a name is hidden: it begins with a full stop
abbrev pub is_hidden : List ℕ → Bool
is_hidden [] = false
is_hidden (b ∷ rest) = same_bytes (b ∷ []) (codes ".")

-- whether a name has an ending, in any case of the letters A to Z
abbrev pub ends_in : List ℕ → List ℕ → Bool
ends_in name ending =
    same_bytes (map to_ascii_lowercase (drop (length name - length ending) name))
    (map to_ascii_lowercase ending)

-- a file is such a text that is not hidden and whose name ends in `.txt`
abbrev pub is_text_name : List ℕ → Bool
is_text_name name = not (is_hidden name) && ends_in name (codes ".txt")
