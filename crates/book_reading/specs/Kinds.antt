-- The kinds of blocks, by the names of their paragraphs' marks.
--
-- The USFM 3.0 documentation has these marks among its titles and headings, its poetry, its lists,
-- its identification, and in the same way for introductions; a digit at a name's end is a level,
-- and a name without one is the first. That all others are prose is this project's own rule.
use Rattle.std.specs.Prelude.{ℕ, ◌-◌, nat_le, Bool, ◌&&◌, List, [], ◌∷◌, length, take, slice_index}
use Rattle.std.specs.Prelude.{codes, if◌then◌else◌}
use Rattle.std.specs.List.{list_any}
use Rattle.std.specs.Str.{bytes_eq}
use Rattle.book_reading.specs.declared.kind.BlockKind.{BlockKind}
use Rattle.book_reading.specs.declared.kind.BlockKind.TheVariants.{Chapter, Heading, Poetry, Item, About, Prose}

-- the last byte of a name, and 0 where it has none
abbrev pub last_of : List ℕ → ℕ
last_of name = slice_index name (length name - 1)

-- a digit from 1 (49) to 9 (57)
abbrev pub is_level : ℕ → Bool
is_level b = nat_le 49 b && nat_le b 57

-- the level that a name ends with, and 1 where it ends with none
abbrev pub level_of : List ℕ → ℕ
level_of name = if is_level (last_of name) then last_of name - 48 else 1

-- a name without its level
abbrev pub stem_of : List ℕ → List ℕ
stem_of name = if is_level (last_of name) then take (length name - 1) name else name

-- whether a name is one of these
abbrev pub is_one_of : List ℕ → List (List ℕ) → Bool
is_one_of name names = list_any (λ n. bytes_eq n name) names

-- titles, headings and labels
unfoldable pub headings : List (List ℕ)
headings =
    codes "mt" ∷ codes "mte" ∷ codes "ms" ∷ codes "mr" ∷ codes "s" ∷ codes "sr" ∷ codes "r"
    ∷ codes "d" ∷ codes "sp" ∷ codes "sd" ∷ codes "cl" ∷ codes "cd" ∷ codes "qa" ∷ codes "imt"
    ∷ codes "imte" ∷ codes "is" ∷ codes "iot" ∷ []

-- lines of poetry
unfoldable pub poetry : List (List ℕ)
poetry =
    codes "q" ∷ codes "qr" ∷ codes "qc" ∷ codes "qd" ∷ codes "qm" ∷ codes "iq" ∷ []

-- items of lists, and of an introduction's outline
unfoldable pub items : List (List ℕ)
items = codes "li" ∷ codes "lim" ∷ codes "ili" ∷ codes "io" ∷ []

-- the book's code and names, and what is said of the file
unfoldable pub about : List (List ℕ)
about =
    codes "id" ∷ codes "usfm" ∷ codes "ide" ∷ codes "sts" ∷ codes "rem" ∷ codes "h" ∷ codes "toc"
    ∷ codes "toca" ∷ []

-- the kind of a block, by the name of its paragraph's mark
unfoldable pub block_kind : List ℕ → BlockKind
block_kind name =
    let stem = stem_of name in
    let level = level_of name in
    if bytes_eq name (codes "c") then Chapter
    else if is_one_of stem headings then Heading level
    else if is_one_of stem poetry then Poetry level
    else if is_one_of stem items then Item level
    else if is_one_of stem about then About
    else Prose
