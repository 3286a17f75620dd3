-- Paths that are named from a folder (POSIX, Base Definitions, "Pathname Resolution"; which path is
-- written is this project's own rule).
use Rattle.std.specs.Prelude.{ℕ, ◌-◌, ◌==◌, Bool, true, false, List, [], ◌∷◌, ◌++◌, codes, length, map, slice_get, Option, Some, None, if◌then◌else◌}
use Rattle.std.specs.Borrow.{Bor}
use Rattle.std.specs.List.{flat_map, slice_split}
use Rattle.std.specs.Str.{bytes_eq}

-- whether a byte is a slash
abbrev pub is_slash : ℕ → Bool
is_slash b = b == 47

-- whether a path begins with a slash, and so is the same from each folder
abbrev pub is_absolute : List ℕ → Bool
is_absolute [] = false
is_absolute (b ∷ path) = is_slash b

-- ---- a path of a folder

-- a slash, unless a byte is one
abbrev pub slash_unless : Option ℕ → List ℕ
slash_unless None = 47 ∷ []
slash_unless (Some b) = if is_slash b then [] else 47 ∷ []

-- the slash that divides a folder from a name in it, unless the folder ends in it
abbrev pub slash_after : List ℕ → List ℕ
slash_after folder = slash_unless (slice_get folder (length folder - 1))

-- whether a path is `.`, the folder that one is in
abbrev pub is_here : List ℕ → Bool
is_here folder = bytes_eq folder (codes ".")

-- A path that is named from a folder, as one names it who names the folder so: one that begins with
-- a slash as it is, and so is each from `.`.
abbrev pub path_in : List ℕ → List ℕ → List ℕ
path_in folder path =
    if is_absolute path then path
    else if is_here folder then path
    else folder ++ slash_after folder ++ path

-- ---- the same path from another folder

-- a part of a path between slashes, unless it is empty
abbrev pub name_if : List ℕ → List (List ℕ)
name_if [] = []
name_if (b ∷ name) = (b ∷ name) ∷ []

-- the names in a path, which slashes divide
abbrev pub names_of : List ℕ → List (List ℕ)
names_of path = flat_map name_if (slice_split is_slash path)

-- what is left of two lists after the longest front that both have
abbrev pub apart : List (List ℕ) → List (List ℕ) → List (List ℕ) × List (List ℕ)
apart [] there = ([], there)
apart (a ∷ here) [] = (a ∷ here, [])
apart (a ∷ here) (b ∷ there) =
    if bytes_eq a b then apart here there else (a ∷ here, b ∷ there)

-- out of a folder by `../`
abbrev pub out_of : List ℕ → List ℕ
out_of name = codes "../"

-- into a folder by its name and a slash
abbrev pub into : List ℕ → List ℕ
into name = name ++ 47 ∷ []

-- the way from one folder to another: out of each that they have not in common, and into the others
abbrev pub way : List (List ℕ) × List (List ℕ) → List ℕ
way parts = flat_map out_of parts.0 ++ flat_map into parts.1

-- A path that is named from one folder, as it is named from another one, where each of both is the
-- whole path of a folder, without links, `.` and `..`: a path that begins with a slash as it is; any
-- other by the way to its folder.
abbrev pub path_from : List ℕ → List ℕ → List ℕ → List ℕ
path_from folder here path =
    if is_absolute path then path else way (apart (names_of folder) (names_of here)) ++ path

-- whether nothing is left of a list
abbrev pub is_none_left : List (List ℕ) → Bool
is_none_left [] = true
is_none_left (name ∷ names) = false

-- Whether a folder is another one or stands in it, at whatever depth, where each is given by its
-- whole path, without links, `.` and `..`.
abbrev pub is_within : List ℕ → List ℕ → Bool
is_within folder path = is_none_left (apart (names_of folder) (names_of path)).0

-- two lists of names, as a contract sees them
abbrev pub names_view : List (Bor (List ℕ)) → List (List ℕ)
names_view names = map (λ n. n.now) names
