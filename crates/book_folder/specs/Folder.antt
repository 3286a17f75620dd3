-- A folder that was read, with what is found in it under books and under names.
use Rattle.std.specs.Prelude.{◌≡◌, ℕ, List, Option, None, Some, option_map, map, if◌then◌else◌}
use Rattle.std.specs.Borrow.{Bor}
use Rattle.std.specs.BTreeMap.{BTreeMap, get_by}
use Rattle.std.specs.Cmp.Lexicographic.{slice_cmp}
use Rattle.std.specs.Option.{option_or}
use Rattle.std.specs.Ordering.{nat_cmp}
use Rattle.usfm_ref.specs.Books.{same_bytes}
use Rattle.book_folder.specs.Files.{FileParts, file_view, found_at, place_of, second_file, second_of_two}
use Rattle.book_folder.specs.Wanted.{FoundParts, NamedParts, SeenParts}
use Rattle.book_folder.specs.declared.folder.Twins.{Twins}
use Rattle.book_folder.specs.declared.folder.UnclearFile.{UnclearFile}
use Rattle.book_folder.specs.declared.refusal.Place.{Place}
use Rattle.book_folder.specs.declared.refusal.Place.TheVariants as places

-- ---- what stands under names

-- places by names
abbrev pub Places : Type 0
Places = BTreeMap (Bor (List ℕ)) Place

-- the place under a name
abbrev pub place_under : Places → List ℕ → Option Place
place_under by_name name = get_by (λ k. slice_cmp nat_cmp name k.now) by_name

-- under a name is the place that is put, and under each other one what was
abbrev pub PutsPlace : Places → List ℕ → Place → Places → Type 0
PutsPlace before name place after =
    (q : List ℕ) →
    place_under after q ≡ (if same_bytes name q then Some place else place_under before q)

-- under no name is anything
abbrev pub HasNone : Places → Type 0
HasNone by_name = (name : List ℕ) → place_under by_name name ≡ None

-- under each name is what else stands under it
abbrev pub HasOthers : List (List ℕ) → Places → Type 0
HasOthers others by_name =
    (name : List ℕ) → place_under by_name name ≡ option_map places.Other (found_at 0 others name)

-- under each name is the file of that name, or else what was
abbrev pub HasFilesOver : Places → List FoundParts → Places → Type 0
HasFilesOver before files after =
    (name : List ℕ) →
    place_under after name
    ≡ option_or (option_map places.File (found_at 0 (map (λ f. f.name) files) name))
    (place_under before name)

-- under each name is what stands under it
abbrev pub HasPlaces : SeenParts → Places → Type 0
HasPlaces seen by_name = (name : List ℕ) → place_under by_name name ≡ place_of seen name

-- ---- files of one book

-- of a file and a later one of its book, the second
abbrev pub second_in : List NamedParts → Twins → UnclearFile
second_in names twins = second_of_two names (file_view twins.file.now) (file_view twins.later.now)

-- there is a file with a later one of its book where there is a second file of a book, and these
-- two tell which one that is
abbrev pub AreTwins : List FileParts → Option Twins → Type 0
AreTwins files twins =
    (names : List NamedParts) → option_map (second_in names) twins ≡ second_file names files
