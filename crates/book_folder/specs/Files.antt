-- Which files of a folder are books' (this project's own rule): by their names, and by how they
-- begin.
use Rattle.std.specs.Prelude.{ℕ, suc, ◌-◌, Bool, false, not, ◌&&◌, ◌||◌, List, [], ◌∷◌, ◌++◌, length, take, drop, map, codes}
use Rattle.std.specs.Prelude.{Option, None, Some, option_map, Result, Ok, Err, if◌then◌else◌}
use Rattle.std.specs.Char.{to_ascii_lowercase}
use Rattle.std.specs.List.{find, list_any}
use Rattle.std.specs.Option.{option_or}
use Rattle.std.specs.Str.{is_utf8}
use Rattle.std.specs.Str.Lossy.{utf8_valid_len}
use Rattle.usfm_ref.specs.Books.{same_bytes}
use Rattle.verse_cut.specs.Reading.{book_in}
use Rattle.verse_cut.specs.declared.fault.BookFault.{BookFault}
use Rattle.book_folder.specs.Wanted.{FoundParts, NamedParts, SeenParts}
use Rattle.book_folder.specs.declared.files.BookFile.{BookFile}
use Rattle.book_folder.specs.declared.folder.UnclearFile.{UnclearFile}
use Rattle.book_folder.specs.declared.refusal.FolderFault.TheVariants as faults
use Rattle.book_folder.specs.declared.refusal.Place.{Place}
use Rattle.book_folder.specs.declared.refusal.Place.TheVariants as places
use Rattle.book_folder.specs.declared.refusal.Refusal.{Refusal}
use Rattle.book_folder.specs.declared.refusal.Refusal.TheVariants.{Of}

-- whether a name is hidden: it begins with a full stop
abbrev pub is_hidden : List ℕ → Bool
is_hidden [] = false
is_hidden (b ∷ rest) = same_bytes (b ∷ []) (codes ".")

-- whether a name has an ending, in any case of the letters A to Z
abbrev pub ends_in : List ℕ → List ℕ → Bool
ends_in name ending =
    same_bytes (map to_ascii_lowercase (drop (length name - length ending) name))
    (map to_ascii_lowercase ending)

-- a file may be a book's that is not hidden and whose name ends in `.usfm` or `.sfm`
abbrev pub may_be_book : List ℕ → Bool
may_be_book name =
    not (is_hidden name) && (ends_in name (codes ".usfm") || ends_in name (codes ".sfm"))

-- a book that was read, or none
abbrev pub book_if : Result (List ℕ) BookFault → Option (List ℕ)
book_if (Ok book) = Some book
book_if (Err fault) = None

-- the book that a file begins with, by its front that is UTF-8
abbrev pub book_begun : List ℕ → Option (List ℕ)
book_begun file = book_if (book_in (take (utf8_valid_len file) file))

-- the text that bytes are, if they are one
abbrev pub text_if : List ℕ → Option (List ℕ)
text_if bytes = if is_utf8 bytes then Some bytes else None

-- ---- the files of books

-- a book's file: which of those that were read it is, its book, its name and its bytes
pub record FileParts : Type 0 where
  pub at : ℕ
  pub book : List ℕ
  pub name : List ℕ
  pub bytes : List ℕ

-- a book's file, as a contract sees it
abbrev pub file_view : BookFile → FileParts
file_view f = record { at = f.at; book = f.book; name = f.name.now; bytes = f.bytes.now }

-- books' files, each as a contract sees it
abbrev pub files_view : List BookFile → List FileParts
files_view files = map file_view files

-- the file of the book that a file begins with, or none
abbrev pub file_if : ℕ → FoundParts → Option (List ℕ) → List FileParts
file_if at found (Some book) =
    record { at = at; book = book; name = found.name; bytes = found.bytes } ∷ []
file_if at found None = []

-- the files that begin with a book's `\id`, where the first has this place
abbrev pub files_from : ℕ → List FoundParts → List FileParts
files_from at [] = []
files_from at (found ∷ later) =
    file_if at found (book_begun found.bytes) ++ files_from (suc at) later

-- whether a book is one of some
abbrev pub is_one_of : List (List ℕ) → List ℕ → Bool
is_one_of books book = list_any (same_bytes book) books

-- whether two files are of one book
abbrev pub are_of_one_book : FileParts → FileParts → Bool
are_of_one_book f g = same_bytes f.book g.book

-- the first file of a book
abbrev pub file_of : List FileParts → List ℕ → Option FileParts
file_of files book = find (λ f. same_bytes f.book book) files

-- the name that was written down of a book's file
abbrev pub name_of : List NamedParts → List ℕ → Option (List ℕ)
name_of names book = option_map (λ n. n.name) (find (λ n. same_bytes n.book book) names)

-- ---- folders in which it is not known which file is a book's

-- whether a name is the one that was written down
abbrev pub is_name : Option (List ℕ) → List ℕ → Bool
is_name None name = false
is_name (Some written) name = same_bytes written name

-- a second file of a book, by its place, and by that of the book's other file
abbrev pub second_of : ℕ → ℕ → UnclearFile
second_of at other = record { place = places.File at; fault = faults.SecondOf other }

-- of two files of a book, that which is not written down as the book's; of two that are not, the
-- later one
abbrev pub second_of_two : List NamedParts → FileParts → FileParts → UnclearFile
second_of_two names f later =
    if is_name (name_of names f.book) later.name
    then second_of f.at later.at else second_of later.at f.at

-- a second file of a book, if there is one
abbrev pub second_file : List NamedParts → List FileParts → Option UnclearFile
second_file names [] = None
second_file names (f ∷ later) =
    option_or (option_map (second_of_two names f) (file_of later f.book)) (second_file names later)

-- the place of the first that has a name, of which the first has this place
abbrev pub found_at : ℕ → List (List ℕ) → List ℕ → Option ℕ
found_at at [] name = None
found_at at (n ∷ later) name = if same_bytes n name then Some at else found_at (suc at) later name

-- what stands under a name: a file, or something else
abbrev pub place_of : SeenParts → List ℕ → Option Place
place_of seen name =
    option_or (option_map places.File (found_at 0 (map (λ f. f.name) seen.files) name))
    (option_map places.Other (found_at 0 seen.others name))

-- whether a name that was written down is still that of its book's file
abbrev pub is_still : List FileParts → NamedParts → Bool
is_still files n = list_any (λ f. same_bytes f.book n.book && same_bytes f.name n.name) files

-- what stands under a name that was written down and is no longer its book's file
abbrev pub lost_at : SeenParts → List FileParts → NamedParts → Option Place
lost_at seen files n = if is_still files n then None else place_of seen n.name

-- the first of these
abbrev pub lost : SeenParts → List FileParts → List NamedParts → Option Place
lost seen files [] = None
lost seen files (n ∷ later) = option_or (lost_at seen files n) (lost seen files later)

-- what stands under the name of a book's file and is no longer that
abbrev pub changed_at : Place → UnclearFile
changed_at place = record { place = place; fault = faults.FileChanged }

-- What is refused of a folder in which it is not known which file is a book's: a second file of a
-- book; or else what stands under the name of a book's file and is no longer that.
abbrev pub unclear : SeenParts → List FileParts → Option UnclearFile
unclear seen files =
    option_or (second_file seen.names files) (option_map changed_at (lost seen files seen.names))

-- the files, unless it is not known which one is a book's
abbrev pub clear_or : Option UnclearFile → List FileParts → Result (List FileParts) Refusal
clear_or None files = Ok files
clear_or (Some u) files = Err (Of u.place u.fault)

-- the books' files of a folder, or the refusal
abbrev pub clear_files : SeenParts → Result (List FileParts) Refusal
clear_files seen = clear_or (unclear seen (files_from 0 seen.files)) (files_from 0 seen.files)
