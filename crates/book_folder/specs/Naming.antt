-- How the files of books are named, and which file is which book's as it is written down (this
-- project's own rule; the numbers are USFM 3.0's and Paratext's).
use Rattle.std.specs.Prelude.{ℕ, ◌==◌, Bool, true, false, not, ◌&&◌, ◌||◌, List, [], ◌∷◌, ◌++◌, take, drop, map, filter, codes}
use Rattle.std.specs.Prelude.{Option, None, Some, option_map, unwrap_or, Result, Ok, Err, if◌then◌else◌}
use Rattle.std.specs.Bool.{beq}
use Rattle.std.specs.Borrow.{Bor}
use Rattle.std.specs.List.{find, list_all, list_any, flat_map, filter_map, slice_split, before_first, after_first}
use Rattle.std.specs.Option.{is_none, option_and_then, option_or}
use Rattle.std.specs.Str.{is_utf8}
use Rattle.usfm_ref.specs.Books.{book_cmp, is_book_code, same_bytes}
use Rattle.usfm_ref.specs.Rising.{rising}
use Rattle.book_folder.specs.Bases.{other_than}
use Rattle.book_folder.specs.Files.{FileParts, file_of, may_be_book, name_of, place_of}
use Rattle.book_folder.specs.Refusals.{◌>>=◌}
use Rattle.book_folder.specs.Wanted.{NamedParts, SeenParts, WishParts}
use Rattle.book_folder.specs.declared.naming.Form.{Form}
use Rattle.book_folder.specs.declared.names.BookName.{BookName}
use Rattle.book_folder.specs.declared.refusal.FolderFault.TheVariants as faults
use Rattle.book_folder.specs.declared.refusal.Place.{Place}
use Rattle.book_folder.specs.declared.refusal.Place.TheVariants as places
use Rattle.book_folder.specs.declared.refusal.Refusal.{Refusal}
use Rattle.book_folder.specs.declared.refusal.Refusal.TheVariants.{Of}

-- ---- the numbers of books

-- the books that have a number in the names of files, each by the two bytes of its number and its
-- code, as USFM 3.0's table of book identifiers has them and Paratext writes them
abbrev pub numbered_books : List (List ℕ)
numbered_books =
    codes "01GEN" ∷ codes "02EXO" ∷ codes "03LEV" ∷ codes "04NUM" ∷ codes "05DEU" ∷ codes "06JOS"
    ∷ codes "07JDG" ∷ codes "08RUT" ∷ codes "091SA" ∷ codes "102SA" ∷ codes "111KI" ∷ codes "122KI"
    ∷ codes "131CH" ∷ codes "142CH" ∷ codes "15EZR" ∷ codes "16NEH" ∷ codes "17EST" ∷ codes "18JOB"
    ∷ codes "19PSA" ∷ codes "20PRO" ∷ codes "21ECC" ∷ codes "22SNG" ∷ codes "23ISA" ∷ codes "24JER"
    ∷ codes "25LAM" ∷ codes "26EZK" ∷ codes "27DAN" ∷ codes "28HOS" ∷ codes "29JOL" ∷ codes "30AMO"
    ∷ codes "31OBA" ∷ codes "32JON" ∷ codes "33MIC" ∷ codes "34NAM" ∷ codes "35HAB" ∷ codes "36ZEP"
    ∷ codes "37HAG" ∷ codes "38ZEC" ∷ codes "39MAL" ∷ codes "41MAT" ∷ codes "42MRK" ∷ codes "43LUK"
    ∷ codes "44JHN" ∷ codes "45ACT" ∷ codes "46ROM" ∷ codes "471CO" ∷ codes "482CO" ∷ codes "49GAL"
    ∷ codes "50EPH" ∷ codes "51PHP" ∷ codes "52COL" ∷ codes "531TH" ∷ codes "542TH" ∷ codes "551TI"
    ∷ codes "562TI" ∷ codes "57TIT" ∷ codes "58PHM" ∷ codes "59HEB" ∷ codes "60JAS" ∷ codes "611PE"
    ∷ codes "622PE" ∷ codes "631JN" ∷ codes "642JN" ∷ codes "653JN" ∷ codes "66JUD" ∷ codes "67REV"
    ∷ codes "68TOB" ∷ codes "69JDT" ∷ codes "70ESG" ∷ codes "71WIS" ∷ codes "72SIR" ∷ codes "73BAR"
    ∷ codes "74LJE" ∷ codes "75S3Y" ∷ codes "76SUS" ∷ codes "77BEL" ∷ codes "781MA" ∷ codes "792MA"
    ∷ codes "803MA" ∷ codes "814MA" ∷ codes "821ES" ∷ codes "832ES" ∷ codes "84MAN" ∷ codes "85PS2"
    ∷ codes "86ODA" ∷ codes "87PSS" ∷ codes "A0FRT" ∷ codes "A1BAK" ∷ codes "A2OTH" ∷ codes "A4EZA"
    ∷ codes "A55EZ" ∷ codes "A66EZ" ∷ codes "A7INT" ∷ codes "A8CNC" ∷ codes "A9GLO" ∷ codes "B0TDX"
    ∷ codes "B1NDX" ∷ codes "B2DAG" ∷ codes "B3PS3" ∷ codes "B42BA" ∷ codes "B5LBA" ∷ codes "B6JUB"
    ∷ codes "B7ENO" ∷ codes "B81MQ" ∷ codes "B92MQ" ∷ codes "C03MQ" ∷ codes "C1REP" ∷ codes "C24BA"
    ∷ codes "C3LAO" ∷ []

-- a number and a book's code
abbrev pub Numbered : Type 0
Numbered = List ℕ × List ℕ

-- the number and the code that a row has
abbrev pub numbered_row : List ℕ → Numbered
numbered_row row = (take 2 row, drop 2 row)

-- the table of numbers
unfoldable pub numbers : List Numbered
numbers = map numbered_row numbered_books

-- a number and a book's code, as a contract sees them
abbrev pub numbered_view : Bor (List ℕ) × Bor (List ℕ) → Numbered
numbered_view r = (r.0.now, r.1.now)

-- the number that a table has of a book, if it has one
abbrev pub number_in : List Numbered → List ℕ → Option (List ℕ)
number_in table book = option_map (λ r. r.0) (find (λ r. same_bytes r.1 book) table)

-- the number of a book, if it has one
abbrev pub number_of : List ℕ → Option (List ℕ)
number_of book = number_in numbers book

-- ---- forms of names

-- How a name is made of a book: with the book's number before its code, or without; and with this
-- ending after it.
pub record FormParts : Type 0 where
  pub has_number : Bool
  pub end : List ℕ

-- how a name is made, as a contract sees it
abbrev pub form_view : Form → FormParts
form_view f = record { has_number = f.has_number; end = f.end.now }

-- a form with the number, or without, and its ending
abbrev pub form : Bool → List ℕ → FormParts
form has_number end = record { has_number = has_number; end = end }

-- `CODE.usfm`
abbrev pub default_form : FormParts
default_form = form false (codes ".usfm")

-- the name that a form makes of a book: a book without a number has none in any form
abbrev pub name_by : FormParts → List ℕ → List ℕ
name_by f book =
    (if f.has_number then unwrap_or (number_of book) [] else []) ++ book ++ f.end

-- what follows a front in a text that begins with it
abbrev pub after : List ℕ → List ℕ → Option (List ℕ)
after [] text = Some text
after (b ∷ front) [] = None
after (b ∷ front) (c ∷ text) = if b == c then after front text else None

-- the ending of a book's name that begins with the book's number and its code
abbrev pub after_number : Option (List ℕ) → List ℕ → List ℕ → Option (List ℕ)
after_number None book name = None
after_number (Some number) book name = after (number ++ book) name

-- the form of a book's name, if it has one: it begins with the book's code, or with its number and
-- its code
abbrev pub form_in : List ℕ → List ℕ → Option FormParts
form_in book name =
    option_or (option_map (form false) (after book name))
    (option_map (form true) (after_number (number_of book) book name))

-- ---- the form that is asked for

-- a number with its book's code, in one
abbrev pub number_and_code : Numbered → List ℕ
number_and_code r = r.0 ++ r.1

-- the code of a book that has a number
abbrev pub code_alone : Numbered → List ℕ
code_alone r = r.1

-- what follows the first of some fronts with which a text begins
abbrev pub after_one : List (List ℕ) → List ℕ → Option (List ℕ)
after_one [] text = None
after_one (front ∷ later) text = option_or (after front text) (after_one later text)

-- whether a name has a byte
abbrev pub has_byte : ℕ → List ℕ → Bool
has_byte byte name = list_any (λ b. b == byte) name

-- whether a file of this name may be a book's in the folder, and the name is one line
abbrev pub may_be_asked : List ℕ → Bool
may_be_asked name = may_be_book name && not (has_byte 47 name) && not (has_byte 10 name)

-- the form of a name that begins with a number of a table and its book's code, or with the code of
-- a book of the table
abbrev pub form_by : List Numbered → List ℕ → Option FormParts
form_by table name =
    option_or (option_map (form true) (after_one (map number_and_code table) name))
    (option_map (form false) (after_one (map code_alone table) name))

-- The form of a name that is asked for, of whatever book it is: the name may be that of a book's
-- file, and begins with a number and its book's code, or with the code of a book that has a number.
abbrev pub asked_form : List ℕ → Option FormParts
asked_form name = if may_be_asked name then form_by numbers name else None

-- a form, or the refusal of a name that has none
abbrev pub form_or : Option FormParts → Result (Option FormParts) Refusal
form_or None = Err (Of places.Form faults.BadForm)
form_or (Some f) = Ok (Some f)

-- the form that is asked for, if one is, or the refusal
abbrev pub asked : Option (List ℕ) → Result (Option FormParts) Refusal
asked None = Ok None
asked (Some name) = form_or (asked_form name)

-- ---- the form that names have

-- a book with the name of its file
abbrev pub named : List ℕ → List ℕ → NamedParts
named book name = record { book = book; name = name }

-- a book's file by its book and its name
abbrev pub named_file : FileParts → NamedParts
named_file f = named f.book f.name

-- the names of books without a file
abbrev pub without_file : List FileParts → List NamedParts → List NamedParts
without_file files names = filter (λ n. is_none (file_of files n.book)) names

-- the names that are there: those of the books' files, and then those that were written down of
-- books without a file
abbrev pub names_had : SeenParts → List FileParts → List NamedParts
names_had seen files = map named_file files ++ without_file files seen.names

-- whether two forms are one
abbrev pub same_form : FormParts → FormParts → Bool
same_form f g = beq f.has_number g.has_number && same_bytes f.end g.end

-- whether a name has a form
abbrev pub is_of_form : FormParts → Option FormParts → Bool
is_of_form f None = false
is_of_form f (Some g) = same_form f g

-- whether all names have a form
abbrev pub have_form : List NamedParts → FormParts → Bool
have_form names f = list_all (λ n. is_of_form f (form_in n.book n.name)) names

-- a form, if all names have it
abbrev pub if_common : List NamedParts → FormParts → Option FormParts
if_common names f = if have_form names f then Some f else None

-- the form that all names have, if they have one
abbrev pub common_form : List NamedParts → Option FormParts
common_form [] = None
common_form (n ∷ later) = option_and_then (if_common later) (form_in n.book n.name)

-- The form of new files: the one that is asked for; else the one that all names have that are
-- there; else `CODE.usfm`. A name that is asked for and has no form is refused.
abbrev pub form_of : SeenParts → List FileParts → WishParts → Result FormParts Refusal
form_of seen files wishes =
    asked wishes.form >>= λ f.
    Ok (unwrap_or (option_or f (common_form (names_had seen files))) default_form)

-- whether a form is another one, if there is one
abbrev pub is_other_form : FormParts → Option FormParts → Bool
is_other_form f None = false
is_other_form f (Some g) = not (same_form f g)

-- whether a name has a form, and another one
abbrev pub is_left : FormParts → NamedParts → Bool
is_left f n = is_other_form f (form_in n.book n.name)

-- the first name that has another form than the one that is asked for, if that is one
abbrev pub left_by : Option FormParts → List NamedParts → Option (List ℕ)
left_by None names = None
left_by (Some f) names = option_map (λ n. n.name) (find (is_left f) names)

-- the first name whose form is left where this one is asked for
abbrev pub left_name : List NamedParts → List ℕ → Option (List ℕ)
left_name names name = left_by (asked_form name) names

-- ---- the names of new files

-- the book whose code a text begins with
abbrev pub book_at : List ℕ → Option (List ℕ)
book_at (a ∷ b ∷ c ∷ rest) = if is_book_code (a ∷ b ∷ c ∷ []) then Some (a ∷ b ∷ c ∷ []) else None
book_at text = None

-- the book whose code a text has after two bytes, as after a number
abbrev pub book_after_two : List ℕ → Option (List ℕ)
book_after_two (a ∷ b ∷ rest) = book_at rest
book_after_two text = None

-- whether a name is the one that a form makes of another book than this one
abbrev pub is_made_of : FormParts → List ℕ → List ℕ → Option (List ℕ) → Bool
is_made_of f book name None = false
is_made_of f book name (Some other) =
    not (same_bytes other book) && same_bytes (name_by f other) name

-- whether a name is the one that a form makes of some other book
abbrev pub is_of_another : FormParts → List ℕ → List ℕ → Bool
is_of_another f book name =
    is_made_of f book name (book_at name) || is_made_of f book name (book_after_two name)

-- the name that was written down of a book, but not one that a form makes of another book
abbrev pub own_name : FormParts → List ℕ → Option (List ℕ) → Option (List ℕ)
own_name f book None = None
own_name f book (Some name) = if is_of_another f book name then None else Some name

-- the name of a file for a book that has none: the one that was written down of it alone, or else as
-- a form makes it
abbrev pub name_for : List NamedParts → FormParts → List ℕ → List ℕ
name_for names f book = unwrap_or (own_name f book (name_of names book)) (name_by f book)

-- a name, unless something stands under it
abbrev pub free_or : Option Place → List ℕ → Result (List ℕ) Refusal
free_or None name = Ok name
free_or (Some place) name = Err (Of place faults.NameTaken)

-- the name of a file for a book that has none, or the refusal of what stands under it
abbrev pub free_name : SeenParts → FormParts → List ℕ → Result (List ℕ) Refusal
free_name seen f book =
    free_or (place_of seen (name_for seen.names f book)) (name_for seen.names f book)

-- the name of a book's new file: that of the file which it replaces, or else a free one
abbrev pub new_name : SeenParts → FormParts → List ℕ → Option FileParts → Result (List ℕ) Refusal
new_name seen f book None = free_name seen f book
new_name seen f book (Some file) = Ok file.name

-- ---- names that are written down

-- a book with the name of its file, as a contract sees it
abbrev pub book_name_view : BookName → NamedParts
book_name_view n = named n.book n.name.now

-- the books of names, in their order, each once
abbrev pub books_named : List NamedParts → List (List ℕ)
books_named names = rising book_cmp (map (λ n. n.book) names)

-- a book with the first of some names that is its own
abbrev pub first_of : List NamedParts → List ℕ → Option NamedParts
first_of names book = option_map (named book) (name_of names book)

-- names in the order of books, of several of one book the first
abbrev pub in_order : List NamedParts → List NamedParts
in_order names = filter_map (first_of names) (books_named names)

-- the line of a name: `CODE NAME`
abbrev pub name_line : NamedParts → List ℕ
name_line n = n.book ++ 32 ∷ n.name ++ 10 ∷ []

-- the lines of names, in the order of books, of several names of one book the first
abbrev pub names_text : List NamedParts → List ℕ
names_text names = flat_map name_line (in_order names)

-- What is written down, if it is other than what was: of each book the name of its file, or else of
-- its new one, or else the name that was written down.
abbrev pub other_names : SeenParts → List FileParts → List NamedParts → Option (List ℕ)
other_names seen files made =
    other_than (names_text seen.names) (names_text (map named_file files ++ made ++ seen.names))

-- ---- names that are read

-- whether a file of this name may be a book's in the folder
abbrev pub may_be_name : List ℕ → Bool
may_be_name name = may_be_book name && not (has_byte 47 name)

-- a book with the name of its file, where these are one
abbrev pub named_if : List ℕ → List ℕ → Option NamedParts
named_if code name =
    if is_book_code code && may_be_name name then Some (named code name) else None

-- the name that a line `CODE NAME` writes down, if it is such a line
abbrev pub name_in : List ℕ → Option NamedParts
name_in line = named_if (before_first (λ b. b == 32) line) (after_first (λ b. b == 32) line)

-- the names that the lines of a text write down
abbrev pub names_in : List ℕ → List NamedParts
names_in text = filter_map name_in (slice_split (λ b. b == 10) text)

-- The names that bytes write down in lines `CODE NAME`, in the order of books, of several of one
-- book the first; none, where the bytes are no text.
abbrev pub read_names : List ℕ → List NamedParts
read_names bytes = if is_utf8 bytes then in_order (names_in bytes) else []
