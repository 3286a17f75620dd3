-- What is missing of a project by a versification (this project's own rule): which books and
-- chapters are looked at, and the lines of each.
use Rattle.std.specs.Prelude.{ℕ, ◌==◌, Bool, false, ◌&&◌, ◌||◌, List, [], ◌∷◌, ◌++◌, length, codes, Result, Ok, Err, if◌then◌else◌}
use Rattle.std.specs.List.{flat_map, list_all, list_any}
use Rattle.usfm_ref.specs.Books.{same_bytes, book_cmp}
use Rattle.usfm_ref.specs.Rising.{rising}
use Rattle.op_core.specs.Ops.{Operation}
use Rattle.op_core.specs.Export.{has_book, export}
use Rattle.op_core.specs.Lists.{books_of}
use Rattle.versification.specs.Versifications.{Verses, versification_of}
use Rattle.versification.specs.declared.fault.VersificationFault.{VersificationFault}
use Rattle.missing_verses.specs.Numbers.{below}
use Rattle.missing_verses.specs.Lines.{is_absent, book_lines, chapter_lines}
use Rattle.command_faults.specs.Faults.{of_versification}
use Rattle.command_faults.specs.declared.fault.Fault.{Fault}
use Rattle.command_faults.specs.declared.fault.Fault.TheVariants.{NoBook}
use Rattle.missing_verses.specs.declared.part.Part.{Part}
use Rattle.missing_verses.specs.declared.part.Part.TheVariants.{Whole, OneChapter}

-- ---- what is looked at

-- the book that is named, or that of the chapter
abbrev pub book_named : Part → List ℕ
book_named (Whole book) = book
book_named (OneChapter book chapter) = book

-- whether it is of the book
abbrev pub is_of : List ℕ → Part → Bool
is_of book part = same_bytes (book_named part) book

-- whether all of the book is named
abbrev pub names_book : List ℕ → Part → Bool
names_book book (Whole other) = same_bytes other book
names_book book (OneChapter other chapter) = false

-- whether the chapter of the book is named
abbrev pub names_chapter : List ℕ → ℕ → Part → Bool
names_chapter book c (Whole other) = false
names_chapter book c (OneChapter other chapter) = same_bytes other book && chapter == c

-- whether something of a book is looked at: each book is where nothing is named
abbrev pub is_looked_at : List Part → List ℕ → Bool
is_looked_at parts book = (length parts == 0) || list_any (is_of book) parts

-- whether all of a book is looked at
abbrev pub is_whole : List Part → List ℕ → Bool
is_whole parts book = (length parts == 0) || list_any (names_book book) parts

-- whether a chapter of a book is named
abbrev pub has_chapter : List Part → List ℕ → ℕ → Bool
has_chapter parts book c = list_any (names_chapter book c) parts

-- whether each book that is named has an operation
abbrev pub has_books : List Operation → List Part → Bool
has_books held parts = list_all (λ part. has_book held (book_named part)) parts

-- ---- the lines

-- the line of a book of which there is nothing
abbrev pub absent_line : List ℕ → List ℕ
absent_line book = codes "missing " ++ (book ++ 10 ∷ [])

-- that line, if books are asked for of which there is nothing, and the book is looked at
abbrev pub absent_lines : List Part → Bool → List ℕ → List ℕ
absent_lines parts all book = if all && is_looked_at parts book then absent_line book else []

-- the lines of a chapter, if it is named
abbrev pub named_lines : Verses → List Part → List ℕ → List ℕ → ℕ → List ℕ
named_lines v parts book text c =
    if has_chapter parts book c then chapter_lines v book text c else []

-- the lines of a book's text: of all of it, or of the chapters that are named
abbrev pub present_lines : Verses → List Part → List ℕ → List ℕ → List ℕ
present_lines v parts book text =
    if is_whole parts book then book_lines v book text
    else flat_map (named_lines v parts book text) (below 1000)

-- the lines of a book, by its text
abbrev pub text_lines : Verses → List Part → Bool → List ℕ → List ℕ → List ℕ
text_lines v parts all book text =
    if is_absent text then absent_lines parts all book else present_lines v parts book text

-- the text of a book, empty where it has no operation
abbrev pub text_of : List Operation → List ℕ → List ℕ
text_of held book = if has_book held book then export held book else []

-- the books with an operation, and where books are asked for of which there is nothing, those of
-- the versification; in the order of books, each once
abbrev pub books_by : Verses → List Operation → Bool → List (List ℕ)
books_by v held all = rising book_cmp (books_of held ++ (if all then v.books else []))

-- the lines of all books
abbrev pub lines_by : Verses → List Operation → List Part → Bool → List ℕ
lines_by v held parts all =
    flat_map (λ book. text_lines v parts all book (text_of held book)) (books_by v held all)

-- The same, unless a book is named that has no operation, and books are not asked for of which there
-- is nothing.
abbrev pub missing_of : List Operation → List Part → Bool → Verses → Result (List ℕ) Fault
missing_of held parts all v =
    if all || has_books held parts then Ok (lines_by v held parts all) else Err NoBook

-- what is written by a versification, or the fault of its file
abbrev pub by_verses : Result Verses VersificationFault → (Verses → Result (List ℕ) Fault)
    → Result (List ℕ) Fault
by_verses (Ok v) next = next v
by_verses (Err fault) next = Err (of_versification fault)

-- what is missing by the versification of a file
abbrev pub missing_by : List Operation → List Part → Bool → List ℕ → Result (List ℕ) Fault
missing_by held parts all file = by_verses (versification_of file) (missing_of held parts all)
