-- A file in which nothing was changed since it was written (this project's own rule).
use Rattle.std.specs.Prelude.{ℕ, Bool, true, false, ◌&&◌, List}
use Rattle.book_folder.specs.Files.{book_begun}
use Rattle.book_folder.specs.Likes.{like, line_ends}
use Rattle.book_folder.specs.Plans.{is_book}
use Rattle.book_folder.specs.Wanted.{WantedParts, is_none_wanted}
use Rattle.book_folder.specs.declared.likes.LineEnds.{LineEnds}
use Rattle.book_folder.specs.declared.likes.LineEnds.TheVariants.{Lf, CrLf, Mixed}

-- whether all lines end in one manner
abbrev pub are_alike : LineEnds → Bool
are_alike Lf = true
are_alike CrLf = true
are_alike Mixed = false

-- whether a book's file is as it was written: it is like the text that it got, which begins with
-- the book's `\id`, and all lines of that end in one manner
abbrev pub is_as_written : List ℕ → List ℕ → List ℕ → Bool
is_as_written was book file =
    is_book (book_begun was) book && are_alike (line_ends was) && like was file

-- whether nothing comes in of a file that got a text: it is to settle nothing, and is as it was
-- written
abbrev pub is_untouched : List WantedParts → List ℕ → List ℕ → List ℕ → Bool
is_untouched settled was book file = is_none_wanted settled && is_as_written was book file
