-- Laws of books beside each other in a folder (this project's own rule): what the base of a folder
-- has of other books says nothing of a file, and a base is settled book by book.
use Rattle.std.specs.Prelude.{◌≡◌, ◌<◌, ◌^◌, ℕ, List, Ok, length, if◌then◌else◌}
use Rattle.op_core.specs.OneBook.{ops_of_book}
use Rattle.op_core.specs.Ops.{Operation}
use Rattle.op_core.specs.Sets.{IsOpSet}
use Rattle.bundle_codec.specs.Joining.{whole_at}
use Rattle.bundle_codec.specs.Spelling.{bundle}
use Rattle.replica_state.specs.States.{State}
use Rattle.book_folder.specs.Begun.{settled_base}
use Rattle.book_folder.specs.Files.{FileParts, is_one_of}
use Rattle.book_folder.specs.OlderBases.{moved_base}
use Rattle.book_folder.specs.Taking.{StoodParts, taken_in}
use Rattle.book_folder.specs.Wanted.{WishParts}

-- Other books say nothing: what comes in of a file, what is asked of it and what it is refused for
-- hang on what the base has of its own book alone.
abbrev pub OtherBooksSayNothing : Type 0
OtherBooksSayNothing =
    (s base other : State) (older : List State) (wishes : WishParts) (stood : List StoodParts)
    (f : FileParts) →
    ops_of_book base.held f.book ≡ ops_of_book other.held f.book →
    taken_in s base older wishes stood f ≡ taken_in s other older wishes stood f

-- A base is settled book by book: of a book whose new file was not put in its place it has what the
-- base had, and of each other book what the next one has.
abbrev pub SettledBookByBook : Type 0
SettledBookByBook =
    (unplaced : List (List ℕ)) (base next : List Operation) (bytes : List ℕ)
    (ops : List Operation) (book : List ℕ) →
    IsOpSet base → IsOpSet next → length (bundle base) < 2 ^ 64 → length (bundle next) < 2 ^ 64 →
    settled_base unplaced base next ≡ Ok bytes → whole_at bytes ≡ Ok ops →
    ops_of_book ops book
    ≡ (if is_one_of unplaced book then ops_of_book base book else ops_of_book next book)

-- Older bases move on book by book: of a book that was written anew an older base has what the next
-- newer one had, and of each other book what it had, where the two do not clash.
abbrev pub OlderBasesMoveByBook : Type 0
OlderBasesMoveByBook =
    (books : List (List ℕ)) (newer older : List Operation) (bytes : List ℕ)
    (ops : List Operation) (book : List ℕ) →
    IsOpSet newer → IsOpSet older → length (bundle newer) < 2 ^ 64 →
    length (bundle older) < 2 ^ 64 →
    settled_base books newer older ≡ Ok bytes → whole_at (moved_base books newer older) ≡ Ok ops →
    ops_of_book ops book
    ≡ (if is_one_of books book then ops_of_book newer book else ops_of_book older book)
