-- What an export into a folder does, as a plan of what was read (this project's own rule).
use Rattle.std.specs.Prelude.{ℕ, Bool, true, false, not, ◌&&◌, ◌||◌, List, [], ◌∷◌, ◌++◌, map, filter, Option, None, Some, Result, Ok, Err, if◌then◌else◌}
use Rattle.std.specs.List.{list_all}
use Rattle.usfm_ref.specs.Books.{same_bytes}
use Rattle.op_core.specs.Ops.{Operation}
use Rattle.op_core.specs.Export.{has_book, export}
use Rattle.op_core.specs.Lists.{books_of}
use Rattle.op_core.specs.Sets.{get, is_like}
use Rattle.bundle_codec.specs.Spelling.{bundle}
use Rattle.project_file.specs.Projects.{project_at}
use Rattle.book_folder.specs.Bases.{shows}
use Rattle.book_folder.specs.Begun.{base_of, is_one_of, joined_at, ops_not_of, project_or}
use Rattle.book_folder.specs.Files.{FileParts, clear_files, file_of}
use Rattle.book_folder.specs.Likes.{like}
use Rattle.book_folder.specs.Naming.{FormParts, form_of, other_names}
use Rattle.book_folder.specs.Plans.{NewFileParts, OwnParts, PlanParts, ToldParts, base_put, is_whole, new_file_if, new_name_of, plan_steps, recovery}
use Rattle.book_folder.specs.Refusals.{◌>>=◌, gathered}
use Rattle.book_folder.specs.Wanted.{SeenParts, WishParts}
use Rattle.book_folder.specs.declared.refusal.FolderFault.TheVariants as faults
use Rattle.book_folder.specs.declared.refusal.Place.TheVariants as places
use Rattle.book_folder.specs.declared.refusal.Refusal.{Refusal}
use Rattle.book_folder.specs.declared.refusal.Refusal.TheVariants.{Of}

-- ---- which books

-- whether a book is exported: it is named, or none is
abbrev pub is_chosen : List (List ℕ) → List ℕ → Bool
is_chosen [] book = true
is_chosen (one ∷ more) book = is_one_of (one ∷ more) book

-- the books that are exported, in the order of books; or the refusal, where the project has no
-- operation of a book that is named
abbrev pub chosen : List Operation → List (List ℕ) → Result (List (List ℕ)) Refusal
chosen held named =
    if list_all (has_book held) named then Ok (filter (is_chosen named) (books_of held))
    else Err (Of places.Project faults.NoBook)

-- ---- files that were changed

-- whether an operation of a book is held, by one that agrees with it, or it is of another book
abbrev pub is_held_of : List Operation → List ℕ → Operation → Bool
is_held_of held book o = not (same_bytes o.segment.book book) || is_like (get held o.id) o

-- whether a file is as it was written, from what the project has: it is like its book's text in the
-- base, and the project holds all that the base has of the book, by operations that agree with it
abbrev pub is_unchanged : List Operation → List Operation → FileParts → List ℕ → Bool
is_unchanged held base f book =
    has_book base book && like (export base book) f.bytes && list_all (is_held_of held book) base

-- a new file, unless the file that it replaces was changed
abbrev pub unless_changed : List Operation → List Operation → List ℕ → Option FileParts
    → Option NewFileParts → Result (Option NewFileParts) Refusal
unless_changed held base book file None = Ok None
unless_changed held base book None (Some new) = Ok (Some new)
unless_changed held base book (Some f) (Some new) =
    if is_unchanged held base f book then Ok (Some new)
    else Err (Of (places.File f.at) faults.FileChanged)

-- the new file of a book, if it gets one; or the refusal of the file that it would replace, or of
-- what stands under the name that it gets
unfoldable pub exported_file : SeenParts → List Operation → List Operation → List FileParts
    → FormParts → List ℕ → Result (Option NewFileParts) Refusal
exported_file seen held base files form book =
    new_file_if seen held files form book >>= unless_changed held base book (file_of files book)

-- ---- the base

-- what some books show
abbrev pub shown_of : List (List ℕ) → List Operation → List Operation
shown_of books held = filter (λ o. is_one_of books o.segment.book && shows held o) held

-- the base that makes the files as they are written: of the books that are exported what the
-- project shows, and of all others what the base has
abbrev pub exported_base : List Operation → List Operation → List (List ℕ)
    → Result (List ℕ) Refusal
exported_base held base books =
    joined_at places.Project (ops_not_of books base) (shown_of books held)

-- what is written into the program's folder: where there are new files the base as it is, and the
-- next one; else the next one as the base
abbrev pub own_of : SeenParts → List Operation → List NewFileParts → List ℕ → Option (List ℕ)
    → OwnParts
own_of seen base [] next names = record {
  base = base_put seen.bases seen.next next;
  names = names;
  next = None;
}
own_of seen base (f ∷ later) next names = record {
  base = base_put seen.bases seen.next (bundle base);
  names = names;
  next = Some next;
}

-- ---- the plan

-- what is said of an export: which books get no file
abbrev pub told_of_export : List (List ℕ) → ToldParts
told_of_export headless = record {
  base = 0;
  bundles = [];
  files = [];
  headless = headless;
  conflicts = [];
  awaits = false;
}

-- the books that get a file, since the project has their heads
abbrev pub filed : List Operation → List (List ℕ) → List (List ℕ)
filed held books = filter (is_whole held) books

-- the books that get none
abbrev pub unfiled : List Operation → List (List ℕ) → List (List ℕ)
unfiled held books = filter (λ book. not (is_whole held book)) books

-- the plan of an export with new files, where some books get none
abbrev pub export_of : SeenParts → List (List ℕ) → List NewFileParts → OwnParts → PlanParts
export_of seen headless made own = record {
  steps = recovery None seen.next seen.unplaced ++ plan_steps made own None;
  told = told_of_export headless;
}

-- the plan of an export of some books in a form, or the first refusal
abbrev pub books_exported : SeenParts → List Operation → List Operation → List FileParts
    → FormParts → List (List ℕ) → Result PlanParts Refusal
books_exported seen held base files form books =
    gathered (exported_file seen held base files form) [] (filed held books) >>= λ made.
    exported_base held base (filed held books) >>= λ next.
    Ok (export_of seen (unfiled held books) made
    (own_of seen base made next (other_names seen files (map new_name_of made))))

-- the plan of an export of the books that are named, all where none is, where it is known which
-- file is which book's; or the first refusal
abbrev pub exported_with : SeenParts → WishParts → List (List ℕ) → List Operation
    → List FileParts → Result PlanParts Refusal
exported_with seen wishes named held files =
    base_of seen >>= λ base.
    chosen held named >>= λ books.
    form_of seen files wishes >>= λ form.
    books_exported seen held base.held files form books

-- The plan of an export of the books that are named, all where none is; or the first refusal: of
-- the project; of a folder in which it is not known which file is a book's; of the base; of a book
-- that is named; of the name that is to say how new files are named; of a file that was changed, or
-- what stands where a new one is to be put.
abbrev pub exported : SeenParts → WishParts → List (List ℕ) → Result PlanParts Refusal
exported seen wishes named =
    project_or (project_at seen.project) >>= λ s.
    clear_files seen >>= exported_with seen wishes named s.held
