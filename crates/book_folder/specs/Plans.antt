-- What is done with a project and a folder, as a plan of what was read (this project's own rule).
use Rattle.std.specs.Prelude.{ℕ, Bool, true, false, not, ◌&&◌, List, [], ◌∷◌, ◌++◌, map, filter, Option, None, Some, is_some, option_map, Result, Ok, Err, if◌then◌else◌, string_bytes}
use Rattle.usfm_ref.specs.Books.{same_bytes}
use Rattle.usfm_ref.specs.Keys.{KeyParts}
use Rattle.op_core.specs.Ids.{Id}
use Rattle.op_core.specs.Ops.{Operation}
use Rattle.op_core.specs.Export.{has_book, export}
use Rattle.op_core.specs.Lists.{books_of, awaited}
use Rattle.project_file.specs.Projects.{project}
use Rattle.book_folder.specs.Bases.{next_base, base_as_read, other_than}
use Rattle.book_folder.specs.Begun.{conflicts}
use Rattle.book_folder.specs.Coming.{AddedParts, CameInParts, added_view, comes_in}
use Rattle.book_folder.specs.Files.{FileParts, clear_files, file_of, book_begun}
use Rattle.book_folder.specs.Likes.{like, line_ends}
use Rattle.book_folder.specs.Naming.{FormParts, form_of, named, new_name, other_names}
use Rattle.book_folder.specs.Refusals.{◌>>=◌, gathered}
use Rattle.book_folder.specs.Restored.{in_manner_of}
use Rattle.book_folder.specs.Wanted.{NamedParts, SeenParts, WishParts, is_none_wanted}
use Rattle.book_folder.specs.declared.bases.OwnFiles.{OwnFiles}
use Rattle.book_folder.specs.declared.likes.LineEnds.{LineEnds}
use Rattle.book_folder.specs.declared.likes.LineEnds.TheVariants.{Lf, CrLf, Mixed}
use Rattle.book_folder.specs.declared.plan.NewFile.{NewFile}
use Rattle.book_folder.specs.declared.plan.Plan.{Plan}
use Rattle.book_folder.specs.declared.plan.Step.{Step}
use Rattle.book_folder.specs.declared.plan.Step.TheVariants as steps
use Rattle.book_folder.specs.declared.plan.Told.{Told}
use Rattle.book_folder.specs.declared.refusal.FolderFault.TheVariants as faults
use Rattle.book_folder.specs.declared.refusal.Place.TheVariants as places
use Rattle.book_folder.specs.declared.refusal.Refusal.{Refusal}
use Rattle.book_folder.specs.declared.refusal.Refusal.TheVariants.{Of}

-- ---- new files

-- whether a book that was read is this one
abbrev pub is_book : Option (List ℕ) → List ℕ → Bool
is_book None book = false
is_book (Some read) book = same_bytes read book

-- whether there is a book, and its export begins with its `\id`, so that it can have a file
abbrev pub is_whole : List Operation → List ℕ → Bool
is_whole held book = has_book held book && is_book (book_begun (export held book)) book

-- the books that get no file, since the project does not have their heads
abbrev pub headless : List Operation → List (List ℕ)
headless held = filter (λ book. not (is_whole held book)) (books_of held)

-- whether a book's file is like its text
abbrev pub is_like_file : Option FileParts → List ℕ → Bool
is_like_file None text = false
is_like_file (Some f) text = like text f.bytes

-- a text in the manner of the file that it replaces, where that is known
abbrev pub by_ends : LineEnds → List ℕ → List ℕ → List ℕ
by_ends Mixed file text = text
by_ends Lf file text = in_manner_of file text
by_ends CrLf file text = in_manner_of file text

-- a text that was made of a book's text, if it still begins with the book's `\id`; else that text
abbrev pub if_begun : List ℕ → List ℕ → List ℕ → List ℕ
if_begun book text made = if is_book (book_begun made) book then made else text

-- a book's text as its file gets it: as it is where the book has no file, else in the manner of
-- that file; but as it is, too, where the book would not be known by it any more (its code may
-- stand in the line after its `\id`)
abbrev pub text_for : Option FileParts → List ℕ → List ℕ → List ℕ
text_for None book text = text
text_for (Some f) book text = if_begun book text (by_ends (line_ends f.bytes) f.bytes text)

-- a book's new file: its name, its text, and which of the files that were read it replaces
pub record NewFileParts : Type 0 where
  pub book : List ℕ
  pub name : List ℕ
  pub text : List ℕ
  pub replaces : Option ℕ

-- a book's new file, as a contract sees it
abbrev pub new_file_view : NewFile → NewFileParts
new_file_view f = record {
  book = f.book;
  name = string_bytes f.name;
  text = f.text.items;
  replaces = f.replaces;
}

-- a book's new file of a name: its text in the manner of the file that it replaces, if it replaces
-- one
abbrev pub new_file : Option FileParts → List ℕ → List ℕ → List ℕ → NewFileParts
new_file file book text name = record {
  book = book;
  name = name;
  text = text_for file book text;
  replaces = option_map (λ f. f.at) file;
}

-- the new file of a book by its text, unless the file that it has is like that; or the refusal of
-- what stands under the name that it gets
abbrev pub file_by_text : SeenParts → List FileParts → FormParts → List ℕ → List ℕ
    → Result (Option NewFileParts) Refusal
file_by_text seen files form book text =
    if is_like_file (file_of files book) text then Ok None
    else (new_name seen form book (file_of files book) >>= λ name.
    Ok (Some (new_file (file_of files book) book text name)))

-- a new file of a book, if it gets one: the project has its head, and it has no file like its
-- export
abbrev pub new_file_if : SeenParts → List Operation → List FileParts → FormParts → List ℕ
    → Result (Option NewFileParts) Refusal
new_file_if seen held files form book =
    if is_whole held book then file_by_text seen files form book (export held book) else Ok None

-- The new files, in the order of books; or the first refusal.
abbrev pub new_files : SeenParts → List Operation → List FileParts → FormParts
    → Result (List NewFileParts) Refusal
new_files seen held files form = gathered (new_file_if seen held files form) [] (books_of held)

-- a new file, by its book and its name
abbrev pub new_name_of : NewFileParts → NamedParts
new_name_of f = named f.book f.name

-- ---- steps

-- a step on the disk
pub data StepParts : Type 0 where
  ReplaceProject : (bytes : List ℕ) → StepParts
  Settle : StepParts
  RemoveNew : (book : List ℕ) → StepParts
  WriteNew : (file : NewFileParts) → StepParts
  SyncOwn : StepParts
  PutBase : (bytes : List ℕ) → StepParts
  PutNames : (bytes : List ℕ) → StepParts
  PutNext : (bytes : List ℕ) → StepParts
  PutInPlace : (book name : List ℕ) (replaces : Option ℕ) → StepParts
  SyncFolder : StepParts

-- a step, as a contract sees it
abbrev pub step_view : Step → StepParts
step_view (steps.ReplaceProject bytes) = ReplaceProject bytes.items
step_view steps.Settle = Settle
step_view (steps.RemoveNew book) = RemoveNew book
step_view (steps.WriteNew file) = WriteNew (new_file_view file)
step_view steps.SyncOwn = SyncOwn
step_view (steps.PutBase bytes) = PutBase bytes.items
step_view (steps.PutNames bytes) = PutNames bytes.items
step_view (steps.PutNext bytes) = PutNext bytes.items
step_view (steps.Place placing) =
    PutInPlace placing.book (string_bytes placing.name) placing.replaces
step_view steps.SyncFolder = SyncFolder

-- what is written into the program's folder beside the new files, each if it is other than what is
-- there
pub record OwnParts : Type 0 where
  pub base : Option (List ℕ)
  pub names : Option (List ℕ)
  pub next : Option (List ℕ)

-- what is written into the program's folder, as a contract sees it
abbrev pub own_view : OwnFiles → OwnParts
own_view o = record {
  base = option_map (λ b. b.items) o.base;
  names = option_map (λ b. b.items) o.names;
  next = option_map (λ b. b.items) o.next;
}

-- a step for what there is
abbrev pub step_if : (List ℕ → StepParts) → Option (List ℕ) → List StepParts
step_if step None = []
step_if step (Some bytes) = step bytes ∷ []

-- the steps by which the base, the names and the next base are put, in this order
abbrev pub own_puts : OwnParts → List StepParts
own_puts own = step_if PutBase own.base ++ step_if PutNames own.names ++ step_if PutNext own.next

-- steps, and a sync of a folder after them, if there are any
abbrev pub with_sync : StepParts → List StepParts → List StepParts
with_sync sync [] = []
with_sync sync (step ∷ more) = step ∷ more ++ sync ∷ []

-- the step by which a new file is put in its place
abbrev pub placing : NewFileParts → StepParts
placing f = PutInPlace f.book f.name f.replaces

-- steps by which new files are put in their places, and those after them, if there are any: the
-- names of the folder are synced, and the base is settled
abbrev pub placed : List StepParts → List StepParts
placed [] = []
placed (step ∷ more) = step ∷ more ++ SyncFolder ∷ Settle ∷ []

-- The steps of a plan: the new files are written, and their names are synced; then the base, the
-- names and the next base are put, and their names are synced; then the project is replaced; then
-- the new files are put in their places, and the names of the folder are synced; then the base is
-- settled.
abbrev pub plan_steps : List NewFileParts → OwnParts → Option (List ℕ) → List StepParts
plan_steps files own bytes =
    with_sync SyncOwn (map WriteNew files) ++ with_sync SyncOwn (own_puts own)
    ++ step_if ReplaceProject bytes ++ placed (map placing files)

-- the steps that finish what a command that was cut short has begun
abbrev pub recovery : Option (List ℕ) → Option (List ℕ) → List (List ℕ) → List StepParts
recovery bytes (Some next) unplaced = step_if ReplaceProject bytes ++ Settle ∷ []
recovery bytes None unplaced = step_if ReplaceProject bytes ++ map RemoveNew unplaced

-- ---- the plan

-- what is said of a plan
pub record ToldParts : Type 0 where
  pub base : ℕ
  pub bundles : List ℕ
  pub files : List AddedParts
  pub headless : List (List ℕ)
  pub conflicts : List (List ℕ × KeyParts)
  pub awaits : Bool

-- what is said of a plan, as a contract sees it
abbrev pub told_view : Told → ToldParts
told_view t = record {
  base = t.base;
  bundles = t.bundles.items;
  files = map added_view t.files.items;
  headless = t.headless.items;
  conflicts = t.conflicts.items;
  awaits = t.awaits;
}

-- a plan: the steps on the disk, and what is said of them
pub record PlanParts : Type 0 where
  pub steps : List StepParts
  pub told : ToldParts

-- a plan, as a contract sees it
abbrev pub plan_view : Plan → PlanParts
plan_view p = record { steps = map step_view p.steps.items; told = told_view p.told }

-- the bytes that a base gets, if they are other than those of the one that was read, or another one
-- stands beside it
abbrev pub base_put : List (List ℕ) → Option (List ℕ) → List ℕ → Option (List ℕ)
base_put (one ∷ []) None bytes = other_than one bytes
base_put bases next bytes = Some bytes

-- what is written into the program's folder: where there are new files the base that makes the
-- files as they were read, and the next one; else the next one as the base
abbrev pub own_parts : SeenParts → CameInParts → List NewFileParts → Option (List ℕ)
    → Result OwnParts Refusal
own_parts seen c [] names = Ok (record {
  base = base_put seen.bases seen.next (next_base (headless c.replica.held) c.replica.held);
  names = names;
  next = None;
})
own_parts seen c (f ∷ later) names =
    base_as_read c.stood c.base.held c.replica.held >>= λ bytes.
    Ok (record {
      base = base_put seen.bases seen.next bytes;
      names = names;
      next = Some (next_base (headless c.replica.held) c.replica.held);
    })

-- the bytes that there are, or else others
abbrev pub bytes_or : List ℕ → Option (List ℕ) → List ℕ
bytes_or other None = other
bytes_or other (Some bytes) = bytes

-- whether no operation is awaited
abbrev pub is_none_awaited : List Id → Bool
is_none_awaited [] = true
is_none_awaited (id ∷ rest) = false

-- what is said of what came in
abbrev pub told_of : CameInParts → ToldParts
told_of c = record {
  base = c.new;
  bundles = c.bundles;
  files = c.added;
  headless = headless c.replica.held;
  conflicts = conflicts c.replica.held;
  awaits = not (is_none_awaited (awaited c.replica.held));
}

-- the plan of what came in, with new files, and with the names that are written down, if these are
-- other than those that were
abbrev pub plan_of : SeenParts → CameInParts → List NewFileParts → Option (List ℕ)
    → Result PlanParts Refusal
plan_of seen c made names =
    own_parts seen c made names >>= λ own.
    Ok (record {
      steps = recovery c.recovered seen.next seen.unplaced
          ++ plan_steps made own
          (other_than (bytes_or seen.project c.recovered) (project c.replica));
      told = told_of c;
    })

-- whether conflicts are to be settled after a sync that was cut short: a next base stands
abbrev pub settles_early : SeenParts → WishParts → Bool
settles_early seen wishes = is_some seen.next && not (is_none_wanted wishes.settled)

-- the plan of what comes in, or the first refusal
abbrev pub planned_coming : SeenParts → WishParts → List FileParts → Result PlanParts Refusal
planned_coming seen wishes files =
    comes_in seen wishes files >>= λ c.
    form_of seen files wishes >>= λ form.
    new_files seen c.replica.held files form >>= λ made.
    plan_of seen c made (other_names seen files (map new_name_of made))

-- the plan where it is known which file is which book's, or the first refusal
abbrev pub planned_with : SeenParts → WishParts → List FileParts → Result PlanParts Refusal
planned_with seen wishes files =
    if settles_early seen wishes then Err (Of places.Next faults.SettledEarly)
    else planned_coming seen wishes files

-- The plan of what was read, or the first refusal: of a folder in which it is not known which file
-- is a book's; of conflicts that are settled early; of what comes in; of the name that is to say how
-- new files are named; of what stands
-- where a new file is to be put; of a base that cannot be made.
abbrev pub planned : SeenParts → WishParts → Result PlanParts Refusal
planned seen wishes = clear_files seen >>= planned_with seen wishes
