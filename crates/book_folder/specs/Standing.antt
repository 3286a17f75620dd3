-- How a folder stands (this project's own rule): what a sync would take in of its files, and which
-- of them it would refuse.
use Rattle.std.specs.Prelude.{ℕ, zero, suc, List, [], ◌∷◌, ◌++◌, map, slice_set, Option, None, Some, option_map, Result, Ok, Err}
use Rattle.std.specs.List.{filter_map}
use Rattle.book_folder.specs.Coming.{AddedParts}
use Rattle.book_folder.specs.Files.{FileParts, file_of, files_from}
use Rattle.book_folder.specs.Plans.{PlanParts, planned}
use Rattle.book_folder.specs.Refusals.{◌>>=◌}
use Rattle.book_folder.specs.Wanted.{FoundParts, SeenParts, found_view, no_wishes, seen_view}
use Rattle.book_folder.specs.declared.refusal.FolderFault.{FolderFault}
use Rattle.book_folder.specs.declared.refusal.Place.{Place}
use Rattle.book_folder.specs.declared.refusal.Place.TheVariants as places
use Rattle.book_folder.specs.declared.refusal.Refusal.{Refusal}
use Rattle.book_folder.specs.declared.refusal.Refusal.TheVariants.{Memory, Of}
use Rattle.book_folder.specs.declared.standing.ChangedFile.{ChangedFile}
use Rattle.book_folder.specs.declared.standing.LeftOut.{LeftOut}
use Rattle.book_folder.specs.declared.standing.Remaining.{Remaining}
use Rattle.book_folder.specs.declared.standing.Standing.{Standing}

-- ---- what is found

-- a file that was changed: which of those that were read it is, and how many edits a sync would
-- take in of it
pub record ChangedParts : Type 0 where
  pub at : ℕ
  pub count : ℕ

-- a file that was changed, as a contract sees it
abbrev pub changed_view : ChangedFile → ChangedParts
changed_view c = record { at = c.at; count = c.count }

-- what a sync would refuse, by its place among what was read, and why
pub record LeftOutParts : Type 0 where
  pub place : Place
  pub fault : FolderFault

-- what a sync would refuse, as a contract sees it
abbrev pub left_out_view : LeftOut → LeftOutParts
left_out_view l = record { place = l.place; fault = l.fault }

-- what a sync would refuse, by its parts
abbrev pub left_out : Place → FolderFault → LeftOutParts
left_out place fault = record { place = place; fault = fault }

-- how a folder stands: the files that were changed, and what a sync would refuse
pub record StandingParts : Type 0 where
  pub changed : List ChangedParts
  pub left_out : List LeftOutParts

-- how a folder stands, as a contract sees it
abbrev pub standing_view : Standing → StandingParts
standing_view s = record {
  changed = map changed_view s.changed.items;
  left_out = map left_out_view s.left_out.items;
}

-- the file of a book that makes edits, with their number
abbrev pub changed_file : List FileParts → AddedParts → Option ChangedParts
changed_file files a =
    option_map (λ f. record { at = f.at; count = a.count }) (file_of files a.book)

-- the files of which a plan takes something in, in the order in which it does
abbrev pub changed_files : SeenParts → PlanParts → List ChangedParts
changed_files seen p = filter_map (changed_file (files_from 0 seen.files)) p.told.files

-- ---- what is left out

-- a file that is none: it has no name, and does not begin with a book's `\id`
abbrev pub no_file : FoundParts
no_file = record { name = []; bytes = [] }

-- what was read, with these files, and these names of what else stands there
abbrev pub with_found : SeenParts → List FoundParts → List (List ℕ) → SeenParts
with_found seen files others = record {
  project = seen.project;
  bases = seen.bases;
  next = seen.next;
  older = seen.older;
  unplaced = seen.unplaced;
  names = seen.names;
  files = files;
  others = others;
  bundles = seen.bundles;
}

-- What was read, without the file at a place, or without what else stands there under the name of
-- one. In its place stands what has no name and is none, so that all others keep their places.
abbrev pub without : SeenParts → Place → Option SeenParts
without seen (places.File at) =
    Some (with_found seen (slice_set seen.files at no_file) seen.others)
without seen (places.Other at) = Some (with_found seen seen.files (slice_set seen.others at []))
without seen place = None

-- what was read but for what is left out, and what that is
pub record RemainingParts : Type 0 where
  pub seen : SeenParts
  pub left_out : List LeftOutParts

-- what was read but for what is left out, by its parts
abbrev pub remaining : SeenParts → List LeftOutParts → RemainingParts
remaining seen left_out = record { seen = seen; left_out = left_out }

-- what was read but for what is left out, as a contract sees it
abbrev pub remaining_view : Remaining → RemainingParts
remaining_view r = record {
  seen = with_found (seen_view r.seen) (map found_view r.files.items)
      (map (λ name. name.now) r.others.items);
  left_out = map left_out_view r.left_out.items;
}

-- what was read without one thing more, which is refused for this; or the refusal, where it is no
-- file and stands under no file's name
abbrev pub remaining_or : RemainingParts → Place → FolderFault → Option SeenParts
    → Result RemainingParts Refusal
remaining_or r place fault None = Err (Of place fault)
remaining_or r place fault (Some seen) = Ok (record {
  seen = seen;
  left_out = r.left_out ++ left_out place fault ∷ [];
})

-- what was read without what is refused
abbrev pub remaining_after : RemainingParts → Refusal → Result RemainingParts Refusal
remaining_after r Memory = Err Memory
remaining_after r (Of place fault) = remaining_or r place fault (without r.seen place)

-- ---- how a folder stands

-- how a folder stands by the plan of what is not left out
abbrev pub standing_by : RemainingParts → PlanParts → StandingParts
standing_by r p = record { changed = changed_files r.seen p; left_out = r.left_out }

-- the same by that plan, or as it stands without what is refused
abbrev pub standing_or : (RemainingParts → Result StandingParts Refusal) → RemainingParts
    → Result PlanParts Refusal → Result StandingParts Refusal
standing_or without_it r (Ok p) = Ok (standing_by r p)
standing_or without_it r (Err refusal) = remaining_after r refusal >>= without_it

-- how a folder stands where at most so many things more are left out, each refused of the plan of
-- all that is left before it; or the next refusal
unfoldable pub stands_without : ℕ → RemainingParts → Result StandingParts Refusal
stands_without zero r = planned r.seen no_wishes >>= λ p. Ok (standing_by r p)
stands_without (suc more) r = standing_or (stands_without more) r (planned r.seen no_wishes)

-- How a folder stands: what a sync would take in of its files, where nothing is wished, once the
-- files that it would refuse are left out one after another, and which these are and why; or the
-- refusal of what is no file, or of one more file after twenty.
abbrev pub stands : SeenParts → Result StandingParts Refusal
stands seen = stands_without 20 (remaining seen [])
