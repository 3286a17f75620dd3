-- What the files of a sync were taken in beside (this project's own rule): what they were written
-- from, what files were written from before it, and from which number on their edits are numbered.
use Rattle.std.specs.Prelude.{ℕ, List, [], Result, Ok, map}
use Rattle.op_core.specs.NextIds.{greatest_number}
use Rattle.bundle_codec.specs.Spelling.{bundle}
use Rattle.replica_state.specs.States.{State}
use Rattle.book_folder.specs.Begun.{BegunParts, begun_with}
use Rattle.book_folder.specs.Coming.{bundles_begun, earlier_bases, older_from, rebased_if_stale}
use Rattle.book_folder.specs.Files.{FileParts, clear_files}
use Rattle.book_folder.specs.Refusals.{◌>>=◌}
use Rattle.book_folder.specs.Wanted.{SeenParts, WishParts}
use Rattle.book_folder.specs.declared.origin.Origin.{Origin}
use Rattle.book_folder.specs.declared.refusal.Refusal.{Refusal}

-- what files were taken in beside: the copy's name, under which their edits are made; the greatest
-- number that is not one of theirs; the bundle of what they were written from; and the bundles of
-- what files were written from before it, the newest first
pub record OriginParts : Type 0 where
  pub name : List ℕ
  pub above : ℕ
  pub base : List ℕ
  pub older : List (List ℕ)

-- what files were taken in beside, as a contract sees it
abbrev pub origin_view : Origin → OriginParts
origin_view o = record {
  name = o.name;
  above = o.above;
  base = o.base.items;
  older = map (λ b. b.now) o.older.items;
}

-- what files were taken in beside, by the project before they were, and by what they were written
-- from
abbrev pub origin_by : SeenParts → State → State → OriginParts
origin_by seen before base = record {
  name = before.name;
  above = greatest_number before.held;
  base = bundle base.held;
  older = earlier_bases seen;
}

-- the same where what a folder begins with is known: the bundles come in before the files
abbrev pub origin_after : SeenParts → WishParts → BegunParts → Result OriginParts Refusal
origin_after seen wishes b =
    bundles_begun wishes.joined b.replica seen.bundles >>= λ r.
    Ok (origin_by seen r.after b.base)

-- the same of a folder in which it is known which file is which book's
abbrev pub origin_with : SeenParts → WishParts → List FileParts → Result OriginParts Refusal
origin_with seen wishes files =
    begun_with seen wishes >>= λ begun.
    older_from begun.base.name 0 [] (earlier_bases seen) >>= λ older.
    rebased_if_stale wishes begun older files >>= origin_after seen wishes

-- What the files of a sync are taken in beside, or the first refusal: what comes in before them is
-- as for its plan.
abbrev pub files_origin : SeenParts → WishParts → Result OriginParts Refusal
files_origin seen wishes = clear_files seen >>= origin_with seen wishes
