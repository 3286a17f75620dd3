use Rattle.std.proofs.Common.{◌≡◌, ◌++◌, ℕ, List, length, map, option_map}
use Rattle.std.specs.Option.{option_or}
use Rattle.book_folder.specs.Files.{found_at}
use Rattle.book_folder.specs.Folder.{place_under}
use Rattle.book_folder.specs.Wanted.{found_view}
use Rattle.book_folder.specs.declared.refusal.Place.TheVariants as places
use Rattle.book_folder.specs.declared.seen.FoundFile.{FoundFile}
use Rattle.book_folder.proofs.folder.put_files.Given as goal

abbrev pub invariant-files : goal.invariant-files
invariant-files l =
    (after : List FoundFile) × (l.left ++ after ≡ l.files)
    × ((name : List ℕ) → place_under l.places name
    ≡ option_or (option_map places.File (found_at (length l.left) (map (λ f. f.name) (map found_view after)) name))
    (place_under l.fn.places name))

abbrev pub decreases-files : goal.decreases-files
decreases-files l = length l.left
