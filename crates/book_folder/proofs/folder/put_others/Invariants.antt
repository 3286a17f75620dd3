use Rattle.std.proofs.Common.{◌≡◌, ◌++◌, ℕ, List, length, map, option_map, Bor}
use Rattle.book_folder.specs.Files.{found_at}
use Rattle.book_folder.specs.Folder.{place_under}
use Rattle.book_folder.specs.declared.refusal.Place.TheVariants as places
use Rattle.book_folder.proofs.folder.put_others.Given as goal

abbrev pub invariant-others : goal.invariant-others
invariant-others l =
    (after : List (Bor (List ℕ))) × (l.left ++ after ≡ l.others)
    × ((name : List ℕ) → place_under l.places name
    ≡ option_map places.Other (found_at (length l.left) (map (λ n. n.now) after) name))

abbrev pub decreases-others : goal.decreases-others
decreases-others l = length l.left
