use Rattle.std.proofs.Common.{◌≡◌, ◌++◌, length, map}
use Rattle.std.specs.List.{filter_map}
use Rattle.book_folder.specs.Coming.{added_view}
use Rattle.book_folder.specs.Files.{files_view}
use Rattle.book_folder.specs.Standing as stand
use Rattle.book_folder.proofs.standing.changed_files.Given as goal

abbrev pub invariant-files : goal.invariant-files
invariant-files l =
    let file = stand.changed_file (files_view l.folder.files.now) in
    map stand.changed_view l.changed.items ++ filter_map file (map added_view l.left)
    ≡ filter_map file (map added_view l.plan.told.files.items)

abbrev pub decreases-files : goal.decreases-files
decreases-files l = length l.left
