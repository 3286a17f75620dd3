use Rattle.std.proofs.Common.{◌≡◌, length, map}
use Rattle.book_folder.specs.Files.{files_view, lost}
use Rattle.book_folder.specs.Wanted.{named_view, seen_view}
use Rattle.book_folder.proofs.folder.lost.Given as goal

abbrev pub invariant-names : goal.invariant-names
invariant-names l =
    let found = lost (seen_view l.folder.seen) (files_view l.folder.files.now) in
    found (map named_view l.left) ≡ found (map named_view l.folder.seen.names.now)

abbrev pub decreases-names : goal.decreases-names
decreases-names l = length l.left
