use Rattle.std.proofs.Common.{◌≡◌, length}
use Rattle.book_folder.specs.Files as files
use Rattle.book_folder.specs.Begun as begun
use Rattle.book_folder.specs.Stale as stale
use Rattle.book_folder.specs.Wanted.{wishes_view}
use Rattle.book_folder.proofs.stale.rebase.Given as goal

abbrev pub invariant-files : goal.invariant-files
invariant-files l =
    stale.rebased (wishes_view l.wishes).settled (begun.begun_view l.begun) l.older (files.files_view l.left)
    ≡ stale.rebased (wishes_view l.wishes).settled (begun.begun_view l.fn.begun) l.older (files.files_view l.files)

abbrev pub decreases-files : goal.decreases-files
decreases-files l = length l.left
