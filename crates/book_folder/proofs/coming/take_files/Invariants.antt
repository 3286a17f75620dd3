use Rattle.std.proofs.Common.{◌≡◌, length, map}
use Rattle.book_folder.specs.Files.{files_view}
use Rattle.book_folder.specs.Coming.{all_taken, added_view, files_by, taken_all}
use Rattle.book_folder.specs.Taking.{stood_view}
use Rattle.book_folder.specs.Wanted.{wishes_view}
use Rattle.book_folder.proofs.coming.take_files.Given as goal

abbrev pub invariant-files : goal.invariant-files
invariant-files l =
    let base = l.beside.base.now in
    let older = l.beside.older.now in
    let wishes = wishes_view l.beside.wishes.now in
    taken_all base older wishes
    (all_taken l.replica (map stood_view l.stood.items) (map added_view l.added.items))
    (files_by l.is_known base.held (files_view l.left))
    ≡ taken_all base older wishes
    (all_taken l.fn.replica (map stood_view l.fn.stood.items) (map added_view l.fn.added.items))
    (files_by l.is_known base.held (files_view l.files))

abbrev pub decreases-files : goal.decreases-files
decreases-files l = length l.left
