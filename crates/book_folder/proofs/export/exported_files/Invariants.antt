use Rattle.std.proofs.Common.{◌≡◌, [], length, map}
use Rattle.book_folder.specs.Exports.{exported_file}
use Rattle.book_folder.specs.Files.{files_view}
use Rattle.book_folder.specs.Naming.{form_view}
use Rattle.book_folder.specs.Plans.{new_file_view}
use Rattle.book_folder.specs.Refusals.{gathered}
use Rattle.book_folder.specs.Wanted.{seen_view}
use Rattle.book_folder.proofs.export.exported_files.Given as goal

abbrev pub invariant-books : goal.invariant-books
invariant-books l =
    let give = exported_file (seen_view l.by.folder.now.seen) l.by.replica.now.held l.by.base.now.held
    (files_view l.by.folder.now.files.now) (form_view l.by.form.now) in
    gathered give (map new_file_view l.made.items) l.left ≡ gathered give [] l.books

abbrev pub decreases-books : goal.decreases-books
decreases-books l = length l.left
