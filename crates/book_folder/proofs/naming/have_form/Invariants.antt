use Rattle.std.proofs.Common.{◌≡◌, length, map}
use Rattle.book_folder.specs.Naming as naming
use Rattle.book_folder.proofs.naming.have_form.Given as goal

abbrev pub invariant-names : goal.invariant-names
invariant-names l =
    naming.have_form (map naming.book_name_view l.left) (naming.form_view l.form)
    ≡ naming.have_form (map naming.book_name_view l.names) (naming.form_view l.form)

abbrev pub decreases-names : goal.decreases-names
decreases-names l = length l.left
