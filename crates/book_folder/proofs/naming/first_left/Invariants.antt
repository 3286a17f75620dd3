use Rattle.std.proofs.Common.{◌≡◌, length, map, option_map}
use Rattle.std.specs.List.{find}
use Rattle.book_folder.specs.Naming as naming
use Rattle.book_folder.specs.Wanted.{named_view}
use Rattle.book_folder.proofs.naming.first_left.Given as goal

abbrev pub invariant-names : goal.invariant-names
invariant-names l =
    option_map (λ n. n.name) (find (naming.is_left (naming.form_view l.form)) (map named_view l.left))
    ≡ option_map (λ n. n.name) (find (naming.is_left (naming.form_view l.form)) (map named_view l.names))

abbrev pub decreases-names : goal.decreases-names
decreases-names l = length l.left
