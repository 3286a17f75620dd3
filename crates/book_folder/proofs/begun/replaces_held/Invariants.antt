use Rattle.std.proofs.Common.{◌≡◌}
use Rattle.std.specs.List.{list_any}
use Rattle.book_folder.specs.Begun as begun
use Rattle.book_folder.proofs.begun.replaces_held.Given as goal

abbrev pub invariant-loop-id : goal.invariant-loop-id
invariant-loop-id l =
    list_any (begun.is_held l.replica.held) l.id-iterator ≡ begun.replaces_held l.replica.held l.view
