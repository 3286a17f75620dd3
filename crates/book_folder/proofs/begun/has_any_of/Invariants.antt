use Rattle.std.proofs.Common.{◌≡◌}
use Rattle.std.specs.List.{list_any}
use Rattle.book_folder.specs.Begun as begun
use Rattle.book_folder.proofs.begun.has_any_of.Given as goal

abbrev pub invariant-loop-view : goal.invariant-loop-view
invariant-loop-view l =
    list_any (begun.is_of l.replica.held) l.view-iterator ≡ list_any (begun.is_of l.replica.held) l.bundle
