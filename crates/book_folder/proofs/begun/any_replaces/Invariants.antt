use Rattle.std.proofs.Common.{◌≡◌}
use Rattle.std.specs.List.{list_any}
use Rattle.book_folder.specs.Begun as begun
use Rattle.book_folder.proofs.begun.any_replaces.Given as goal

abbrev pub invariant-loop-op : goal.invariant-loop-op
invariant-loop-op l =
    list_any (begun.replaces_held l.other) l.op-iterator ≡ list_any (begun.replaces_held l.other) l.set
