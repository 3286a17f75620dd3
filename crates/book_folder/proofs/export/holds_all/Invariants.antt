use Rattle.std.proofs.Common.{◌≡◌}
use Rattle.std.specs.List.{list_all}
use Rattle.book_folder.specs.Exports.{is_held_of}
use Rattle.book_folder.proofs.export.holds_all.Given as goal

abbrev pub invariant-loop-op : goal.invariant-loop-op
invariant-loop-op l =
    (l.cursor ≡ l.replica.held)
    × (list_all (is_held_of l.replica.held l.book) l.op-iterator ≡ list_all (is_held_of l.replica.held l.book) l.base.held)
