use Rattle.std.proofs.Common.{◌≡◌, ◌++◌, map, filter, not, ◌&&◌}
use Rattle.book_folder.specs.Bases as bases
use Rattle.book_folder.specs.Begun as begun
use Rattle.book_folder.proofs.bases.next_ops.Given as goal

abbrev pub invariant-loop-op : goal.invariant-loop-op
invariant-loop-op l =
    (l.cursor ≡ l.replica.held)
    × (map (λ op. op.now) l.ops.items
    ++ filter (λ o. not (begun.is_one_of l.headless o.segment.book) && bases.shows l.replica.held o) l.op-iterator
    ≡ bases.shown_in_files l.headless l.replica.held)
