use Rattle.std.proofs.Common.{◌≡◌, ◌++◌, ◌&&◌, filter, map}
use Rattle.book_folder.specs.Bases.{shows}
use Rattle.book_folder.specs.Begun.{is_one_of}
use Rattle.book_folder.specs.Exports.{shown_of}
use Rattle.book_folder.proofs.export.shown_ops.Given as goal

abbrev pub invariant-loop-op : goal.invariant-loop-op
invariant-loop-op l =
    (l.cursor ≡ l.replica.held)
    × (map (λ op. op.now) l.ops.items
    ++ filter (λ o. is_one_of l.books o.segment.book && shows l.replica.held o) l.op-iterator
    ≡ shown_of l.books l.replica.held)
