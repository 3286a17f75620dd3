use Rattle.std.proofs.Common.{◌≡◌, ◌++◌, map}
use Rattle.book_folder.specs.Begun as begun
use Rattle.book_folder.proofs.begun.ops_of.Given as goal

abbrev pub invariant-loop-op : goal.invariant-loop-op
invariant-loop-op l =
    map (λ op. op.now) l.ops.items ++ begun.ops_by l.is_among l.books l.op-iterator
    ≡ begun.ops_by l.is_among l.books l.set
