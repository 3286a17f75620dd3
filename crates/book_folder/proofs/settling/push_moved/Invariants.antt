use Rattle.std.proofs.Common.{◌≡◌, ◌++◌, map}
use Rattle.std.specs.Vec.Iter.{into_iter_items}
use Rattle.book_folder.specs.Settling.{moved_view, older_put, settling_view}
use Rattle.book_folder.proofs.settling.push_moved.Given as goal

abbrev pub invariant-loop-older : goal.invariant-loop-older
invariant-loop-older l =
    map settling_view l.steps.items ++ map older_put (map moved_view (into_iter_items l.older-iterator))
    ≡ map settling_view l.fn.steps.items ++ map older_put (map moved_view l.fn.moved.items)
