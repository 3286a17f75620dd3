use Rattle.std.proofs.Common.{◌≡◌, ◌++◌, map}
use Rattle.std.specs.Vec.Iter.{into_iter_items}
use Rattle.book_folder.specs.Plans.{step_view}
use Rattle.book_folder.proofs.plan.push_places.Given as goal

abbrev pub invariant-loop-placing : goal.invariant-loop-placing
invariant-loop-placing l =
    map step_view l.steps.items ++ map step_view (into_iter_items l.placing-iterator)
    ≡ map step_view l.fn.steps.items ++ map step_view l.fn.placings.items
