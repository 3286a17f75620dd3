use Rattle.std.proofs.Common.{◌≡◌, ◌++◌, map}
use Rattle.std.specs.Vec.Iter.{into_iter_items}
use Rattle.book_folder.specs.Plans.{WriteNew, new_file_view, placing, step_view}
use Rattle.book_folder.proofs.plan.push_writes.Given as goal

abbrev pub invariant-loop-file : goal.invariant-loop-file
invariant-loop-file l =
    let left = map new_file_view (into_iter_items l.file-iterator) in
    let all = map new_file_view l.fn.made.items in
    (map step_view l.steps.items ++ map WriteNew left ≡ map step_view l.fn.steps.items ++ map WriteNew all)
    × (map step_view l.placings.items ++ map placing left ≡ map placing all)
