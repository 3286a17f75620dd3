use Rattle.std.proofs.Common.{◌≡◌, length, map}
use Rattle.book_folder.specs.Done as done
use Rattle.book_folder.specs.Plans.{step_view}
use Rattle.book_folder.proofs.done.project_after.Given as goal

abbrev pub invariant-steps : goal.invariant-steps
invariant-steps l =
    done.project_after l.after (map step_view l.left)
    ≡ done.project_after l.before (map step_view l.plan.steps.items)

abbrev pub decreases-steps : goal.decreases-steps
decreases-steps l = length l.left
