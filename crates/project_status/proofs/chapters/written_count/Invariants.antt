use Rattle.std.proofs.Common.{◌≡◌, ◌≤◌}
use Rattle.versification.specs.Views.{verses_in}
use Rattle.project_status.specs.Progress.{count_to, in_chapter, is_done}
use Rattle.project_status.proofs.chapters.written_count.Given as goal

abbrev pub invariant-loop-before : goal.invariant-loop-before
invariant-loop-before l =
    let done = is_done (verses_in l.versification) l.book l.chapter (in_chapter l.chapter l.verses) in
    (l.count ≡ count_to l.before done) × (l.count ≤ l.before)
