use Rattle.std.proofs.Common.{◌≡◌, ◌≤◌}
use Rattle.versification.specs.Versifications.{is_verse}
use Rattle.versification.specs.Views.{verses_in}
use Rattle.project_status.specs.Progress.{count_to}
use Rattle.project_status.proofs.chapters.verse_count.Given as goal

abbrev pub invariant-loop-before : goal.invariant-loop-before
invariant-loop-before l =
    (l.count ≡ count_to l.before (is_verse (verses_in l.versification) l.book l.chapter)) × (l.count ≤ l.before)
