use Rattle.std.proofs.Common.{◌≡◌, ◌++◌, take}
use Rattle.std.specs.List.{flat_map}
use Rattle.project_status.specs.Progress.{progress_line}
use Rattle.project_status.proofs.progress.push_progress.Given as goal

abbrev pub invariant-loop-chapter : goal.invariant-loop-chapter
invariant-loop-chapter l = l.text.items ≡ l.fn.text.items ++ flat_map (progress_line l.book) (take l.chapter-index l.chapter-items)
