use Rattle.std.proofs.Common.{◌≡◌}
use Rattle.std.specs.List.{flat_map}
use Rattle.versification.specs.Views.{verses_in}
use Rattle.project_status.specs.Verses.{verses_of}
use Rattle.project_status.specs.Progress.{below, chapter_of, in_chapter}
use Rattle.project_status.proofs.chapters.chapters_of.Given as goal

abbrev pub invariant-loop-chapter : goal.invariant-loop-chapter
invariant-loop-chapter l =
    let v = verses_in l.versification in
    l.found.items ≡ flat_map (λ c. chapter_of v l.fn.book c (in_chapter c (verses_of l.fn.set l.fn.book))) (below l.chapter)
