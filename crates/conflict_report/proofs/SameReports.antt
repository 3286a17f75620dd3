-- Sets that are equal but for texts left out give the same report.
use Rattle.std.proofs.Common.{◌≡◌, ℕ, not, List, ◌++◌, filter, reverse}
use Rattle.std.specs.List.{flat_map}
use Rattle.usfm_ref.specs.Segments.{segment}
use Rattle.usfm_ref.specs.declared.segment.Segment.{Segment}
use Rattle.op_core.specs.Ops.{Operation}
use Rattle.op_core.specs.Shown.{shown}
use Rattle.op_core.specs.Thinned.{skeleton}
use Rattle.op_core.proofs.ThinnedSets.Alike.{answers_alike}
use Rattle.op_core.proofs.Sets.Groupings.{skeleton_shows}
use Rattle.replica_state.proofs.ThinnedRuns.{run_alike}
use Rattle.conflict_report.specs.Reports.{is_repeated, conflict_lines, awaited_line, report}
use Rattle.conflict_report.specs.Laws.{SkeletonReports, ThinnedBundlesSameReports}

-- what is reported of a segment that shows these operations
abbrev told : Segment → List Operation → List ℕ
told g ops = conflict_lines g (reverse (filter (λ o. not (is_repeated ops o)) ops))

-- sets that show the same
pub same_reports : (held other : List Operation) → skeleton held ≡ skeleton other → ((g : Segment) → shown held g ≡ shown other g)
    → report held ≡ report other
same_reports held other e shows =
    let same = answers_alike held other e shows in
    λ i. flat_map (λ book. flat_map (λ key. told (segment book key) (shows (segment book key) i)) (same.keys book i)) (same.books i)
    ++ flat_map awaited_line (same.awaited i)

-- sets with one skeleton have one report
pub skeleton_reports : SkeletonReports
skeleton_reports held other rising other_rising legal other_legal none e =
    same_reports held other e (λ g. skeleton_shows held other g rising other_rising legal other_legal none e)

-- replicas that received the same but for texts left out write the same report
pub thinned_bundles_same_reports : ThinnedBundlesSameReports
thinned_bundles_same_reports family name other commands others taken others_taken same =
    let alike = (run_alike family name other commands others taken others_taken same).same in
    same_reports _ _ alike.skeletons alike.shows
