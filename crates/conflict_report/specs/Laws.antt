-- Laws of reports.
use Rattle.std.specs.Prelude.{◌≡◌, ℕ, List, [], None, ◌↔◌, map, IsTrue}
use Rattle.std.specs.List.{Contains, AllByRecursion}
use Rattle.usfm_ref.specs.declared.segment.Segment.{Segment}
use Rattle.op_core.specs.Ids.{Id}
use Rattle.op_core.specs.Ops.{Operation, own_text}
use Rattle.op_core.specs.Sets.{IsOpSet, rises, clash}
use Rattle.op_core.specs.Shown.{shown}
use Rattle.op_core.specs.Lists.{awaited}
use Rattle.op_core.specs.Laws.{SameTogether}
use Rattle.op_core.specs.Thinned.{is_legal, skeleton}
use Rattle.replica_state.specs.States.{begun}
use Rattle.replica_state.specs.Steps.{Command, Receive}
use Rattle.replica_state.specs.Runs.{after_all, NoneRefused}
use Rattle.replica_state.specs.ThinLaws.{TakesFrom, is_brought}
use Rattle.conflict_report.specs.Reports.{report}

-- no two operations that the segment shows have different texts
abbrev pub ShowsOneText : List Operation → Segment → Type 0
ShowsOneText held g = (o p : Operation) → Contains (shown held g) o → Contains (shown held g) p
    → own_text o ≡ own_text p

-- The report of a set is empty exactly where no segment shows two different texts, and no id is
-- awaited.
abbrev pub EmptyReports : Type 0
EmptyReports =
    (held : List Operation) → IsOpSet held →
    (report held ≡ []) ↔ (((g : Segment) → ShowsOneText held g) × (awaited held ≡ []))

-- Two replicas that received bundles with the same operations together, thinned ones as thinned, in
-- whatever order, grouping and repetition, give the same report, if no bundle was refused.
abbrev pub SameBundlesSameReports : Type 0
SameBundlesSameReports =
    (name other : List ℕ) (bundles others : List (List Operation)) →
    AllByRecursion IsOpSet bundles → AllByRecursion IsOpSet others → SameTogether bundles others →
    NoneRefused (begun name) (map Receive bundles) → NoneRefused (begun other) (map Receive others)
    →
    report (after_all (begun name) (map Receive bundles)).held
    ≡ report (after_all (begun other) (map Receive others)).held

-- Two sets that are equal but for texts left out, and in which no id has two operations, give the
-- same report.
abbrev pub SkeletonReports : Type 0
SkeletonReports =
    (held other : List Operation) → IsTrue (rises held) → IsTrue (rises other)
    → IsTrue (is_legal held) → IsTrue (is_legal other) →
    clash held other ≡ None → skeleton held ≡ skeleton other → report held ≡ report other

-- Two replicas that received bundles of one family, with the same ids together, in whatever order,
-- grouping and repetition, and thinned at whatever moments, give the same report.
abbrev pub ThinnedBundlesSameReports : Type 0
ThinnedBundlesSameReports =
    (family : Id → Operation) (name other : List ℕ) (commands others : List Command) →
    AllByRecursion (TakesFrom family) commands → AllByRecursion (TakesFrom family) others →
    ((id : Id) → is_brought commands id ≡ is_brought others id) →
    report (after_all (begun name) commands).held ≡ report (after_all (begun other) others).held
