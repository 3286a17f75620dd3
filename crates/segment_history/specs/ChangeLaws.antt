-- Laws of what changed (this project's own rule).
use Rattle.std.specs.Prelude.{◌≡◌, Bool, false, List, [], map}
use Rattle.usfm_ref.specs.Rising.{rising}
use Rattle.usfm_ref.specs.Segments.{segment_cmp}
use Rattle.usfm_ref.specs.declared.segment.Segment.{Segment}
use Rattle.op_core.specs.Ids.{Id}
use Rattle.op_core.specs.Ops.{Operation}
use Rattle.op_core.specs.Sets.{IsOpSet}
use Rattle.op_core.specs.Shown.{shown}
use Rattle.op_core.specs.Thinned.{of_ids}
use Rattle.bundle_codec.specs.Summaries.{NameRanges, IsSummaryOf, covers}
use Rattle.segment_history.specs.Loops.Gathering.{is_one_of}
use Rattle.segment_history.specs.Changes.{changed_segments, changes}

-- A segment that is not among those that changed shows the same as the known operations show by
-- themselves.
abbrev pub UnlistedShowsSame : Type 0
UnlistedShowsSame = (held : List Operation) (knows : Id → Bool) (g : Segment) →
    is_one_of (changed_segments held knows) g ≡ false → shown (of_ids knows held) g ≡ shown held g

-- Since a set's own summary nothing changed in it.
abbrev pub NothingSinceOwn : Type 0
NothingSinceOwn =
    (held : List Operation) (s : List NameRanges) → IsOpSet held → IsSummaryOf held s →
    changes held (covers s) ≡ []

-- Where nothing is known, each segment with an operation changed.
abbrev pub AllSinceNothing : Type 0
AllSinceNothing = (held : List Operation) →
    changed_segments held (covers []) ≡ rising segment_cmp (map (λ o. o.segment) held)
