-- What changed since some ids were known (this project's own rule): the segments of which an
-- operation is held that is not known, with what they showed of the known ones and what they show.
use Rattle.std.specs.Prelude.{ℕ, Bool, List, map, filter, reverse}
use Rattle.usfm_ref.specs.Rising.{rising}
use Rattle.usfm_ref.specs.Segments.{segment_cmp}
use Rattle.usfm_ref.specs.declared.segment.Segment.{Segment}
use Rattle.op_core.specs.Ids.{Id}
use Rattle.op_core.specs.Names.{name_cmp}
use Rattle.op_core.specs.Ops.{Operation}
use Rattle.op_core.specs.Shown.{shown}
use Rattle.op_core.specs.Thinned.{of_ids, is_lacked}
use Rattle.segment_history.specs.Histories.{KeptPart, with_text, of_segment}

-- the operations of a set whose ids are not known
abbrev pub new_ops : List Operation → (Id → Bool) → List Operation
new_ops held knows = filter (is_lacked knows) held

-- the segments of which an operation is held that is not known, in the order of the report
abbrev pub changed_segments : List Operation → (Id → Bool) → List Segment
changed_segments held knows = rising segment_cmp (map (λ o. o.segment) (new_ops held knows))

-- the names under which the operations of a segment were made that are not known
abbrev pub new_makers : List Operation → (Id → Bool) → Segment → List (List ℕ)
new_makers held knows g = rising name_cmp (map (λ o. o.id.name) (of_segment (new_ops held knows) g))

-- an operation that is shown: its id, and what is kept of it
pub record ShownParts : Type 0 where
  pub id : Id
  pub kept : KeptPart

-- an operation as one that is shown
abbrev pub shown_part : Operation → ShownParts
shown_part o = record { id = o.id; kept = with_text o.text }

-- what a segment of a set shows, ids falling
abbrev pub shown_parts : List Operation → Segment → List ShownParts
shown_parts held g = reverse (map shown_part (shown held g))

-- a segment that changed: who made what is new there, what the known operations show by
-- themselves, and what all of them show
pub record ChangedParts : Type 0 where
  pub segment : Segment
  pub makers : List (List ℕ)
  pub was : List ShownParts
  pub now_shown : List ShownParts

-- what changed in a segment
abbrev pub changed_at : List Operation → (Id → Bool) → Segment → ChangedParts
changed_at held knows g = record {
  segment = g;
  makers = new_makers held knows g;
  was = shown_parts (of_ids knows held) g;
  now_shown = shown_parts held g;
}

-- what changed in a set
abbrev pub changes : List Operation → (Id → Bool) → List ChangedParts
changes held knows = map (changed_at held knows) (changed_segments held knows)
