-- What thinning leaves out of a set (this project's own rule), as it is said before.
use Rattle.std.specs.Prelude.{List, map, filter}
use Rattle.usfm_ref.specs.Rising.{rising}
use Rattle.usfm_ref.specs.Segments.{segment_cmp}
use Rattle.usfm_ref.specs.declared.segment.Segment.{Segment}
use Rattle.op_core.specs.Ops.{Operation}
use Rattle.op_core.specs.Thinned.{is_left_out}

-- the operations whose texts thinning leaves out
abbrev pub left_out_ops : List Operation → List Operation
left_out_ops held = filter (is_left_out held) held

-- their segments, one for each of them
abbrev pub segments_of_left_out : List Operation → List Segment
segments_of_left_out held = map (λ o. o.segment) (left_out_ops held)

-- the segments of which thinning leaves a text out, in the order of books and keys
abbrev pub left_out_segments : List Operation → List Segment
left_out_segments held = rising segment_cmp (segments_of_left_out held)
