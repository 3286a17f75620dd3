-- The conflicts that are still to be asked, in the order of the report (this project's own rule).
use Rattle.std.specs.Prelude.{ℕ, nat_le, Bool, true, ◌&&◌, List, [], ◌∷◌, length, Option, None, Some, if◌then◌else◌}
use Rattle.std.specs.List.{flat_map}
use Rattle.std.specs.Ordering.{is_lt}
use Rattle.usfm_ref.specs.Segments.{segment, segment_cmp}
use Rattle.usfm_ref.specs.declared.segment.Segment.{Segment}
use Rattle.op_core.specs.Ops.{Operation}
use Rattle.op_core.specs.Lists.{books_of, keys_of}
use Rattle.conflict_report.specs.Reports.{distinct_texts}
use Rattle.conflict_settling.specs.Wanted.{is_wanted}
use Rattle.conflict_settling.specs.declared.wanted.Wanted.{Wanted}

-- whether a segment shows two or more distinct texts
abbrev pub is_conflict : List Operation → Segment → Bool
is_conflict held g = nat_le 2 (length (distinct_texts held g))

-- whether a segment comes after the one that was passed, if there is one
abbrev pub is_after : Option Segment → Segment → Bool
is_after None g = true
is_after (Some passed) g = is_lt (segment_cmp passed g)

-- whether a conflict is still to be asked
abbrev pub is_open : List Operation → List Wanted → Option Segment → Segment → Bool
is_open held wanted passed g = is_wanted wanted g && is_after passed g && is_conflict held g

-- the segment, if it is one of them
abbrev pub open_at : List Operation → List Wanted → Option Segment → Segment → List Segment
open_at held wanted passed g = if is_open held wanted passed g then g ∷ [] else []

-- those of a book, by rising key
abbrev pub open_in : List Operation → List Wanted → Option Segment → List ℕ → List Segment
open_in held wanted passed book =
    flat_map (λ key. open_at held wanted passed (segment book key)) (keys_of held book)

-- those of all books, in their order
abbrev pub open_conflicts : List Operation → List Wanted → Option Segment → List Segment
open_conflicts held wanted passed = flat_map (open_in held wanted passed) (books_of held)
