-- New operations in the order of their segments, as the index takes them in.
use Rattle.std.specs.Prelude.{◌≡◌, ℕ, Bool, true, not, ◌&&◌, List, [], ◌∷◌, IsTrue, take, drop}
use Rattle.std.specs.List.{list_any, list_all}
use Rattle.std.specs.Ordering.{is_lt}
use Rattle.usfm_ref.specs.Segments.{segment_cmp, same_segment}
use Rattle.usfm_ref.specs.declared.segment.Segment.{Segment}
use Rattle.op_core.specs.Ids.{Id, same_id}
use Rattle.op_core.specs.Ops.{Operation, names}
use Rattle.op_core.specs.declared.index.turns.Turn.{Turn}

-- whether there is an operation at this place, and it passes
abbrev pub is_at : (Operation → Bool) → List Operation → ℕ → Bool
is_at p new at = list_any p (take 1 (drop at new))

-- no turn is of a segment before that of an earlier one
abbrev pub never_fall : List Turn → Bool
never_fall [] = true
never_fall (t ∷ turns) =
    list_all (λ u. not (is_lt (segment_cmp u.segment t.segment))) turns && never_fall turns

-- each operation has a turn, at its segment, and the segments never fall
pub record AreTurnsOf (new : List Operation) (turns : List Turn) : Type 0 where
  pub same : (p : Segment → Bool) (f : Operation → Bool)
      → list_any (λ t. p t.segment && is_at f new t.at) turns
      ≡ list_any (λ o. p o.segment && f o) new
  pub each : (p : Segment → Bool) → list_any (λ t. p t.segment) turns
      ≡ list_any (λ o. p o.segment) new
  pub sorted : IsTrue (never_fall turns)

-- whether an operation whose turn it is has the id
abbrev pub comes : List Operation → List Turn → Id → Bool
comes new turns id = list_any (λ t. is_at (λ o. same_id id o.id) new t.at) turns

-- whether an operation whose turn it is names the id
abbrev pub is_called : List Operation → List Turn → Id → Bool
is_called new turns id = list_any (λ t. is_at (λ o. names o id) new t.at) turns

-- whether one of the operations at the segment has the id
abbrev pub arrives : List Operation → List Turn → Segment → Id → Bool
arrives new turns g id =
    list_any (λ t. same_segment t.segment g && is_at (λ o. same_id id o.id) new t.at) turns

-- whether one of the operations at the segment names the id
abbrev pub is_named : List Operation → List Turn → Segment → Id → Bool
is_named new turns g id =
    list_any (λ t. same_segment t.segment g && is_at (λ o. names o id) new t.at) turns
