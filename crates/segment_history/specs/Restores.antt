-- Texts that segments get back (this project's own rule), as edits over ids.
use Rattle.std.specs.Prelude.{◌≡◌, ℕ, Bool, List, [], ◌∷◌, Option, None, Some, if◌then◌else◌}
use Rattle.std.specs.List.{flat_map}
use Rattle.std.specs.Option.{option_or}
use Rattle.usfm_ref.specs.Books.{same_bytes}
use Rattle.usfm_ref.specs.declared.segment.Segment.{Segment}
use Rattle.op_core.specs.Ids.{Id}
use Rattle.op_core.specs.Ops.{Operation, is_full, own_text}
use Rattle.op_core.specs.Shown.{shown, last, text_if_any, text_of}
use Rattle.op_core.specs.Lists.{shown_ids}
use Rattle.op_core.specs.Sets.{get}
use Rattle.op_core.specs.Thinned.{of_ids}
use Rattle.segment_history.specs.declared.fault.RestoreFault.{RestoreFault}
use Rattle.segment_history.specs.declared.fault.RestoreFault.TheVariants.{Memory, NotHeld, LeftOut}

-- a text for a segment, and the ids of the operations that it replaces there
pub record RestoredParts : Type 0 where
  pub segment : Segment
  pub text : List ℕ
  pub ids : List Id

-- the edit that gives a segment a text in the place of all that it shows; none where it has that
-- text
abbrev pub restored_text : List Operation → Segment → List ℕ → List RestoredParts
restored_text held g text =
    if same_bytes (text_of held g) text then []
    else record { segment = g; text = text; ids = shown_ids held g } ∷ []

-- the operation with the greatest id of those that the known ones of a set show by themselves
abbrev pub known_greatest : List Operation → (Id → Bool) → Segment → Option Operation
known_greatest held knows g = last (shown (of_ids knows held) g)

-- the id of an operation, if there is one and its text was left out
abbrev pub left_out : Option Operation → Option Id
left_out None = None
left_out (Some o) = if is_full o then None else Some o.id

-- the first of the operations that segments are to be as, whose text was left out
abbrev pub first_left_out : List Operation → (Id → Bool) → List Segment → Option Id
first_left_out held knows [] = None
first_left_out held knows (g ∷ gs) =
    option_or (left_out (known_greatest held knows g)) (first_left_out held knows gs)

-- the edit that gives a segment the text that the known operations pick by themselves, and no text
-- where these have none
abbrev pub restored_at : List Operation → (Id → Bool) → Segment → List RestoredParts
restored_at held knows g = restored_text held g (text_if_any (known_greatest held knows g))

-- the edits that do so for several segments
abbrev pub restored_since : List Operation → (Id → Bool) → List Segment → List RestoredParts
restored_since held knows segments = flat_map (restored_at held knows) segments

-- ---- the text of an operation

-- the edit that gives the segment of an operation its text, if there is an operation
abbrev pub restored_of : List Operation → Option Operation → List RestoredParts
restored_of held None = []
restored_of held (Some o) = restored_text held o.segment (own_text o)

-- the edit that gives its segment the text of the operation of an id
abbrev pub restored_id : List Operation → Id → List RestoredParts
restored_id held id = restored_of held (get held id)

-- why the text of an operation that may be held cannot be had back
abbrev pub refusal_of : Id → Option Operation → Option RestoreFault
refusal_of id None = Some (NotHeld id)
refusal_of id (Some o) = if is_full o then None else Some (LeftOut id)

-- why the text of the operation of an id cannot be had back: it is not held, or its text was left
-- out
abbrev pub refusal_at : List Operation → Id → Option RestoreFault
refusal_at held id = refusal_of id (get held id)

-- what is refused for this: that, or out of memory where nothing is refused
abbrev pub RefusedFor : Option RestoreFault → RestoreFault → Type 0
RefusedFor refusal Memory = refusal ≡ None
RefusedFor refusal fault = refusal ≡ Some fault
