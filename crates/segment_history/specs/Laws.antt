-- Laws of histories (this project's own rule).
use Rattle.std.specs.Prelude.{◌≡◌, Bool, not, ◌&&◌, ◌||◌, List, map, filter, reverse, IsTrue}
use Rattle.std.specs.List.{AllByRecursion}
use Rattle.usfm_ref.specs.declared.segment.Segment.{Segment}
use Rattle.op_core.specs.Ids.{Id, ids_rise, is_none_left}
use Rattle.op_core.specs.NextIds.{is_among}
use Rattle.op_core.specs.Ops.{Operation, in_segment, names}
use Rattle.op_core.specs.Sets.{IsOpSet}
use Rattle.op_core.specs.Shown.{is_replaced}
use Rattle.op_core.specs.Lists.{ids_of, is_held, shown_ids}
use Rattle.op_core.specs.Thinned.{skeleton}
use Rattle.segment_history.specs.Histories.{KeptPart, Whole, TextLeftOut, NotHeld, EntryParts, of_segment, entries_at}

-- ---- which operations are told of

-- the ids of what a history tells, in its order
abbrev pub told_ids : List EntryParts → List Id
told_ids entries = map (λ e. e.id) entries

-- whether the segment has an operation of the id
abbrev pub is_held_at : List Operation → Segment → Id → Bool
is_held_at held g id = is_held (of_segment held g) id

-- whether an operation of the segment names the id, and no held operation has it
abbrev pub is_awaited_at : List Operation → Segment → Id → Bool
is_awaited_at held g id = is_replaced held g id && not (is_held held id)

-- the ids are those of the segment that are held or awaited, each once, falling
pub record TellsIds (held : List Operation) (g : Segment) : Type 0 where
  pub falling : IsTrue (ids_rise (reverse (told_ids (entries_at held g))))
  pub exactly : (id : Id) → is_among (told_ids (entries_at held g)) id
      ≡ (is_held_at held g id || is_awaited_at held g id)

-- The ids of a history are exactly those of its segment that are held or awaited, each once,
-- falling.
abbrev pub HistoryTellsIds : Type 0
HistoryTellsIds = (held : List Operation) (g : Segment) → TellsIds held g

-- ---- what is shown, and what replaces the others

-- whether an operation is told of as one that is shown: none replaces it
abbrev pub is_told_shown : EntryParts → Bool
is_told_shown e = is_none_left e.replaced_by

-- The operations that a history tells of as shown are those that its segment shows.
abbrev pub HistoryShows : Type 0
HistoryShows = (held : List Operation) (g : Segment) → IsOpSet held →
    told_ids (filter is_told_shown (entries_at held g)) ≡ reverse (shown_ids held g)

-- the held operations of a segment that name an id as replaced
abbrev pub naming_ops : List Operation → Segment → Id → List Operation
naming_ops held g id = filter (λ o. in_segment g o && names o id) held

-- Each operation of a history is replaced by exactly the held ones of its segment that name it.
abbrev pub HistoryTellsReplacers : Type 0
HistoryTellsReplacers = (held : List Operation) (g : Segment) →
    AllByRecursion (λ e. e.replaced_by ≡ ids_of (naming_ops held g e.id)) (entries_at held g)

-- ---- texts that were left out

-- what is kept, without a text
abbrev pub kept_bare : KeptPart → KeptPart
kept_bare (Whole text) = TextLeftOut
kept_bare TextLeftOut = TextLeftOut
kept_bare NotHeld = NotHeld

-- what is told of an operation, without its text
abbrev pub entry_bare : EntryParts → EntryParts
entry_bare e = record { id = e.id; kept = kept_bare e.kept; replaced_by = e.replaced_by }

-- Sets that are equal but for texts left out tell the same history but for texts: so does a set
-- before and after it was thinned, and two that hold the same ids.
abbrev pub SkeletonTells : Type 0
SkeletonTells = (s t : List Operation) (g : Segment) → skeleton s ≡ skeleton t →
    map entry_bare (entries_at s g) ≡ map entry_bare (entries_at t g)
