-- What new operations change in the index, segment by segment.
use Rattle.std.specs.Prelude.{◌≡◌, Bool, false, not, ◌&&◌, List, Option, Some, None, IsTrue}
use Rattle.std.specs.List.{find, list_any, AllByRecursion}
use Rattle.std.specs.Ordering.{is_eq}
use Rattle.usfm_ref.specs.Segments.{segment_cmp, same_segment}
use Rattle.usfm_ref.specs.declared.segment.Segment.{Segment}
use Rattle.usfm_ref.specs.Rising.{rises_by}
use Rattle.op_core.specs.Ids.{Id, ids_rise}
use Rattle.op_core.specs.Ops.{Operation}
use Rattle.op_core.specs.NextIds.{is_among}
use Rattle.op_core.specs.Loops.Index.{register_of, shown_in, missing_in, change_at, IsRisingChange, IsChangeOf, HasRoomIn, Takes, IsOrderly}
use Rattle.op_core.specs.Loops.Turns.{arrives, is_named}
use Rattle.op_core.specs.declared.index.register.Register.{Register}
use Rattle.op_core.specs.declared.index.chapter.Chapter.{Chapter}
use Rattle.op_core.specs.declared.index.change.Change.{Change}
use Rattle.op_core.specs.declared.index.turns.Turn.{Turn}

-- the change of a segment
abbrev pub change_for : Segment → List Change → Option Change
change_for g changes = find (λ c. is_eq (segment_cmp g (change_at c))) changes

-- a change is what the operations of the turns change at its segment
abbrev pub IsChangeAt : List Operation → List Operation → List Turn → List Chapter → Change → Type 0
IsChangeAt held new turns chapters c =
    IsChangeOf held (change_at c) (arrives new turns (change_at c))
    (is_named new turns (change_at c))
    (shown_in (register_of (change_at c) chapters))
    (missing_in (register_of (change_at c) chapters)) c

-- changes that rise by their segments, one for each segment of the turns
pub record AreChanges (held new : List Operation) (turns : List Turn) (chapters : List Chapter)
    (changes : List Change) : Type 0 where
  pub rising : IsTrue (rises_by segment_cmp change_at changes)
  pub each : AllByRecursion IsRisingChange changes
  pub are : AllByRecursion (IsChangeAt held new turns chapters) changes
  pub all : (g : Segment) → change_for g changes ≡ None
      → list_any (λ t. same_segment t.segment g) turns ≡ false

-- the register of each change has room for it
abbrev pub AllHaveRoom : List Chapter → List Change → Type 0
AllHaveRoom chapters changes =
    AllByRecursion (λ c. HasRoomIn c (register_of (change_at c) chapters)) changes

-- the register that there is takes the change
pub record Taken (c : Change) (before after : Option Register) : Type 0 where
  pub old : Register
  pub new : Register
  pub was : before ≡ Some old
  pub is : after ≡ Some new
  pub takes : Takes c old new

-- a register after the change of its segment, if there is one
abbrev pub TakesIn : Option Change → Option Register → Option Register → Type 0
TakesIn None before after = after ≡ before
TakesIn (Some c) before after = Taken c before after

-- a register, if there is one, as operations make it where there was none: it shows what arrives
-- and is not named, and misses what is named and does not arrive
pub record IsBegun (arrives is_named : Id → Bool) (r : Option Register) : Type 0 where
  pub shown_rises : IsTrue (ids_rise (shown_in r))
  pub shown : (q : Id) → is_among (shown_in r) q ≡ (arrives q && not (is_named q))
  pub missing_rises : IsTrue (ids_rise (missing_in r))
  pub missing : (q : Id) → is_among (missing_in r) q ≡ (is_named q && not (arrives q))

-- an index after some changes
pub record Settles (changes : List Change) (before after : List Chapter) : Type 0 where
  pub orderly : IsOrderly after
  pub is_now : (g : Segment) → TakesIn (change_for g changes) (register_of g before)
      (register_of g after)
