-- The distinct texts of a segment, each compared with the one that is picked (this project's own
-- rule).
use Rattle.std.specs.Prelude.{◌≡◌, ℕ, ◌+◌, max, List, map, length, slice_get, Some}
use Rattle.word_diff.specs.Differences.{JoinsToOld, JoinsToNew, CutsOld, CutsNew, KeepsCommon, KeepsLongest, KeepsEnds}
use Rattle.word_diff.specs.Parts.{AreApart, spans}
use Rattle.word_diff.specs.declared.part.Part.{Part}
use Rattle.op_core.specs.Ops.{Operation}
use Rattle.op_core.specs.Shown.{text_if_any}
use Rattle.conflict_settling.specs.declared.sides.Entry.{Entry}

-- what differs between two texts: parts of whole words that are in both, in the old one or in the
-- new one
pub record IsDifference (old new : List ℕ) (parts : List Part) : Type 0 where
  pub old_text : JoinsToOld parts old
  pub new_text : JoinsToNew parts new
  pub old_words : CutsOld parts old
  pub new_words : CutsNew parts new
  pub common : KeepsCommon parts old new
  pub longest : KeepsLongest parts old new
  pub ends : KeepsEnds parts old new
  pub apart : AreApart (spans parts)

-- a text as it is asked for: its number, the operation that has it, and what differs
pub record EntryView : Type 0 where
  pub number : ℕ
  pub op : Operation
  pub parts : List Part

-- an entry, and not where it lies in memory
abbrev pub view : Entry → EntryView
view e = record { number = e.number; op = e.op.now; parts = e.parts.items }

-- entries, and not where they lie in memory
abbrev pub views : List Entry → List EntryView
views entries = map view entries

-- the text of one of some operations, empty where there is none
abbrev pub text_of : List Operation → ℕ → List ℕ
text_of ops k = text_if_any (slice_get ops k)

-- An entry is that of the operation at an index: numbered from 1, and compared with the first text;
-- the first is compared with the second.
pub record IsEntryAt (ops : List Operation) (k : ℕ) (e : EntryView) : Type 0 where
  pub number : e.number ≡ k + 1
  pub op : slice_get ops k ≡ Some e.op
  pub compared : IsDifference (text_of ops 0) (text_of ops (max k 1)) e.parts

-- the entries are those of the operations, one after another
pub record AreEntriesOf (ops : List Operation) (entries : List EntryView) : Type 0 where
  pub count : length entries ≡ length ops
  pub each : (k : ℕ) (e : EntryView) → slice_get entries k ≡ Some e → IsEntryAt ops k e
