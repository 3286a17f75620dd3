-- A conflict as it is asked, and which one is asked next (this project's own rule).
use Rattle.std.specs.Prelude.{◌≡◌, ℕ, true, false, List, [], ◌∷◌, ◌++◌, length, map, Option, None, Some, Result, Ok, Err}
use Rattle.std.specs.List.{flat_map}
use Rattle.usfm_ref.specs.declared.segment.Segment.{Segment}
use Rattle.op_core.specs.Ids.{Id}
pub use Rattle.op_core.specs.Ops.{own_text}
use Rattle.op_core.specs.Ops.{Operation}
use Rattle.op_core.specs.Lists.{ids_of}
use Rattle.op_core.specs.Shown.{pick}
use Rattle.conflict_report.specs.Reports.{distinct_texts, repeated_texts}
pub use Rattle.conflict_settling.specs.Before.{text_before}
use Rattle.conflict_settling.specs.Entries.{EntryView, AreEntriesOf}
use Rattle.conflict_settling.specs.Pending.{open_conflicts}
use Rattle.conflict_settling.specs.Questions.{head_line, before_lines, entry_lines, repeated_line, choice_line}
use Rattle.conflict_settling.specs.Wanted.{has_books}
use Rattle.conflict_settling.specs.declared.asked.SettleFault.{SettleFault}
use Rattle.conflict_settling.specs.declared.asked.SettleFault.TheVariants.{Memory, NoBook}
use Rattle.conflict_settling.specs.declared.question.Manner.{Manner}
use Rattle.conflict_settling.specs.declared.wanted.Wanted.{Wanted}

-- a conflict as it is asked: the segment, the ids that are listed, its distinct texts, and what a
-- person reads
pub record AskedParts : Type 0 where
  pub segment : Segment
  pub ids : List Id
  pub texts : List (List ℕ)
  pub question : List ℕ

-- the ids that are listed of a segment: those beside its distinct texts, and then those that have
-- one of these too
abbrev pub listed_ids : List Operation → Segment → List Id
listed_ids held g = ids_of (distinct_texts held g) ++ ids_of (repeated_texts held g)

-- What a person reads of a segment that shows these distinct texts and these other operations: the
-- entries of the texts are compared as they can be, and all else is one text.
pub record IsQuestionOf (held : List Operation) (g : Segment) (left : ℕ) (manner : Manner)
    (distinct repeated : List Operation) (bytes : List ℕ) : Type 0 where
  pub entries : List EntryView
  pub are : AreEntriesOf distinct entries
  pub bytes_are : bytes ≡ head_line g left
      ++ (before_lines (text_before held g)
      ++ (flat_map (entry_lines manner (pick held g)) entries
      ++ (flat_map (repeated_line distinct) repeated ++ choice_line)))

-- a segment of a set, asked where this many conflicts are left
pub record IsAskedOf (held : List Operation) (g : Segment) (left : ℕ) (manner : Manner)
    (asked : AskedParts) : Type 0 where
  pub segment : asked.segment ≡ g
  pub ids : asked.ids ≡ listed_ids held g
  pub texts : asked.texts ≡ map own_text (distinct_texts held g)
  pub question :
      IsQuestionOf held g left manner (distinct_texts held g) (repeated_texts held g) asked.question

-- the first of some conflicts is what is asked
abbrev pub IsFirstOf : List Operation → Manner → List Segment → Option AskedParts → Type 0
IsFirstOf held manner conflicts None = conflicts ≡ []
IsFirstOf held manner conflicts (Some asked) =
    (g : Segment) × (rest : List Segment) × (conflicts ≡ g ∷ rest)
    × IsAskedOf held g (length conflicts) manner asked

-- What is asked next: the first open conflict, or none; nothing where a book that is wanted has no
-- operation.
abbrev pub Asks : List Operation → List Wanted → Option Segment → Manner
    → Result (Option AskedParts) SettleFault → Type 0
Asks held wanted passed manner (Ok asked) =
    (has_books held wanted ≡ true) × IsFirstOf held manner (open_conflicts held wanted passed) asked
Asks held wanted passed manner (Err NoBook) = has_books held wanted ≡ false
Asks held wanted passed manner (Err Memory) = has_books held wanted ≡ true
