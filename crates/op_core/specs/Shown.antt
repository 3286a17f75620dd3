-- What a segment shows, and the text that is picked for it. A multi-value register shows each write
-- that no write of the register replaces (INRIA RR-7506); which of several is picked, and the
-- chapter's own line, are this project's own rule.
use Rattle.std.specs.Prelude.{ℕ, nat_le, Bool, not, ◌&&◌, cond, List, [], ◌∷◌, Option, Some, None, filter}
use Rattle.std.specs.List.{list_any}
use Rattle.usfm_ref.specs.Keys.{is_head}
use Rattle.usfm_ref.specs.declared.segment.Segment.{Segment}
pub use Rattle.verse_cut.specs.Reading.{is_empty}
pub use Rattle.verse_cut.specs.Joins.{chapter_line}
use Rattle.op_core.specs.declared.operations.picked.Picked.{Picked}
use Rattle.op_core.specs.declared.operations.picked.Picked.TheVariants.{Nothing, Held, ChapterLine}
use Rattle.op_core.specs.Ids.{Id}
use Rattle.op_core.specs.Ops.{Operation, in_segment, is_verse_in, names, own_text}

-- whether an operation of the segment names the id
abbrev pub is_replaced : List Operation → Segment → Id → Bool
is_replaced held g id = list_any (λ p. in_segment g p && names p id) held

-- whether an operation is of the segment, and no operation of the segment names its id as replaced
abbrev pub is_shown : List Operation → Segment → Operation → Bool
is_shown held g o = in_segment g o && not (is_replaced held g o.id)

-- the operations of the segment whose ids no operation of the segment names
abbrev pub shown : List Operation → Segment → List Operation
shown held g = filter (is_shown held g) held

-- the last operation, if there is one
abbrev pub last : List Operation → Option Operation
last [] = None
last (o ∷ []) = Some o
last (o ∷ p ∷ rest) = last (p ∷ rest)

-- the text of an operation, empty if there is none or its text is left out
abbrev pub text_if_any : Option Operation → List ℕ
text_if_any None = []
text_if_any (Some o) = own_text o

-- the text of the greatest shown id, empty where none is shown
abbrev pub text_of : List Operation → Segment → List ℕ
text_of held g = text_if_any (last (shown held g))

-- whether the operation's segment is a verse of the chapter and has a text that is not empty
abbrev pub is_verse_with_text : List Operation → List ℕ → ℕ → Operation → Bool
is_verse_with_text held book chapter o =
    is_verse_in book chapter o && not (is_empty (text_of held o.segment))

-- whether some verse of the chapter has a text that is not empty
abbrev pub has_verse_text : List Operation → List ℕ → ℕ → Bool
has_verse_text held book chapter = list_any (is_verse_with_text held book chapter) held

-- whether the segment is the head of a chapter from 1 on without a text while a verse of the
-- chapter has one: without a line of its own, such a chapter's verses would be read as verses of
-- the chapter before
abbrev pub wants_chapter_line : List Operation → Segment → Bool
wants_chapter_line held g =
    is_head g.key.place && nat_le 1 g.key.chapter && is_empty (text_of held g)
    && has_verse_text held g.book g.key.chapter

-- what stands for a segment's text: the chapter's own line, the greatest shown operation, or
-- nothing
pub data Pick : Type 0 where
  Line : (chapter : ℕ) → Pick
  Greatest : (o : Operation) → Pick
  Empty : Pick

-- an operation as a pick, or the empty pick where there is none
abbrev pub greatest : Option Operation → Pick
greatest None = Empty
greatest (Some o) = Greatest o

-- what is picked for a segment: the chapter's own line where it is wanted, else the shown operation
-- with the greatest id, and nothing where none is shown
abbrev pub pick : List Operation → Segment → Pick
pick held g = cond (wants_chapter_line held g) (Line g.key.chapter) (greatest (last (shown held g)))

-- what an answer of `OpSet::pick` says
abbrev pub picked : Picked → Pick
picked Nothing = Empty
picked (Held op) = Greatest op.now
picked (ChapterLine chapter) = Line chapter

-- the text of a pick: the chapter's own line, the operation's text, or the empty text
abbrev pub picked_text : Pick → List ℕ
picked_text (Line chapter) = chapter_line chapter
picked_text (Greatest o) = own_text o
picked_text Empty = []
