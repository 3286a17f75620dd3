-- Operations: a multi-value register's writes (Shapiro, Preguiça, Baquero and Zawirski, INRIA
-- RR-7506, "MV-Register"), where a write names the writes that it replaces by their ids.
use Rattle.std.specs.Prelude.{ℕ, Bool, true, false, not, ◌&&◌, List, [], Option, Some, None, IsTrue}
use Rattle.std.specs.List.{list_all, list_any}
use Rattle.std.specs.Option.{is_some}
use Rattle.std.specs.Str.{IsUtf8}
use Rattle.std.specs.Cmp.Lexicographic.{pointwise}
use Rattle.usfm_ref.specs.Books.{same_bytes, is_book_code}
use Rattle.usfm_ref.specs.Keys.{is_key, is_verse_of}
use Rattle.usfm_ref.specs.Segments.{same_segment}
use Rattle.usfm_ref.specs.declared.segment.Segment.{Segment}
use Rattle.verse_cut.specs.Fits.{Fits}
use Rattle.op_core.specs.Ids.{Id, same_id, is_id, names_fall}

-- the text that a replica gave to a segment, and the ids of the operations that it replaces there;
-- a thinned operation is kept without its text (this project's own rule)
pub record Operation : Type 0 where
  pub id : Id
  pub segment : Segment
  pub replaced : List Id
  pub text : Option (List ℕ)

-- a book's code, and a key within its ranges
abbrev pub is_segment : Segment → Bool
is_segment g = is_book_code g.book && is_key g.key.chapter g.key.place

-- a text is UTF-8, and fits the segment
pub record IsTextFor (g : Segment) (text : List ℕ) : Type 0 where
  pub utf8 : IsUtf8 text
  pub fits : Fits g.book g.key text

-- a text that is not left out is one for the segment
abbrev pub MayBeText : Segment → Option (List ℕ) → Type 0
MayBeText g None = Unit {0}
MayBeText g (Some text) = IsTextFor g text

-- each part within its ranges; the replaced ids rise, and each has a smaller number than the
-- operation; the text, if it is not left out, is UTF-8 and fits the segment
pub record IsOperation (o : Operation) : Type 0 where
  pub id : IsTrue (is_id o.id)
  pub segment : IsTrue (is_segment o.segment)
  pub ids : IsTrue (list_all is_id o.replaced)
  pub falls : IsTrue (names_fall o.id o.replaced)
  pub text : MayBeText o.segment o.text

-- whether the operation is of the segment
abbrev pub in_segment : Segment → Operation → Bool
in_segment g o = same_segment o.segment g

-- whether the operation is of a verse of the chapter
abbrev pub is_verse_in : List ℕ → ℕ → Operation → Bool
is_verse_in book chapter o = same_bytes o.segment.book book && is_verse_of chapter o.segment.key

-- whether the operation names the id as replaced
abbrev pub names : Operation → Id → Bool
names o id = list_any (same_id id) o.replaced

-- whether the operation has its text
abbrev pub is_full : Operation → Bool
is_full o = is_some o.text

-- whether the operation is kept without its text
abbrev pub is_thinned : Operation → Bool
is_thinned o = not (is_full o)

-- the operation with this text, or without one
abbrev pub with_text : Operation → Option (List ℕ) → Operation
with_text o text = record { id = o.id; segment = o.segment; replaced = o.replaced; text = text }

-- the operation without its text
abbrev pub bare : Operation → Operation
bare o = with_text o None

-- a text, empty where it is left out
abbrev pub or_empty : Option (List ℕ) → List ℕ
or_empty None = []
or_empty (Some text) = text

-- the operation's text, empty where it is left out
abbrev pub own_text : Operation → List ℕ
own_text o = or_empty o.text

-- whether two operations are equal but for their texts
abbrev pub same_bare : Operation → Operation → Bool
same_bare o p =
    same_id o.id p.id && in_segment o.segment p && pointwise same_id o.replaced p.replaced

-- whether two texts are equal, or both left out
abbrev pub same_text : Option (List ℕ) → Option (List ℕ) → Bool
same_text None None = true
same_text None (Some t) = false
same_text (Some s) None = false
same_text (Some s) (Some t) = same_bytes s t

-- whether two operations are equal
abbrev pub same_op : Operation → Operation → Bool
same_op o p = same_bare o p && same_text o.text p.text

-- whether two texts are equal, or one is left out
abbrev pub texts_agree : Option (List ℕ) → Option (List ℕ) → Bool
texts_agree None t = true
texts_agree (Some s) None = true
texts_agree (Some s) (Some t) = same_bytes s t

-- whether two operations are equal, or at least one is thinned and they are equal but for their
-- texts
abbrev pub agree : Operation → Operation → Bool
agree o p = same_bare o p && texts_agree o.text p.text
