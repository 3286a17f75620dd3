-- The plain leaves as one reading of the tree, from the left, and what is left of the pieces on the
-- way.
use Rattle.std.specs.Prelude.{ℕ, ◌+◌, ◌^◌, ◌<◌, Bool, true, ◌==◌, nat_le, nat_lt, not, ◌&&◌, ◌||◌}
use Rattle.std.specs.Prelude.{List, [], ◌∷◌, ◌++◌, length, drop, Option, None, Some, is_some}
use Rattle.std.specs.Prelude.{IsUtf8, if◌then◌else◌}
use Rattle.std.specs.List.{list_any}
use Rattle.sty_sheet.specs.Records.{Record}
use Rattle.usfm_token.specs.Tokens.{MarkParts}
use Rattle.usfm_tree.specs.Around.{Around}
use Rattle.usfm_tree.specs.Forest.{Forest, nothing, text, leaf, node}
use Rattle.usfm_tree.specs.Reading.{is_character_kind}
use Rattle.verse_cut.specs.Pieces.{PieceParts, pieces_joined}
use Rattle.concordance.specs.Passages.{Passage}
use Rattle.concordance.specs.Plain.{is_verse_text, is_aside, in_closed_character, is_nothing}
use Rattle.concordance.specs.Plain.{node_end, mark_at_end, number_length, without_attributes}

-- What the nodes around a text say of it: one of them has the text of verses, one is a note or a
-- milestone, and the innermost is a character node that ends with its closing mark.
pub record Surroundings : Type 0 where
  pub in_verse_text : Bool
  pub in_aside : Bool
  pub in_closed : Bool

-- what these nodes say
abbrev pub inside_of : List Record → List Around → Surroundings
inside_of sheet around = record {
  in_verse_text = list_any (is_verse_text sheet) around;
  in_aside = list_any is_aside around;
  in_closed = in_closed_character around;
}

-- what the nodes around a text say of it, with one more around it
abbrev pub within : List Record → Surroundings → Around → Surroundings
within sheet i a = record {
  in_verse_text = is_verse_text sheet a || i.in_verse_text;
  in_aside = is_aside a || i.in_aside;
  in_closed = is_character_kind a.kind && a.is_closed;
}

-- what is left of a text
abbrev pub left_of : Surroundings → Option MarkParts → Bool → ℕ → List ℕ → Passage
left_of i before is_last start bytes =
    let n = number_length before bytes in
    record { start = start + n; text = without_attributes (is_last && i.in_closed) (drop n bytes) }

-- whether a text counts, by what the nodes around it say
abbrev pub counts : Surroundings → Bool
counts i = i.in_verse_text && not i.in_aside

-- a text that counts, before the leaves after it
abbrev pub with_text : Surroundings → Option MarkParts → Bool → ℕ → List ℕ → List Passage
    → List Passage
with_text i before is_last start bytes later =
    if counts i then left_of i before is_last start bytes ∷ later else later

-- the plain leaves of entries
abbrev pub leaves_from : List Record → Surroundings → Option MarkParts → Forest → List Passage
leaves_from sheet i before nothing = []
leaves_from sheet i before (text s t f) =
    with_text i before (is_nothing f) s t (leaves_from sheet i None f)
leaves_from sheet i before (leaf s m f) = leaves_from sheet i (Some m) f
leaves_from sheet i before (node k s b m ks c f) =
    leaves_from sheet (within sheet i (record { kind = k; mark = m; is_closed = is_some c }))
    (Some m) ks
    ++ leaves_from sheet i (node_end (mark_at_end (Some m) ks) c) f

-- each text ends at a place that fits
abbrev pub TextsFit : Forest → Type 0
TextsFit nothing = Unit {0}
TextsFit (text s t f) = (s + length t < 2 ^ 64) × TextsFit f
TextsFit (leaf s m f) = TextsFit f
TextsFit (node k s b m ks c f) = TextsFit ks × TextsFit f

-- ---- pieces

-- where pieces begin
abbrev pub begin_of : List PieceParts → ℕ
begin_of [] = 0
begin_of (p ∷ ps) = p.start

-- where pieces end
abbrev pub end_of : List PieceParts → ℕ
end_of ps = begin_of ps + length (pieces_joined ps)

-- each piece begins where the one before it ends, the first at a place
abbrev pub are_neighbours : ℕ → List PieceParts → Bool
are_neighbours at [] = true
are_neighbours at (p ∷ ps) = (p.start == at) && are_neighbours (at + length p.text) ps

-- places that rise from one on, and lie before another
abbrev pub rise_between : ℕ → ℕ → List Passage → Bool
rise_between low end [] = true
rise_between low end (p ∷ ps) =
    nat_le low p.start && (nat_lt p.start end && rise_between p.start end ps)

-- pieces reach from the first of some passages to after the last
abbrev pub hold_all : List PieceParts → List Passage → Bool
hold_all ps passages =
    are_neighbours (begin_of ps) ps && rise_between (begin_of ps) (end_of ps) passages

-- a passage ends at a place that fits
abbrev pub EndsWithin : Passage → Type 0
EndsWithin p = p.start + length p.text < 2 ^ 64

-- a passage's bytes are text
abbrev pub IsText : Passage → Type 0
IsText p = IsUtf8 p.text
