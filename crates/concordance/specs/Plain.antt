-- The plain leaves of a text: the words that are read as the text of Scripture. They are what is
-- left of texts of its tree, without notes, milestones, attributes and verse numbers.
--
-- USFM 3.0 has the attributes of a character marker after a bar before its closing mark, and the
-- number after `\v`. Paratext's style sheets say by TextType which paragraphs have the text of
-- verses. Which texts count, and what of them, is this project's own rule.
use Rattle.sty_sheet.specs.declared.kind.StyleKind.{StyleKind}
use Rattle.sty_sheet.specs.declared.kind.StyleKind.TheVariants as kinds
use Rattle.std.specs.Prelude.{ℕ, ◌+◌, ◌==◌, Bool, true, false, not, ◌&&◌, List, [], ◌∷◌, ◌++◌, map}
use Rattle.std.specs.Prelude.{filter, drop, codes, Option, None, Some, is_some, if◌then◌else◌}
use Rattle.std.specs.List.{list_any, before_first}
use Rattle.std.specs.Option.{option_map_or}
use Rattle.std.specs.Str.{bytes_eq}
use Rattle.sty_sheet.specs.Records.{Record, mark_style}
use Rattle.usfm_ref.specs.Numbers.{verse_in}
use Rattle.usfm_ref.specs.declared.number.VerseMark.{VerseMark}
use Rattle.usfm_token.specs.Tokens.{MarkParts, mark_bytes}
use Rattle.usfm_tree.specs.Around.{Around}
use Rattle.usfm_tree.specs.Forest.{Forest, nothing, text, leaf, node}
use Rattle.usfm_tree.specs.Reading.{is_character_kind, is_paragraph_kind, tree_of}
use Rattle.usfm_tree.specs.SheetViews.{styles_in}
use Rattle.concordance.specs.Passages.{Passage}

-- ---- the texts of a tree

-- A text of a tree: where it begins and its bytes; the nodes around it, the innermost first; the
-- mark directly before it, if one is there; and whether it is the last kid of the innermost node.
pub record Site : Type 0 where
  pub start : ℕ
  pub bytes : List ℕ
  pub around : List Around
  pub before : Option MarkParts
  pub is_last : Bool

-- the mark at the end of a node: its closing mark, or else what its kids end with
abbrev pub node_end : Option MarkParts → Option MarkParts → Option MarkParts
node_end inside None = inside
node_end inside (Some close) = Some close

-- the mark at the end of entries that come after a mark or a text, if they do not end with a text
abbrev pub mark_at_end : Option MarkParts → Forest → Option MarkParts
mark_at_end before nothing = before
mark_at_end before (text s t f) = mark_at_end None f
mark_at_end before (leaf s m f) = mark_at_end (Some m) f
mark_at_end before (node k s b m ks c f) = mark_at_end (node_end (mark_at_end (Some m) ks) c) f

-- whether there is no entry
abbrev pub is_nothing : Forest → Bool
is_nothing nothing = true
is_nothing (text s t f) = false
is_nothing (leaf s m f) = false
is_nothing (node k s b m ks c f) = false

-- the texts of entries within these nodes and after a mark, if one is there, in order
abbrev pub sites_in : List Around → Option MarkParts → Forest → List Site
sites_in around before nothing = []
sites_in around before (text s t f) =
    record { start = s; bytes = t; around = around; before = before; is_last = is_nothing f }
    ∷ sites_in around None f
sites_in around before (leaf s m f) = sites_in around (Some m) f
sites_in around before (node k s b m ks c f) =
    sites_in (record { kind = k; mark = m; is_closed = is_some c } ∷ around) (Some m) ks
    ++ sites_in around (node_end (mark_at_end (Some m) ks) c) f

-- ---- which of them count

-- whether a kind is a note's or a milestone's
abbrev pub is_aside_kind : StyleKind → Bool
is_aside_kind kinds.Paragraph = false
is_aside_kind kinds.Character = false
is_aside_kind kinds.Note = true
is_aside_kind kinds.Milestone = true

-- the style of a mark's name has the text of verses
abbrev pub has_verse_text : List Record → List ℕ → Bool
has_verse_text sheet name = option_map_or (λ r. r.verse_text) (mark_style sheet name) false

-- a paragraph whose style has it
abbrev pub is_verse_text : List Record → Around → Bool
is_verse_text sheet a = is_paragraph_kind a.kind && has_verse_text sheet a.mark.name

-- a note or a milestone
abbrev pub is_aside : Around → Bool
is_aside a = is_aside_kind a.kind

-- a text counts inside a paragraph whose style has the text of verses, outside notes and milestones
abbrev pub is_plain : List Record → Site → Bool
is_plain sheet t = list_any (is_verse_text sheet) t.around && not (list_any is_aside t.around)

-- ---- what of them counts

-- the bytes of a verse's number with its bridge, and of the blanks before them
abbrev pub verse_length : Option VerseMark → ℕ
verse_length None = 0
verse_length (Some v) = v.length

-- the bytes of the number directly after the mark `\v`, with its bridge and the blanks before;
-- after `\+v` and `\v*` is none
abbrev pub number_length : Option MarkParts → List ℕ → ℕ
number_length None bytes = 0
number_length (Some m) bytes =
    if bytes_eq (mark_bytes m) (codes "\\v") then verse_length (verse_in bytes) else 0

-- the innermost node is a character node that ends with its closing mark
abbrev pub in_closed_character : List Around → Bool
in_closed_character [] = false
in_closed_character (a ∷ around) = is_character_kind a.kind && a.is_closed

-- attributes may end the last kid of such a node
abbrev pub may_end_with_attributes : Site → Bool
may_end_with_attributes t = t.is_last && in_closed_character t.around

-- a bar (124) comes before them
abbrev pub is_bar : ℕ → Bool
is_bar b = b == 124

-- where attributes may end a text, what comes before its first bar, and else all
abbrev pub without_attributes : Bool → List ℕ → List ℕ
without_attributes may_end bytes = if may_end then before_first is_bar bytes else bytes

-- a text without the number and the attributes
abbrev pub trimmed : Site → Passage
trimmed t =
    let n = number_length t.before t.bytes in
    record {
      start = t.start + n;
      text = without_attributes (may_end_with_attributes t)
          (drop n t.bytes);
    }

-- the plain leaves of a tree by the records of a style sheet, in order
abbrev pub plain_in : List Record → Forest → List Passage
plain_in sheet tree = map trimmed (filter (is_plain sheet) (sites_in [] None tree))

-- the plain leaves of a text by the records of a style sheet, in order, each without number and
-- attributes
unfoldable pub plain_leaves : List Record → List ℕ → List Passage
plain_leaves sheet s = plain_in sheet (tree_of (styles_in sheet) s)
