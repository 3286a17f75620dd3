-- The stretches that a tree's marks and texts are cut into, in order: each is seen as one thing, or
-- is not seen, and all together they are the bytes of the tree.
--
-- The USFM 3.0 documentation has attributes after a bar before the mark that closes characters or a
-- milestone, and the words under a figure in `\fig`. What is seen of the rest, and how, is this
-- project's own rule: a mark that the sheet does not know is seen as it stands.
use Rattle.sty_sheet.specs.declared.kind.StyleKind.{StyleKind}
use Rattle.sty_sheet.specs.declared.kind.StyleKind.TheVariants as kinds
use Rattle.std.specs.Prelude.{ℕ, ◌==◌, Bool, true, false, not, ◌&&◌, ◌||◌, List, [], ◌∷◌, ◌++◌, length, take, drop}
use Rattle.std.specs.Prelude.{codes, Option, None, Some, is_some, if◌then◌else◌}
use Rattle.std.specs.List.{position_or_len}
use Rattle.std.specs.Str.{bytes_eq}
use Rattle.usfm_token.specs.Tokens.{MarkParts, mark_bytes}
use Rattle.usfm_tree.specs.Forest.{Forest, nothing, text, leaf, node}
use Rattle.usfm_tree.specs.Reading.{Styles, is_note_kind}
use Rattle.book_reading.specs.Kinds.{block_kind}
use Rattle.book_reading.specs.Leads.{blanks_of, after_blanks, number_length, number_sort, gap_length}
use Rattle.book_reading.specs.Leads.{named_lead, node_lead}
use Rattle.book_reading.specs.declared.lead.Lead.{Lead}
use Rattle.book_reading.specs.declared.lead.Lead.TheVariants as leads
use Rattle.book_reading.specs.declared.run.Sort.{Sort}
use Rattle.book_reading.specs.declared.run.Sort.TheVariants as sorts

-- What the nodes around a place say of it: whether it is in a note, the name of the innermost
-- character mark, and whether attributes may stand at the end of the innermost node.
pub record Place : Type 0 where
  pub in_note : Bool
  pub style : List ℕ
  pub has_attributes : Bool

-- under the root
abbrev pub root : Place
root = record { in_note = false; style = []; has_attributes = false }

-- a stretch of the text: what it is seen as, the name of the character mark that it stands in,
-- whether it stands in a note, and its bytes
pub record Stretch : Type 0 where
  pub sort : Sort
  pub style : List ℕ
  pub in_note : Bool
  pub text : List ℕ

-- a stretch at a place
abbrev pub stretch : Place → Sort → List ℕ → Stretch
stretch p sort bytes =
    record { sort = sort; style = p.style; in_note = p.in_note; text = bytes }

-- ---- places

-- the name of the character mark in a node of a kind: a paragraph and a note begin without one
abbrev pub style_in : StyleKind → List ℕ → List ℕ → List ℕ
style_in kinds.Paragraph name outer = []
style_in kinds.Note name outer = []
style_in kinds.Character name outer = name
style_in kinds.Milestone name outer = outer

-- characters and milestones may have attributes
abbrev pub may_have_attributes : StyleKind → Bool
may_have_attributes kinds.Paragraph = false
may_have_attributes kinds.Note = false
may_have_attributes kinds.Character = true
may_have_attributes kinds.Milestone = true

-- a place in a node, which ends with a closing mark or without one
abbrev pub within : Place → StyleKind → List ℕ → Bool → Place
within p kind name is_closed = record {
  in_note = is_note_kind kind || p.in_note;
  style = style_in kind name p.style;
  has_attributes = may_have_attributes kind && is_closed;
}

-- ---- marks

-- what the mark of a node is seen as
abbrev pub mark_sort : StyleKind → List ℕ → Sort
mark_sort kinds.Paragraph name = sorts.Paragraph (block_kind name)
mark_sort kinds.Note name = sorts.Caller
mark_sort kinds.Character name = sorts.Markup
mark_sort kinds.Milestone name = sorts.Markup

-- the sheet has a style for a mark that is not a closing one
abbrev pub is_known : Styles → MarkParts → Bool
is_known styles m = not m.closing && is_some (styles m.name)

-- what a mark that is alone is seen as
abbrev pub leaf_sort : Bool → Sort
leaf_sort is_known = if is_known then sorts.Markup else sorts.Unknown

-- and what may stand after it
abbrev pub leaf_lead : Bool → List ℕ → Lead
leaf_lead is_known name = if is_known then named_lead name else leads.Nothing

-- the closing mark of a node, if it has one
abbrev pub close_stretches : Place → Option MarkParts → List Stretch
close_stretches p None = []
close_stretches p (Some m) = stretch p sorts.Markup (mark_bytes m) ∷ []

-- what may stand after a node, if that is what may stand after the last that is in it
abbrev pub node_end : Lead → Option MarkParts → Lead
node_end inside None = inside
node_end inside (Some m) = leads.Nothing

-- ---- texts

-- whether a byte is a bar (124)
abbrev pub is_bar : ℕ → Bool
is_bar b = b == 124

-- the bytes of words before their attributes, if they may have some
abbrev pub words_length : Bool → List ℕ → ℕ
words_length may_end bytes = if may_end then position_or_len is_bar bytes else length bytes

-- words are the ones under a figure in `\fig`
abbrev pub words_sort : List ℕ → Sort
words_sort style = if bytes_eq style (codes "fig") then sorts.Caption else sorts.Words

-- The stretches of a text after a mark, which may end with attributes: the number with the blanks
-- before it, what else belongs to the mark, the words, and the attributes. Some may be empty.
abbrev pub text_stretches : Place → Bool → Lead → List ℕ → List Stretch
text_stretches p may_end lead bytes =
    let front = take (number_length lead bytes) bytes in
    let rest = drop (number_length lead bytes) bytes in
    let words = drop (gap_length lead rest) rest in
    stretch p sorts.Markup (blanks_of front)
    ∷ stretch p (number_sort lead) (after_blanks front)
    ∷ stretch p sorts.Markup (take (gap_length lead rest) rest)
    ∷ stretch p (words_sort p.style) (take (words_length may_end words) words)
    ∷ stretch p sorts.Markup (drop (words_length may_end words) words) ∷ []

-- ---- trees

-- whether there is no entry
abbrev pub is_nothing : Forest → Bool
is_nothing nothing = true
is_nothing (text s t f) = false
is_nothing (leaf s m f) = false
is_nothing (node k s b m ks c f) = false

-- what may stand after entries
abbrev pub lead_at_end : Styles → Lead → Forest → Lead
lead_at_end styles lead nothing = lead
lead_at_end styles lead (text s t f) = lead_at_end styles leads.Nothing f
lead_at_end styles lead (leaf s m f) = lead_at_end styles (leaf_lead (is_known styles m) m.name) f
lead_at_end styles lead (node k s b m ks c f) =
    lead_at_end styles (node_end (lead_at_end styles (node_lead k m.name) ks) c) f

-- The stretches of entries at a place, after a mark or none. The mark of a node and its closing
-- mark stand in it.
abbrev pub stretches_in : Styles → Place → Lead → Forest → List Stretch
stretches_in styles p lead nothing = []
stretches_in styles p lead (text s t f) =
    text_stretches p (is_nothing f && p.has_attributes) lead t
    ++ stretches_in styles p leads.Nothing f
stretches_in styles p lead (leaf s m f) =
    stretch p (leaf_sort (is_known styles m)) (mark_bytes m)
    ∷ stretches_in styles p (leaf_lead (is_known styles m) m.name) f
stretches_in styles p lead (node k s b m ks c f) =
    let inner = within p k m.name (is_some c) in
    stretch inner (mark_sort k m.name) (mark_bytes m)
    ∷ (stretches_in styles inner (node_lead k m.name) ks
    ++ (close_stretches inner c
    ++ stretches_in styles p
    (node_end (lead_at_end styles (node_lead k m.name) ks) c) f))
