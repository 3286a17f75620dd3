-- What is found at a mark of a tree, by a style sheet: one condition for each code.
--
-- The codes and their conditions are this project's own rule. OccursUnder, with the word NEST, is
-- Paratext's.
use Rattle.sty_sheet.specs.declared.kind.StyleKind.{StyleKind}
use Rattle.sty_sheet.specs.declared.kind.StyleKind.TheVariants as kinds
use Rattle.std.specs.Prelude.{ℕ, nat_le, ◌==◌, Bool, true, false, not, ◌&&◌, ◌||◌, List, [], ◌∷◌, length, codes, find, if◌then◌else◌}
use Rattle.std.specs.Option.{is_some, option_map_or, option_map, option_to_list}
use Rattle.std.specs.List.{list_any}
use Rattle.std.specs.Str.{bytes_eq}
use Rattle.sty_sheet.specs.Records.{Record, mark_style, under_in}
use Rattle.usfm_token.specs.Tokens.{MarkParts, mark}
use Rattle.usfm_tree.specs.Around.{Around}
use Rattle.usfm_tree.specs.Reading.{Role, plain, alone, spans, opens, closes, role, is_paragraph_kind, is_character_kind, is_note_kind, most_open}
use Rattle.usfm_tree.specs.SheetViews.{styles_in}
use Rattle.segment_check.specs.Spots.{Spot}

-- the node is a note
abbrev pub is_note : Around → Bool
is_note a = is_note_kind a.kind

-- the node is a paragraph
abbrev pub is_paragraph : Around → Bool
is_paragraph a = is_paragraph_kind a.kind

-- the mark begins a node of this kind
abbrev pub begins : (StyleKind → Bool) → Spot → Bool
begins is_kind spot = option_map_or is_kind spot.node false

-- `unknown-marker`: a mark, not closing, without a record
abbrev pub unknown_marker : List Record → Spot → Bool
unknown_marker sheet spot = not spot.mark.closing && not (is_some (mark_style sheet spot.mark.name))

-- `stray-close`: a closing mark that is a leaf
abbrev pub stray_close : Spot → Bool
stray_close spot = not (is_some spot.node) && spot.mark.closing

-- `unclosed-char`: a character node without a closing mark, outside notes
abbrev pub unclosed_char : Spot → Bool
unclosed_char spot =
    begins is_character_kind spot && not spot.is_closed && not (list_any is_note spot.around)

-- `unclosed-note`: a note node without a closing mark
abbrev pub unclosed_note : Spot → Bool
unclosed_note spot = begins is_note_kind spot && not spot.is_closed

-- a mark in this role begins a node, where there is room for it
abbrev pub begins_node : Role → Bool
begins_node (plain t) = false
begins_node (alone m) = false
begins_node (spans m) = true
begins_node (opens kind closer m) = true
begins_node (closes m) = false

-- by its record a mark begins a node, where there is room for it
abbrev pub may_begin : List Record → MarkParts → Bool
may_begin sheet m = begins_node (role (styles_in sheet) (mark m))

-- `too-deep`: a leaf whose mark begins a node, which would be deeper than the greatest depth
abbrev pub too_deep : List Record → Spot → Bool
too_deep sheet spot =
    not (is_some spot.node) && may_begin sheet spot.mark && nat_le most_open (length spot.around)

-- the words of OccursUnder of the record that a mark of this name has, if it has one
abbrev pub under_words : List Record → List ℕ → List (List ℕ)
under_words sheet name = under_in (mark_style sheet name)

-- the name of the nearest of the nodes around that passes
abbrev pub nearest : (Around → Bool) → List Around → List (List ℕ)
nearest test around = option_to_list (option_map (λ a. a.mark.name) (find test around))

-- the node is a paragraph or a note
abbrev pub holds_characters : Around → Bool
holds_characters a = is_paragraph a || is_note a

-- Words that allow a character node: directly in a character node that node's name and NEST, and
-- else the name of the nearest paragraph or note around it.
abbrev pub allow_character : List Around → List (List ℕ)
allow_character [] = []
allow_character (a ∷ around) =
    if is_character_kind a.kind then a.mark.name ∷ codes "NEST" ∷ []
    else nearest holds_characters (a ∷ around)

-- Words that allow a node of a kind: a note is allowed by the name of the nearest paragraph around
-- it.
abbrev pub allow : StyleKind → List Around → List (List ℕ)
allow kinds.Paragraph around = []
allow kinds.Character around = allow_character around
allow kinds.Note around = nearest is_paragraph around
allow kinds.Milestone around = []

-- a word is one of some names
abbrev pub is_among : List (List ℕ) → List ℕ → Bool
is_among names word = list_any (bytes_eq word) names

-- there are words, and none of them is one that allows
abbrev pub forbids : List (List ℕ) → List (List ℕ) → Bool
forbids words names = not (length words == 0) && not (list_any (is_among names) words)

-- a kind that OccursUnder may restrict: a character or a note
abbrev pub is_restricted_kind : StyleKind → Bool
is_restricted_kind kind = is_character_kind kind || is_note_kind kind

-- a character or note node with these words, none of which allows it where these nodes are around
abbrev pub is_forbidden : List (List ℕ) → List Around → StyleKind → Bool
is_forbidden words around kind = is_restricted_kind kind && forbids words (allow kind around)

-- `not-under`: a character or note node whose OccursUnder has words, none of which allows it
abbrev pub not_under : List Record → Spot → Bool
not_under sheet spot =
    option_map_or (is_forbidden (under_words sheet spot.mark.name) spot.around) spot.node false
