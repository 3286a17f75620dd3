-- The tree of a text by a style sheet, as a recursive reading of its tokens.
--
-- The USFM 3.0 documentation has paragraph markers without and character and note markers with
-- closing markers, '+' for nested character markers, and milestones that end with `\*`. What an
-- opening or a closing mark ends where marks are missing, which marks are leaves, and that nodes
-- are at most 64 deep, is this project's own rule.
use Rattle.sty_sheet.specs.declared.kind.StyleKind.{StyleKind}
use Rattle.sty_sheet.specs.declared.kind.StyleKind.TheVariants as kinds
use Rattle.std.specs.Prelude.{ℕ, zero, suc, ◌+◌, ◌==◌, nat_lt, Bool, true, false, ◌&&◌, ◌||◌, List, [], ◌∷◌, length, Option, None, Some, if◌then◌else◌, not}
use Rattle.std.specs.List.{prefix_len}
use Rattle.std.specs.Str.{bytes_eq}
use Rattle.usfm_token.specs.Tokens.{MarkParts, Lexeme, mark, words, mark_bytes, slice_of, tokens_of}
use Rattle.usfm_tree.specs.Forest.{Forest, nothing, text, leaf, spanning}

-- a style's kind, and the name that closes it
pub record Style : Type 0 where
  pub kind : Option StyleKind
  pub closer : Option (List ℕ)

-- a sheet, as the style of each name
abbrev pub Styles : Type 0
Styles = List ℕ → Option Style

-- a token, and where it begins
pub record Placed : Type 0 where
  pub start : ℕ
  pub token : Lexeme

-- tokens with where each begins, the first at a place
abbrev pub placed : ℕ → List Lexeme → List Placed
placed n [] = []
placed n (t ∷ ts) = record { start = n; token = t } ∷ placed (n + length (slice_of t)) ts

-- what a token does: plain is a text; alone a mark that is a leaf by its record, or has none; spans
-- a milestone mark; opens a mark that begins a node of a kind, which a mark of the name closes;
-- closes a closing mark
pub data Role : Type 0 where
  plain : List ℕ → Role
  alone : MarkParts → Role
  spans : MarkParts → Role
  opens : StyleKind → Option (List ℕ) → MarkParts → Role
  closes : MarkParts → Role

-- a leaf is a mark without a StyleType, a Character without a closing name, and any other than a
-- Character that has '+'
abbrev pub styled : MarkParts → Option (List ℕ) → Option StyleKind → Role
styled m closer None = alone m
styled m None (Some kinds.Character) = alone m
styled m (Some name) (Some kinds.Character) = opens kinds.Character (Some name) m
styled m closer (Some kinds.Milestone) = if m.nested then alone m else spans m
styled m closer (Some kind) = if m.nested then alone m else opens kind closer m

-- what a mark that is not closing does by its style; without a style it is a leaf
abbrev pub marked : MarkParts → Option Style → Role
marked m None = alone m
marked m (Some style) = styled m style.closer style.kind

-- what a token does by the style of its mark's name: a text, a leaf, a milestone, a mark that
-- begins a node, or a closing mark
abbrev pub role : Styles → Lexeme → Role
role styles (words t) = plain t
role styles (mark m) = if m.closing then closes m else marked m (styles m.name)

-- the bytes of the token
abbrev pub role_bytes : Role → List ℕ
role_bytes (plain b) = b
role_bytes (alone m) = mark_bytes m
role_bytes (spans m) = mark_bytes m
role_bytes (opens kind closer m) = mark_bytes m
role_bytes (closes m) = mark_bytes m

-- whether a role is that of a milestone mark
abbrev pub is_span : Role → Bool
is_span (plain t) = false
is_span (alone m) = false
is_span (spans m) = true
is_span (opens kind closer m) = false
is_span (closes m) = false

-- a node that is open; nested is whether its mark has '+'. Lists of open nodes have the innermost
-- first, and not the root.
pub record Open : Type 0 where
  pub kind : StyleKind
  pub nested : Bool
  pub closer : Option (List ℕ)

-- whether a kind is Paragraph
abbrev pub is_paragraph_kind : StyleKind → Bool
is_paragraph_kind kinds.Paragraph = true
is_paragraph_kind kinds.Character = false
is_paragraph_kind kinds.Note = false
is_paragraph_kind kinds.Milestone = false

-- whether a kind is Character
abbrev pub is_character_kind : StyleKind → Bool
is_character_kind kinds.Paragraph = false
is_character_kind kinds.Character = true
is_character_kind kinds.Note = false
is_character_kind kinds.Milestone = false

-- whether a kind is Note
abbrev pub is_note_kind : StyleKind → Bool
is_note_kind kinds.Paragraph = false
is_note_kind kinds.Character = false
is_note_kind kinds.Note = true
is_note_kind kinds.Milestone = false

-- whether an open node is a character node
abbrev pub is_character : Open → Bool
is_character o = is_character_kind o.kind

-- whether an open node is a note
abbrev pub is_note : Open → Bool
is_note o = is_note_kind o.kind

-- whether a closing mark has the name that closes a node, and this is there and not empty
abbrev pub fits_closer : MarkParts → Option (List ℕ) → Bool
fits_closer m None = false
fits_closer m (Some name) = not (bytes_eq name []) && bytes_eq name m.name

-- whether both hold or neither does
abbrev pub same_bool : Bool → Bool → Bool
same_bool a b = if a then b else not b

-- whether a closing mark has the name that closes an open node, and '+' exactly if the node's mark
-- has it
abbrev pub is_closed_by : MarkParts → Open → Bool
is_closed_by m o = fits_closer m o.closer && same_bool m.nested o.nested

-- How many open nodes a closing mark ends: it reaches the character nodes above the innermost note,
-- and that note, and closes the innermost in reach whose closing name it has and whose mark has '+'
-- exactly if it has. All above ends with it.
abbrev pub closed_by : MarkParts → List Open → ℕ
closed_by m [] = 0
closed_by m (o ∷ os) =
    if (is_character o || is_note o) && is_closed_by m o then 1
    else (if is_character o then (let n = closed_by m os in if n == 0 then 0 else suc n) else 0)

-- how many a note mark ends: up to the open note
abbrev pub to_note : List Open → ℕ
to_note [] = 0
to_note (o ∷ os) = if is_note o then 1 else (let n = to_note os in if n == 0 then 0 else suc n)

-- A paragraph mark ends all, a note mark an open note with all inside it, a character mark the
-- character nodes above the innermost note, paragraph or root, and with '+' nothing.
abbrev pub opening_ends : StyleKind → Bool → List Open → ℕ
opening_ends kinds.Paragraph nested os = length os
opening_ends kinds.Character true os = 0
opening_ends kinds.Character false os = prefix_len is_character os
opening_ends kinds.Note nested os = to_note os
opening_ends kinds.Milestone nested os = 0

-- how many open nodes a token ends
abbrev pub ended : List Open → Role → ℕ
ended os (plain t) = 0
ended os (alone m) = 0
ended os (spans m) = 0
ended os (opens kind closer m) = opening_ends kind m.nested os
ended os (closes m) = closed_by m os

-- what the token in front closes of the innermost open node, and what follows
abbrev pub Closed : Type 0
Closed = Option MarkParts × List Placed

-- what a token in this role closes of the innermost open node, and what follows: a closing mark
-- that ends that node alone closes it, and every other token stays
abbrev pub close_by : List Open → Placed → List Placed → Role → Closed
close_by os t l (closes m) = if closed_by m os == 1 then (Some m, l) else (None, t ∷ l)
close_by os t l (plain b) = (None, t ∷ l)
close_by os t l (alone m) = (None, t ∷ l)
close_by os t l (spans m) = (None, t ∷ l)
close_by os t l (opens kind closer m) = (None, t ∷ l)

-- what the token at the front, if there is one, closes of the innermost open node, and what follows
abbrev pub take_close : Styles → List Open → List Placed → Closed
take_close styles os [] = (None, [])
take_close styles os (t ∷ l) = close_by os t l (role styles t.token)

-- whether a token is the closing mark without a name and without '+', `\*`
abbrev pub is_bare_close : Lexeme → Bool
is_bare_close (words t) = false
is_bare_close (mark m) = m.closing && (not m.nested && bytes_eq m.name [])

-- what a milestone takes: its kids, its closing mark, and the tokens after these
pub record Taken : Type 0 where
  pub kids : Forest
  pub close : Option MarkParts
  pub rest : List Placed

-- a milestone takes nothing
abbrev pub Taken_none : List Placed → Taken
Taken_none l = record { kids = nothing; close = None; rest = l }

-- the mark `\*`
abbrev pub bare : MarkParts
bare = record { nested = false; name = []; closing = true }

-- a milestone takes these kids and the `\*` at the front of the tokens; where none is there, it
-- takes nothing of the whole
abbrev pub take_bare : List Placed → Forest → List Placed → Taken
take_bare whole kids [] = Taken_none whole
take_bare whole kids (t ∷ l) = if is_bare_close t.token
    then record { kids = kids; close = Some bare; rest = l } else Taken_none whole

-- what a milestone takes where a token comes directly after it
abbrev pub milestone_at : ℕ → List Placed → Lexeme → List Placed → Taken
milestone_at start whole (words t) l = take_bare whole (text start t nothing) l
milestone_at start whole (mark m) l = take_bare whole nothing whole

-- what a milestone takes of the tokens after it: a text and `\*`, or `\*`, or nothing
abbrev pub milestone_takes : List Placed → Taken
milestone_takes [] = Taken_none []
milestone_takes (t ∷ l) = milestone_at t.start (t ∷ l) t.token l

-- kids of the root are at depth 1, and no node is deeper than this
abbrev pub most_open : ℕ
most_open = 64

-- what was read of the tokens, and the rest
abbrev pub Read : Type 0
Read = Forest × List Placed

-- an entry before what was read after it
abbrev pub followed : (Forest → Forest) → Read → Read
followed entry after = (entry after.0, after.1)

-- In what follows go reads the kids of the innermost open node.

-- a milestone with what it takes
abbrev pub spanned : (List Open → List Placed → Read) → List Open → Placed → MarkParts → Taken
    → Read
spanned go os t m taken =
    followed (spanning kinds.Milestone t.start m taken.kids taken.close) (go os taken.rest)

-- a node with its kids and its closing mark, if the token after them closes it
abbrev pub closing : (List Open → List Placed → Read) → List Open → Placed → StyleKind → MarkParts
    → Forest → Closed → Read
closing go os t kind m inside closed =
    followed (spanning kind t.start m inside closed.0) (go os closed.1)

-- a node with the kids that were read inside it and the closing mark that the tokens after them
-- give it, before what follows
abbrev pub opened : Styles → (List Open → List Placed → Read) → Open → List Open → Placed
    → MarkParts → Read → Read
opened styles go o os t m inner =
    closing go os t o.kind m inner.0 (take_close styles (o ∷ os) inner.1)

-- the open node of a kind that a mark begins, which a mark of the name closes
abbrev pub open_of : StyleKind → Option (List ℕ) → MarkParts → Open
open_of kind closer m = record { kind = kind; nested = m.nested; closer = closer }

-- whether a node may begin in the innermost open node
abbrev pub has_room : List Open → Bool
has_room os = nat_lt (length os) most_open

-- a token that ends no open node, and what follows
abbrev pub enter : Styles → (List Open → List Placed → Read) → List Open → Placed → List Placed
    → Role → Read
enter styles go os t l (plain b) = followed (text t.start b) (go os l)
enter styles go os t l (alone m) = followed (leaf t.start m) (go os l)
enter styles go os t l (closes m) = followed (leaf t.start m) (go os l)
enter styles go os t l (spans m) =
    if has_room os then spanned go os t m (milestone_takes l)
    else followed (leaf t.start m) (go os l)
enter styles go os t l (opens kind closer m) =
    if has_room os then opened styles go (open_of kind closer m) os t m
    (go (open_of kind closer m ∷ os) l)
    else followed (leaf t.start m) (go os l)

-- the kids of the innermost of the open nodes, up to a token that ends it, and the rest; the bound
-- falls with the list
unfoldable pub kids : Styles → ℕ → List Open → List Placed → Read
kids styles zero os l = (nothing, l)
kids styles (suc n) os [] = (nothing, [])
kids styles (suc n) os (t ∷ l) =
    if nat_lt 0 (ended os (role styles t.token)) then (nothing, t ∷ l)
    else enter styles (kids styles n) os t l (role styles t.token)

-- the kids of the innermost of the open nodes, up to a token that ends it, and the rest, with a
-- bound that is never met, since each of the lists inside is shorter
abbrev pub kids_of_list : Styles → List Open → List Placed → Read
kids_of_list styles os l = kids styles (suc (length l)) os l

-- the tree of a text by the styles of its marks: what is under the root, nodes at most 64 deep
unfoldable pub tree_of : Styles → List ℕ → Forest
tree_of styles s = (kids_of_list styles [] (placed 0 (tokens_of s))).0
