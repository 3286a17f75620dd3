-- Trees over a text, as what is side by side: each entry, and what comes after it.
--
-- That each mark and text of a USFM text is kept, within a node or as a leaf, is this project's own
-- rule.
use Rattle.sty_sheet.specs.declared.kind.StyleKind.{StyleKind}
use Rattle.std.specs.Prelude.{ℕ, zero, suc, option_and_then, List, [], ◌∷◌, ◌++◌, Option, None, Some}
use Rattle.std.specs.List.{flat_map}
use Rattle.usfm_token.specs.Tokens.{MarkParts, mark_bytes}

-- Texts, marks that are leaves, and nodes with their kids and closing marks, in order. Each begins
-- at a place of the source.
pub data Forest : Type 0 where
  nothing : Forest
  text : (start : ℕ) (slice : List ℕ) (after : Forest) → Forest
  leaf : (start : ℕ) (mark : MarkParts) (after : Forest) → Forest
  node : (kind : StyleKind) (start : ℕ) (slice : List ℕ) (mark : MarkParts) (kids : Forest)
      (close : Option MarkParts) (after : Forest) → Forest

infixl 30 ◌then◌
-- one forest before another
abbrev pub ◌then◌ : Forest → Forest → Forest
nothing then g = g
(text s t f) then g = text s t (f then g)
(leaf s m f) then g = leaf s m (f then g)
(node k s b m ks c f) then g = node k s b m ks c (f then g)

-- the bytes of a closing mark as a list of one, and nothing where there is none
abbrev pub close_leaves : Option MarkParts → List (List ℕ)
close_leaves None = []
close_leaves (Some m) = mark_bytes m ∷ []

-- the bytes of the marks, texts and closing marks, in order
abbrev pub leaves_of : Forest → List (List ℕ)
leaves_of nothing = []
leaves_of (text s t f) = t ∷ leaves_of f
leaves_of (leaf s m f) = mark_bytes m ∷ leaves_of f
leaves_of (node k s b m ks c f) = mark_bytes m ∷ (leaves_of ks ++ (close_leaves c ++ leaves_of f))

-- the bytes of all leaves, joined
abbrev pub bytes_of : Forest → List ℕ
bytes_of f = flat_map (λ t. t) (leaves_of f)

-- the bytes of a closing mark, and nothing where there is none
abbrev pub close_bytes : Option MarkParts → List ℕ
close_bytes None = []
close_bytes (Some m) = mark_bytes m

-- the bytes of a node: its mark, the leaves of its kids, its closing mark
abbrev pub span_bytes : MarkParts → Forest → Option MarkParts → List ℕ
span_bytes m inside close = mark_bytes m ++ (bytes_of inside ++ close_bytes close)

-- a node whose slice is the join of its leaves, and what comes after it
abbrev pub spanning : StyleKind → ℕ → MarkParts → Forest → Option MarkParts → Forest → Forest
spanning kind start m inside close after =
    node kind start (span_bytes m inside close) m inside close after

-- what the first entry has inside
abbrev pub kids_of : Forest → Forest
kids_of nothing = nothing
kids_of (text s t f) = nothing
kids_of (leaf s m f) = nothing
kids_of (node k s b m ks c f) = ks

-- where the first entry begins, and 0 where there is none
abbrev pub start_of : Forest → ℕ
start_of nothing = 0
start_of (text s t f) = s
start_of (leaf s m f) = s
start_of (node k s b m ks c f) = s

-- the closing mark of the first entry, if it has one
abbrev pub close_of : Forest → Option MarkParts
close_of nothing = None
close_of (text s t f) = None
close_of (leaf s m f) = None
close_of (node k s b m ks c f) = c

-- the bytes of the first entry
abbrev pub slice_here : Forest → List ℕ
slice_here nothing = []
slice_here (text s t f) = t
slice_here (leaf s m f) = mark_bytes m
slice_here (node k s b m ks c f) = b

-- the mark of the first entry, if that is a leaf or a node
abbrev pub mark_of : Forest → Option MarkParts
mark_of nothing = None
mark_of (text s t f) = None
mark_of (leaf s m f) = Some m
mark_of (node k s b m ks c f) = Some m

-- the entry at a place, alone
abbrev pub entry_at : ℕ → Forest → Option Forest
entry_at i nothing = None
entry_at zero (text s t f) = Some (text s t nothing)
entry_at zero (leaf s m f) = Some (leaf s m nothing)
entry_at zero (node k s b m ks c f) = Some (node k s b m ks c nothing)
entry_at (suc i) (text s t f) = entry_at i f
entry_at (suc i) (leaf s m f) = entry_at i f
entry_at (suc i) (node k s b m ks c f) = entry_at i f

-- what a path leads to: its first place is among these entries, and each next one among the kids of
-- the entry before; nothing for the empty path
abbrev pub part_at : List ℕ → Forest → Option Forest
part_at [] f = None
part_at (i ∷ []) f = entry_at i f
part_at (i ∷ j ∷ js) f = option_and_then (λ g. part_at (j ∷ js) (kids_of g)) (entry_at i f)
