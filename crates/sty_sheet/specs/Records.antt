-- The records of a sheet, and the style of a mark.
--
-- The fields are those of Paratext's `usfm.sty`. That a closing name is an Endmarker without its
-- last '*', and which record a mark has where none has its name, is this project's own rule.
use Rattle.std.specs.Prelude.{ℕ, ◌-◌, ◌==◌, Bool, true, false, ◌&&◌, not, List, [], ◌∷◌, length, take, filter, Option, None, Some, find, if◌then◌else◌, slice_index}
use Rattle.std.specs.List.{list_any, slice_split}
use Rattle.std.specs.Option.{option_map_or}
use Rattle.std.specs.Str.{bytes_eq}
use Rattle.usfm_ref.specs.Numbers.{is_blank}
use Rattle.sty_sheet.specs.declared.kind.StyleKind.{StyleKind}
use Rattle.sty_sheet.specs.declared.kind.StyleKind.TheVariants as kinds

-- the record of a marker: closer is the name of the mark that closes it, under the words of
-- OccursUnder, kind its StyleType, and verse_text whether its TextType is VerseText
pub record Record : Type 0 where
  pub marker : List ℕ
  pub name : List ℕ
  pub closer : Option (List ℕ)
  pub under : List (List ℕ)
  pub kind : Option StyleKind
  pub verse_text : Bool

-- whether a text is not empty
abbrev pub is_filled : List ℕ → Bool
is_filled bs = not (bytes_eq bs [])

-- the words of a value: what stands between blanks
unfoldable pub words_of : List ℕ → List (List ℕ)
words_of bs = filter is_filled (slice_split is_blank bs)

-- whether a word is one of these
abbrev pub has_word : List ℕ → List (List ℕ) → Bool
has_word word words = list_any (bytes_eq word) words

-- a text without a '*' (42) at its end, if one stands there
abbrev pub without_star : List ℕ → List ℕ
without_star bs = if slice_index bs (length bs - 1) == 42 then take (length bs - 1) bs else bs

-- a text, or none where it is empty
abbrev pub none_if_empty : List ℕ → Option (List ℕ)
none_if_empty [] = None
none_if_empty (b ∷ bs) = Some (b ∷ bs)

-- an Endmarker without a last '*' (42), and none where nothing is left
abbrev pub closing_name : List ℕ → Option (List ℕ)
closing_name value = none_if_empty (without_star value)

-- the first record of a marker
abbrev pub named : List ℕ → List Record → Option Record
named name rs = find (λ r. bytes_eq name r.marker) rs

-- whether a style type is there and is Milestone
abbrev pub is_milestone : Option StyleKind → Bool
is_milestone None = false
is_milestone (Some kinds.Paragraph) = false
is_milestone (Some kinds.Character) = false
is_milestone (Some kinds.Note) = false
is_milestone (Some kinds.Milestone) = true

-- whether there is a closing name, and it is this name
abbrev pub is_name : List ℕ → Option (List ℕ) → Bool
is_name name None = false
is_name name (Some closer) = bytes_eq closer name

-- a milestone that a mark of this name closes
abbrev pub closes_milestone : List ℕ → Record → Bool
closes_milestone name r = is_milestone r.kind && is_name name r.closer

-- the words of OccursUnder of a record, if there is one
abbrev pub under_in : Option Record → List (List ℕ)
under_in r = option_map_or (λ s. s.under) r []

-- the record that was found; where none was and the name is not empty, the first milestone that a
-- mark of this name closes
abbrev pub or_milestone : List Record → List ℕ → Option Record → Option Record
or_milestone rs name None = if bytes_eq name [] then None else find (closes_milestone name) rs
or_milestone rs name (Some r) = Some r

-- the style of a mark: the record of its name; if none has it, and it is not empty, the first
-- milestone whose closing name it is
abbrev pub mark_style : List Record → List ℕ → Option Record
mark_style rs name = or_milestone rs name (named name rs)
