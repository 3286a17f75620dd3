-- The fields of a sheet's lines.
--
-- Their names and the style types are those of Paratext's `usfm.sty`. That both are compared
-- without ASCII case, and a value is judged whole, is this project's own rule.
use Rattle.std.specs.Prelude.{ℕ, ◌==◌, Bool, true, false, List, [], ◌∷◌, map, Option, None, Some, if◌then◌else◌, codes}
use Rattle.std.specs.Str.{str_eq_ignore_ascii_case}
use Rattle.std.specs.Str.Lines.{lines}
use Rattle.sty_sheet.specs.Lines.{body, first_word, after_word, after_feff, trimmed}
use Rattle.sty_sheet.specs.declared.kind.StyleKind.{StyleKind}
use Rattle.sty_sheet.specs.declared.kind.StyleKind.TheVariants as kinds

-- a line that is passed over, or a field that is read, with its value
pub data Field : Type 0 where
  passed : Field
  marker : List ℕ → Field
  occurs_under : List ℕ → Field
  endmarker : List ℕ → Field
  name : List ℕ → Field
  style_type : List ℕ → Field
  text_type : List ℕ → Field

-- whether two words are the same, without ASCII case
abbrev pub is_word : List ℕ → List ℕ → Bool
is_word word bs = str_eq_ignore_ascii_case word bs

-- the field of a name with a value; one that has none of these six names is passed over
abbrev pub field_named : List ℕ → List ℕ → Field
field_named key value =
    if is_word (codes "Marker") key then marker value
    else if is_word (codes "OccursUnder") key then occurs_under value
    else if is_word (codes "Endmarker") key then endmarker value
    else if is_word (codes "Name") key then name value
    else if is_word (codes "StyleType") key then style_type value
    else if is_word (codes "TextType") key then text_type value
    else passed

-- the field after a backslash: its name up to a blank, and its value without the blanks around it
abbrev pub field_after : List ℕ → Field
field_after bs = field_named (first_word bs) (trimmed (after_word bs))

-- a line that does not begin with a backslash (92) is passed over
abbrev pub field_of_body : List ℕ → Field
field_of_body [] = passed
field_of_body (b ∷ bs) = if b == 92 then field_after bs else passed

-- the field of a line, or that the line is passed over
abbrev pub field_of : List ℕ → Field
field_of line = field_of_body (body line)

-- the fields of a sheet, one for each line
abbrev pub fields_of : List ℕ → List Field
fields_of text = map field_of (lines (after_feff text))

-- the style type that a value names, if it is one of the four
abbrev pub kind_named : List ℕ → Option StyleKind
kind_named value =
    if is_word (codes "Paragraph") value then Some kinds.Paragraph
    else if is_word (codes "Character") value then Some kinds.Character
    else if is_word (codes "Note") value then Some kinds.Note
    else if is_word (codes "Milestone") value then Some kinds.Milestone
    else None

-- the value of a field of each name

-- the value of a Name, if the field is one
abbrev pub as_name : Field → Option (List ℕ)
as_name (name value) = Some value
as_name other = None

-- the value of an Endmarker, if the field is one
abbrev pub as_endmarker : Field → Option (List ℕ)
as_endmarker (endmarker value) = Some value
as_endmarker other = None

-- the value of an OccursUnder, if the field is one
abbrev pub as_occurs_under : Field → Option (List ℕ)
as_occurs_under (occurs_under value) = Some value
as_occurs_under other = None

-- the value of a StyleType, if the field is one
abbrev pub as_style_type : Field → Option (List ℕ)
as_style_type (style_type value) = Some value
as_style_type other = None

-- the value of a TextType, if the field is one
abbrev pub as_text_type : Field → Option (List ℕ)
as_text_type (text_type value) = Some value
as_text_type other = None

-- whether the field is a Marker
abbrev pub is_marker : Field → Bool
is_marker (marker value) = true
is_marker other = false
