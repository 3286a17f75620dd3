-- The other texts of a conflict as remarks (this project's own rule, over USFM 3.0's `\rem`, a line
-- that is no text of Scripture): for those who look at the file before they settle the conflict.
use Rattle.std.specs.Prelude.{ℕ, Bool, true, false, ◌==◌, List, [], ◌∷◌, ◌++◌, map, drop, codes, if◌then◌else◌}
use Rattle.std.specs.List.{flat_map}
use Rattle.usfm_ref.specs.Keys.{KeyParts}
use Rattle.usfm_ref.specs.References.{ref_text}
use Rattle.usfm_ref.specs.Segments.{segment}
use Rattle.usfm_ref.specs.declared.segment.Segment.{Segment}
use Rattle.op_core.specs.Ops.{Operation, own_text}
use Rattle.op_core.specs.Shown.{pick, picked_text}
use Rattle.op_core.specs.Export.{exported_keys}
use Rattle.conflict_report.specs.Reports.{distinct_texts}

-- a byte as a remark has it: a slash in the place of a backslash, so that it opens no mark
abbrev pub slashed : ℕ → ℕ
slashed b = if b == 92 then 47 else b

-- a byte before lines
abbrev pub with_byte : ℕ → List (List ℕ) → List (List ℕ)
with_byte b [] = (b ∷ []) ∷ []
with_byte b (line ∷ rest) = (b ∷ line) ∷ rest

-- the lines of a text, without their ends; a line end at the end of the text ends the last of them
unfoldable pub lines_of : List ℕ → List (List ℕ)
lines_of [] = []
lines_of (b ∷ rest) = if b == 10 then [] ∷ lines_of rest else with_byte b (lines_of rest)

-- the same, one empty line where the text is empty
abbrev pub lines_or_one : List (List ℕ) → List (List ℕ)
lines_or_one [] = [] ∷ []
lines_or_one (line ∷ rest) = line ∷ rest

-- how each remark of a text begins: `\rem conflict`, the segment's reference, and the name of the
-- replica that gave it the text
abbrev pub remark_begin : Segment → List ℕ → List ℕ
remark_begin g name =
    codes "\\rem conflict " ++ (ref_text g.book g.key ++ 32 ∷ (name ++ codes ": "))

-- a line of a text as a remark
abbrev pub remark : Segment → List ℕ → List ℕ → List ℕ
remark g name line = remark_begin g name ++ (map slashed line ++ 10 ∷ [])

-- the remarks of a text
abbrev pub remarks_of : Segment → Operation → List ℕ
remarks_of g o = flat_map (remark g o.id.name) (lines_or_one (lines_of (own_text o)))

-- whether bytes end within a line
unfoldable pub ends_within : List ℕ → Bool
ends_within [] = false
ends_within (b ∷ []) = if b == 10 then false else true
ends_within (b ∷ c ∷ rest) = ends_within (c ∷ rest)

-- the end of the line within which bytes end
abbrev pub line_end : List ℕ → List ℕ
line_end text = if ends_within text then 10 ∷ [] else []

-- a picked text with the remarks of others after it, each on lines of its own
abbrev pub with_remarks : Segment → List ℕ → List Operation → List ℕ
with_remarks g text [] = text
with_remarks g text (o ∷ others) =
    text ++ (line_end text ++ flat_map (remarks_of g) (o ∷ others))

-- what a segment's place in the book has: its picked text, and the remarks of its other texts
abbrev pub marked_at : List Operation → List ℕ → KeyParts → List ℕ
marked_at held book key =
    with_remarks (segment book key) (picked_text (pick held (segment book key)))
    (drop 1 (distinct_texts held (segment book key)))

-- the export of a book, with the remarks of each conflict after its picked text
abbrev pub marked_export : List Operation → List ℕ → List ℕ
marked_export held book = flat_map (marked_at held book) (exported_keys held book)
