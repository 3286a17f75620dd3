-- The conflict report (this project's own rule): the texts of each segment that shows two or more
-- distinct ones, and the ids that operations name and none has.
use Rattle.std.specs.Prelude.{ℕ, nat_le, Bool, not, ◌&&◌, List, [], ◌∷◌, ◌++◌, length, filter, reverse, codes, if◌then◌else◌}
use Rattle.std.specs.List.{list_any, flat_map}
use Rattle.std.specs.Fmt.{decimal}
use Rattle.usfm_ref.specs.Books.{same_bytes}
use Rattle.usfm_ref.specs.References.{ref_text}
use Rattle.usfm_ref.specs.Segments.{segment}
use Rattle.usfm_ref.specs.declared.segment.Segment.{Segment}
use Rattle.op_core.specs.Ids.{Id, id_below}
use Rattle.op_core.specs.Ops.{Operation, own_text}
use Rattle.op_core.specs.Shown.{shown}
use Rattle.op_core.specs.Lists.{awaited, books_of, keys_of}

-- ---- what is reported

-- whether one of the operations has the same text and a greater id
abbrev pub is_repeated : List Operation → Operation → Bool
is_repeated ops o = list_any (λ p. id_below o.id p.id && same_bytes (own_text p) (own_text o)) ops

-- the distinct texts that a segment shows, each by the operation with the greatest id that has it,
-- ids falling
abbrev pub distinct_texts : List Operation → Segment → List Operation
distinct_texts held g = reverse (filter (λ o. not (is_repeated (shown held g) o)) (shown held g))

-- the other operations that a segment shows: those with whose text one of a greater id is shown,
-- ids falling
abbrev pub repeated_texts : List Operation → Segment → List Operation
repeated_texts held g = reverse (filter (λ o. is_repeated (shown held g) o) (shown held g))

-- ---- the lines

-- `conflict`, the segment's reference, and how many texts there are
abbrev pub conflict_line : Segment → ℕ → List ℕ
conflict_line g count =
    codes "conflict " ++ (ref_text g.book g.key ++ 32 ∷ (decimal count ++ 10 ∷ []))

-- `text`, the number and the name of the text's id, and how many bytes it has
abbrev pub text_line : Operation → List ℕ
text_line o = codes "text " ++
    (decimal o.id.number ++ 32 ∷ (o.id.name ++ 32 ∷ (decimal (length (own_text o)) ++ 10 ∷ [])))

-- a text's line, the text, and a line feed
abbrev pub text_lines : Operation → List ℕ
text_lines o = text_line o ++ (own_text o ++ 10 ∷ [])

-- `awaited`, and the number and the name of an id
abbrev pub awaited_line : Id → List ℕ
awaited_line id = codes "awaited " ++ (decimal id.number ++ 32 ∷ (id.name ++ 10 ∷ []))

-- what is reported of a segment that shows these distinct texts: nothing unless they are two or
-- more
abbrev pub conflict_lines : Segment → List Operation → List ℕ
conflict_lines g texts =
    if nat_le 2 (length texts) then conflict_line g (length texts) ++ flat_map text_lines texts
    else []

-- ---- the report

-- what is reported of a segment: nothing unless it shows two or more distinct texts
abbrev pub conflict_at : List Operation → Segment → List ℕ
conflict_at held g = conflict_lines g (distinct_texts held g)

-- what is reported of a book's segments, by rising key
abbrev pub conflicts_in : List Operation → List ℕ → List ℕ
conflicts_in held book = flat_map (λ key. conflict_at held (segment book key)) (keys_of held book)

-- what is reported of all books, in their order, and then the awaited ids, rising
abbrev pub report : List Operation → List ℕ
report held = flat_map (conflicts_in held) (books_of held) ++ flat_map awaited_line (awaited held)
