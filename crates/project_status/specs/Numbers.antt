-- How a project stands, in numbers (this project's own rule).
use Rattle.std.specs.Prelude.{ℕ, ◌-◌, not, Bool, List, length, map, filter}
use Rattle.std.specs.List.{list_any, count_by, flat_map}
use Rattle.usfm_ref.specs.Books.{same_bytes}
use Rattle.usfm_ref.specs.Keys.{KeyParts}
use Rattle.usfm_ref.specs.Rising.{rising}
use Rattle.usfm_ref.specs.Segments.{segment}
use Rattle.usfm_ref.specs.declared.segment.Segment.{Segment}
use Rattle.op_core.specs.Names.{name_cmp}
use Rattle.op_core.specs.Ops.{Operation, own_text, is_thinned}
use Rattle.op_core.specs.Shown.{last, text_if_any, shown}
use Rattle.op_core.specs.Lists.{shown_ids, keys_of, books_of}
use Rattle.project_status.specs.declared.makers.Maker.{Maker}
use Rattle.project_status.specs.Verses.{verses_of}

-- ---- what is in the books

-- how many verses of all books are written, each segment counted once
abbrev pub verses_written : List Operation → ℕ
verses_written held = count_by (λ v. v.written) (flat_map (verses_of held) (books_of held))

-- ---- what is shown

-- the names under which the operations were made that a segment shows, one for each operation
abbrev pub names_at : List Operation → Segment → List (List ℕ)
names_at held g = map (λ id. id.name) (shown_ids held g)

-- the same of a book, segment by segment
abbrev pub names_in : List Operation → List ℕ → List (List ℕ)
names_in held book = flat_map (λ key. names_at held (segment book key)) (keys_of held book)

-- the same of all books
abbrev pub shown_names : List Operation → List (List ℕ)
shown_names held = flat_map (names_in held) (books_of held)

-- the maker of a name among the makers of operations
abbrev pub maker_of : List (List ℕ) → List ℕ → Maker
maker_of names name = record { name = name; count = count_by (same_bytes name) names }

-- each maker once, names rising
abbrev pub makers_of : List (List ℕ) → List Maker
makers_of names = map (maker_of names) (rising name_cmp names)

-- how many operations are held that no segment shows: one of their segment replaces them
abbrev pub replaced_count : List Operation → ℕ
replaced_count held = length held - length (shown_names held)

-- how many operations are kept without their texts
abbrev pub thinned_count : List Operation → ℕ
thinned_count held = count_by is_thinned held

-- ---- what is to be settled

-- whether an operation has another text
abbrev pub has_other_text : List ℕ → Operation → Bool
has_other_text text o = not (same_bytes (own_text o) text)

-- whether operations have different texts: one of them has another one than the last
abbrev pub differ : List Operation → Bool
differ ops = list_any (has_other_text (text_if_any (last ops))) ops

-- the keys of a book whose segments are in conflict: they show different texts
abbrev pub conflict_keys : List Operation → List ℕ → List KeyParts
conflict_keys held book = filter (λ key. differ (shown held (segment book key))) (keys_of held book)
