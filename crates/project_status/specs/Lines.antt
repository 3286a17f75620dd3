-- The lines that say how a project stands (this project's own rule). What is nothing is left out.
use Rattle.std.specs.Prelude.{ℕ, nat_eq, List, [], ◌∷◌, ◌++◌, length, codes, if◌then◌else◌}
use Rattle.std.specs.List.{flat_map}
use Rattle.std.specs.Fmt.{decimal}
use Rattle.usfm_ref.specs.References.{ref_text}
use Rattle.op_core.specs.Ids.{Id}
use Rattle.op_core.specs.Ops.{Operation}
use Rattle.op_core.specs.Lists.{awaited, books_of}
use Rattle.project_status.specs.declared.makers.Maker.{Maker}
use Rattle.project_status.specs.Numbers.{verses_written, makers_of, shown_names, replaced_count, thinned_count, conflict_keys}

-- words, and a number after them; nothing where it is 0
abbrev pub unless_none : ℕ → List ℕ → List ℕ
unless_none n words = if nat_eq n 0 then [] else words

-- `copy`, and the copy's name
abbrev pub copy_line : List ℕ → List ℕ
copy_line name = codes "copy " ++ (name ++ 10 ∷ [])

-- how many verses are written, after the books
abbrev pub verses_part : ℕ → List ℕ
verses_part verses = unless_none verses (codes ", verses " ++ decimal verses)

-- how many books there are, and how many of their verses are written
abbrev pub books_line : ℕ → ℕ → List ℕ
books_line books verses =
    unless_none books (codes "books " ++ (decimal books ++ (verses_part verses ++ 10 ∷ [])))

-- a maker, and how many of their operations are shown
abbrev pub maker_words : Maker → List ℕ
maker_words maker = maker.name ++ 32 ∷ decimal maker.count

-- makers after the first, each after a comma
abbrev pub more_makers : List Maker → List ℕ
more_makers makers = flat_map (λ maker. codes ", " ++ maker_words maker) makers

-- who made what is shown
abbrev pub shown_line : List Maker → List ℕ
shown_line [] = []
shown_line (maker ∷ makers) =
    codes "shown " ++ (maker_words maker ++ (more_makers makers ++ 10 ∷ []))

-- how many of what is replaced have no text, after the replaced ones
abbrev pub thinned_part : ℕ → List ℕ
thinned_part thinned =
    unless_none thinned (codes ", of these " ++ (decimal thinned ++ codes " without their texts"))

-- how many operations are replaced, and how many of these are kept without their texts
abbrev pub replaced_line : ℕ → ℕ → List ℕ
replaced_line replaced thinned = unless_none replaced
    (codes "replaced " ++ (decimal replaced ++ (thinned_part thinned ++ 10 ∷ [])))

-- the conflicts of a book
abbrev pub conflict_lines : List Operation → List ℕ → List ℕ
conflict_lines held book =
    flat_map (λ key. codes "conflict " ++ (ref_text book key ++ 10 ∷ [])) (conflict_keys held book)

-- an id that is awaited
abbrev pub awaited_line : Id → List ℕ
awaited_line id = codes "awaited " ++ (decimal id.number ++ 32 ∷ (id.name ++ 10 ∷ []))

-- ---- all of it

-- how much is held
abbrev pub count_lines : List Operation → List ℕ
count_lines held =
    books_line (length (books_of held)) (verses_written held)
    ++ (shown_line (makers_of (shown_names held))
    ++ replaced_line (replaced_count held) (thinned_count held))

-- what is to be settled or asked for
abbrev pub open_lines : List Operation → List ℕ
open_lines held =
    flat_map (conflict_lines held) (books_of held) ++ flat_map awaited_line (awaited held)

-- how what is held stands
abbrev pub held_lines : List Operation → List ℕ
held_lines held = count_lines held ++ open_lines held
