-- What changed, as lines (this project's own rule).
use Rattle.std.specs.Prelude.{ℕ, Bool, List, [], ◌∷◌, ◌++◌, length, codes, if◌then◌else◌}
use Rattle.std.specs.List.{flat_map}
use Rattle.std.specs.Fmt.{decimal}
use Rattle.usfm_ref.specs.References.{ref_text}
use Rattle.op_core.specs.Ids.{Id}
use Rattle.segment_history.specs.Histories.{KeptPart, Whole, TextLeftOut, NotHeld}
use Rattle.segment_history.specs.Changes.{ShownParts, ChangedParts}
use Rattle.segment_history.specs.Lines.{id_words}

-- names, each after a space
abbrev pub name_words : List (List ℕ) → List ℕ
name_words names = flat_map (λ name. 32 ∷ name) names

-- `changed`, the segment's reference, and who made what is new there
abbrev pub changed_line : ChangedParts → List ℕ
changed_line c = codes "changed " ++
    (ref_text c.segment.book c.segment.key ++ (name_words c.makers ++ 10 ∷ []))

-- what is written of an operation that is shown, after a word: its id, how long its text is, the
-- text, and a line feed; or that its text was left out
abbrev pub text_lines : List ℕ → KeptPart → Id → List ℕ
text_lines word (Whole text) id =
    word ++ 32 ∷ (id_words id ++ 32 ∷ (decimal (length text) ++ 10 ∷ (text ++ 10 ∷ [])))
text_lines word TextLeftOut id = word ++ 32 ∷ (id_words id ++ (codes " thinned" ++ 10 ∷ []))
text_lines word NotHeld id = []

-- the same of several, one after another
abbrev pub texts_lines : List ℕ → List ShownParts → List ℕ
texts_lines word texts = flat_map (λ s. text_lines word s.kept s.id) texts

-- what changed in a segment: its line, and if texts are wanted, `was` and `is` with what is shown
abbrev pub changed_lines : Bool → ChangedParts → List ℕ
changed_lines texts c = changed_line c ++
    (if texts then texts_lines (codes "was") c.was ++ texts_lines (codes "is") c.now_shown else [])

-- what changed in several segments
abbrev pub changes_text : Bool → List ChangedParts → List ℕ
changes_text texts changes = flat_map (changed_lines texts) changes
