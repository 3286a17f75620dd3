-- The history of a segment as lines (this project's own rule).
use Rattle.std.specs.Prelude.{ℕ, List, [], ◌∷◌, ◌++◌, length, codes}
use Rattle.std.specs.List.{flat_map}
use Rattle.std.specs.Fmt.{decimal}
use Rattle.usfm_ref.specs.References.{ref_text}
use Rattle.usfm_ref.specs.declared.segment.Segment.{Segment}
use Rattle.op_core.specs.Ids.{Id, id_text}
use Rattle.op_core.specs.Ops.{Operation}
use Rattle.segment_history.specs.Histories.{KeptPart, Whole, TextLeftOut, NotHeld, EntryParts, HistoryParts, history}

-- an id's number and its name
abbrev pub id_words : Id → List ℕ
id_words id = decimal id.number ++ 32 ∷ id.name

-- ids, each as `3:ana` after a space
abbrev pub id_texts : List Id → List ℕ
id_texts ids = flat_map (λ id. 32 ∷ id_text id) ids

-- what became of an operation that these replace: it is shown where there is none
abbrev pub fate_words : List Id → List ℕ
fate_words [] = codes " shown"
fate_words (id ∷ ids) = codes " replaced" ++ id_texts (id ∷ ids)

-- what is written of an operation of which this is kept, and which these replace: of one with its
-- text the line `op NUMBER NAME LENGTH shown`, or `replaced` and ids, the text, and a line feed; of
-- one without it the line `op NUMBER NAME thinned` and ids; of one that is not held the line
-- `awaited NUMBER NAME replaced` and ids
abbrev pub kept_lines : KeptPart → Id → List Id → List ℕ
kept_lines (Whole text) id ids = codes "op " ++
    (id_words id ++ 32 ∷ (decimal (length text) ++ (fate_words ids ++ 10 ∷ (text ++ 10 ∷ []))))
kept_lines TextLeftOut id ids =
    codes "op " ++ (id_words id ++ (codes " thinned" ++ (id_texts ids ++ 10 ∷ [])))
kept_lines NotHeld id ids =
    codes "awaited " ++ (id_words id ++ (codes " replaced" ++ (id_texts ids ++ 10 ∷ [])))

-- what is written of an operation
abbrev pub entry_lines : EntryParts → List ℕ
entry_lines e = kept_lines e.kept e.id e.replaced_by

-- `history`, the segment's reference, and how many operations are told of
abbrev pub history_line : HistoryParts → List ℕ
history_line h = codes "history " ++
    (ref_text h.segment.book h.segment.key ++ 32 ∷ (decimal (length h.entries) ++ 10 ∷ []))

-- the history of a segment: its line, and what is written of its operations
abbrev pub history_lines : HistoryParts → List ℕ
history_lines h = history_line h ++ flat_map entry_lines h.entries

-- the histories of segments of a set
abbrev pub history_text : List Operation → List Segment → List ℕ
history_text held segments = flat_map (λ g. history_lines (history held g)) segments
