-- The one spelling of a list of answers, short and readable aloud (this project's own format).
use Rattle.std.specs.Prelude.{ℕ, List, [], ◌∷◌, ◌++◌, codes, length, Option, None, Some}
use Rattle.std.specs.List.{flat_map}
use Rattle.std.specs.Fmt.{decimal}
use Rattle.usfm_ref.specs.References.{ref_text}
use Rattle.usfm_ref.specs.declared.segment.Segment.{Segment}
use Rattle.op_core.specs.Ids.{Id, id_text}
use Rattle.conflict_answers.specs.Answers.{AnswerParts, Chosen, taken, own, not_now}

-- the first line: `USFM answers 1`
abbrev pub first_line : List ℕ
first_line = codes "USFM answers 1" ++ 10 ∷ []

-- ids, each as `6:ben` after a space
abbrev pub id_texts : List Id → List ℕ
id_texts ids = flat_map (λ id. 32 ∷ id_text id) ids

-- `REF ID ..`
abbrev pub conflict_words : Segment → List Id → List ℕ
conflict_words g ids = ref_text g.book g.key ++ id_texts ids

-- `conflict REF ID ..`, without the line feed
abbrev pub conflict_text : Segment → List Id → List ℕ
conflict_text g ids = codes "conflict " ++ conflict_words g ids

-- `WORD LEN` of a text, its LEN bytes, and a line feed
abbrev pub counted_lines : List ℕ → List ℕ → List ℕ
counted_lines word text = word ++ 32 ∷ (decimal (length text) ++ 10 ∷ (text ++ 10 ∷ []))

-- `take ID`
abbrev pub take_line : Id → List ℕ
take_line id = codes "take " ++ (id_text id ++ 10 ∷ [])

-- `take ID`, or `text LEN` and the text, or nothing
abbrev pub chosen_lines : Chosen → List ℕ
chosen_lines (taken id) = take_line id
chosen_lines (own text) = counted_lines (codes "text") text
chosen_lines not_now = []

-- `remark LEN` and the remark, if there is one
abbrev pub remark_lines : Option (List ℕ) → List ℕ
remark_lines None = []
remark_lines (Some text) = counted_lines (codes "remark") text

-- an answer: its conflict, what was chosen, and the remark
abbrev pub answer_lines : AnswerParts → List ℕ
answer_lines a =
    conflict_text a.segment a.ids ++ 10 ∷ (chosen_lines a.chosen ++ remark_lines a.remark)

-- answers, one after another
abbrev pub all_lines : List AnswerParts → List ℕ
all_lines answers = flat_map answer_lines answers

-- a file of answers
unfoldable pub spelling : List AnswerParts → List ℕ
spelling answers = first_line ++ all_lines answers
