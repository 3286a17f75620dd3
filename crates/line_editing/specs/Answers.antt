-- What is answered of a line of a text, and what becomes of the line (this project's own rule).
use Rattle.std.specs.Prelude.{ℕ, ◌==◌, List, [], ◌∷◌, ◌++◌, Option, None, Some, length, take, drop, codes, if◌then◌else◌}
use Rattle.std.specs.Str.{bytes_eq}
use Rattle.line_editing.specs.Lines.{LineParts}
use Rattle.line_editing.specs.declared.answer.LineAnswer.{LineAnswer}
use Rattle.line_editing.specs.declared.answer.LineAnswer.TheVariants as answers

-- what is answered of a line
pub data AnswerParts : Type 0 where
  Keep : AnswerParts
  LeaveOut : AnswerParts
  Add : (text : List ℕ) → AnswerParts
  Replace : (text : List ℕ) → AnswerParts

-- what is answered, as a contract sees it
abbrev pub answer_view : LineAnswer → AnswerParts
answer_view answers.Keep = Keep
answer_view answers.LeaveOut = LeaveOut
answer_view (answers.Add text) = Add text.now
answer_view (answers.Replace text) = Replace text.now

-- what comes after `+ ` at the front of a typed line, if that is there
abbrev pub after_plus : List ℕ → Option (List ℕ)
after_plus typed = if bytes_eq (take 2 typed) (codes "+ ") then Some (drop 2 typed) else None

-- what a typed line answers of which this comes after `+ ` at its front, if that is there
abbrev pub added_or : List ℕ → Option (List ℕ) → AnswerParts
added_or typed None = Replace typed
added_or typed (Some text) = Add text

-- What a typed line answers: nothing, that the line is kept; `-`, that it is left out; `+` and a
-- blank, that what follows these is added after it; and anything else takes its place.
abbrev pub answer_of : List ℕ → AnswerParts
answer_of typed =
    if length typed == 0 then Keep
    else if bytes_eq typed (codes "-") then LeaveOut
    else added_or typed (after_plus typed)

-- a line end, or a line feed where there is none
abbrev pub or_line_feed : List ℕ → List ℕ
or_line_feed [] = 10 ∷ []
or_line_feed (b ∷ rest) = b ∷ rest

-- What becomes of a line by an answer. A line that takes its place, or is added, ends as it does.
abbrev pub answered : LineParts → AnswerParts → List ℕ
answered line Keep = line.body ++ line.end
answered line LeaveOut = []
answered line (Add text) = line.body ++ or_line_feed line.end ++ text ++ line.end
answered line (Replace text) = text ++ line.end
