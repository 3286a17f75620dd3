-- Laws of lines that are edited (this project's own rule).
use Rattle.std.specs.Prelude.{◌≡◌, ℕ, List, [], ◌∷◌, ◌++◌}
use Rattle.line_editing.specs.Answers.{AnswerParts, Add, Keep, answered, answer_of}
use Rattle.line_editing.specs.Lines.{IsFirstLine, LineParts}

-- What is kept stays: a line of which nothing was typed, and what comes later, are the text.
abbrev pub KeptStays : Type 0
KeptStays =
    (text : List ℕ) (line : LineParts) (later : List ℕ) →
    IsFirstLine text line later → answered line (answer_of []) ++ later ≡ text
