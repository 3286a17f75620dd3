-- Which line of a file is faulty (this project's own format).
use Rattle.std.specs.Prelude.{◌≡◌, ◌≢◌, ℕ, ◌+◌, ◌==◌, ◌≤◌, List, [], ◌++◌, length, count_by}
use Rattle.conflict_answers.specs.Answers.{AnswerParts, AreAnswers}
use Rattle.conflict_answers.specs.Spelling.{first_line, spelling}

-- the number, from 1 on, of the line that follows these bytes
abbrev pub line_after : List ℕ → ℕ
line_after front = count_by (λ b. b == 10) front + 1

-- Bytes begin with the spelling of these answers, and with no longer spelling of any.
pub record IsLongest (bytes : List ℕ) (answers : List AnswerParts) (rest : List ℕ) : Type 0 where
  pub are : AreAnswers answers
  pub begins : bytes ≡ spelling answers ++ rest
  pub longest : (others : List AnswerParts) (after : List ℕ) → AreAnswers others
      → bytes ≡ spelling others ++ after → length rest ≤ length after

-- The first line of no known form: line 1 where the first line is another one, and else the line
-- after the longest front that is a spelling, where something follows it.
pub data IsBadLine (bytes : List ℕ) (line : ℕ) : Type 0 where
  at_first : line ≡ 1 → ((rest : List ℕ) → bytes ≢ first_line ++ rest) → IsBadLine bytes line
  after_answers : (answers : List AnswerParts) (rest : List ℕ) → IsLongest bytes answers rest
      → rest ≢ [] → line ≡ line_after (spelling answers) → IsBadLine bytes line
