-- How far the walk over a file of answers has come.
use Rattle.std.specs.Prelude.{◌≡◌, ◌≢◌, ◌⊎◌, ◌==◌, ◌≤◌, ◌||◌, ℕ, Bool, true, false, List, [], ◌∷◌, ◌++◌, length}
use Rattle.conflict_answers.specs.Answers.{AnswerParts, IsAnswer, AreAnswers}
use Rattle.conflict_answers.specs.Spelling.{answer_lines, all_lines, spelling}

-- the bytes begin with t (116) or r (114), as what was chosen and a remark do, and a conflict does
-- not
abbrev pub is_more : List ℕ → Bool
is_more [] = false
is_more (b ∷ bytes) = b == 116 || b == 114

-- of an answer and what comes after it, that it is the one that was read, with nothing after it
-- left out; or that more of it was read
abbrev pub IsOrShorter : AnswerParts → List ℕ → AnswerParts → List ℕ → Type 0
IsOrShorter a rest read after =
    ((a ≡ read) × (rest ≡ after)) ⊎ ((length after ≤ length rest) × (is_more rest ≡ true))

-- How other answers stand to those that were read: they are the same, they end before these do, or
-- they go on.
pub data Reaches (read : List AnswerParts) (rest : List ℕ) (others : List AnswerParts)
    (after : List ℕ) : Type 0 where
  here : others ≡ read → after ≡ rest → Reaches read rest others after
  before : length rest ≤ length after → after ≢ [] → Reaches read rest others after
  beyond : (a : AnswerParts) (later : List AnswerParts) → IsAnswer a → AreAnswers later
      → others ≡ read ++ a ∷ later → rest ≡ answer_lines a ++ (all_lines later ++ after)
      → Reaches read rest others after

-- the bytes are these answers and a rest, and all answers that bytes begin with stand so to them
pub record HasRead (bytes : List ℕ) (read : List AnswerParts) (rest : List ℕ) : Type 0 where
  pub are : AreAnswers read
  pub begins : bytes ≡ spelling read ++ rest
  pub reaches : (others : List AnswerParts) (after : List ℕ) → AreAnswers others
      → bytes ≡ spelling others ++ after → Reaches read rest others after
