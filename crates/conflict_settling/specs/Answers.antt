-- What a line answers (this project's own rule).
use Rattle.std.specs.Prelude.{◌≡◌, ◌≢◌, ℕ, ◌+◌, ◌<◌, ◌≤◌, Bool, List, [], ◌∷◌, length, codes, slice_get, Option, None, Some}
use Rattle.std.specs.Fmt.{decimal}
use Rattle.std.specs.Str.{IsTrimAscii}
use Rattle.usfm_ref.specs.Books.{same_bytes}
use Rattle.conflict_settling.specs.declared.answer.Answer.{Answer}
use Rattle.conflict_settling.specs.declared.answer.Answer.TheVariants.{Take, Own, Skip, Stop, Unclear}

-- a word is the number in decimal of one of this many texts
pub record IsNumberIn (count : ℕ) (word : List ℕ) (number : ℕ) : Type 0 where
  pub from_one : 0 < number
  pub within : number ≤ count
  pub spelled : word ≡ decimal number

-- the text is the one that has this number
pub record IsTaken (texts : List (List ℕ)) (word text : List ℕ) : Type 0 where
  pub before : ℕ
  pub number : IsNumberIn (length texts) word (before + 1)
  pub found : slice_get texts before ≡ Some text

-- the text of a number in decimal, from 1, or none where the word is the number of no text
abbrev pub IsNumbered : List (List ℕ) → List ℕ → Option (List ℕ) → Type 0
IsNumbered texts word None = (number : ℕ) → IsNumberIn (length texts) word number → ⊥
IsNumbered texts word (Some text) = IsTaken texts word text

-- a word is no answer: no letter, and the number of no text
pub record IsUnclear (texts : List (List ℕ)) (word : List ℕ) : Type 0 where
  pub no_letter : (word ≢ codes "e") × (word ≢ codes "s") × (word ≢ codes "q")
  pub no_number : (number : ℕ) → IsNumberIn (length texts) word number → ⊥

-- What a word answers of texts.
abbrev pub IsAnswer : List (List ℕ) → List ℕ → Answer → Type 0
IsAnswer texts word (Take text) = IsTaken texts word text.now
IsAnswer texts word Own = word ≡ codes "e"
IsAnswer texts word Skip = word ≡ codes "s"
IsAnswer texts word Stop = word ≡ codes "q"
IsAnswer texts word Unclear = IsUnclear texts word

-- a line answers what its word does, without the blanks around it
pub record Answers (texts : List (List ℕ)) (line : List ℕ) (answer : Answer) : Type 0 where
  pub word : List ℕ
  pub trimmed : IsTrimAscii line word
  pub is : IsAnswer texts word answer

-- a line ends a typed text if it is a full stop (46), without the blanks around it
pub record EndsText (line : List ℕ) (ends : Bool) : Type 0 where
  pub word : List ℕ
  pub trimmed : IsTrimAscii line word
  pub is : ends ≡ same_bytes word (46 ∷ [])
