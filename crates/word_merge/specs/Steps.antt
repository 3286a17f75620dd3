-- Changes of a text as steps of one word each, and when two are of one place (this project's own
-- rule).
use Rattle.std.specs.Prelude.{◌≡◌, ℕ, Bool, true, false, List, [], ◌∷◌, map, if◌then◌else◌}
use Rattle.std.specs.List.{flat_map}
use Rattle.word_diff.specs.Common.{AreFew, IsLongest}
use Rattle.word_diff.specs.Kinds.{is_kept, is_new, is_old}
use Rattle.word_diff.specs.Parts.{Span, texts_of}
use Rattle.word_diff.specs.Words.{words_of}
use Rattle.word_diff.specs.declared.part.Kind.{Kind}
use Rattle.word_diff.specs.declared.part.Kind.TheVariants as kinds
use Rattle.word_merge.specs.Pieces.{Piece, stand_apart}
use Rattle.word_merge.specs.declared.fate.Fate.{Fate}
use Rattle.word_merge.specs.declared.fate.Fate.TheVariants.{Kept, OneRemoves, OneAdds, OtherRemoves, OtherAdds}
use Rattle.word_merge.specs.declared.fate.Owner.TheVariants.{Nobody}

-- each of these words as a step of this kind
abbrev pub each : Kind → List (List ℕ) → List Span
each kind ws = map (λ w. record { kind = kind; bytes = w }) ws

-- the words of a part, each as a step of its kind
abbrev pub steps_in : Span → List Span
steps_in s = each s.kind (words_of s.bytes)

-- those of all parts
abbrev pub steps_of : List Span → List Span
steps_of ss = flat_map steps_in ss

-- steps lead from one text to another, word by word, and keep as many words of short texts as can be
-- kept
pub record LeadTo (old new : List ℕ) (steps : List Span) : Type 0 where
  pub from_old : texts_of is_old steps ≡ words_of old
  pub to_new : texts_of is_new steps ≡ words_of new
  pub longest : AreFew (words_of old) (words_of new)
      → IsLongest (texts_of is_kept steps) (words_of old) (words_of new)

-- ---- the steps of each change

-- whether a word of this fate is a step of the one change: the other does not add it
abbrev pub is_step_of_one : Fate → Bool
is_step_of_one Kept = true
is_step_of_one OneRemoves = true
is_step_of_one OneAdds = true
is_step_of_one OtherRemoves = true
is_step_of_one OtherAdds = false

-- whether it is one of the other change
abbrev pub is_step_of_other : Fate → Bool
is_step_of_other Kept = true
is_step_of_other OneRemoves = true
is_step_of_other OneAdds = false
is_step_of_other OtherRemoves = true
is_step_of_other OtherAdds = true

-- what the one change does with a word of this fate, of those that are its steps
abbrev pub kind_for_one : Fate → Kind
kind_for_one Kept = kinds.Kept
kind_for_one OneRemoves = kinds.Removed
kind_for_one OneAdds = kinds.Added
kind_for_one OtherRemoves = kinds.Kept
kind_for_one OtherAdds = kinds.Kept

-- what the other change does with it
abbrev pub kind_for_other : Fate → Kind
kind_for_other Kept = kinds.Kept
kind_for_other OneRemoves = kinds.Kept
kind_for_other OneAdds = kinds.Kept
kind_for_other OtherRemoves = kinds.Removed
kind_for_other OtherAdds = kinds.Added

-- the steps of a change among pieces
abbrev pub steps_by : (Fate → Bool) → (Fate → Kind) → List Piece → List Span
steps_by p kind [] = []
steps_by p kind (s ∷ ss) =
    if p s.fate then record { kind = kind s.fate; bytes = s.bytes } ∷ steps_by p kind ss
    else steps_by p kind ss

-- the steps of the one change
abbrev pub one_steps : List Piece → List Span
one_steps ss = steps_by is_step_of_one kind_for_one ss

-- the steps of the other change
abbrev pub other_steps : List Piece → List Span
other_steps ss = steps_by is_step_of_other kind_for_other ss

-- pieces are made of the steps of two changes that are nowhere neighbours
pub record AreOfBoth (xs ys : List Span) (pieces : List Piece) : Type 0 where
  pub one : one_steps pieces ≡ xs
  pub other : other_steps pieces ≡ ys
  pub apart : stand_apart Nobody pieces ≡ true

-- Two changes of a text are of one place: of what differs word by word no pieces are made without a
-- change of the one and one of the other that are neighbours.
pub record AreOfOnePlace (common one other : List ℕ) : Type 0 where
  pub xs : List Span
  pub ys : List Span
  pub to_one : LeadTo common one xs
  pub to_other : LeadTo common other ys
  pub never : (pieces : List Piece) → AreOfBoth xs ys pieces → ⊥
