-- Two changes of one text joined, word by word (this project's own rule).
use Rattle.std.specs.Prelude.{◌≡◌, ℕ, Bool, true, false, ◌&&◌, List, [], ◌∷◌, if◌then◌else◌}
use Rattle.word_diff.specs.Words.{joined, words_of}
use Rattle.word_merge.specs.declared.fate.Fate.{Fate}
use Rattle.word_merge.specs.declared.fate.Fate.TheVariants.{Kept, OneRemoves, OneAdds, OtherRemoves, OtherAdds}
use Rattle.word_merge.specs.declared.fate.Owner.{Owner}
use Rattle.word_merge.specs.declared.fate.Owner.TheVariants.{Nobody, One, Other}

-- a word, and what becomes of it by two changes of a text
pub record Piece : Type 0 where
  pub fate : Fate
  pub bytes : List ℕ

-- whether it is in the text that is changed
abbrev pub is_common : Fate → Bool
is_common Kept = true
is_common OneRemoves = true
is_common OneAdds = false
is_common OtherRemoves = true
is_common OtherAdds = false

-- whether it is in the text that the one change makes
abbrev pub is_of_one : Fate → Bool
is_of_one Kept = true
is_of_one OneRemoves = false
is_of_one OneAdds = true
is_of_one OtherRemoves = true
is_of_one OtherAdds = false

-- whether it is in the text that the other change makes
abbrev pub is_of_other : Fate → Bool
is_of_other Kept = true
is_of_other OneRemoves = true
is_of_other OneAdds = false
is_of_other OtherRemoves = false
is_of_other OtherAdds = true

-- whether it is in the text of both changes: one adds it, or neither removes it
abbrev pub is_of_both : Fate → Bool
is_of_both Kept = true
is_of_both OneRemoves = false
is_of_both OneAdds = true
is_of_both OtherRemoves = false
is_of_both OtherAdds = true

-- the words of those pieces whose fate passes
abbrev pub words_where : (Fate → Bool) → List Piece → List (List ℕ)
words_where p [] = []
words_where p (s ∷ ss) = if p s.fate then s.bytes ∷ words_where p ss else words_where p ss

-- whose change a word of this fate is of
abbrev pub owner : Fate → Owner
owner Kept = Nobody
owner OneRemoves = One
owner OneAdds = One
owner OtherRemoves = Other
owner OtherAdds = Other

-- whether a change of the second may come directly after one of the first: those of the one and of
-- the other are no neighbours
abbrev pub are_apart : Owner → Owner → Bool
are_apart Nobody Nobody = true
are_apart Nobody One = true
are_apart Nobody Other = true
are_apart One Nobody = true
are_apart One One = true
are_apart One Other = false
are_apart Other Nobody = true
are_apart Other One = false
are_apart Other Other = true

-- whether no change of the one is a neighbour of one of the other, after a change of this owner
abbrev pub stand_apart : Owner → List Piece → Bool
stand_apart before [] = true
stand_apart before (s ∷ ss) = are_apart before (owner s.fate) && stand_apart (owner s.fate) ss

-- Two changes of a text are joined in a text: each word of it is of the text that was changed, or of
-- one of those that the changes made, in order; what either change adds is in it, and what either
-- removes is not; and no change of the one is a neighbour of one of the other.
pub record IsBoth (common one other both : List ℕ) : Type 0 where
  pub pieces : List Piece
  pub changed : words_where is_common pieces ≡ words_of common
  pub of_one : words_where is_of_one pieces ≡ words_of one
  pub of_other : words_where is_of_other pieces ≡ words_of other
  pub of_both : joined (words_where is_of_both pieces) ≡ both
  pub apart : stand_apart Nobody pieces ≡ true
