-- The words of pieces, by what becomes of them.
use Rattle.std.proofs.Common.{◌≡◌, ℕ, ◌+◌, ◌≤◌, List, [], ◌∷◌, length, refl, ap, arith}
use Rattle.word_diff.specs.Kinds.{is_new, is_old}
use Rattle.word_diff.specs.Parts.{texts_of}
use Rattle.word_merge.specs.Pieces.{Piece, is_common, is_of_one, is_of_other, words_where}
use Rattle.word_merge.specs.Steps.{one_steps, other_steps}
use Rattle.word_merge.specs.declared.fate.Fate.{Fate}
use Rattle.word_merge.specs.declared.fate.Fate.TheVariants.{Kept, OneRemoves, OneAdds, OtherRemoves, OtherAdds}

abbrev pub piece : Fate → List ℕ → Piece
piece fate w = record { fate = fate; bytes = w }

abbrev Words : Type 0
Words = List (List ℕ)

-- the one change is of the words that are common
pub common_words : (ss : List Piece) → texts_of is_old (one_steps ss) ≡ words_where is_common ss
common_words [] = refl
common_words (s ∷ ss) = by s.fate (common_words ss)
  where
    by : (fate : Fate) → texts_of is_old (one_steps ss) ≡ words_where is_common ss
        → texts_of is_old (one_steps (piece fate s.bytes ∷ ss)) ≡ words_where is_common (piece fate s.bytes ∷ ss)
    by Kept h = ap (λ (l : Words). s.bytes ∷ l) h
    by OneRemoves h = ap (λ (l : Words). s.bytes ∷ l) h
    by OneAdds h = h
    by OtherRemoves h = ap (λ (l : Words). s.bytes ∷ l) h
    by OtherAdds h = h

-- and makes the words that are of one
pub one_words : (ss : List Piece) → texts_of is_new (one_steps ss) ≡ words_where is_of_one ss
one_words [] = refl
one_words (s ∷ ss) = by s.fate (one_words ss)
  where
    by : (fate : Fate) → texts_of is_new (one_steps ss) ≡ words_where is_of_one ss
        → texts_of is_new (one_steps (piece fate s.bytes ∷ ss)) ≡ words_where is_of_one (piece fate s.bytes ∷ ss)
    by Kept h = ap (λ (l : Words). s.bytes ∷ l) h
    by OneRemoves h = h
    by OneAdds h = ap (λ (l : Words). s.bytes ∷ l) h
    by OtherRemoves h = ap (λ (l : Words). s.bytes ∷ l) h
    by OtherAdds h = h

-- the other change makes the words that are of the other
pub other_words : (ss : List Piece) → texts_of is_new (other_steps ss) ≡ words_where is_of_other ss
other_words [] = refl
other_words (s ∷ ss) = by s.fate (other_words ss)
  where
    by : (fate : Fate) → texts_of is_new (other_steps ss) ≡ words_where is_of_other ss
        → texts_of is_new (other_steps (piece fate s.bytes ∷ ss)) ≡ words_where is_of_other (piece fate s.bytes ∷ ss)
    by Kept h = ap (λ (l : Words). s.bytes ∷ l) h
    by OneRemoves h = ap (λ (l : Words). s.bytes ∷ l) h
    by OneAdds h = h
    by OtherRemoves h = h
    by OtherAdds h = ap (λ (l : Words). s.bytes ∷ l) h

-- each piece is a step of one of the two
pub pieces_few : (ss : List Piece) → length ss ≤ length (one_steps ss) + length (other_steps ss)
pieces_few [] = omega arith
pieces_few (s ∷ ss) = by s.fate (pieces_few ss)
  where
    by : (fate : Fate) → length ss ≤ length (one_steps ss) + length (other_steps ss)
        → length (s ∷ ss) ≤ length (one_steps (piece fate s.bytes ∷ ss)) + length (other_steps (piece fate s.bytes ∷ ss))
    by Kept h = omega (arith, h)
    by OneRemoves h = omega (arith, h)
    by OneAdds h = omega (arith, h)
    by OtherRemoves h = omega (arith, h)
    by OtherAdds h = omega (arith, h)
