-- How the steps of two changes are joined, one after another. No public contract cites it.
use Rattle.std.specs.Prelude.{ℕ, zero, suc, ◌+◌, Bool, List, [], ◌∷◌, length, drop, Option, None, Some, option_map, if◌then◌else◌}
use Rattle.word_diff.specs.Parts.{Span}
use Rattle.word_diff.specs.Words.{joined, same_word}
use Rattle.word_diff.specs.declared.part.Kind.{Kind}
use Rattle.word_diff.specs.declared.part.Kind.TheVariants as kinds
use Rattle.word_merge.specs.Pieces.{Piece, are_apart, is_of_both, owner, words_where}
use Rattle.word_merge.specs.Steps.{is_step_of_one, is_step_of_other}
use Rattle.word_merge.specs.declared.fate.Fate.{Fate}
use Rattle.word_merge.specs.declared.fate.Fate.TheVariants.{Kept, OneRemoves, OneAdds, OtherRemoves, OtherAdds}
use Rattle.word_merge.specs.declared.fate.Owner.{Owner}
use Rattle.word_merge.specs.declared.fate.Owner.TheVariants.{Nobody}
use Rattle.word_merge.specs.declared.next.Next.{Next}
use Rattle.word_merge.specs.declared.next.Next.TheVariants as nexts

-- what comes next of two changes: nothing, nothing that is apart, or a piece
pub data NextView : Type 0 where
  Ends : NextView
  Sticks : NextView
  Goes : (fate : Fate) → (word : List ℕ) → NextView

-- that, and not where it lies in memory
abbrev pub next_view : Next → NextView
next_view nexts.Ends = Ends
next_view nexts.Sticks = Sticks
next_view (nexts.Goes fate word) = Goes fate word.now

-- a word with its fate, unless its change is a neighbour of the other's
abbrev pub goes : Owner → Fate → List ℕ → NextView
goes before fate w = if are_apart before (owner fate) then Goes fate w else Sticks

-- a word that both changes found in their text, if it is one
abbrev pub of_word : Owner → Fate → List ℕ → List ℕ → NextView
of_word before fate x y = if same_word x y then goes before fate x else Sticks

-- what comes next of a step of each change, by their kinds
abbrev pub of_kinds : Owner → Kind → Kind → List ℕ → List ℕ → NextView
of_kinds before kinds.Kept kinds.Kept x y = of_word before Kept x y
of_kinds before kinds.Kept kinds.Removed x y = of_word before OtherRemoves x y
of_kinds before kinds.Kept kinds.Added x y = goes before OtherAdds y
of_kinds before kinds.Removed kinds.Kept x y = of_word before OneRemoves x y
of_kinds before kinds.Removed kinds.Removed x y = Sticks
of_kinds before kinds.Removed kinds.Added x y = goes before OtherAdds y
of_kinds before kinds.Added kinds.Kept x y = goes before OneAdds x
of_kinds before kinds.Added kinds.Removed x y = goes before OneAdds x
of_kinds before kinds.Added kinds.Added x y = Sticks

-- the same of two steps
abbrev pub of_two : Owner → Span → Span → NextView
of_two before x y = of_kinds before x.kind y.kind x.bytes y.bytes

-- what comes next of a step of one change, where the other has none left
abbrev pub alone_by : Owner → Kind → List ℕ → Fate → NextView
alone_by before kinds.Kept w fate = Sticks
alone_by before kinds.Removed w fate = Sticks
alone_by before kinds.Added w fate = goes before fate w

-- the same of a step
abbrev pub alone : Owner → Span → Fate → NextView
alone before s fate = alone_by before s.kind s.bytes fate

-- what comes next of the steps of two changes
abbrev pub next : Owner → List Span → List Span → NextView
next before [] [] = Ends
next before [] (y ∷ ys) = alone before y OtherAdds
next before (x ∷ xs) [] = alone before x OneAdds
next before (x ∷ xs) (y ∷ ys) = of_two before x y

-- the steps after the first, where that is taken
abbrev pub after : Bool → List Span → List Span
after is_taken ss = if is_taken then drop 1 ss else ss

-- that piece, and what comes later
abbrev pub onward : (Owner → List Span → List Span → Option (List Piece))
    → List Span → List Span → NextView → Option (List Piece)
onward more xs ys Ends = Some []
onward more xs ys Sticks = None
onward more xs ys (Goes fate w) =
    option_map (λ ss. record { fate = fate; bytes = w } ∷ ss)
    (more (owner fate) (after (is_step_of_one fate) xs) (after (is_step_of_other fate) ys))

-- the pieces of the steps of two changes, no more than n of them
unfoldable pub merge : ℕ → Owner → List Span → List Span → Option (List Piece)
merge zero before xs ys = None
merge (suc n) before xs ys = onward (merge n) xs ys (next before xs ys)

-- the text of both changes
abbrev pub both_text : List Piece → List ℕ
both_text ss = joined (words_where is_of_both ss)

-- what a word adds to that
abbrev pub kept_word : Fate → List ℕ → List ℕ
kept_word fate w = if is_of_both fate then w else []

-- the text of the steps of two changes, if they are apart
abbrev pub merged : List Span → List Span → Option (List ℕ)
merged xs ys = option_map both_text (merge (length xs + length ys + 1) Nobody xs ys)
