-- What a comparison adds to the steps that it has, which are parts of one word each. No public
-- contract cites this.
use Rattle.std.specs.Prelude.{◌≡◌, ℕ, ◌+◌, Bool, true, false, List, [], ◌∷◌, ◌++◌, length, map}
use Rattle.word_diff.specs.Kinds.{is_kept, is_new, is_old}
use Rattle.word_diff.specs.Parts.{Span, spans, texts_of}
use Rattle.word_diff.specs.Common.{IsCommonSubsequence, IsLongest, AreFew, AreMany, common_ends}
use Rattle.word_diff.specs.Words.{texts}
use Rattle.std.specs.Borrow.{Bor}
use Rattle.word_diff.specs.declared.part.Part.{Part}
use Rattle.word_diff.specs.Table.{common_len}
use Rattle.word_diff.specs.declared.part.Kind.{Kind}
use Rattle.word_diff.specs.declared.part.Kind.TheVariants.{Kept, Removed, Added}

-- whether two kinds are one
abbrev pub same_kind : Kind → Kind → Bool
same_kind Kept Kept = true
same_kind Kept Removed = false
same_kind Kept Added = false
same_kind Removed Kept = false
same_kind Removed Removed = true
same_kind Removed Added = false
same_kind Added Kept = false
same_kind Added Removed = false
same_kind Added Added = true

-- whether a step of the second kind may come directly after one of the first: what is removed does
-- not come after what is added
abbrev pub may_stand : Kind → Kind → Bool
may_stand Kept kind = true
may_stand Removed kind = true
may_stand Added Kept = true
may_stand Added Removed = false
may_stand Added Added = true

-- the next step, if there is one, may come after one of this kind
abbrev pub StandsBefore : Kind → List Span → Type 0
StandsBefore kind [] = Unit {0}
StandsBefore kind (s ∷ ss) = may_stand kind s.kind ≡ true

-- each step may come after the one before it
abbrev pub AreOrdered : List Span → Type 0
AreOrdered [] = Unit {0}
AreOrdered (s ∷ ss) = StandsBefore s.kind ss × AreOrdered ss

-- what holds of the kind of the last step, if there is one
abbrev pub AtLast : (Kind → Type 0) → List Span → Type 0
AtLast P [] = Unit {0}
AtLast P (s ∷ []) = P s.kind
AtLast P (s ∷ t ∷ ss) = AtLast P (t ∷ ss)

-- what is removed may come next
abbrev pub MayRemove : Kind → Type 0
MayRemove kind = may_stand kind Removed ≡ true

-- each of these words as a step of this kind
abbrev pub each : Kind → List (List ℕ) → List Span
each kind ws = map (λ w. record { kind = kind; bytes = w }) ws

-- each of these words is added as a step of this kind
pub record AddsEach (before now : List Span) (kind : Kind) (ws : List (List ℕ)) : Type 0 where
  pub now_is : now ≡ before ++ each kind ws

-- the words of both are added, and as many of them are kept as can be
pub record AddsLongest (before now : List Span) (xs ys : List (List ℕ)) : Type 0 where
  pub old : texts_of is_old now ≡ texts_of is_old before ++ xs
  pub new : texts_of is_new now ≡ texts_of is_new before ++ ys
  pub kept : length (texts_of is_kept now) ≡ length (texts_of is_kept before) + common_len xs ys
  pub ordered : AreOrdered before → AtLast MayRemove before → AreOrdered now

-- these are the words of both, in order; what is kept is common, and of two short lists a longest,
-- else their common ends
pub record Compares (ss : List Span) (xs ys : List (List ℕ)) : Type 0 where
  pub old : texts_of is_old ss ≡ xs
  pub new : texts_of is_new ss ≡ ys
  pub common : IsCommonSubsequence (texts_of is_kept ss) xs ys
  pub longest : AreFew xs ys → IsLongest (texts_of is_kept ss) xs ys
  pub ends : AreMany xs ys → texts_of is_kept ss ≡ common_ends xs ys
  pub ordered : AreOrdered ss

-- the same of parts, by words that are lent
abbrev pub AddsParts : List Part → List Part → Kind → List (Bor (List ℕ)) → Type 0
AddsParts before now kind words = AddsEach (spans before) (spans now) kind (texts words)

-- and of both lists
abbrev pub AddsLongestParts :
    List Part → List Part → List (Bor (List ℕ)) → List (Bor (List ℕ)) → Type 0
AddsLongestParts before now old new =
    AddsLongest (spans before) (spans now) (texts old) (texts new)
