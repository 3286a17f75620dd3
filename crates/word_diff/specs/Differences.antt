-- What differs between two texts, by this project's own rules.
use Rattle.std.specs.Prelude.{◌≡◌, ℕ, List}
use Rattle.word_diff.specs.Common.{IsCommonSubsequence, IsLongest, AreFew, AreMany, common_ends}
use Rattle.word_diff.specs.Kinds.{is_kept, is_new, is_old}
use Rattle.word_diff.specs.Parts.{spans, texts_of, words_by}
use Rattle.word_diff.specs.Words.{joined, words_of}
use Rattle.word_diff.specs.declared.part.Part.{Part}

-- the parts that are in the old text join to it
abbrev pub JoinsToOld : List Part → List ℕ → Type 0
JoinsToOld parts old = joined (texts_of is_old (spans parts)) ≡ old

-- the parts that are in the new text join to it
abbrev pub JoinsToNew : List Part → List ℕ → Type 0
JoinsToNew parts new = joined (texts_of is_new (spans parts)) ≡ new

-- each of the parts that are in the old text is made of its whole words
abbrev pub CutsOld : List Part → List ℕ → Type 0
CutsOld parts old = words_by is_old (spans parts) ≡ words_of old

-- each of the parts that are in the new text is made of its whole words
abbrev pub CutsNew : List Part → List ℕ → Type 0
CutsNew parts new = words_by is_new (spans parts) ≡ words_of new

-- the words that are kept are in both texts, in this order
abbrev pub KeepsCommon : List Part → List ℕ → List ℕ → Type 0
KeepsCommon parts old new =
    IsCommonSubsequence (words_by is_kept (spans parts)) (words_of old) (words_of new)

-- of texts of at most 2,000 words each, no common subsequence of the words is longer than what is
-- kept
abbrev pub KeepsLongest : List Part → List ℕ → List ℕ → Type 0
KeepsLongest parts old new = AreFew (words_of old) (words_of new)
    → IsLongest (words_by is_kept (spans parts)) (words_of old) (words_of new)

-- where one has more, the words of their common front and end are kept
abbrev pub KeepsEnds : List Part → List ℕ → List ℕ → Type 0
KeepsEnds parts old new = AreMany (words_of old) (words_of new)
    → words_by is_kept (spans parts) ≡ common_ends (words_of old) (words_of new)
