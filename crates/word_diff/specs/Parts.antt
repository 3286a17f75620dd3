-- What a contract sees of the parts of two texts. That neighbours are joined is this project's own
-- rule.
use Rattle.std.specs.Prelude.{◌≡◌, ℕ, ◌<◌, Bool, true, List, [], ◌∷◌, length, map, if◌then◌else◌}
use Rattle.std.specs.List.{flat_map}
use Rattle.word_diff.specs.Kinds.{may_follow}
use Rattle.word_diff.specs.Words.{words_of}
use Rattle.word_diff.specs.declared.part.Kind.{Kind}
use Rattle.word_diff.specs.declared.part.Part.{Part}

-- a part by its kind and its bytes
pub record Span : Type 0 where
  pub kind : Kind
  pub bytes : List ℕ

-- a part, and not where it lies in memory
abbrev pub span : Part → Span
span part = record { kind = part.kind; bytes = part.text.now }

-- parts, each by its kind and its bytes
abbrev pub spans : List Part → List Span
spans parts = map span parts

-- the bytes of each part whose kind passes
abbrev pub texts_of : (Kind → Bool) → List Span → List (List ℕ)
texts_of p [] = []
texts_of p (s ∷ ss) = if p s.kind then s.bytes ∷ texts_of p ss else texts_of p ss

-- the words of each of these parts by itself
abbrev pub words_by : (Kind → Bool) → List Span → List (List ℕ)
words_by p ss = flat_map words_of (texts_of p ss)

-- the next part, if there is one, may follow one of this kind
abbrev pub GoesOn : Kind → List Span → Type 0
GoesOn kind [] = Unit {0}
GoesOn kind (s ∷ ss) = may_follow kind s.kind ≡ true

-- no part is empty, and each may follow the one before it
abbrev pub AreApart : List Span → Type 0
AreApart [] = Unit {0}
AreApart (s ∷ ss) = (0 < length s.bytes) × GoesOn s.kind ss × AreApart ss
