-- Steps with all neighbours of one kind joined. No public contract cites it.
use Rattle.std.specs.Prelude.{◌≡◌, ℕ, List, map}
use Rattle.word_diff.specs.Kinds.{is_kept, is_new, is_old}
use Rattle.word_diff.specs.Parts.{Span, texts_of, words_by, AreApart}

-- the bytes of each part
abbrev pub all_bytes : List Span → List (List ℕ)
all_bytes ss = map (λ s. s.bytes) ss

-- the words of the parts are those of the steps on each side, and no two neighbours are of one kind
pub record Joins (parts steps : List Span) : Type 0 where
  pub old : words_by is_old parts ≡ texts_of is_old steps
  pub new : words_by is_new parts ≡ texts_of is_new steps
  pub kept : words_by is_kept parts ≡ texts_of is_kept steps
  pub apart : AreApart parts
