-- Bytes without a separator, and what is lent, without where it lies in memory.
use Rattle.std.specs.Prelude.{◌≡◌, ◌==◌, ℕ, not, true, List, [], ◌∷◌, Option, None, Some, IsTrue, Vec}
use Rattle.std.specs.Borrow.{Bor}
use Rattle.std.specs.List.{list_all}
use Rattle.std.specs.declared.alloc.Global.{Global}
use Rattle.usfm_ref.specs.Books.{is_book_code}
use Rattle.usfm_ref.specs.Keys.{is_key}
use Rattle.usfm_ref.specs.declared.segment.Segment.{Segment}
use Rattle.op_core.specs.Ids.{Id}

-- none of the bytes is this one
abbrev pub Lacks : ℕ → List ℕ → Type 0
Lacks c bytes = list_all (λ b. not (b == c)) bytes ≡ true

-- what follows a word: nothing, or a space and these bytes
abbrev pub after_word : Option (List ℕ) → List ℕ
after_word None = []
after_word (Some later) = 32 ∷ later

-- two slices
abbrev pub both_now : Bor (List ℕ) × Bor (List ℕ) → List ℕ × List ℕ
both_now x = (x.0.now, x.1.now)

-- an id and a slice
abbrev pub id_and_now : Id × Bor (List ℕ) → Id × List ℕ
id_and_now x = (x.0, x.1.now)

-- a segment within its ranges
pub record IsSegment (g : Segment) : Type 0 where
  pub book : IsTrue (is_book_code g.book)
  pub key : IsTrue (is_key g.key.chapter g.key.place)

-- a segment and ids
abbrev pub segment_and_ids : Segment × Vec Id Global → Segment × List Id
segment_and_ids x = (x.0, x.1.items)

-- a segment and a slice
abbrev pub segment_and_now : Segment × Bor (List ℕ) → Segment × List ℕ
segment_and_now x = (x.0, x.1.now)
