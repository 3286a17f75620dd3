-- What is kept of a verse's number while the pieces of its chapter are walked over.
use Rattle.std.specs.Prelude.{◌≡◌, ◌<◌, ℕ, ◌+◌, nat_lt, max, true, false, ◌||◌, List, [], ◌∷◌, length, slice_index_or, if◌then◌else◌}
use Rattle.covered_verses.specs.declared.covered.Covered.{Covered}
use Rattle.missing_verses.specs.Numbers.{has, is_bridge, from_part, to_part}
use Rattle.missing_verses.specs.declared.tally.Tally.{Tally}

-- nothing has the number
abbrev pub none_counted : Tally
none_counted = record { there = false; reach = 0; twice = false }

-- the part up to which a bridge has verse n, counted from 1; 0 of what is no bridge
abbrev pub reach_of : ℕ → Covered → ℕ
reach_of n v = if is_bridge v then to_part n v + 1 else 0

-- a tally of verse n with one more that has it
abbrev pub with_one : ℕ → Covered → Tally → Tally
with_one n v t = record {
  there = true;
  reach = max t.reach (reach_of n v);
  twice = t.twice || nat_lt (from_part n v) t.reach;
}

-- a tally of verse n with one more
abbrev pub counted : ℕ → Covered → Tally → Tally
counted n v t = if has n v then with_one n v t else t

-- a tally of verse n with several more
abbrev pub counted_all : ℕ → Tally → List Covered → Tally
counted_all n t [] = t
counted_all n t (v ∷ vs) = counted_all n (counted n v t) vs

-- each number below 1000 has the tally of what covers it
abbrev pub AreTallies : List Covered → List Tally → Type 0
AreTallies vs tallies = (length tallies ≡ 1000)
    × ((n : ℕ) → n < 1000
    → slice_index_or tallies n none_counted ≡ counted_all n none_counted vs)

-- each tally has one more
abbrev pub Counts : Covered → List Tally → List Tally → Type 0
Counts v before after = (length after ≡ length before)
    × ((n : ℕ) → n < length before
    → slice_index_or after n none_counted ≡ counted n v (slice_index_or before n none_counted))
