-- How a summary is made by one walk over the ids of a set or of a bundle, which rise.
use Rattle.std.specs.Prelude.{◌≡◌, ◌≢◌, ℕ, suc, ◌==◌, false, List, [], ◌∷◌, ◌++◌, map, Option, Some, None, Vec, IsTrue, option_map, if◌then◌else◌}
use Rattle.std.specs.List.{list_all, AllByRecursion}
use Rattle.std.specs.Option.{unwrap_or}
use Rattle.std.specs.BTreeMap.{BTreeMap, get as value_at, IsOrdered}
use Rattle.usfm_ref.specs.Books.{same_bytes}
use Rattle.op_core.specs.Names.{name_cmp}
use Rattle.op_core.specs.Ids.{Id}
use Rattle.op_core.specs.NextIds.{is_among}
use Rattle.bundle_codec.specs.declared.summaries.range.NumberRange.{NumberRange}
use Rattle.bundle_codec.specs.Summaries.{NameRanges, is_range, are_apart, has_number}

-- the ranges with one number more, which is greater than theirs
abbrev pub with_last : List NumberRange → ℕ → List NumberRange
with_last [] n = record { first = n; last = n } ∷ []
with_last (r ∷ []) n =
    if suc r.last == n then record { first = r.first; last = n } ∷ []
    else r ∷ record { first = n; last = n } ∷ []
with_last (r ∷ s ∷ rs) n = r ∷ with_last (s ∷ rs) n

-- the ranges under a name
abbrev pub under : {A : Type 0} → BTreeMap (List ℕ) (Vec NumberRange A) → List ℕ
    → Option (List NumberRange)
under m q = option_map (λ v. v.items) (value_at name_cmp m q)

-- the ranges with more numbers, each greater than those before it
abbrev pub with_each : List NumberRange → List ℕ → List NumberRange
with_each ranges [] = ranges
with_each ranges (n ∷ ns) = with_each (with_last ranges n) ns

-- the ids at the front of some that have the name of an id before them, and those after
pub record Run (id : Id) (ids rest : List Id) : Type 0 where
  pub run : List Id
  pub same : AllByRecursion (λ i. IsTrue (same_bytes i.name id.name)) run
  pub parts : ids ≡ run ++ rest

-- the numbers of an id and of the run after it
abbrev pub numbers : {id : Id} {ids rest : List Id} → Run id ids rest → List ℕ
numbers {id = id} r = id.number ∷ map (λ i. i.number) r.run

-- ranges with the numbers of a run more
abbrev pub AddsRun : Id → List Id → List Id → List NumberRange → List NumberRange → Type 0
AddsRun id ids rest old new = (r : Run id ids rest) × (new ≡ with_each old (numbers r))

-- a map with the numbers of a run more
abbrev pub HoldsRun : {A : Type 0} → Id → List Id → List Id
    → BTreeMap (List ℕ) (Vec NumberRange A) → BTreeMap (List ℕ) (Vec NumberRange A) → Type 0
HoldsRun id ids rest m n =
    (r : Run id ids rest)
    × ((q : List ℕ) → under n q
    ≡ (if same_bytes q id.name
    then Some (with_each (unwrap_or (under m q) []) (numbers r))
    else under m q))

-- ranges that a summary may have
pub record AreRanges (ranges : List NumberRange) : Type 0 where
  pub some : ranges ≢ []
  pub each : IsTrue (list_all is_range ranges)
  pub apart : IsTrue (are_apart ranges)

-- the ranges of a name in some ids, or that it has none
abbrev pub AreUnder : List Id → List ℕ → Option (List NumberRange) → Type 0
AreUnder ids q None = (n : ℕ) → is_among ids (record { number = n; name = q }) ≡ false
AreUnder ids q (Some ranges) =
    AreRanges ranges
    × ((n : ℕ) → has_number ranges n ≡ is_among ids (record { number = n; name = q }))

-- a map holds the ranges of each name in some ids
pub record HoldsRanges {A : Type 0} (ids : List Id)
    (m : BTreeMap (List ℕ) (Vec NumberRange A)) : Type 0 where
  pub ordered : IsOrdered name_cmp m
  pub each : AllByRecursion (λ e. AreRanges e.1.items) m.entries
  pub names : (q : List ℕ) → AreUnder ids q (under m q)

-- the names of a map with their ranges
abbrev pub listed : {A : Type 0} → BTreeMap (List ℕ) (Vec NumberRange A) → List NameRanges
listed m = map (λ e. record { name = e.0; ranges = e.1.items }) m.entries
