-- What a copy holds, as ranges of numbers under names, and what another copy lacks (this project's
-- own format).
use Rattle.std.specs.Prelude.{◌≡◌, ◌≢◌, ℕ, suc, ◌+◌, ◌-◌, nat_le, nat_lt, ◌==◌, Bool, true, ◌&&◌, List, [], ◌∷◌, ◌++◌, length, map, filter, codes, IsTrue, if◌then◌else◌}
use Rattle.std.specs.Int.{w64, to_be_bytes}
use Rattle.std.specs.List.{list_all, list_any, flat_map, sum_by, AllByRecursion}
use Rattle.std.specs.Option.{is_some}
use Rattle.std.specs.Ordering.{ordering_then}
use Rattle.std.specs.BTreeSet.{BTreeSet, contains}
use Rattle.usfm_ref.specs.Books.{same_bytes, book_cmp}
use Rattle.usfm_ref.specs.Keys.{KeyParts, key_cmp}
use Rattle.usfm_ref.specs.declared.segment.Segment.{Segment}
use Rattle.usfm_ref.specs.Rising.{rises_by, rising}
use Rattle.op_core.specs.Names.{is_name, name_cmp}
use Rattle.op_core.specs.Ids.{Id, last_number}
use Rattle.op_core.specs.Ops.{Operation}
use Rattle.op_core.specs.Sets.{get}
use Rattle.op_core.specs.Thinned.{delta}
use Rattle.bundle_codec.specs.declared.fault.SummaryFault.{SummaryFault}
use Rattle.bundle_codec.specs.declared.fault.SummaryFault.TheVariants.{Memory, BadSummary}
use Rattle.bundle_codec.specs.declared.summaries.range.NumberRange.{NumberRange}

-- ---- a summary

-- a name, and the ranges of its numbers
pub record NameRanges : Type 0 where
  pub name : List ℕ
  pub ranges : List NumberRange

-- both ends from 1 to 10^15, the first no greater than the last
abbrev pub is_range : NumberRange → Bool
is_range r = nat_le 1 r.first && (nat_le r.first r.last && nat_le r.last last_number)

-- no two ranges touch: each begins more than one above the ends of those before it
abbrev pub are_apart : List NumberRange → Bool
are_apart [] = true
are_apart (r ∷ rs) = list_all (λ s. nat_lt (suc r.last) s.first) rs && are_apart rs

-- a right name, and at least one range
pub record AreNameRanges (k : NameRanges) : Type 0 where
  pub name : IsTrue (is_name k.name)
  pub some : k.ranges ≢ []
  pub each : IsTrue (list_all is_range k.ranges)
  pub apart : IsTrue (are_apart k.ranges)

-- a summary: names that rise by their bytes, each with ranges that lie from 1 to 10^15, at least
-- one, no two of which touch
pub record IsSummary (s : List NameRanges) : Type 0 where
  pub rising : IsTrue (rises_by name_cmp (λ k. k.name) s)
  pub each : AllByRecursion AreNameRanges s

-- whether a number lies in one of the ranges
abbrev pub has_number : List NumberRange → ℕ → Bool
has_number ranges n = list_any (λ r. nat_le r.first n && nat_le n r.last) ranges

-- whether an id's number lies in a range of its name
abbrev pub covers : List NameRanges → Id → Bool
covers s id = list_any (λ k. same_bytes k.name id.name && has_number k.ranges id.number) s

-- how many numbers a range has
abbrev pub range_size : NumberRange → ℕ
range_size r = r.last - r.first + 1

-- how many numbers the ranges of a name have, no two of which overlap
abbrev pub numbers_in : NameRanges → ℕ
numbers_in k = sum_by range_size k.ranges

-- how many ids a summary covers
abbrev pub ids_in : List NameRanges → ℕ
ids_in s = sum_by numbers_in s

-- ---- the summary of a set

-- Each held number lies in a range of its name, and no range has another number. Since no two
-- ranges touch, each is as long as can be, and each number lies in one of them alone.
pub record IsSummaryOf (held : List Operation) (s : List NameRanges) : Type 0 where
  pub form : IsSummary s
  pub exactly : (id : Id) → covers s id ≡ is_some (get held id)

-- the numbers of a name, in the order of the set
abbrev pub numbers_of : List Operation → List ℕ → List ℕ
numbers_of held name = map (λ o. o.id.number) (filter (λ o. same_bytes o.id.name name) held)

-- a number before the ranges of greater ones
abbrev pub with_first : ℕ → List NumberRange → List NumberRange
with_first n [] = record { first = n; last = n } ∷ []
with_first n (r ∷ rs) =
    if suc n == r.first then record { first = n; last = r.last } ∷ rs
    else record { first = n; last = n } ∷ r ∷ rs

-- the ranges of rising numbers
abbrev pub ranges_of : List ℕ → List NumberRange
ranges_of [] = []
ranges_of (n ∷ ns) = with_first n (ranges_of ns)

-- for each name in an id of the set, the ranges of its numbers
abbrev pub summary_of : List Operation → List NameRanges
summary_of held =
    map (λ name. record { name = name; ranges = ranges_of (numbers_of held name) })
    (rising name_cmp (map (λ o. o.id.name) held))

-- the operations whose ids lie outside a summary, and where one of these is thinned, all others of
-- its segment
abbrev pub outside : List NameRanges → List Operation → List Operation
outside s held = delta held (covers s)

-- whether some books with keys are those of a segment too
abbrev pub has_segment : BTreeSet (List ℕ × KeyParts) → Segment → Bool
has_segment segments g =
    contains (λ a b. ordering_then (book_cmp a.0 b.0) (key_cmp a.1 b.1)) segments (g.book, g.key)

-- ---- its one spelling. Numbers are big-endian and unsigned, in eight bytes.

-- the first eight bytes: `USFMSS1` and a line feed
unfoldable pub summary_magic : List ℕ
summary_magic = codes "USFMSS1" ++ 10 ∷ []

-- a range: its first and its last number
abbrev pub range : NumberRange → List ℕ
range r = to_be_bytes w64 r.first ++ to_be_bytes w64 r.last

-- how many ranges, and each of them
abbrev pub counted_ranges : List NumberRange → List ℕ
counted_ranges ranges = to_be_bytes w64 (length ranges) ++ flat_map range ranges

-- the name's length in one byte, the name, and its ranges
abbrev pub name_ranges : NameRanges → List ℕ
name_ranges k = length k.name ∷ (k.name ++ counted_ranges k.ranges)

-- the magic, how many names, and each of them with its ranges
unfoldable pub summary : List NameRanges → List ℕ
summary s = summary_magic ++ (to_be_bytes w64 (length s) ++ flat_map name_ranges s)

-- the bytes are a summary and nothing more
pub record SpellsSummary (bytes : List ℕ) : Type 0 where
  pub names : List NameRanges
  pub form : IsSummary names
  pub spelled : bytes ≡ summary names

-- Bytes are refused as bad exactly where they are no summary, and out of memory is answered for a
-- summary alone.
abbrev pub RefusesSummary : List ℕ → SummaryFault → Type 0
RefusesSummary bytes Memory = SpellsSummary bytes
RefusesSummary bytes BadSummary = SpellsSummary bytes → ⊥
