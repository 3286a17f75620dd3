-- Each reader of a summary reads exactly what is spelled so.
use Rattle.std.proofs.Common.{◌≡◌, ◌≢◌, ℕ, suc, ◌^◌, ◌<◌, ◌≤◌, true, ◌&&◌, leb, ltb, List, [], ◌∷◌, ◌++◌, length, Option, Some, None, Ok, refl, sym, ap, ◌∙◌, arith}
use Rattle.std.specs.Int.{w64, to_be_bytes}
use Rattle.std.specs.List.{list_all, flat_map, AllByRecursion}
use Rattle.std.specs.Ordering.{is_lt}
use Rattle.std.specs.Cmp.{IsTotalOrder}
use Rattle.std.specs.Cmp.Lexicographic.{nat_list_cmp_total}
use Rattle.std.proofs.lemmas.Bool.{leb-true, le-leb, ltb-true, lt-ltb, and_parts, and_from}
use Rattle.std.proofs.lemmas.List.{append-nil}
use Rattle.usfm_ref.specs.Rising.{rises_by}
use Rattle.usfm_ref.proofs.Sorted.{is_less, above_trans}
use Rattle.op_core.specs.Names.{is_name, name_cmp}
use Rattle.bundle_codec.specs.declared.summaries.range.NumberRange.{NumberRange}
use Rattle.bundle_codec.specs.Reading.{AreBytes, any, number_at, is_name_length}
use Rattle.bundle_codec.specs.Summaries.{NameRanges, AreNameRanges, IsSummary, is_range, are_apart, summary_magic, range, name_ranges, summary}
use Rattle.bundle_codec.specs.SummaryReading.{bad, begins_after, range_at, after_range, ranges_at, name_after, name_at, name_ranges_at, after_name, summary_at}
use Rattle.bundle_codec.proofs.Readers.{Each, Reads, step, ends, checked, reads_as, many_reads}
use Rattle.bundle_codec.proofs.FieldReaders.{byte_reads, block_reads, number_reads, exactly_reads, wide64}
use Rattle.bundle_codec.proofs.FieldsSpelled.{name_length}

pub name_total : IsTotalOrder name_cmp
name_total = nat_list_cmp_total

-- ---- a range

-- a range that may be after the one before it
abbrev pub RangeFollows : Option ℕ → NumberRange → Type 0
RangeFollows before r = (is_range r && begins_after before r.first) ≡ true

pub range_bounds : (r : NumberRange) → is_range r ≡ true → (1 ≤ r.first) × ((r.first ≤ r.last) × (r.last ≤ 1000000000000000))
range_bounds r h =
    let p = and_parts (leb 1 r.first) (leb r.first r.last && leb r.last 1000000000000000) h in
    let q = and_parts (leb r.first r.last) (leb r.last 1000000000000000) p.1 in
    (leb-true _ _ p.0, (leb-true _ _ q.0, leb-true _ _ q.1))

follows_below : (before : Option ℕ) (r : NumberRange) → RangeFollows before r → (r.first < 2 ^ 64) × (r.last < 2 ^ 64)
follows_below before r f =
    let b = range_bounds r (and_parts (is_range r) (begins_after before r.first) f).0 in
    (omega (arith, b.1.0, b.1.1), omega (arith, b.1.1))

pub range_reads : (before : Option ℕ) → Reads (range_at before) range (RangeFollows before)
unfolding range_at
range_reads before =
    reads_as range (RangeFollows before)
    (step (λ (r : NumberRange). r.first) (number_reads w64 (2 ^ 64) wide64 any bad) (λ first.
    step (λ (r : NumberRange). r.last) (number_reads w64 (2 ^ 64) wide64 any bad) (λ last.
    checked (is_range (record { first = first; last = last }) && begins_after before first) bad
    (ends (record { first = first; last = last })))
    (λ last r _ f. ap (λ (x : NumberRange). x.last) (sym f.1)))
    (λ first r _ f. ap (λ (x : NumberRange). x.first) (sym f.1.1)))
    (λ r f. f.1.1.0)
    (λ r f. let b = follows_below before r f in ((b.0, refl), ((b.1, refl), (f, refl))))
    (λ r f. ap (λ (w : List ℕ). to_be_bytes w64 r.first ++ w) (append-nil (to_be_bytes w64 r.last)))

-- ---- ranges that follow one another do not touch

all_more : (n m : ℕ) (rs : List NumberRange) → n ≤ m → list_all (λ (s : NumberRange). ltb (suc m) s.first) rs ≡ true
    → list_all (λ (s : NumberRange). ltb (suc n) s.first) rs ≡ true
all_more n m [] le h = refl
all_more n m (r ∷ rs) le h =
    let p = and_parts (ltb (suc m) r.first) (list_all (λ (s : NumberRange). ltb (suc m) s.first) rs) h in
    and_from _ _ (lt-ltb (suc n) r.first (omega (arith, ltb-true _ _ p.0))) (all_more n m rs le p.1)

follow_above : (n : ℕ) (rs : List NumberRange) → Each RangeFollows after_range (Some n) rs
    → list_all (λ (s : NumberRange). ltb (suc n) s.first) rs ≡ true
follow_above n [] e = refl
follow_above n (r ∷ rs) e =
    let p = and_parts (is_range r) (begins_after (Some n) r.first) e.0 in
    let b = range_bounds r p.0 in
    and_from _ _ p.1 (all_more n r.last rs (omega (arith, b.1.0, ltb-true _ _ p.1)) (follow_above r.last rs e.1))

pub ranges-from_each : (before : Option ℕ) (rs : List NumberRange) → Each RangeFollows after_range before rs
    → (list_all is_range rs ≡ true) × (are_apart rs ≡ true)
ranges-from_each before [] e = (refl, refl)
ranges-from_each before (r ∷ rs) e =
    let p = and_parts (is_range r) (begins_after before r.first) e.0 in
    let q = ranges-from_each (Some r.last) rs e.1 in
    (and_from _ _ p.0 q.0, and_from _ _ (follow_above r.last rs e.1) q.1)

each_above : (n : ℕ) (rs : List NumberRange) → list_all is_range rs ≡ true → are_apart rs ≡ true
    → list_all (λ (s : NumberRange). ltb (suc n) s.first) rs ≡ true → Each RangeFollows after_range (Some n) rs
each_above n [] a b c = tt
each_above n (r ∷ rs) a b c =
    let p = and_parts (is_range r) (list_all is_range rs) a in
    let q = and_parts (list_all (λ (s : NumberRange). ltb (suc r.last) s.first) rs) (are_apart rs) b in
    let f = and_parts (ltb (suc n) r.first) (list_all (λ (s : NumberRange). ltb (suc n) s.first) rs) c in
    (and_from _ _ p.0 f.0, each_above r.last rs p.1 q.1 q.0)

pub each-from_ranges : (rs : List NumberRange) → list_all is_range rs ≡ true → are_apart rs ≡ true → Each RangeFollows after_range None rs
each-from_ranges [] a b = tt
each-from_ranges (r ∷ rs) a b =
    let p = and_parts (is_range r) (list_all is_range rs) a in
    let q = and_parts (list_all (λ (s : NumberRange). ltb (suc r.last) s.first) rs) (are_apart rs) b in
    (and_from _ _ p.0 refl, each_above r.last rs p.1 q.1 q.0)

-- ---- a name with its ranges

abbrev pub name_spelled : List ℕ → List ℕ
name_spelled n = length n ∷ n

abbrev pub NameFollows : Option (List ℕ) → List ℕ → Type 0
NameFollows before n = (is_name n ≡ true) × (name_after before n ≡ true)

pub name_reads : (before : Option (List ℕ)) → Reads (name_at before) name_spelled (NameFollows before)
unfolding name_at
name_reads before =
    reads_as name_spelled (NameFollows before)
    (step (λ (n : List ℕ). length n) (byte_reads is_name_length bad) (λ len.
    step (λ (n : List ℕ). n) (block_reads len is_name bad) (λ name.
    checked (name_after before name) bad (ends name))
    (λ name n _ f. sym f.1))
    (λ len n _ f. f.0.0))
    (λ n f. (f.1.0.1, f.1.1.0))
    (λ n f. (name_length n f.0, ((refl, f.0), (f.1, refl))))
    (λ n f. ap (λ (w : List ℕ). length n ∷ w) (append-nil n))

abbrev pub NameRangesFollow : Option (List ℕ) → NameRanges → Type 0
NameRangesFollow before k = NameFollows before k.name
    × (((length k.ranges < 2 ^ 64) × (leb 1 (length k.ranges) ≡ true)) × Each RangeFollows after_range None k.ranges)

pub name_ranges_read : (before : Option (List ℕ)) → Reads (name_ranges_at before) name_ranges (NameRangesFollow before)
unfolding name_ranges_at
name_ranges_read before =
    reads_as name_ranges (NameRangesFollow before)
    (step (λ (k : NameRanges). k.name) (name_reads before) (λ name.
    step (λ (k : NameRanges). length k.ranges) (number_reads w64 (2 ^ 64) wide64 (λ (n : ℕ). leb 1 n) bad) (λ count.
    step (λ (k : NameRanges). k.ranges) (many_reads range_at after_range range RangeFollows range_reads count None) (λ ranges.
    ends (record { name = name; ranges = ranges }))
    (λ ranges k _ f. ap (λ (x : NameRanges). x.ranges) (sym f)))
    (λ count k _ f. f.0.0))
    (λ name k _ f. ap (λ (x : NameRanges). x.name) (sym f.1.1)))
    (λ k f. (f.0, (f.1.0, f.1.1.0.1)))
    (λ k f. (f.0, (f.1.0, ((refl, f.1.1), refl))))
    (λ k f. ap (λ (w : List ℕ). (length k.name ∷ k.name) ++ (to_be_bytes w64 (length k.ranges) ++ w))
    (append-nil (flat_map range k.ranges)))

pub name_is_read : (before : Option (List ℕ)) (bytes name rest : List ℕ) → AreBytes bytes → name_at before bytes ≡ Ok (name, rest)
    → is_name name ≡ true
name_is_read before bytes name rest fits one = ((name_reads before).takes bytes name rest fits one).1.0

-- what a name with its ranges was read as
module _ (before : Option (List ℕ)) (bytes name mid : List ℕ) (count : ℕ) (more : List ℕ) (ranges : List NumberRange) (rest : List ℕ)
    (fits : AreBytes bytes)
    (one : name_at before bytes ≡ Ok (name, mid)) (two : number_at w64 any bad mid ≡ Ok (count, more))
    (three : ranges_at count more ≡ Ok (ranges, rest)) where
  more_fits : AreBytes more
  more_fits =
      ((number_reads w64 (2 ^ 64) wide64 any bad).takes mid count more
      ((name_reads before).takes bytes name mid fits one).0.rest_fits two).0.rest_fits

  ranges_read : (length ranges ≡ count) × Each RangeFollows after_range None ranges
  ranges_read = ((many_reads range_at after_range range RangeFollows range_reads count None).takes more ranges rest more_fits three).1

  pub some_read : (count ≡ 0 → ⊥) → ranges ≢ []
  some_read some none = some (sym ranges_read.0 ∙ ap length none)

  pub each_read : list_all is_range ranges ≡ true
  each_read = (ranges-from_each None ranges ranges_read.1).0

  pub apart_read : are_apart ranges ≡ true
  apart_read = (ranges-from_each None ranges ranges_read.1).1

-- ---- names that follow one another rise

names_above : (name : List ℕ) (ks : List NameRanges) → Each NameRangesFollow after_name (Some name) ks
    → list_all (λ (k : NameRanges). is_lt (name_cmp name k.name)) ks ≡ true
names_above name [] e = refl
names_above name (k ∷ ks) e = and_from _ _ e.0.0.1
    (above_trans name_cmp name_total (λ (x : NameRanges). x.name) name k.name ks (is_less _ e.0.0.1) (names_above k.name ks e.1))

some_ranges : (rs : List NumberRange) → leb 1 (length rs) ≡ true → rs ≢ []
some_ranges rs h none = absurd (omega (arith, leb-true _ _ h, ap length none))

counted_some : (rs : List NumberRange) → rs ≢ [] → leb 1 (length rs) ≡ true
counted_some [] some = absurd (some refl)
counted_some (r ∷ rs) some = le-leb 1 (length (r ∷ rs)) (omega arith)

pub name_ranges-from_follows : (before : Option (List ℕ)) (k : NameRanges) → NameRangesFollow before k → AreNameRanges k
name_ranges-from_follows before k f =
    let r = ranges-from_each None k.ranges f.1.1 in
    record { name = f.0.0; some = some_ranges k.ranges f.1.0.1; each = r.0; apart = r.1 }

-- each name's ranges can be counted
abbrev pub RangesCounted : List NameRanges → Type 0
RangesCounted ks = AllByRecursion (λ (k : NameRanges). length k.ranges < 2 ^ 64) ks

rises-from_each : (before : Option (List ℕ)) (ks : List NameRanges) → Each NameRangesFollow after_name before ks
    → rises_by name_cmp (λ (k : NameRanges). k.name) ks ≡ true
rises-from_each before [] e = refl
rises-from_each before (k ∷ ks) e = and_from _ _ (names_above k.name ks e.1) (rises-from_each (Some k.name) ks e.1)

each_name_ranges : (before : Option (List ℕ)) (ks : List NameRanges) → Each NameRangesFollow after_name before ks
    → AllByRecursion AreNameRanges ks × RangesCounted ks
each_name_ranges before [] e = (tt, tt)
each_name_ranges before (k ∷ ks) e = let p = each_name_ranges (Some k.name) ks e.1 in
    ((name_ranges-from_follows before k e.0, p.0), (e.0.1.0.0, p.1))

name_ranges_follow : (before : Option (List ℕ)) (k : NameRanges) → AreNameRanges k → length k.ranges < 2 ^ 64
    → name_after before k.name ≡ true
    → NameRangesFollow before k
name_ranges_follow before k h short a = ((h.name, a), ((short, counted_some k.ranges h.some), each-from_ranges k.ranges h.each h.apart))

each_after : (name : List ℕ) (ks : List NameRanges) → AllByRecursion AreNameRanges ks → RangesCounted ks
    → rises_by name_cmp (λ (k : NameRanges). k.name) ks ≡ true → list_all (λ (k : NameRanges). is_lt (name_cmp name k.name)) ks ≡ true
    → Each NameRangesFollow after_name (Some name) ks
each_after name [] a c r b = tt
each_after name (k ∷ ks) a c r b =
    let p = and_parts (list_all (λ (x : NameRanges). is_lt (name_cmp k.name x.name)) ks)
    (rises_by name_cmp (λ (x : NameRanges). x.name) ks) r in
    let q = and_parts (is_lt (name_cmp name k.name)) (list_all (λ (x : NameRanges). is_lt (name_cmp name x.name)) ks) b in
    (name_ranges_follow (Some name) k a.0 c.0 q.0, each_after k.name ks a.1 c.1 p.1 p.0)

each-from_names : (ks : List NameRanges) → AllByRecursion AreNameRanges ks → RangesCounted ks
    → rises_by name_cmp (λ (k : NameRanges). k.name) ks ≡ true
    → Each NameRangesFollow after_name None ks
each-from_names [] a c r = tt
each-from_names (k ∷ ks) a c r =
    let p = and_parts (list_all (λ (x : NameRanges). is_lt (name_cmp k.name x.name)) ks)
    (rises_by name_cmp (λ (x : NameRanges). x.name) ks) r in
    (name_ranges_follow None k a.0 c.0 refl, each_after k.name ks a.1 c.1 p.1 p.0)

-- ---- a summary

-- a summary that can be counted
abbrev pub IsCountedSummary : List NameRanges → Type 0
IsCountedSummary s = IsSummary s × ((length s < 2 ^ 64) × RangesCounted s)

pub summary_reads : Reads summary_at summary IsCountedSummary
unfolding summary_at summary
summary_reads =
    reads_as summary IsCountedSummary
    (step (λ (s : List NameRanges). tt) (exactly_reads summary_magic bad) (λ _.
    step (λ (s : List NameRanges). length s) (number_reads w64 (2 ^ 64) wide64 any bad) (λ count.
    many_reads name_ranges_at after_name name_ranges NameRangesFollow name_ranges_read count None)
    (λ count s _ f. f.0))
    (λ _ s _ f. refl))
    (λ s f. let p = each_name_ranges None s f.1.1.1 in
    (record { rising = rises-from_each None s f.1.1.1; each = p.0 }, (f.1.0.0, p.1)))
    (λ s f. (tt, ((f.1.0, refl), (refl, each-from_names s f.0.each f.1.1 f.0.rising))))
    (λ s f. refl)
