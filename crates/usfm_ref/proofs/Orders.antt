-- The orders of keys, books and segments are total, and tell apart what differs. The tests of
-- equality say whether two are equal.
use Rattle.std.proofs.Common.{◌≡◌, ℕ, true, Option, Some, None, List, refl, sym, ap, subst, eqb}
use Rattle.std.specs.declared.cmp.Ordering.{Ordering}
use Rattle.std.specs.declared.cmp.Ordering.TheVariants.{Less, Equal, Greater}
use Rattle.std.specs.Ordering.{nat_cmp, ordering_then, is_eq}
use Rattle.std.specs.Option.{option_cmp}
use Rattle.std.specs.Cmp.{IsTotalOrder, nat_cmp_total, both_ways, tied_itself, Equal-is}
use Rattle.std.specs.Cmp.Lexicographic.{nat_list_cmp_total, options_total, bytes_decides}
use Rattle.std.specs.FinMap.{slice_cmp-IsAntisymmetric, nat_cmp-IsAntisymmetric}
use Rattle.std.proofs.lemmas.Cmp.{on_total, then_total}
use Rattle.std.proofs.lemmas.Bool.{and_parts, and_from, eqb-true, eq-eqb}
use Rattle.usfm_ref.specs.Books.{book_cmp, code_cmp, rank_of, same_bytes}
use Rattle.usfm_ref.specs.Keys.{KeyParts, letter_cmp, place_cmp, key_cmp, same_letter, same_key, same_place}
use Rattle.usfm_ref.specs.Segments.{segment_cmp, same_segment}
use Rattle.usfm_ref.specs.declared.segment.Segment.{Segment}
use Rattle.usfm_ref.specs.declared.key.Place.{Place}
use Rattle.usfm_ref.specs.declared.key.Place.TheVariants.{Head, Verse}

-- ---- total orders

-- a place as a verse's parts, if it is one
abbrev verse : Place → Option (ℕ × Option ℕ)
verse Head = None
verse (Verse number letter) = Some (number, letter)

abbrev verse_cmp : ℕ × Option ℕ → ℕ × Option ℕ → Ordering
verse_cmp a b = ordering_then (nat_cmp a.0 b.0) (option_cmp nat_cmp a.1 b.1)

letter_as : (a b : Option ℕ) → letter_cmp a b ≡ option_cmp nat_cmp a b
letter_as None None = refl
letter_as None (Some b) = refl
letter_as (Some a) None = refl
letter_as (Some a) (Some b) = refl

place_as : (p q : Place) → place_cmp p q ≡ option_cmp verse_cmp (verse p) (verse q)
place_as Head Head = refl
place_as Head (Verse n l) = refl
place_as (Verse n l) Head = refl
place_as (Verse n l) (Verse m k) = ap (ordering_then (nat_cmp n m)) (letter_as l k)

verse_total : IsTotalOrder verse_cmp
verse_total =
    then_total (on_total (λ (a : ℕ × Option ℕ). a.0) nat_cmp_total) (on_total (λ (a : ℕ × Option ℕ). a.1) (options_total nat_cmp_total))

-- places are in a total order
pub place_total : IsTotalOrder place_cmp
place_total = subst IsTotalOrder (λ i p q. sym (place_as p q) i) (on_total verse (options_total verse_total))

-- keys are in a total order
pub key_total : IsTotalOrder key_cmp
key_total = then_total (on_total (λ (a : KeyParts). a.chapter) nat_cmp_total) (on_total (λ (a : KeyParts). a.place) place_total)

-- codes are in a total order
pub code_total : IsTotalOrder code_cmp
code_total = nat_list_cmp_total

-- books are in a total order
pub book_total : IsTotalOrder book_cmp
book_total = then_total (on_total rank_of nat_cmp_total) code_total

-- segments are in a total order
pub segment_total : IsTotalOrder segment_cmp
segment_total = then_total (on_total (λ (a : Segment). a.book) book_total) (on_total (λ (a : Segment). a.key) key_total)

-- ---- what an order does not tell apart is equal

-- where two orders one after the other give equal, each does
pub then_parts : (a b : Ordering) → ordering_then a b ≡ Equal → (a ≡ Equal) × (b ≡ Equal)
then_parts Less b h = cc
then_parts Equal b h = (refl, h)
then_parts Greater b h = cc

letter_exact : (a b : Option ℕ) → letter_cmp a b ≡ Equal → a ≡ b
letter_exact None None h = refl
letter_exact None (Some b) h = cc
letter_exact (Some a) None h = cc
letter_exact (Some a) (Some b) h = ap Some (nat_cmp-IsAntisymmetric a b h)

-- places that compare as equal are one place
pub place_exact : (p q : Place) → place_cmp p q ≡ Equal → p ≡ q
place_exact Head Head h = refl
place_exact Head (Verse n l) h = cc
place_exact (Verse n l) Head h = cc
place_exact (Verse n l) (Verse m k) h =
    let p = then_parts (nat_cmp n m) (letter_cmp l k) h in λ i. Verse (nat_cmp-IsAntisymmetric n m p.0 i) (letter_exact l k p.1 i)

-- keys that compare as equal are one key
pub key_exact : (a b : KeyParts) → key_cmp a b ≡ Equal → a ≡ b
key_exact a b h =
    let p = then_parts (nat_cmp a.chapter b.chapter) (place_cmp a.place b.place) h in
    λ i. record { chapter = nat_cmp-IsAntisymmetric a.chapter b.chapter p.0 i; place = place_exact a.place b.place p.1 i }

-- books that compare as equal are one book
pub book_exact : (a b : List ℕ) → book_cmp a b ≡ Equal → a ≡ b
book_exact a b h = slice_cmp-IsAntisymmetric nat_cmp-IsAntisymmetric a b (then_parts (nat_cmp (rank_of a) (rank_of b)) _ h).1

-- segments that compare as equal are one segment
pub segment_exact : (a b : Segment) → segment_cmp a b ≡ Equal → a ≡ b
segment_exact a b h =
    let p = then_parts (book_cmp a.book b.book) (key_cmp a.key b.key) h in
    λ i. record { book = book_exact a.book b.book p.0 i; key = key_exact a.key b.key p.1 i }

-- ---- tests of equality

-- the test of equal bytes, read
pub same_bytes-is : (a b : List ℕ) → same_bytes a b ≡ true → a ≡ b
same_bytes-is a b h = (bytes_decides a b).0 h

-- bytes are equal to themselves
pub same_bytes-refl : (a : List ℕ) → same_bytes a a ≡ true
same_bytes-refl a = (bytes_decides a a).1 refl

same_letter-is : (a b : Option ℕ) → same_letter a b ≡ true → a ≡ b
same_letter-is None None h = refl
same_letter-is None (Some b) h = cc
same_letter-is (Some a) None h = cc
same_letter-is (Some a) (Some b) h = ap Some (eqb-true a b h)

same_letter-refl : (a : Option ℕ) → same_letter a a ≡ true
same_letter-refl None = refl
same_letter-refl (Some a) = eq-eqb a a refl

-- the test of equal places, read
pub same_place-is : (a b : Place) → same_place a b ≡ true → a ≡ b
same_place-is Head Head h = refl
same_place-is Head (Verse n l) h = cc
same_place-is (Verse n l) Head h = cc
same_place-is (Verse n l) (Verse m k) h =
    let p = and_parts (eqb n m) (same_letter l k) h in λ i. Verse (eqb-true n m p.0 i) (same_letter-is l k p.1 i)

-- a place is equal to itself
pub same_place-refl : (a : Place) → same_place a a ≡ true
same_place-refl Head = refl
same_place-refl (Verse n l) = and_from _ _ (eq-eqb n n refl) (same_letter-refl l)

-- the test of equal keys, read
pub same_key-is : (a b : KeyParts) → same_key a b ≡ true → a ≡ b
same_key-is a b h =
    let p = and_parts (eqb a.chapter b.chapter) (same_place a.place b.place) h in
    λ i. record { chapter = eqb-true a.chapter b.chapter p.0 i; place = same_place-is a.place b.place p.1 i }

-- a key is equal to itself
pub same_key-refl : (a : KeyParts) → same_key a a ≡ true
same_key-refl a = and_from _ _ (eq-eqb a.chapter a.chapter refl) (same_place-refl a.place)

-- the test of equal segments, read
pub same_segment-is : (a b : Segment) → same_segment a b ≡ true → a ≡ b
same_segment-is a b h =
    let p = and_parts (same_bytes a.book b.book) (same_key a.key b.key) h in
    λ i. record { book = same_bytes-is a.book b.book p.0 i; key = same_key-is a.key b.key p.1 i }

-- a segment is equal to itself
pub same_segment-refl : (a : Segment) → same_segment a a ≡ true
same_segment-refl a = and_from _ _ (same_bytes-refl a.book) (same_key-refl a.key)

-- keys are equal where their order does not tell them apart
pub same_key-cmp : (a b : KeyParts) → same_key a b ≡ is_eq (key_cmp a b)
same_key-cmp a b = both_ways (same_key a b) (is_eq (key_cmp a b))
    (λ h. subst (λ (c : KeyParts). is_eq (key_cmp a c) ≡ true) (same_key-is a b h) (ap is_eq (tied_itself key_total a)))
    (λ h. subst (λ (c : KeyParts). same_key a c ≡ true) (key_exact a b ((Equal-is _).0 h)) (same_key-refl a))

-- segments are equal where their order does not tell them apart
pub same_segment-cmp : (a b : Segment) → same_segment a b ≡ is_eq (segment_cmp a b)
same_segment-cmp a b = both_ways (same_segment a b) (is_eq (segment_cmp a b))
    (λ h. subst (λ (c : Segment). is_eq (segment_cmp a c) ≡ true) (same_segment-is a b h) (ap is_eq (tied_itself segment_total a)))
    (λ h. subst (λ (c : Segment). same_segment a c ≡ true) (segment_exact a b ((Equal-is _).0 h)) (same_segment-refl a))
