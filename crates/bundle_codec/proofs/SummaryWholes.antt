-- Bytes that are one summary and nothing more.
use Rattle.std.proofs.Common.{◌≡◌, ◌≢◌, ℕ, ◌+◌, ◌^◌, ◌<◌, ◌≤◌, true, false, eqb, List, [], ◌∷◌, ◌++◌, length, drop, get_or, Some, None, IsSome, is_some, Result, Ok, Err, refl, sym, ap, ◌∙◌, append_assoc, arith}
use Rattle.std.specs.Int.{w64, to_be_bytes}
use Rattle.std.specs.List.{flat_map}
use Rattle.std.proofs.lemmas.List.Concat.{flat_map-cons}
use Rattle.std.proofs.lemmas.Bool.{eqb-true, false≢true}
use Rattle.std.proofs.lemmas.List.{append-nil, length-append, drop_more}
use Rattle.bundle_codec.specs.declared.fault.BundleFault.{BundleFault}
use Rattle.bundle_codec.specs.declared.summaries.range.NumberRange.{NumberRange}
use Rattle.bundle_codec.specs.Reading.{AreBytes, ahead}
use Rattle.bundle_codec.specs.Summaries.{NameRanges, IsSummary, SpellsSummary, summary_magic, range, name_ranges, summary}
use Rattle.bundle_codec.specs.SummaryReading.{summary_at, names_alone, read_whole}
use Rattle.bundle_codec.proofs.Readers.{ok_is}
use Rattle.bundle_codec.proofs.OneSpelling.{flat_map_long}
use Rattle.bundle_codec.proofs.SummaryReads.{RangesCounted, IsCountedSummary, summary_reads}

-- ---- what a summary of less than 2^64 bytes spells can be counted

range_some : (r : NumberRange) → 1 ≤ length (range r)
range_some r = omega (arith, length-append (to_be_bytes w64 r.first) (to_be_bytes w64 r.last))

name_ranges_length : (k : NameRanges) → 1 + length (flat_map range k.ranges) ≤ length (name_ranges k)
name_ranges_length k = omega (
  arith,
  length-append k.name (to_be_bytes w64 (length k.ranges) ++ flat_map range k.ranges),
  length-append (to_be_bytes w64 (length k.ranges)) (flat_map range k.ranges),
)

name_ranges_some : (k : NameRanges) → 1 ≤ length (name_ranges k)
name_ranges_some k = omega (arith, name_ranges_length k)

counted_each : (ks : List NameRanges) → length (flat_map name_ranges ks) < 2 ^ 64 → RangesCounted ks
counted_each [] h = tt
counted_each (k ∷ ks) h =
    let parts : length (flat_map name_ranges (k ∷ ks)) ≡ length (name_ranges k) + length (flat_map name_ranges ks) =
    ap length (flat_map-cons name_ranges k ks) ∙ length-append (name_ranges k) (flat_map name_ranges ks) in
    (omega (arith, name_ranges_length k, flat_map_long range range_some k.ranges), counted_each ks (omega arith))

pub counted-from_length : (s : List NameRanges) → IsSummary s → length (summary s) < 2 ^ 64 → IsCountedSummary s
unfolding summary
counted-from_length s form h =
    let parts = length-append summary_magic (to_be_bytes w64 (length s) ++ flat_map name_ranges s) in
    let counted = length-append (to_be_bytes w64 (length s)) (flat_map name_ranges s) in
    let many = flat_map_long name_ranges name_ranges_some s in
    (form, (omega arith, counted_each s (omega arith)))

-- ---- whole summaries

pub is_nil : (xs : List ℕ) → true ≡ eqb (length xs) 0 → xs ≡ []
is_nil [] e = refl
is_nil (x ∷ xs) e = absurd (omega (arith, eqb-true (length (x ∷ xs)) 0 (sym e)))

pub not_nil : (xs : List ℕ) → false ≡ eqb (length xs) 0 → xs ≢ []
not_nil xs e h = absurd (false≢true (e ∙ ap (λ (ys : List ℕ). eqb (length ys) 0) h))

pub is_read : (s : List NameRanges) (rest : List ℕ) → IsSummary s → length (summary s ++ rest) < 2 ^ 64
    → summary_at (summary s ++ rest) ≡ Ok (s, rest)
is_read s rest form short = summary_reads.again s rest (counted-from_length s form (omega (arith, length-append (summary s) rest)))

-- a summary is read to its end as what it spells
pub spelled_read : (bytes : List ℕ) → length bytes < 2 ^ 64 → (h : SpellsSummary bytes) → summary_at bytes ≡ Ok (h.names, [])
spelled_read bytes short h =
    let alone : bytes ≡ summary h.names ++ [] = h.spelled ∙ sym (append-nil (summary h.names)) in
    ap summary_at alone ∙ is_read h.names [] h.form (omega (arith, ap length alone))

-- what is read to its end is a summary, which the bytes spell
pub read_is : (bytes : List ℕ) → AreBytes bytes → (s : List NameRanges) (rest : List ℕ) → rest ≡ [] → summary_at bytes ≡ Ok (s, rest)
    → IsSummary s × (bytes ≡ summary s)
read_is bytes fits s rest none e =
    let t = summary_reads.takes bytes s rest fits e in
    (t.1.0, t.0.parts ∙ ap (λ (w : List ℕ). summary s ++ w) none ∙ append-nil (summary s))

-- a reading that is at its end
pub some_names : (bytes : List ℕ) → AreBytes bytes → (rest : List ℕ) → rest ≡ [] → ahead (summary_at bytes) ≡ Ok rest → SpellsSummary bytes
some_names bytes fits rest none e = by (summary_at bytes) refl e
  where
    by : (r : Result (List NameRanges × List ℕ) BundleFault) → summary_at bytes ≡ r → ahead r ≡ Ok rest → SpellsSummary bytes
    by (Ok x) h a =
        let t = read_is bytes fits x.0 x.1 (ok_is x.1 rest a ∙ none) h in
        record { names = x.0; form = t.0; spelled = t.1 }
    by (Err f) h a = absurd cc

-- bytes that are refused are no summary
pub none_refused : (bytes : List ℕ) → length bytes < 2 ^ 64 → (f : BundleFault) → ahead (summary_at bytes) ≡ Err f → SpellsSummary bytes → ⊥
none_refused bytes short f e h = let read = ap ahead (spelled_read bytes short h) in absurd cc

-- nor are those that go on
pub none_followed : (bytes : List ℕ) → length bytes < 2 ^ 64 → (rest : List ℕ) → ahead (summary_at bytes) ≡ Ok rest → rest ≢ []
    → SpellsSummary bytes → ⊥
none_followed bytes short rest e some h = some (ok_is rest [] (sym e ∙ ap ahead (spelled_read bytes short h)))

-- ---- as a whole reading says it

pub read_fails : (r : Result (List NameRanges × List ℕ) BundleFault) (f : BundleFault) → ahead r ≡ Err f → read_whole r ≡ None
read_fails (Ok x) f e = absurd cc
read_fails (Err g) f e = refl

alone_none : (names : List NameRanges) (rest : List ℕ) → rest ≢ [] → names_alone names rest ≡ None
alone_none names [] some = absurd (some refl)
alone_none names (b ∷ rest) some = refl

pub read_goes_on : (r : Result (List NameRanges × List ℕ) BundleFault) (rest : List ℕ) → ahead r ≡ Ok rest → rest ≢ [] → read_whole r ≡ None
read_goes_on (Ok x) rest e some = alone_none x.0 x.1 (λ none. some (sym (ok_is x.1 rest e) ∙ none))
read_goes_on (Err g) rest e some = refl

pub read_ends : (r : Result (List NameRanges × List ℕ) BundleFault) (rest : List ℕ) → ahead r ≡ Ok rest → rest ≡ [] → IsSome (read_whole r)
read_ends (Ok x) rest e none = ap (λ (w : List ℕ). is_some (names_alone x.0 w)) (ok_is x.1 rest e ∙ none)
read_ends (Err g) rest e none = absurd cc

-- a summary that was read to the end is a whole one
pub read_gives : (r : Result (List NameRanges × List ℕ) BundleFault) (s : List NameRanges) (rest : List ℕ) → rest ≡ [] → r ≡ Ok (s, rest)
    → read_whole r ≡ Some s
read_gives r s rest none e = ap read_whole e ∙ ap (names_alone s) none

-- one summary has one spelling, and one spelling is of one summary
pub one_summary : (a b : List NameRanges) → IsSummary a → IsSummary b → length (summary a) < 2 ^ 64 → summary a ≡ summary b → a ≡ b
one_summary a b f g short e =
    let one = spelled_read (summary a) short (record { names = a; form = f; spelled = refl }) in
    let other = spelled_read (summary a) short (record { names = b; form = g; spelled = e }) in
    ap (λ (x : List NameRanges × List ℕ). x.0) (ok_is (a, []) (b, []) (sym one ∙ other))

-- the front with the count, and the names
pub summary_fronted : (s : List NameRanges) → (summary_magic ++ to_be_bytes w64 (length s)) ++ flat_map name_ranges s ≡ summary s
unfolding summary
summary_fronted s = append_assoc summary_magic (to_be_bytes w64 (length s)) (flat_map name_ranges s)

-- bytes with one thing more of a list after them
pub pushed_on : {A : Type 0} (f : A → List ℕ) (xs : List A) (i : ℕ) (d : A) (bytes new whole : List ℕ) → i < length xs
    → new ≡ bytes ++ f (get_or xs i d)
    → bytes ++ flat_map f (drop i xs) ≡ whole → new ++ flat_map f (drop (i + 1) xs) ≡ whole
pushed_on f xs i d bytes new whole lt more so_far =
    ap (λ (w : List ℕ). w ++ flat_map f (drop (i + 1) xs)) more
    ∙ append_assoc bytes (f (get_or xs i d)) (flat_map f (drop (i + 1) xs))
    ∙ ap (λ (w : List ℕ). bytes ++ w) (sym (ap (flat_map f) (drop_more xs i d lt) ∙ flat_map-cons f (get_or xs i d) (drop (i + 1) xs)))
    ∙ so_far
