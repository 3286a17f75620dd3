-- A sealed bundle that is cut, or of which bytes were changed, is refused.
use Rattle.std.proofs.Common.{◌≡◌, ◌≢◌, inl, inr, ℕ, ◌^◌, ◌<◌, ◌≤◌, true, false, cond, eqb, ltb, List, [], ◌∷◌, ◌++◌, length, take, drop, Result, Ok, Err, refl, sym, ap, ◌∙◌, arith}
use Rattle.std.specs.Result.{IsErr}
use Rattle.std.specs.Int.{w64, to_be_bytes}
use Rattle.std.specs.List.{starts_with}
use Rattle.std.proofs.lemmas.Bool.{cases_lt, lt-ltb, le-ltb, cond-true, cond-false, false_from_ne_true}
use Rattle.std.proofs.lemmas.List.{take_at, take-append-drop, take-append-le, length-append, append-nil, append_assoc}
use Rattle.sha2.specs.Sha256.{sha256}
use Rattle.sha2.proofs.Facts256.{length-sha256}
use Rattle.sealed_bundle.specs.declared.fault.SealFault.{SealFault}
use Rattle.sealed_bundle.specs.declared.fault.SealFault.TheVariants.{NotSealed, Truncated, Trailing, Damaged}
use Rattle.sealed_bundle.specs.Laws.{AreBytes}
use Rattle.sealed_bundle.specs.Seals.{magic, header_of, header, sealed, split, judged, behind, opened}
use Rattle.sealed_bundle.proofs.Openings.{begins, begun, length-magic, length-header, begins_header, opened_behind, judged_other, judged_short, judged_long, opened_is}

-- ---- cut, or followed by something

-- of two fronts of one list, the longer begins with the shorter
front_rest : (a b c d : List ℕ) → a ++ b ≡ c ++ d → length a ≤ length c → c ≡ a ++ drop (length a) c
front_rest a b c d e l =
    let first : take (length a) c ≡ a =
    sym (take-append-le (length a) c d l) ∙ ap (take (length a)) (sym e) ∙ take_at a b (length a) refl in
    sym (take-append-drop (length a) c) ∙ ap (λ (w : List ℕ). w ++ drop (length a) c) first

has_some : (rest : List ℕ) → rest ≢ [] → 0 < length rest
has_some [] h = absurd (h refl)
has_some (x ∷ rest) h = omega arith

cut_in_magic : (front : List ℕ) (rest later : List ℕ) → front ++ rest ≡ magic ++ later → length front < 8 → split front ≡ Err Truncated
unfolding split
cut_in_magic front rest later e l =
    let starts : starts_with eqb front magic ≡ false = false_from_ne_true _ (λ h.
    omega (arith, ap length (begun front magic h), length-append magic (drop (length magic) front), length-magic)) in
    let starts_magic = begins magic front _ (front_rest front rest magic later e (omega (arith, length-magic))) in
    rw (starts, starts_magic) refl

cut_in_header : (front : List ℕ) (rest later : List ℕ) → front ++ rest ≡ magic ++ later → 8 ≤ length front → length front < 48
    → split front ≡ Err Truncated
unfolding split
cut_in_header front rest later e l m =
    let starts = begins front magic _ (front_rest magic later front rest (sym e) (omega (arith, length-magic))) in
    rw (starts, lt-ltb (length front) 48 m) refl

cut_in_bundle : (bundle front rest : List ℕ) → length bundle < 2 ^ 64 → header bundle ++ bundle ≡ front ++ rest → 0 < length rest
    → 48 ≤ length front → opened front ≡ Err Truncated
cut_in_bundle bundle front rest fits e some l =
    let long = length-header (length bundle) (sha256 bundle) (length-sha256 bundle) in
    let left = drop (length (header bundle)) front in
    let is = front_rest (header bundle) bundle front rest e (omega (arith, long)) in
    let short : length left < length bundle =
    omega (
      arith,
      long,
      ap length is,
      length-append (header bundle) left,
      ap length e,
      length-append front rest,
      length-append (header bundle) bundle,
    ) in
    ap opened is ∙ opened_behind (length bundle) (sha256 bundle) left fits (length-sha256 bundle)
    ∙ judged_short (length bundle) (sha256 bundle) left short

pub front_is_cut : (bundle front rest : List ℕ) → length bundle < 2 ^ 64 → rest ≢ [] → sealed bundle ≡ front ++ rest
    → opened front ≡ Err Truncated
front_is_cut bundle front rest fits some e =
    let later = (to_be_bytes w64 (length bundle) ++ sha256 bundle) ++ bundle in
    let whole : front ++ rest ≡ magic ++ later = sym e ∙ begins_header (length bundle) (sha256 bundle) bundle in
    elim (cases_lt (length front) 8) [
      | inl h ↦ ap behind (cut_in_magic front rest later whole h)
      | inr h ↦ elim (cases_lt (length front) 48) [
        | inl k ↦ ap behind (cut_in_header front rest later whole h k)
        | inr k ↦ cut_in_bundle bundle front rest fits e (has_some rest some) k
      ]
    ]

pub more_is_refused : (bundle rest : List ℕ) → length bundle < 2 ^ 64 → rest ≢ [] → opened (sealed bundle ++ rest) ≡ Err Trailing
more_is_refused bundle rest fits some =
    let long = has_some rest some in
    ap opened (append_assoc (header bundle) bundle rest)
    ∙ opened_behind (length bundle) (sha256 bundle) (bundle ++ rest) fits (length-sha256 bundle)
    ∙ judged_long (length bundle) (sha256 bundle) (bundle ++ rest) (omega (arith, length-append bundle rest))

-- ---- changed

same_first : (first rest later : List ℕ) → length first ≡ 8 → first ++ rest ≡ magic ++ later → first ≡ magic
same_first first rest later l e = sym (take_at first rest 8 l) ∙ ap (take 8) e ∙ take_at magic later 8 length-magic

not_split : (bytes : List ℕ) → starts_with eqb bytes magic ≡ false → starts_with eqb magic bytes ≡ false → split bytes ≡ Err NotSealed
unfolding split
not_split bytes starts starts_magic = rw (starts, starts_magic) refl

pub other_magic : (first rest : List ℕ) → length first ≡ 8 → first ≢ magic → opened (first ++ rest) ≡ Err NotSealed
other_magic first rest l apart = ap behind (not_split (first ++ rest) starts starts_magic)
  where
    starts : starts_with eqb (first ++ rest) magic ≡ false
    starts = false_from_ne_true _ (λ h. apart (same_first first rest _ l (begun (first ++ rest) magic h)))

    more : List ℕ
    more = drop (length (first ++ rest)) magic

    whole : starts_with eqb magic (first ++ rest) ≡ true → first ++ (rest ++ more) ≡ magic ++ []
    whole h = sym (append_assoc first rest more) ∙ sym (begun magic (first ++ rest) h) ∙ sym (append-nil magic)

    starts_magic : starts_with eqb magic (first ++ rest) ≡ false
    starts_magic = false_from_ne_true _ (λ h. apart (same_first first (rest ++ more) [] l (whole h)))

pub other_length : (bundle digest : List ℕ) (n : ℕ) → n < 2 ^ 64 → n ≢ length bundle → length digest ≡ 32
    → opened (header_of n digest ++ bundle) ≡ cond (ltb (length bundle) n) (Err Truncated) (Err Trailing)
other_length bundle digest n fits apart l =
    opened_behind n digest bundle fits l
    ∙ elim (cases_lt (length bundle) n) [
      | inl h ↦ judged_short n digest bundle h ∙ sym (cond-true _ _ _ (lt-ltb (length bundle) n h))
      | inr h ↦ judged_long n digest bundle (omega (arith, apart)) ∙ sym (cond-false _ _ _ (le-ltb (length bundle) n h))
    ]

pub other_digest : (bundle digest : List ℕ) → length bundle < 2 ^ 64 → length digest ≡ 32 → digest ≢ sha256 bundle
    → opened (header_of (length bundle) digest ++ bundle) ≡ Err Damaged
other_digest bundle digest fits l apart =
    opened_behind (length bundle) digest bundle fits l ∙ judged_other digest bundle (λ e. apart (sym e))

pub other_bundle : (bundle other : List ℕ) → length bundle < 2 ^ 64 → length other ≡ length bundle → sha256 other ≢ sha256 bundle
    → opened (header bundle ++ other) ≡ Err Damaged
other_bundle bundle other fits l apart =
    opened_behind (length bundle) (sha256 bundle) other fits (length-sha256 bundle)
    ∙ ap (λ (n : ℕ). judged n (sha256 bundle) other) (sym l) ∙ judged_other (sha256 bundle) other apart

pub other_header : (bytes bundle : List ℕ) → AreBytes bytes → drop 48 bytes ≡ bundle → bytes ≢ sealed bundle → IsErr (opened bytes)
other_header bytes bundle fits rest apart = by (opened bytes) refl
  where
    by : (r : Result (List ℕ) SealFault) → opened bytes ≡ r → IsErr r
    by (Err fault) p = refl
    by (Ok found) p =
        let is = opened_is bytes found fits p in
        absurd (apart (is.spelled ∙ ap sealed (sym is.later ∙ rest)))
