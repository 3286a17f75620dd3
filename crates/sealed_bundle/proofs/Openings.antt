-- What is sealed is opened, and what is opened is sealed so.
use Rattle.std.proofs.Common.{◌≡◌, ◌≢◌, ◌⊎◌, inl, inr, ℕ, zero, suc, ◌+◌, ◌^◌, ◌<◌, ◌≤◌, Bool, true, false, cond, eqb, ltb, List, [], ◌∷◌, ◌++◌, length, take, drop, Result, Ok, Err, refl, sym, ap, subst, ◌∙◌, arith, Bor, MatchResult, IfOk}
use Rattle.std.specs.Int.{w64, to_be_bytes, from_be_bytes}
use Rattle.std.specs.List.{starts_with}
use Rattle.std.specs.Str.{bytes_eq}
use Rattle.std.proofs.lemmas.Bool.{ltb-false, lt-ltb, le-ltb, false_from_ne_true, false≢true}
use Rattle.std.proofs.lemmas.Bool.Decides.{Decides-eqb}
use Rattle.std.proofs.lemmas.List.{take_at, drop_at, take-append-drop, length-append, length-drop, length-take-le, append_assoc, get_or-drop}
use Rattle.std.proofs.lemmas.Nat.{be_bytes_8, from_be_bytes-to_be_bytes_8}
use Rattle.std.proofs.lemmas.Slice.Eq.{starts_is, bytes_eq-Decides}
use Rattle.sha2.specs.Sha256.{sha256}
use Rattle.sha2.proofs.Facts256.{length-sha256}
use Rattle.sealed_bundle.specs.declared.fault.SealFault.{SealFault}
use Rattle.sealed_bundle.specs.declared.fault.SealFault.TheVariants.{Truncated, Trailing, Damaged}
use Rattle.sealed_bundle.specs.Laws.{AreBytes}
use Rattle.sealed_bundle.specs.Seals.{magic, header_of, header, sealed, stated_length, stated_digest, split, judged, behind, opened}
use Rattle.sealed_bundle.specs.Seals.{begins_sealed, unsealed, judged_first, first_behind, first_opened}

-- ---- tests

-- an if, by what its test is
pub chosen : {X : Type 0} (b : Bool) (x y z : X) → cond b x y ≡ z → ((b ≡ true) × (x ≡ z)) ⊎ ((b ≡ false) × (y ≡ z))
chosen true x y z e = inl (refl, e)
chosen false x y z e = inr (refl, e)

-- bytes begin with others exactly where they are these and a rest
pub begins : (bytes front rest : List ℕ) → bytes ≡ front ++ rest → starts_with eqb bytes front ≡ true
begins bytes front rest e = (starts_is Decides-eqb bytes front (starts_with eqb bytes front) refl).1 rest e

-- and they are then
pub begun : (bytes front : List ℕ) → starts_with eqb bytes front ≡ true → bytes ≡ front ++ drop (length front) bytes
begun bytes front h = (starts_is Decides-eqb bytes front (starts_with eqb bytes front) refl).0 h

-- ---- a header, and what follows it

-- the magic has eight bytes
pub length-magic : length magic ≡ 8
unfolding magic
length-magic = refl

pub length-header : (n : ℕ) (digest : List ℕ) → length digest ≡ 32 → length (header_of n digest) ≡ 48
unfolding magic header_of
length-header n digest h = omega (arith, h)

pub begins_header : (n : ℕ) (digest rest : List ℕ) → header_of n digest ++ rest ≡ magic ++ ((to_be_bytes w64 n ++ digest) ++ rest)
unfolding header_of
begins_header n digest rest = append_assoc magic (to_be_bytes w64 n ++ digest) rest

-- bytes that begin with a header are split behind it
pub split_behind : (n : ℕ) (digest rest : List ℕ) → length digest ≡ 32 → split (header_of n digest ++ rest) ≡ Ok (header_of n digest, rest)
unfolding split
split_behind n digest rest h =
    let front = header_of n digest in
    let long = length-header n digest h in
    let starts = begins (front ++ rest) magic _ (begins_header n digest rest) in
    let fits : ltb (length (front ++ rest)) 48 ≡ false = le-ltb _ _ (omega (arith, length-append front rest, long)) in
    rw (starts, fits, take_at front rest 48 long, drop_at front rest 48 long) refl

pub length_stated : (n : ℕ) (digest : List ℕ) → n < 2 ^ 64 → stated_length (header_of n digest) ≡ n
unfolding magic header_of stated_length
length_stated n digest h = from_be_bytes-to_be_bytes_8 n h

pub digest_stated : (n : ℕ) (digest : List ℕ) → stated_digest (header_of n digest) ≡ digest
unfolding magic header_of
digest_stated n digest = refl

-- what follows a header is judged by what that was written for
pub opened_behind : (n : ℕ) (digest rest : List ℕ) → n < 2 ^ 64 → length digest ≡ 32
    → opened (header_of n digest ++ rest) ≡ judged n digest rest
opened_behind n digest rest fits h =
    ap behind (split_behind n digest rest h)
    ∙ (λ i. judged (length_stated n digest fits i) (digest_stated n digest i) rest)

-- ---- judging

pub judged_same : (digest bundle : List ℕ) → sha256 bundle ≡ digest → judged (length bundle) digest bundle ≡ Ok bundle
unfolding judged
judged_same digest bundle e =
    let same = le-ltb (length bundle) (length bundle) (omega arith) in
    let equal : bytes_eq (sha256 bundle) digest ≡ true = (bytes_eq-Decides (sha256 bundle) digest).1 e in
    rw (same, equal) refl

pub judged_other : (digest bundle : List ℕ) → sha256 bundle ≢ digest → judged (length bundle) digest bundle ≡ Err Damaged
unfolding judged
judged_other digest bundle apart =
    let same = le-ltb (length bundle) (length bundle) (omega arith) in
    let differs : bytes_eq (sha256 bundle) digest ≡ false =
    false_from_ne_true _ (λ h. apart ((bytes_eq-Decides (sha256 bundle) digest).0 h)) in
    rw (same, differs) refl

pub judged_short : (n : ℕ) (digest bundle : List ℕ) → length bundle < n → judged n digest bundle ≡ Err Truncated
unfolding judged
judged_short n digest bundle h = rw (lt-ltb (length bundle) n h) refl

pub judged_long : (n : ℕ) (digest bundle : List ℕ) → n < length bundle → judged n digest bundle ≡ Err Trailing
unfolding judged
judged_long n digest bundle h = rw (le-ltb (length bundle) n (omega arith), lt-ltb n (length bundle) h) refl

-- what is judged a bundle is this, with the length and the digest
pub record IsJudged (n : ℕ) (digest rest bundle : List ℕ) : Type 0 where
  pub counted : length rest ≡ n
  pub summed : sha256 rest ≡ digest
  pub same : rest ≡ bundle

pub judged_is : (n : ℕ) (digest rest bundle : List ℕ) → judged n digest rest ≡ Ok bundle → IsJudged n digest rest bundle
unfolding judged
judged_is n digest rest bundle e =
    elim (chosen (ltb (length rest) n) _ _ _ e) [
      | inl p ↦ cc p.1
      | inr p ↦ elim (chosen (ltb n (length rest)) _ _ _ p.1) [
        | inl q ↦ cc q.1
        | inr q ↦ elim (chosen (bytes_eq (sha256 rest) digest) _ _ _ q.1) [
          | inl r ↦ record {
            counted = omega (arith, ltb-false (length rest) n p.0, ltb-false n (length rest) q.0);
            summed = (bytes_eq-Decides (sha256 rest) digest).0 r.0;
            same = cc r.1;
          }
          | inr r ↦ cc r.1
        ]
      ]
    ]

-- ---- what is opened is sealed so

each_taken : (n : ℕ) (bytes : List ℕ) → AreBytes bytes → AreBytes (take n bytes)
each_taken zero bytes fits i = omega arith
each_taken (suc n) [] fits i = omega arith
each_taken (suc n) (b ∷ bytes) fits zero = fits zero
each_taken (suc n) (b ∷ bytes) fits (suc i) = each_taken n bytes (λ j. fits (suc j)) i

each_dropped : (n : ℕ) (bytes : List ℕ) → AreBytes bytes → AreBytes (drop n bytes)
each_dropped n bytes fits i = subst (λ (b : ℕ). b < 256) (sym (get_or-drop n bytes i 0)) (fits (n + i))

-- the magic and 40 bytes are the header of what they state
stated_again : (later : List ℕ) → length later ≡ 40 → AreBytes later
    → header_of (stated_length (magic ++ later)) (stated_digest (magic ++ later)) ≡ magic ++ later
unfolding magic header_of stated_length
stated_again later long fits =
    let number : to_be_bytes w64 (from_be_bytes w64 (take 8 later)) ≡ take 8 later =
    be_bytes_8 (take 8 later) (from_be_bytes w64 (take 8 later)) (length-take-le 8 later (omega arith)) (each_taken 8 later fits) refl in
    ap (λ (w : List ℕ). magic ++ (w ++ drop 8 later)) number ∙ ap (λ (w : List ℕ). magic ++ w) (take-append-drop 8 later)

-- bytes split behind the header that they begin with
pub record IsSplit (bytes front rest : List ℕ) : Type 0 where
  pub states : header_of (stated_length front) (stated_digest front) ≡ front
  pub joined : bytes ≡ front ++ rest
  pub later : drop 48 bytes ≡ rest

split_behind_magic : (bytes : List ℕ) → AreBytes bytes → starts_with eqb bytes magic ≡ true → 48 ≤ length bytes
    → IsSplit bytes (take 48 bytes) (drop 48 bytes)
unfolding magic
split_behind_magic bytes fits starts long =
    let later = take 40 (drop 8 bytes) in
    let first : take 48 bytes ≡ magic ++ later = ap (take 48) (begun bytes magic starts) in
    let forty : length later ≡ 40 = length-take-le 40 (drop 8 bytes) (omega (arith, length-drop 8 bytes)) in
    record {
      states = subst (λ (w : List ℕ). header_of (stated_length w) (stated_digest w) ≡ w) (sym first)
          (stated_again later forty (each_taken 40 (drop 8 bytes) (each_dropped 8 bytes fits)));
      joined = sym (take-append-drop 48 bytes);
      later = refl;
    }

split_is : (bytes : List ℕ) (parts : List ℕ × List ℕ) → AreBytes bytes → split bytes ≡ Ok parts → IsSplit bytes parts.0 parts.1
unfolding split
split_is bytes parts fits e =
    elim (chosen (starts_with eqb bytes magic) _ _ _ e) [
      | inl p ↦ elim (chosen (ltb (length bytes) 48) _ _ _ p.1) [
        | inl q ↦ cc q.1
        | inr q ↦
            let same : (take 48 bytes, drop 48 bytes) ≡ parts = cc q.1 in
            subst (λ (w : List ℕ × List ℕ). IsSplit bytes w.0 w.1) same
            (split_behind_magic bytes fits p.0 (ltb-false (length bytes) 48 q.0))
      ]
      | inr p ↦ elim (chosen (starts_with eqb magic bytes) _ _ _ p.1) [ inl q ↦ cc q.1 | inr q ↦ cc q.1 ]
    ]

-- bytes that are a bundle, sealed
pub record IsSealed (bytes bundle : List ℕ) : Type 0 where
  pub spelled : bytes ≡ sealed bundle
  pub later : drop 48 bytes ≡ bundle

pub opened_is : (bytes bundle : List ℕ) → AreBytes bytes → opened bytes ≡ Ok bundle → IsSealed bytes bundle
opened_is bytes bundle fits e = by (split bytes) refl e
  where
    by : (r : Result (List ℕ × List ℕ) SealFault) → split bytes ≡ r → behind r ≡ Ok bundle → IsSealed bytes bundle
    by (Err fault) p e = cc e
    by (Ok parts) p e =
        let s = split_is bytes parts fits p in
        let j = judged_is (stated_length parts.0) (stated_digest parts.0) parts.1 bundle e in
        let front : header parts.1 ≡ parts.0 = (λ i. header_of (j.counted i) (j.summed i)) ∙ s.states in
        record {
          spelled = s.joined ∙ ap (λ (w : List ℕ). w ++ parts.1) (sym front) ∙ ap sealed j.same;
          later = s.later ∙ j.same;
        }

-- ---- what is sealed is opened

pub sealed_again : (bundle : List ℕ) → length bundle < 2 ^ 64 → opened (sealed bundle) ≡ Ok bundle
sealed_again bundle fits =
    opened_behind (length bundle) (sha256 bundle) bundle fits (length-sha256 bundle) ∙ judged_same (sha256 bundle) bundle refl

-- a sealed bundle has 48 bytes more than its bundle
pub length-sealed : (bundle : List ℕ) → length (sealed bundle) ≡ 48 + length bundle
length-sealed bundle =
    omega (arith, length-append (header bundle) bundle, length-header (length bundle) (sha256 bundle) (length-sha256 bundle))

-- bytes that are sealed, and of which a slice can have so many, are opened
pub read_again : (bytes bundle : List ℕ) → length bytes < 2 ^ 64 → bytes ≡ sealed bundle → opened bytes ≡ Ok bundle
read_again bytes bundle short e =
    ap opened e ∙ sealed_again bundle (omega (arith, ap length e, length-sealed bundle))

-- what was opened is what was sealed
pub same_bundle : (bytes bundle other : List ℕ) → length bytes < 2 ^ 64 → opened bytes ≡ Ok bundle → bytes ≡ sealed other → bundle ≡ other
same_bundle bytes bundle other short read e =
    let same : Ok bundle ≡ Ok other = sym read ∙ read_again bytes other short e in cc same

-- what is sealed is refused with no fault
pub not_refused : (bytes : List ℕ) (fault : SealFault) → length bytes < 2 ^ 64 → opened bytes ≡ Err fault → (bundle : List ℕ)
    → bytes ≡ sealed bundle → ⊥
not_refused bytes fault short read bundle e =
    let same : Ok bundle ≡ Err fault = sym (read_again bytes bundle short e) ∙ read in cc same

-- ---- what the call answers

-- an answer that is what opening gives
abbrev pub Opens : List ℕ → Result (Bor (List ℕ)) SealFault → Type 0
Opens bytes result = MatchResult result (λ bundle. opened bytes ≡ Ok bundle.now) (λ fault. opened bytes ≡ Err fault)

-- what was split is judged by what the header states
pub opens : (bytes : List ℕ) (parts : List ℕ × List ℕ) (n : ℕ) (digest : List ℕ) (result : Result (Bor (List ℕ)) SealFault)
    → split bytes ≡ Ok parts → n ≡ stated_length parts.0 → digest ≡ stated_digest parts.0
    → MatchResult result (λ found. judged n digest parts.1 ≡ Ok found.now) (λ fault. judged n digest parts.1 ≡ Err fault)
    → Opens bytes result
opens bytes parts n digest (Ok found) p l d e = ap behind p ∙ sym (λ i. judged (l i) (d i) parts.1) ∙ e
opens bytes parts n digest (Err fault) p l d e = ap behind p ∙ sym (λ i. judged (l i) (d i) parts.1) ∙ e

pub opens_sealed : (bytes : List ℕ) (result : Result (Bor (List ℕ)) SealFault) → AreBytes bytes → Opens bytes result
    → IfOk result (λ bundle. bytes ≡ sealed bundle.now)
opens_sealed bytes (Ok found) fits e = (opened_is bytes found.now fits e).spelled
opens_sealed bytes (Err fault) fits e = tt

pub opens_end : (bytes : List ℕ) (result : Result (Bor (List ℕ)) SealFault) → AreBytes bytes → Opens bytes result
    → IfOk result (λ bundle. bundle.now ≡ drop 48 bytes)
opens_end bytes (Ok found) fits e = sym (opened_is bytes found.now fits e).later
opens_end bytes (Err fault) fits e = tt

pub opens_only : (bytes : List ℕ) (result : Result (Bor (List ℕ)) SealFault) → length bytes < 2 ^ 64 → Opens bytes result
    → (bundle : List ℕ) → bytes ≡ sealed bundle → MatchResult result (λ found. found.now ≡ bundle) (λ _. ⊥)
opens_only bytes (Ok found) short e bundle is = same_bundle bytes found.now bundle short e is
opens_only bytes (Err fault) short e bundle is = not_refused bytes fault short e bundle is

-- ---- bytes that may be sealed

-- what is sealed begins as a sealed bundle does
pub sealed_begins : (bundle : List ℕ) → begins_sealed (sealed bundle) ≡ true
sealed_begins bundle = begins (sealed bundle) magic _ (begins_header (length bundle) (sha256 bundle) bundle)

-- and so it does whatever follows it
pub sealed_begins_before : (bundle rest : List ℕ) → begins_sealed (sealed bundle ++ rest) ≡ true
sealed_begins_before bundle rest = begins (sealed bundle ++ rest) magic _
    (append_assoc (header bundle) bundle rest ∙ begins_header (length bundle) (sha256 bundle) (bundle ++ rest))

pub seal_comes_off : (bundle : List ℕ) → length bundle < 2 ^ 64 → unsealed (sealed bundle) ≡ Ok bundle
unfolding unsealed
seal_comes_off bundle fits = rw (sealed_begins bundle) (sealed_again bundle fits)

pub bare_stays : (bytes : List ℕ) → begins_sealed bytes ≡ false → unsealed bytes ≡ Ok bytes
unfolding unsealed
bare_stays bytes h = rw h refl

-- what does not begin as a sealed bundle does is none
pub bare_is_none : (bytes bundle : List ℕ) → begins_sealed bytes ≡ false → bytes ≡ sealed bundle → ⊥
bare_is_none bytes bundle h e = absurd (false≢true (sym h ∙ ap begins_sealed e ∙ sealed_begins bundle))

-- ---- a sealed bundle that more follows

pub judged_front : (bundle rest : List ℕ) → judged_first (length bundle) (sha256 bundle) (bundle ++ rest) ≡ Ok (bundle, rest)
unfolding judged_first
judged_front bundle rest =
    let fits : ltb (length (bundle ++ rest)) (length bundle) ≡ false = le-ltb _ _ (omega (arith, length-append bundle rest)) in
    let equal : bytes_eq (sha256 bundle) (sha256 bundle) ≡ true = (bytes_eq-Decides (sha256 bundle) (sha256 bundle)).1 refl in
    rw (fits, take_at bundle rest (length bundle) refl, drop_at bundle rest (length bundle) refl, equal) refl

-- what is sealed is opened as it was, whatever follows it
pub first_again : (bundle rest : List ℕ) → length bundle < 2 ^ 64 → first_opened (sealed bundle ++ rest) ≡ Ok (bundle, rest)
first_again bundle rest fits =
    let n = length bundle in
    let digest = sha256 bundle in
    ap first_opened (append_assoc (header bundle) bundle rest)
    ∙ ap first_behind (split_behind n digest (bundle ++ rest) (length-sha256 bundle))
    ∙ (λ i. judged_first (length_stated n digest fits i) (digest_stated n digest i) (bundle ++ rest))
    ∙ judged_front bundle rest

-- where the bundle and what follows it lie

split_parts : (bytes : List ℕ) (parts : List ℕ × List ℕ) → split bytes ≡ Ok parts → (48 ≤ length bytes) × (drop 48 bytes ≡ parts.1)
unfolding split
split_parts bytes parts e =
    elim (chosen (starts_with eqb bytes magic) _ _ _ e) [
      | inl p ↦ elim (chosen (ltb (length bytes) 48) _ _ _ p.1) [
        | inl q ↦ cc q.1
        | inr q ↦ let same : (take 48 bytes, drop 48 bytes) ≡ parts = cc q.1 in
            (ltb-false (length bytes) 48 q.0, ap (λ (w : List ℕ × List ℕ). w.1) same)
      ]
      | inr p ↦ elim (chosen (starts_with eqb magic bytes) _ _ _ p.1) [ inl q ↦ cc q.1 | inr q ↦ cc q.1 ]
    ]

judged_parts : (n : ℕ) (digest bytes : List ℕ) (parts : List ℕ × List ℕ) → judged_first n digest bytes ≡ Ok parts
    → bytes ≡ parts.0 ++ parts.1
unfolding judged_first
judged_parts n digest bytes parts e =
    elim (chosen (ltb (length bytes) n) _ _ _ e) [
      | inl p ↦ cc p.1
      | inr p ↦ elim (chosen (bytes_eq (sha256 (take n bytes)) digest) _ _ _ p.1) [
        | inl q ↦
            let same : (take n bytes, drop n bytes) ≡ parts = cc q.1 in
            sym (take-append-drop n bytes) ∙ ap (λ (w : List ℕ × List ℕ). w.0 ++ w.1) same
        | inr q ↦ cc q.1
      ]
    ]

-- an answer for a first bundle, by what follows the header
abbrev pub JudgesFirst : ℕ → List ℕ → List ℕ → Result (Bor (List ℕ) × Bor (List ℕ)) SealFault → Type 0
JudgesFirst n digest rest result = MatchResult result (λ parts. judged_first n digest rest ≡ Ok (parts.0.now, parts.1.now))
    (λ fault. judged_first n digest rest ≡ Err fault)

pub first_within : (bytes front rest : List ℕ) (result : Result (Bor (List ℕ) × Bor (List ℕ)) SealFault)
    → split bytes ≡ Ok (front, rest) → IfOk result (λ _. 48 ≤ length bytes)
first_within bytes front rest (Ok parts) s = (split_parts bytes (front, rest) s).0
first_within bytes front rest (Err fault) s = tt

pub first_parts : (bytes front rest : List ℕ) (n : ℕ) (digest : List ℕ) (result : Result (Bor (List ℕ) × Bor (List ℕ)) SealFault)
    → split bytes ≡ Ok (front, rest) → JudgesFirst n digest rest result
    → IfOk result (λ parts. drop 48 bytes ≡ parts.0.now ++ parts.1.now)
first_parts bytes front rest n digest (Ok parts) s e =
    (split_parts bytes (front, rest) s).1 ∙ judged_parts n digest rest (parts.0.now, parts.1.now) e
first_parts bytes front rest n digest (Err fault) s e = tt

-- what was opened has a header
pub has_header : (bytes all bundle : List ℕ) → bytes ≡ all → bytes ≡ sealed bundle → 48 ≤ length all
has_header bytes all bundle same e = omega (arith, ap length same, ap length e, length-sealed bundle)
