-- The parts of a stream.
use Rattle.std.proofs.Common.{◌≡◌, ℕ, zero, suc, ◌+◌, ◌<◌, ◌≤◌, List, [], ◌∷◌, ◌++◌, length, take, drop, Result, Ok, Err, refl, sym, ap, subst, ◌∙◌, arith}
use Rattle.std.proofs.lemmas.List.{take_at, drop_at, drop-drop, length-append, length-drop, append_assoc, append-nil}
use Rattle.op_core.specs.Ops.{Operation}
use Rattle.bundle_codec.specs.Spelling.{bundle, magic_of}
use Rattle.sealed_bundle.specs.declared.fault.SealFault.{SealFault}
use Rattle.bare_stream.specs.Streams.{first, before, after_first, bare_within, unsealed_stream, RefusesFirst, RefusesBared}
use Rattle.bare_stream.specs.declared.stream.StreamFault.{StreamFault}
use Rattle.bare_stream.specs.declared.stream.StreamFault.TheVariants.{Memory, Seal}

-- a bundle behind 48 bytes, and what follows it
pub behind_seal : (bytes found rest : List ℕ) → drop 48 bytes ≡ found ++ rest
    → (take (length found) (drop 48 bytes) ≡ found) × (drop (48 + length found) bytes ≡ rest)
behind_seal bytes found rest p = (
  ap (take (length found)) p ∙ take_at found rest (length found) refl,
  sym (drop-drop (length found) 48 bytes) ∙ ap (drop (length found)) p ∙ drop_at found rest (length found) refl,
)

pub ends_within : (bytes found rest : List ℕ) → 48 ≤ length bytes → drop 48 bytes ≡ found ++ rest → 48 + length found ≤ length bytes
ends_within bytes found rest h p = omega (arith, ap length p, length-append found rest, length-drop 48 bytes)

-- ---- a stream on its way: some bytes are in their place, and what is left leads to what the whole leads to

pub record IsBared (input now : List ℕ) (kept at : ℕ) : Type 0 where
  pub bound : ℕ
  pub leads : unsealed_stream input ≡ before (take kept now) (bare_within bound (drop at now))
  pub fits : length (drop at now) ≤ bound

pub bared_start : (input : List ℕ) → IsBared input input 0 0
bared_start input = record { bound = length input; leads = by (unsealed_stream input) refl; fits = omega arith }
  where
    by : (r : Result (List ℕ) SealFault) → unsealed_stream input ≡ r → unsealed_stream input ≡ before [] (unsealed_stream input)
    by (Ok rest) e = e ∙ ap (before []) (sym e)
    by (Err fault) e = e ∙ ap (before []) (sym e)

-- one more front before what is not refused
before_twice : (one two : List ℕ) (r : Result (List ℕ) SealFault) → before one (before two r) ≡ before (one ++ two) r
before_twice one two (Ok rest) = ap Ok (sym (append_assoc one two rest))
before_twice one two (Err fault) = refl

-- what is left, by its first part
pub one_part : (bound : ℕ) (rest : List ℕ) (parts : List ℕ × List ℕ) → 0 < length rest → length rest ≤ bound → first rest ≡ Ok parts
    → (n : ℕ) × (bound ≡ suc n) × (bare_within bound rest ≡ before parts.0 (bare_within n parts.1))
unfolding bare_within
one_part bound [] parts some fits e = absurd (omega (arith, some))
one_part zero (b ∷ rest) parts some fits e = absurd (omega (arith, fits))
one_part (suc n) (b ∷ rest) parts some fits e =
    (n, refl, ap (λ (r : Result (List ℕ × List ℕ) SealFault). after_first r (λ rest. bare_within n rest)) e)

pub bared_on : (input now new : List ℕ) (kept at seal count : ℕ) → IsBared input now kept at → at < length now → 0 < seal + count
    → first (drop at now) ≡ Ok (take count (drop seal (drop at now)), drop (seal + count) (drop at now))
    → take (kept + count) new ≡ take kept now ++ take count (drop (at + seal) now)
    → drop (at + seal + count) new ≡ drop (at + seal + count) now
    → IsBared input new (kept + count) (at + (seal + count))
bared_on input now new kept at seal count w some more e moved same =
    let rest = drop at now in
    let part = take count (drop seal rest) in
    let later = drop (seal + count) rest in
    let step = one_part w.bound rest (part, later) (omega (arith, some, length-drop at now)) w.fits e in
    let front : take kept now ++ part ≡ take (kept + count) new =
    ap (λ (p : List ℕ). take kept now ++ take count p) (drop-drop seal at now) ∙ sym moved in
    let place : at + seal + count ≡ at + (seal + count) = omega arith in
    let back : later ≡ drop (at + (seal + count)) new =
    drop-drop (seal + count) at now ∙ sym (ap (λ k. drop k now) place) ∙ sym same ∙ ap (λ k. drop k new) place in
    record {
      bound = step.0;
      leads = w.leads ∙ ap (before (take kept now)) step.2 ∙ before_twice (take kept now) part (bare_within step.0 later)
          ∙ (λ i. before (front i) (bare_within step.0 (back i)));
      fits = omega (arith, ap length back, length-drop (seal + count) rest, w.fits, step.1, some, more, length-drop at now);
    }

-- what is said of the first part of what is left, said of where that lies
pub first_of_left : (rest left : List ℕ) (seal count : ℕ) → rest ≡ left
    → first rest ≡ Ok (take count (drop seal rest), drop (seal + count) rest)
    → first left ≡ Ok (take count (drop seal left), drop (seal + count) left)
first_of_left rest left seal count e =
    subst (λ (w : List ℕ). first w ≡ Ok (take count (drop seal w), drop (seal + count) w)) e

-- where nothing is left, all bytes are in their place
pub bared_end : (input now : List ℕ) (kept at : ℕ) → IsBared input now kept at → length now ≤ at
    → unsealed_stream input ≡ Ok (take kept now)
unfolding bare_within
bared_end input now kept at w h = w.leads ∙ by (drop at now) (omega (arith, length-drop at now, h))
  where
    by : (rest : List ℕ) → length rest ≡ 0 → before (take kept now) (bare_within w.bound rest) ≡ Ok (take kept now)
    by [] e = ap Ok (append-nil (take kept now))
    by (b ∷ rest) e = cc e

-- where a first part is refused, so is the whole
pub refused_part : (input now : List ℕ) (kept at : ℕ) (fault : SealFault) → IsBared input now kept at → at < length now
    → first (drop at now) ≡ Err fault → unsealed_stream input ≡ Err fault
unfolding bare_within
refused_part input now kept at fault w some e = w.leads ∙ by w.bound (drop at now) (omega (arith, some, length-drop at now)) w.fits e
  where
    by : (bound : ℕ) (rest : List ℕ) → 0 < length rest → length rest ≤ bound → first rest ≡ Err fault
        → before (take kept now) (bare_within bound rest) ≡ Err fault
    by bound [] some fits e = absurd (omega (arith, some))
    by zero (b ∷ rest) some fits e = absurd (omega (arith, fits))
    by (suc n) (b ∷ rest) some fits e =
        ap (λ (r : Result (List ℕ × List ℕ) SealFault). before (take kept now) (after_first r (λ rest. bare_within n rest))) e

pub refused_fault : (input now rest : List ℕ) (kept at : ℕ) (fault : StreamFault) → IsBared input now kept at → at < length now
    → rest ≡ drop at now → RefusesFirst rest fault → RefusesBared input fault
refused_fault input now rest kept at Memory w some e r = tt
refused_fault input now rest kept at (Seal fault) w some e r = refused_part input now kept at fault w some (ap first (sym e) ∙ r)

-- a bundle is not empty
pub some_bundle : (ops : List Operation) → 0 < length (bundle ops)
unfolding bundle magic_of
some_bundle ops = omega arith
