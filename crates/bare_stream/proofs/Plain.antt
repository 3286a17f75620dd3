-- Streams in which the magic of a sealed bundle stands nowhere.
use Rattle.std.proofs.Common.{◌≡◌, ◌⊎◌, inl, inr, ℕ, zero, suc, ◌+◌, ◌-◌, ◌<◌, ◌≤◌, ltb, Bool, true, false, List, [], ◌∷◌, ◌++◌, length, take, drop, Result, Ok, Err, None, Some, refl, sym, ap, ◌∙◌, arith}
use Rattle.std.specs.Prelude.{is_some}
use Rattle.std.proofs.lemmas.Bool.{false_from_ne_true, false≢true, ltb-true, ltb-false}
use Rattle.std.proofs.lemmas.List.{take_at, drop_at, drop-drop, length-append, length-drop, append-nil}
use Rattle.memchr.specs.Find.{OccursAt, occurs_at, matches, matches_from, first_of}
use Rattle.memchr.proofs.lemmas.MatchLemmas.{OccursAt-from_part, occurs_at-true}
use Rattle.op_core.specs.Ops.{Operation}
use Rattle.bundle_codec.specs.Reading.{AreBytes, bundle_at}
use Rattle.bundle_codec.specs.Spelling.{bundle}
use Rattle.bundle_codec.specs.declared.fault.BundleFault.{BundleFault}
use Rattle.bundle_codec.proofs.Spelled.{bundle_reads}
use Rattle.sealed_bundle.specs.Seals.{magic, begins_sealed}
use Rattle.sealed_bundle.proofs.Openings.{begun, length-magic, chosen}
use Rattle.bare_stream.specs.Streams.{first_bare, after_first, before, bare_within, unsealed_stream, has_seal}
use Rattle.bare_stream.proofs.Parts.{some_bundle}

-- the magic stands nowhere
abbrev pub IsNowhere : List ℕ → Type 0
IsNowhere bytes = (k : ℕ) → OccursAt bytes magic k → ⊥

-- what is left of such bytes does not begin as a sealed bundle does
not_begun : (bytes : List ℕ) (k : ℕ) (rest : List ℕ) → IsNowhere bytes → 0 < length rest → rest ≡ drop k bytes → begins_sealed rest ≡ false
not_begun bytes k rest none some e = false_from_ne_true (begins_sealed rest) (λ h.
    let split = begun rest magic h in
    let eight : 8 ≤ length rest = omega (arith, ap length split, length-append magic (drop (length magic) rest), length-magic) in
    let front : take (length magic) (drop k bytes) ≡ magic =
    ap (take (length magic)) (sym e ∙ split) ∙ take_at magic (drop (length magic) rest) (length magic) refl in
    none k (OccursAt-from_part bytes magic k (omega (arith, eight, some, ap length e, length-drop k bytes, length-magic)) front))

-- the first part of what is left, and what follows it
plain_on : (bytes : List ℕ) (n k : ℕ) (rest : List ℕ)
    → ((j : ℕ) (later : List ℕ) → later ≡ drop j bytes → AreBytes later → length later ≤ n → bare_within n later ≡ Ok later)
    → rest ≡ drop k bytes → AreBytes rest → length rest ≤ suc n → (r : Result (List Operation × List ℕ) BundleFault) → bundle_at rest ≡ r
    → after_first (Ok (first_bare rest r)) (λ later. bare_within n later) ≡ Ok rest
unfolding bare_within
plain_on bytes n k rest next e fits w (Err fault) p = ap Ok (append-nil rest)
plain_on bytes n k rest next e fits w (Ok x) p =
    let t = bundle_reads.takes rest x.0 x.1 fits p in
    let m = length (bundle x.0) in
    let long = ap length t.0.parts ∙ length-append (bundle x.0) x.1 in
    let place : x.1 ≡ drop (k + m) bytes =
    sym (drop_at (bundle x.0) x.1 m refl) ∙ sym (ap (drop m) t.0.parts) ∙ ap (drop m) e ∙ drop-drop m k bytes in
    let count : length rest - length x.1 ≡ m = omega (arith, long) in
    let front : take (length rest - length x.1) rest ≡ bundle x.0 =
    ap (λ j. take j rest) count ∙ ap (take m) t.0.parts ∙ take_at (bundle x.0) x.1 m refl in
    ap (before (take (length rest - length x.1) rest)) (next (k + m) x.1 place t.0.rest_fits (omega (arith, long, some_bundle x.0, w)))
    ∙ ap (λ (f : List ℕ). Ok (f ++ x.1)) front ∙ ap Ok (sym t.0.parts)

plain_within : (bytes : List ℕ) → IsNowhere bytes → (n k : ℕ) (rest : List ℕ) → rest ≡ drop k bytes → AreBytes rest → length rest ≤ n
    → bare_within n rest ≡ Ok rest
unfolding bare_within
plain_within bytes none n k [] e fits w = refl
plain_within bytes none zero k (b ∷ rest) e fits w = absurd (omega (arith, w))
plain_within bytes none (suc n) k (b ∷ rest) e fits w =
    rw (not_begun bytes k (b ∷ rest) none (omega arith) e)
    (plain_on bytes n k (b ∷ rest) (plain_within bytes none n) e fits w (bundle_at (b ∷ rest)) refl)

-- such bytes are what they are
pub plain_stays : (bytes : List ℕ) → IsNowhere bytes → AreBytes bytes → unsealed_stream bytes ≡ Ok bytes
plain_stays bytes none fits = plain_within bytes none (length bytes) 0 bytes refl fits (omega arith)

-- ---- where no place is found, there is none

none_at : (bytes : List ℕ) (i k : ℕ) → i ≤ k → occurs_at bytes magic i ≡ false → (i < k → occurs_at bytes magic k ≡ false)
    → (b : Bool) → ltb i k ≡ b → occurs_at bytes magic k ≡ false
none_at bytes i k low here later true h = later (ltb-true i k h)
none_at bytes i k low here later false h =
    let same : k ≡ i = omega (arith, low, ltb-false i k h) in ap (occurs_at bytes magic) same ∙ here

none_from : (bytes : List ℕ) (n i : ℕ) → matches_from bytes magic 0 i n ≡ [] → (k : ℕ) → i ≤ k → k < i + n → occurs_at bytes magic k ≡ false
unfolding matches_from
none_from bytes zero i e k low high = absurd (omega (arith, low, high))
none_from bytes (suc n) i e k low high =
    elim (chosen (occurs_at bytes magic i) _ _ _ e) [
      | inl p ↦ cc p.1
      | inr p ↦ none_at bytes i k low p.0
          (λ less. none_from bytes n (i + 1) p.1 k (omega (arith, less)) (omega (arith, high))) (ltb i k) refl
    ]

no_place : (places : List ℕ) → is_some (first_of places) ≡ false → places ≡ []
unfolding first_of
no_place [] h = refl
no_place (k ∷ places) h = cc h

pub is_nowhere : (bytes : List ℕ) → has_seal bytes ≡ false → IsNowhere bytes
is_nowhere bytes h k at =
    let none = none_from bytes (length bytes + 1 - 0) 0 (no_place (matches bytes magic 0) h) k (omega arith) (omega (arith, at.fits)) in
    absurd (false≢true (sym none ∙ occurs_at-true bytes magic k at))

-- bytes without the magic of a sealed bundle are what they are
pub bare_stays : (bytes : List ℕ) → AreBytes bytes → has_seal bytes ≡ false → unsealed_stream bytes ≡ Ok bytes
bare_stays bytes fits h = plain_stays bytes (is_nowhere bytes h) fits
