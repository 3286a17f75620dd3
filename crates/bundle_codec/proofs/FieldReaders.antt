-- Readers of bytes, blocks and numbers.
use Rattle.std.proofs.Common.{◌≡◌, ℕ, ◌+◌, ◌^◌, ◌<◌, ◌≤◌, Bool, true, false, cond, eqb, ltb, List, [], ◌∷◌, ◌++◌, length, take, drop, Result, Ok, Err, refl, sym, ap, subst, ◌∙◌, arith, inl, inr, ◌⊎◌}
use Rattle.std.specs.Int.{Width, w16, w64, byte_len, from_be_bytes, to_be_bytes}
use Rattle.std.proofs.lemmas.Bool.{cases_lt, ltb-false, le-ltb, eqb-true, eq-eqb, lt-ltb}
use Rattle.std.proofs.lemmas.List.{take_at, drop_at, take-append-drop, length-append, length-take-le, take-append-le, drop-append-le}
use Rattle.std.proofs.lemmas.Nat.{be_bytes_2, be_bytes_8, from_be_bytes-to_be_bytes_2, from_be_bytes-to_be_bytes_8}
use Rattle.bundle_codec.specs.declared.fault.BundleFault.{BundleFault}
use Rattle.bundle_codec.specs.declared.fault.BundleFault.TheVariants.{Truncated}
use Rattle.bundle_codec.specs.Reading.{◌>>=◌, AreBytes, byte_at, block_at, number_at, exactly_at}
use Rattle.bundle_codec.proofs.Readers.{AreBytes-drop, AreBytes-take, AreBytes-rest, Reader, Takes, Cut, cut_made, cut_as, Reads, bind_ok, not_first, passed, ok_is}

-- ---- fields

takes_byte : (rule : ℕ → Bool) (bad : BundleFault) (bytes : List ℕ) (x : ℕ) (rest : List ℕ) → AreBytes bytes
    → byte_at rule bad bytes ≡ Ok (x, rest) → Takes bytes (x ∷ []) rest × (rule x ≡ true)
takes_byte rule bad [] x rest fits e = absurd cc
takes_byte rule bad (b ∷ bytes) x rest fits e =
    let p = passed (rule b) bad (Ok (b, bytes)) (x, rest) e in
    let q = ok_is (b, bytes) (x, rest) p.1 in
    subst (λ (y : ℕ × List ℕ). Takes (b ∷ bytes) (y.0 ∷ []) y.1 × (rule y.0 ≡ true)) q
    (record { parts = refl; rest_fits = AreBytes-rest b bytes fits }, p.0)

cut_byte : (rule : ℕ → Bool) (bad : BundleFault) (a b : List ℕ) (x : ℕ) (rest : List ℕ) → byte_at rule bad (a ++ b) ≡ Ok (x, rest)
    → Cut (byte_at rule bad) a b x rest
cut_byte rule bad [] b x rest e = inl refl
cut_byte rule bad (c ∷ a) b x rest e =
    let p = passed (rule c) bad (Ok (c, a ++ b)) (x, rest) e in
    let q = ok_is (c, a ++ b) (x, rest) p.1 in
    inr (a, rw p.0 (ap (λ n. Ok (n, a)) (ap (λ (p : ℕ × List ℕ). p.0) q)), sym (ap (λ (p : ℕ × List ℕ). p.1) q))

pub byte_reads : (rule : ℕ → Bool) (bad : BundleFault) → Reads (byte_at rule bad) (λ b. b ∷ []) (λ b. rule b ≡ true)
byte_reads rule bad = record {
  takes = takes_byte rule bad;
  again = λ b rest fits. rw fits refl;
  cut = cut_byte rule bad;
}

pub block_reads : (n : ℕ) (rule : List ℕ → Bool) (bad : BundleFault)
    → Reads (block_at n rule bad) (λ b. b) (λ b. (length b ≡ n) × (rule b ≡ true))
block_reads n rule bad = record {
  takes = λ bytes x rest fits e.
      let g = not_first (ltb (length bytes) n) Truncated _ (x, rest) e in
      let long : n ≤ length bytes = ltb-false _ _ g.0 in
      let p = passed (rule (take n bytes)) bad (Ok (take n bytes, drop n bytes)) (x, rest) g.1 in
      let q = ok_is (take n bytes, drop n bytes) (x, rest) p.1 in
      subst (λ (y : List ℕ × List ℕ). Takes bytes y.0 y.1 × ((length y.0 ≡ n) × (rule y.0 ≡ true))) q
      (record { parts = sym (take-append-drop n bytes); rest_fits = AreBytes-drop n bytes fits }, (length-take-le n bytes long, p.0));
  again = λ x rest fits.
      let long : ltb (length (x ++ rest)) n ≡ false = le-ltb _ _ (omega (arith, length-append x rest, fits.0)) in
      rw (long, take_at x rest n fits.0, drop_at x rest n fits.0, fits.1) refl;
  cut = λ a b x rest e.
      let g = not_first (ltb (length (a ++ b)) n) Truncated _ (x, rest) e in
      let p = passed (rule (take n (a ++ b))) bad (Ok (take n (a ++ b), drop n (a ++ b))) (x, rest) g.1 in
      let q = ok_is (take n (a ++ b), drop n (a ++ b)) (x, rest) p.1 in
      elim (cases_lt (length a) n) [
        | inl lt ↦ inl (rw (lt-ltb (length a) n lt) refl)
        | inr le ↦
            let front : take n (a ++ b) ≡ take n a = take-append-le n a b le in
            let back : drop n (a ++ b) ≡ drop n a ++ b = drop-append-le n a b le in
            let holds : rule (take n a) ≡ true = ap rule (sym front) ∙ p.0 in
            let is : take n a ≡ x = sym front ∙ ap (λ (p : List ℕ × List ℕ). p.0) q in
            inr (drop n a, rw (le-ltb (length a) n le, holds, is) refl, sym (ap (λ (p : List ℕ × List ℕ). p.1) q) ∙ back)
      ];
}

pub record IsWide (w : Width) (limit : ℕ) : Type 0 where
  pub len : (n : ℕ) → length (to_be_bytes w n) ≡ byte_len w
  pub back : (bytes : List ℕ) → length bytes ≡ byte_len w → AreBytes bytes → to_be_bytes w (from_be_bytes w bytes) ≡ bytes
  pub again : (n : ℕ) → n < limit → from_be_bytes w (to_be_bytes w n) ≡ n
  pub below : (bytes : List ℕ) → AreBytes bytes → from_be_bytes w bytes < limit

pub wide16 : IsWide w16 (2 ^ 16)
wide16 = record {
  len = λ n. refl;
  back = λ bytes len fits. be_bytes_2 bytes _ len fits refl;
  again = λ n lt. from_be_bytes-to_be_bytes_2 n lt;
  below = λ bytes fits. omega (arith, fits 0, fits 1);
}

pub wide64 : IsWide w64 (2 ^ 64)
wide64 = record {
  len = λ n. refl;
  back = λ bytes len fits. be_bytes_8 bytes _ len fits refl;
  again = λ n lt. from_be_bytes-to_be_bytes_8 n lt;
  below = λ bytes fits. omega (arith, fits 0, fits 1, fits 2, fits 3, fits 4, fits 5, fits 6, fits 7);
}

-- a number is a block whose bytes are read as one
abbrev number_of : Width → (ℕ → Bool) → BundleFault → Reader ℕ
number_of w rule bad bytes = block_at (byte_len w) (λ b. rule (from_be_bytes w b)) bad bytes >>= λ b. Ok (from_be_bytes w b.0, b.1)

two_tests : {A B : Type 0} (short holds : Bool) (c d : BundleFault) (x : A) (f : A → Result B BundleFault)
    → cond short (Err c) (cond holds (f x) (Err d)) ≡ (cond short (Err c) (cond holds (Ok x) (Err d)) >>= f)
two_tests true holds c d x f = refl
two_tests false true c d x f = refl
two_tests false false c d x f = refl

number-block : (w : Width) (rule : ℕ → Bool) (bad : BundleFault) (bytes : List ℕ) → number_at w rule bad bytes ≡ number_of w rule bad bytes
number-block w rule bad bytes = two_tests (ltb (length bytes) (byte_len w)) (rule (from_be_bytes w (take (byte_len w) bytes))) Truncated bad
    (take (byte_len w) bytes, drop (byte_len w) bytes) (λ b. Ok (from_be_bytes w b.0, b.1))

abbrev rule_of : Width → (ℕ → Bool) → List ℕ → Bool
rule_of w rule b = rule (from_be_bytes w b)

AreBytes-front : (bytes front rest : List ℕ) → AreBytes bytes → bytes ≡ front ++ rest → AreBytes front
AreBytes-front bytes front rest fits e =
    subst AreBytes (ap (take (length front)) e ∙ take_at front rest (length front) refl) (AreBytes-take (length front) bytes fits)

cut_number : (w : Width) (rule : ℕ → Bool) (bad : BundleFault) (a b : List ℕ) (n : ℕ) (rest : List ℕ)
    → Cut (number_of w rule bad) a b n rest → Cut (number_at w rule bad) a b n rest
cut_number w rule bad a b n rest one = subst
    (λ (r : Result (ℕ × List ℕ) BundleFault). (r ≡ Err Truncated) ⊎ ((l : List ℕ) × (r ≡ Ok (n, l)) × (rest ≡ l ++ b)))
    (sym (number-block w rule bad a)) one

pub number_reads : (w : Width) (limit : ℕ) (wide : IsWide w limit) (rule : ℕ → Bool) (bad : BundleFault)
    → Reads (number_at w rule bad) (to_be_bytes w) (λ n. (n < limit) × (rule n ≡ true))
number_reads w limit wide rule bad = record {
  takes = λ bytes n rest fits e.
      let a = bind_ok (block_at (byte_len w) (rule_of w rule) bad bytes) (λ b. Ok (from_be_bytes w b.0, b.1)) (n, rest)
      (sym (number-block w rule bad bytes) ∙ e) in
      let t = (block_reads (byte_len w) (rule_of w rule) bad).takes bytes a.0.0 a.0.1 fits a.1 in
      let q = ok_is (from_be_bytes w a.0.0, a.0.1) (n, rest) a.2 in
      let fine : AreBytes a.0.0 = AreBytes-front bytes a.0.0 a.0.1 fits t.0.parts in
      let text : to_be_bytes w (from_be_bytes w a.0.0) ≡ a.0.0 = wide.back a.0.0 t.1.0 fine in
      subst (λ (y : ℕ × List ℕ). Takes bytes (to_be_bytes w y.0) y.1 × ((y.0 < limit) × (rule y.0 ≡ true))) q (
        record { parts = t.0.parts ∙ ap (λ (v : List ℕ). v ++ a.0.1) (sym text); rest_fits = t.0.rest_fits },
        (wide.below a.0.0 fine, t.1.1),
      );
  again = λ n rest fits.
      let back = wide.again n fits.0 in
      let one = (block_reads (byte_len w) (rule_of w rule) bad).again (to_be_bytes w n) rest (wide.len n, ap rule back ∙ fits.1) in
      number-block w rule bad (to_be_bytes w n ++ rest) ∙ ap (λ r. r >>= λ b. Ok (from_be_bytes w b.0, b.1)) one
      ∙ ap (λ m. Ok (m, rest)) back;
  cut = λ a b n rest e.
      let f = bind_ok (block_at (byte_len w) (rule_of w rule) bad (a ++ b)) (λ b. Ok (from_be_bytes w b.0, b.1)) (n, rest)
      (sym (number-block w rule bad (a ++ b)) ∙ e) in
      let q = ok_is (from_be_bytes w f.0.0, f.0.1) (n, rest) f.2 in
      let one = cut_made (block_at (byte_len w) (rule_of w rule) bad) (from_be_bytes w) a b f.0.0 f.0.1
      ((block_reads (byte_len w) (rule_of w rule) bad).cut a b f.0.0 f.0.1 f.1) in
      cut_number w rule bad a b n rest (cut_as (number_of w rule bad) a b (from_be_bytes w f.0.0) n f.0.1 rest q one);
}

takes_exactly : (text : List ℕ) (bad : BundleFault) (bytes : List ℕ) (x : Unit {0}) (rest : List ℕ) → AreBytes bytes
    → exactly_at text bad bytes ≡ Ok (x, rest) → Takes bytes text rest
takes_exactly [] bad bytes x rest fits e =
    let is : bytes ≡ rest = ap (λ (p : Unit {0} × List ℕ). p.1) (ok_is (tt, bytes) (x, rest) e) in
    record { parts = is; rest_fits = subst AreBytes is fits }
takes_exactly (m ∷ text) bad [] x rest fits e = absurd cc
takes_exactly (m ∷ text) bad (b ∷ bytes) x rest fits e =
    let p = passed (eqb b m) bad (exactly_at text bad bytes) (x, rest) e in
    let t = takes_exactly text bad bytes x rest (AreBytes-rest b bytes fits) p.1 in
    record { parts = ap (λ (w : List ℕ). b ∷ w) t.parts ∙ ap (λ (c : ℕ). c ∷ (text ++ rest)) (eqb-true b m p.0); rest_fits = t.rest_fits }

exactly_again : (text : List ℕ) (bad : BundleFault) (rest : List ℕ) → exactly_at text bad (text ++ rest) ≡ Ok (tt, rest)
exactly_again [] bad rest = refl
exactly_again (m ∷ text) bad rest = rw (eq-eqb m m refl) (exactly_again text bad rest)

cut_exactly : (text : List ℕ) (bad : BundleFault) (a b : List ℕ) (x : Unit {0}) (rest : List ℕ)
    → exactly_at text bad (a ++ b) ≡ Ok (x, rest) → Cut (exactly_at text bad) a b x rest
cut_exactly [] bad a b x rest e = inr (a, refl, sym (ap (λ (p : Unit {0} × List ℕ). p.1) (ok_is (tt, a ++ b) (x, rest) e)))
cut_exactly (m ∷ text) bad [] b x rest e = inl refl
cut_exactly (m ∷ text) bad (c ∷ a) b x rest e =
    let p = passed (eqb c m) bad (exactly_at text bad (a ++ b)) (x, rest) e in
    elim (cut_exactly text bad a b x rest p.1) [
      | inl short ↦ inl (rw p.0 short)
      | inr on ↦ inr (on.0, rw p.0 on.1, on.2)
    ]

-- these bytes
pub exactly_reads : (text : List ℕ) (bad : BundleFault) → Reads (exactly_at text bad) (λ _. text) (λ _. Unit {0})
exactly_reads text bad = record {
  takes = λ bytes x rest fits e. (takes_exactly text bad bytes x rest fits e, tt);
  again = λ x rest fits. exactly_again text bad rest;
  cut = cut_exactly text bad;
}
