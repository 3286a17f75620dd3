-- Reading values one after the other, as a loop does, and what is left of the bytes.
use Rattle.std.proofs.Common.{◌≡◌, ℕ, suc, ◌-◌, ◌+◌, ◌≤◌, ◌<◌, List, [], ◌∷◌, length, get_or, drop, Result, Ok, Err, refl, sym, ap, ◌∙◌, arith}
use Rattle.std.proofs.lemmas.List.{drop_more, drop_all}
use Rattle.std.proofs.lemmas.Bool.{eq-eqb, ne_eqb}
use Rattle.bundle_codec.specs.declared.fault.BundleFault.{BundleFault}
use Rattle.bundle_codec.specs.declared.fault.BundleFault.TheVariants.{Truncated}
use Rattle.bundle_codec.specs.Reading.{◌>>=◌, any, byte_at, exactly_at, many_at, ahead}
use Rattle.bundle_codec.proofs.Readers.{Reader, ok_is}

after_cons : {A : Type 0} (x : A) (r : Result (List A × List ℕ) BundleFault) → ahead (r >>= λ o. Ok (x ∷ o.0, o.1)) ≡ ahead r
after_cons x (Ok o) = refl
after_cons x (Err f) = refl

pub goes_on : {A S : Type 0} (one : S → Reader A) (next : S → A → S) (n i : ℕ) (s : S) (bytes : List ℕ) (x : A) (left : List ℕ)
    (total : Result (List ℕ) BundleFault) → i < n → one s bytes ≡ Ok (x, left)
    → ahead (many_at one next (n - i) s bytes) ≡ total → ahead (many_at one next (n - (i + 1)) (next s x) left) ≡ total
unfolding many_at
goes_on one next n i s bytes x left total lt h so_far =
    let k : n - i ≡ suc (n - (i + 1)) = omega arith in
    let at : ahead (many_at one next (n - i) s bytes) ≡ ahead (many_at one next (n - (i + 1)) (next s x) left) =
    rw (k, h) (after_cons x (many_at one next (n - (i + 1)) (next s x) left)) in
    sym at ∙ so_far

pub fails : {A S : Type 0} (one : S → Reader A) (next : S → A → S) (n i : ℕ) (s : S) (bytes : List ℕ) (f : BundleFault)
    (total : Result (List ℕ) BundleFault) → i < n → one s bytes ≡ Err f
    → ahead (many_at one next (n - i) s bytes) ≡ total → total ≡ Err f
unfolding many_at
fails one next n i s bytes f total lt h so_far =
    let k : n - i ≡ suc (n - (i + 1)) = omega arith in
    let at : ahead (many_at one next (n - i) s bytes) ≡ Err f = rw (k, h) refl in
    sym so_far ∙ at

pub is_done : {A S : Type 0} (one : S → Reader A) (next : S → A → S) (n i : ℕ) (s : S) (bytes : List ℕ)
    (total : Result (List ℕ) BundleFault) → n ≤ i
    → ahead (many_at one next (n - i) s bytes) ≡ total → total ≡ Ok bytes
unfolding many_at
is_done one next n i s bytes total le so_far =
    let k : n - i ≡ 0 = omega arith in
    let at : ahead (many_at one next (n - i) s bytes) ≡ Ok bytes = rw k refl in
    sym so_far ∙ at

-- ---- given bytes, one by one

one_byte : (bytes : List ℕ) (b : ℕ) (left : List ℕ) → byte_at any Truncated bytes ≡ Ok (b, left) → bytes ≡ b ∷ left
one_byte [] b left e = absurd cc
one_byte (c ∷ bytes) b left e = ap (λ (p : ℕ × List ℕ). p.0 ∷ p.1) (ok_is (c, bytes) (b, left) e)

no_byte : (bytes : List ℕ) (f : BundleFault) → byte_at any Truncated bytes ≡ Err f → (bytes ≡ []) × (f ≡ Truncated)
no_byte [] f e = (refl, cc)
no_byte (c ∷ bytes) f e = absurd cc

pub same_byte : (text : List ℕ) (bad : BundleFault) (i : ℕ) (bytes : List ℕ) (b : ℕ) (left : List ℕ)
    (total : Result (Unit {0} × List ℕ) BundleFault) → i < length text → byte_at any Truncated bytes ≡ Ok (b, left) → b ≡ get_or text i 0
    → exactly_at (drop i text) bad bytes ≡ total → exactly_at (drop (i + 1) text) bad left ≡ total
same_byte text bad i bytes b left total lt front e so_far =
    let at : exactly_at (drop i text) bad bytes ≡ exactly_at (drop (i + 1) text) bad left =
    rw (drop_more text i 0 lt, one_byte bytes b left front) (rw (eq-eqb b (get_or text i 0) e) refl) in
    sym at ∙ so_far

pub other_byte : (text : List ℕ) (bad : BundleFault) (i : ℕ) (bytes : List ℕ) (b : ℕ) (left : List ℕ)
    (total : Result (Unit {0} × List ℕ) BundleFault) → i < length text → byte_at any Truncated bytes ≡ Ok (b, left)
    → (b ≡ get_or text i 0 → ⊥)
    → exactly_at (drop i text) bad bytes ≡ total → total ≡ Err bad
other_byte text bad i bytes b left total lt front ne so_far =
    let at : exactly_at (drop i text) bad bytes ≡ Err bad =
    rw (drop_more text i 0 lt, one_byte bytes b left front) (rw (ne_eqb b (get_or text i 0) ne) refl) in
    sym so_far ∙ at

pub cut_byte : (text : List ℕ) (bad : BundleFault) (i : ℕ) (bytes : List ℕ) (f : BundleFault)
    (total : Result (Unit {0} × List ℕ) BundleFault) → i < length text → byte_at any Truncated bytes ≡ Err f
    → exactly_at (drop i text) bad bytes ≡ total → total ≡ Err f
cut_byte text bad i bytes f total lt front so_far =
    let n = no_byte bytes f front in
    let at : exactly_at (drop i text) bad bytes ≡ Err f = rw (drop_more text i 0 lt, n.0, n.1) refl in
    sym so_far ∙ at

pub all_bytes : (text : List ℕ) (bad : BundleFault) (i : ℕ) (left : List ℕ) (total : Result (Unit {0} × List ℕ) BundleFault)
    → length text ≤ i
    → exactly_at (drop i text) bad left ≡ total → total ≡ Ok (tt, left)
all_bytes text bad i left total le so_far =
    let at : exactly_at (drop i text) bad left ≡ Ok (tt, left) = rw (drop_all i text le) refl in
    sym so_far ∙ at
