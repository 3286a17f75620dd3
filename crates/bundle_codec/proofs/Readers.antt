-- What a reader and a spelling have to do with each other, for what is made of fields.
use Rattle.std.proofs.Common.{◌≡◌, ℕ, zero, suc, ◌+◌, Bool, true, false, cond, List, [], ◌∷◌, ◌++◌, length, take, drop, Result, Ok, Err, refl, sym, ap, subst, ◌∙◌, append_assoc, arith, inl, inr, ◌⊎◌}
use Rattle.std.specs.List.{flat_map}
use Rattle.std.proofs.lemmas.Bool.{cases_lt}
use Rattle.std.proofs.lemmas.List.{length-take, get_or-drop, get_or-take, get_or_past}
use Rattle.std.proofs.lemmas.List.Concat.{flat_map-cons}
use Rattle.bundle_codec.specs.declared.fault.BundleFault.{BundleFault}
use Rattle.bundle_codec.specs.declared.fault.BundleFault.TheVariants.{Truncated}
use Rattle.bundle_codec.specs.Reading.{◌>>=◌, AreBytes, check, many_at}

-- bytes are left where some are taken off their front
pub AreBytes-drop : (n : ℕ) (bytes : List ℕ) → AreBytes bytes → AreBytes (drop n bytes)
AreBytes-drop n bytes h i = rw get_or-drop (h (n + i))

pub AreBytes-take : (n : ℕ) (bytes : List ℕ) → AreBytes bytes → AreBytes (take n bytes)
AreBytes-take n bytes h i =
    elim (cases_lt i n) [
      | inl lt ↦ rw (get_or-take n bytes i 0 lt) (h i)
      | inr le ↦ rw (get_or_past (take n bytes) i 0 (omega (arith, length-take n bytes))) (omega arith)
    ]

pub AreBytes-rest : (b : ℕ) (bytes : List ℕ) → AreBytes (b ∷ bytes) → AreBytes bytes
AreBytes-rest b bytes h i = h (suc i)

-- each of a list fits after those before it
abbrev pub Each : {A S : Type 0} → (S → A → Type 0) → (S → A → S) → S → List A → Type 0
Each Fits next s [] = Unit {0}
Each Fits next s (x ∷ xs) = Fits s x × Each Fits next (next s x) xs

abbrev pub Reader : Type 0 → Type 0
Reader A = List ℕ → Result (A × List ℕ) BundleFault

-- a reader took the text from the front
pub record Takes (bytes text rest : List ℕ) : Type 0 where
  pub parts : bytes ≡ text ++ rest
  pub rest_fits : AreBytes rest

-- one text after another was taken
takes_then : (bytes text mid more rest : List ℕ) → Takes bytes text mid → Takes mid more rest → Takes bytes (text ++ more) rest
takes_then bytes text mid more rest s t = record {
  parts = s.parts ∙ ap (λ (w : List ℕ). text ++ w) t.parts ∙ sym (append_assoc text more rest);
  rest_fits = t.rest_fits;
}

-- what a reader does with a front of an input that it reads: it is cut, or it reads the same
abbrev pub Cut : {A : Type 0} → Reader A → List ℕ → List ℕ → A → List ℕ → Type 0
Cut read a b x rest = (read a ≡ Err Truncated) ⊎ ((r : List ℕ) × (read a ≡ Ok (x, r)) × (rest ≡ r ++ b))

-- a cut front is cut for what reads on, too
cut_then : {A C : Type 0} (first : Reader A) (then : A → Reader C) (a b : List ℕ) (x : A) (mid : List ℕ) (c : C) (rest : List ℕ)
    → Cut first a b x mid → ((left : List ℕ) → mid ≡ left ++ b → Cut (then x) left b c rest)
    → Cut (λ bytes. first bytes >>= λ y. then y.0 y.1) a b c rest
cut_then first then a b x mid c rest one on =
    elim one [
      | inl short ↦ inl (ap (λ r. r >>= λ y. then y.0 y.1) short)
      | inr front ↦
          let same : (first a >>= λ y. then y.0 y.1) ≡ then x front.0 = ap (λ r. r >>= λ y. then y.0 y.1) front.1 in
          elim (on front.0 front.2) [
            | inl short ↦ inl (same ∙ short)
            | inr more ↦ inr (more.0, same ∙ more.1, more.2)
          ]
    ]

-- and for what is made of the value
pub cut_made : {A C : Type 0} (read : Reader A) (make : A → C) (a b : List ℕ) (x : A) (rest : List ℕ) → Cut read a b x rest
    → Cut (λ bytes. read bytes >>= λ y. Ok (make y.0, y.1)) a b (make x) rest
cut_made read make a b x rest one =
    elim one [
      | inl short ↦ inl (ap (λ r. r >>= λ y. Ok (make y.0, y.1)) short)
      | inr front ↦ inr (front.0, ap (λ r. r >>= λ y. Ok (make y.0, y.1)) front.1, front.2)
    ]

-- a reader of the same value and the same rest
pub cut_as : {A : Type 0} (read : Reader A) (a b : List ℕ) (x y : A) (mid rest : List ℕ) → ◌≡◌ {A = A × List ℕ} (x, mid) (y, rest)
    → Cut read a b x mid → Cut read a b y rest
cut_as read a b x y mid rest e one = subst (λ (p : _ × List ℕ). Cut read a b p.0 p.1) e one

-- a reader of what is spelled so and fits
pub record Reads {A : Type 0} (read : Reader A) (spell : A → List ℕ) (Fits : A → Type 0) : Type 0 where
  pub takes : (bytes : List ℕ) (x : A) (rest : List ℕ) → AreBytes bytes → read bytes ≡ Ok (x, rest) → Takes bytes (spell x) rest × Fits x
  pub again : (x : A) (rest : List ℕ) → Fits x → read (spell x ++ rest) ≡ Ok (x, rest)
  pub cut : (a b : List ℕ) (x : A) (rest : List ℕ) → read (a ++ b) ≡ Ok (x, rest) → Cut read a b x rest

-- the value of a step that did not fail
pub bind_ok : {A B : Type 0} (r : Result A BundleFault) (f : A → Result B BundleFault) (y : B) → (r >>= f) ≡ Ok y
    → (x : A) × (r ≡ Ok x) × (f x ≡ Ok y)
bind_ok (Ok x) f y e = (x, refl, e)
bind_ok (Err d) f y e = absurd cc

-- a test that failed goes elsewhere
pub not_first : {A : Type 0} (b : Bool) (d : BundleFault) (x : Result A BundleFault) (y : A) → cond b (Err d) x ≡ Ok y
    → (b ≡ false) × (x ≡ Ok y)
not_first true d x y e = absurd cc
not_first false d x y e = (refl, e)

pub passed : {A : Type 0} (b : Bool) (d : BundleFault) (x : Result A BundleFault) (y : A) → cond b x (Err d) ≡ Ok y
    → (b ≡ true) × (x ≡ Ok y)
passed true d x y e = (refl, e)
passed false d x y e = absurd cc

abbrev done : {A : Type 0} → A → Result A BundleFault
done x = Ok x

-- readings that end alike read the same
pub ok_is : {A : Type 0} (x y : A) → done x ≡ done y → x ≡ y
ok_is x y e = cc

-- ---- one reader after another

-- The first field is a part of the value; the rest of the reader may depend on it.
pub step : {A C : Type 0} {first : Reader A} {spell : A → List ℕ} {Fits : A → Type 0} {then : A → Reader C} {spell_rest : C → List ℕ}
    {FitsRest : A → C → Type 0} (part : C → A)
    → Reads first spell Fits → ((x : A) → Reads (then x) spell_rest (FitsRest x)) → ((x : A) (c : C) → Fits x → FitsRest x c → part c ≡ x)
    → Reads (λ bytes. first bytes >>= λ x. then x.0 x.1) (λ c. spell (part c) ++ spell_rest c) (λ c. Fits (part c) × FitsRest (part c) c)
step {first = first} {spell = spell} {Fits = Fits} {then = then} {spell_rest = spell_rest} {FitsRest = FitsRest} part one others is_part =
    record {
      takes = λ bytes c rest fits e.
          let a = bind_ok (first bytes) (λ x. then x.0 x.1) (c, rest) e in
          let s = one.takes bytes a.0.0 a.0.1 fits a.1 in
          let t = (others a.0.0).takes a.0.1 c rest s.0.rest_fits a.2 in
          let same = is_part a.0.0 c s.1 t.1 in
          subst (λ (x : _). Takes bytes (spell x ++ spell_rest c) rest × (Fits x × FitsRest x c)) (sym same)
          (takes_then bytes (spell a.0.0) a.0.1 (spell_rest c) rest s.0 t.0, (s.1, t.1));
      again = λ c rest fits.
          ap (λ (w : List ℕ). first w >>= λ x. then x.0 x.1) (append_assoc (spell (part c)) (spell_rest c) rest)
          ∙ ap (λ r. r >>= λ x. then x.0 x.1) (one.again (part c) (spell_rest c ++ rest) fits.0)
          ∙ (others (part c)).again c rest fits.1;
      cut = λ a b c rest e.
          let f = bind_ok (first (a ++ b)) (λ x. then x.0 x.1) (c, rest) e in
          cut_then first then a b f.0.0 f.0.1 c rest (one.cut a b f.0.0 f.0.1 f.1)
          (λ left same. (others f.0.0).cut left b c rest (ap (then f.0.0) (sym same) ∙ f.2));
    }

-- nothing is left to read
pub ends : {C : Type 0} (made : C) → Reads (λ bytes. Ok (made, bytes)) (λ c. []) (λ c. made ≡ c)
ends made = record {
  takes = λ bytes c rest fits e.
      let p = ok_is (made, bytes) (c, rest) e in
      let rest_is : bytes ≡ rest = ap (λ (p : _ × List ℕ). p.1) p in
      (record { parts = rest_is; rest_fits = subst AreBytes rest_is fits }, ap (λ (p : _ × List ℕ). p.0) p);
  again = λ c rest is. ap (λ m. Ok (m, rest)) is;
  cut = λ a b c rest e.
      let p = ok_is (made, a ++ b) (c, rest) e in
      inr (a, ap (λ m. Ok (m, a)) (ap (λ (p : _ × List ℕ). p.0) p), sym (ap (λ (p : _ × List ℕ). p.1) p));
}

-- a test between two fields
pub checked : {C : Type 0} {then : Reader C} {spell : C → List ℕ} {Fits : C → Type 0} (holds : Bool) (bad : BundleFault)
    → Reads then spell Fits
    → Reads (λ bytes. check holds bad >>= λ _. then bytes) spell (λ c. (holds ≡ true) × Fits c)
checked true bad reads = record {
  takes = λ bytes c rest fits e. let t = reads.takes bytes c rest fits e in (t.0, (refl, t.1));
  again = λ c rest fits. reads.again c rest fits.1;
  cut = λ a b c rest e. reads.cut a b c rest e;
}
checked false bad reads = record {
  takes = λ bytes c rest fits e. absurd cc;
  again = λ c rest fits. absurd cc;
  cut = λ a b c rest e. absurd cc;
}

-- a judgement of what was read, of which a value is then made
pub judged : {A C : Type 0} {read : Reader A} {spell : A → List ℕ} {Fits : A → Type 0} (back : C → A) (make : A → C)
    (judge : A → Result (Unit {0}) BundleFault) → Reads read spell Fits
    → ((x : A) → Fits x → judge x ≡ Ok tt → back (make x) ≡ x) → ((c : C) → make (back c) ≡ c)
    → Reads (λ bytes. read bytes >>= λ x. judge x.0 >>= λ _. Ok (make x.0, x.1)) (λ c. spell (back c))
    (λ c. Fits (back c) × (judge (back c) ≡ Ok tt))
judged {read = read} {spell = spell} {Fits = Fits} back make judge reads again_made made_again = record {
  takes = λ bytes c rest fits e.
      let a = bind_ok (read bytes) (λ x. judge x.0 >>= λ _. Ok (make x.0, x.1)) (c, rest) e in
      let b = bind_ok (judge a.0.0) (λ _. Ok (make a.0.0, a.0.1)) (c, rest) a.2 in
      let t = reads.takes bytes a.0.0 a.0.1 fits a.1 in
      subst (λ (y : _ × List ℕ). Takes bytes (spell (back y.0)) y.1 × (Fits (back y.0) × (judge (back y.0) ≡ Ok tt)))
      (ok_is (make a.0.0, a.0.1) (c, rest) b.2)
      (subst (λ (x : _). Takes bytes (spell x) a.0.1 × (Fits x × (judge x ≡ Ok tt))) (sym (again_made a.0.0 t.1 b.1)) (t.0, (t.1, b.1)));
  again = λ c rest fits.
      ap (λ r. r >>= λ x. judge x.0 >>= λ _. Ok (make x.0, x.1)) (reads.again (back c) rest fits.0)
      ∙ ap (λ r. r >>= λ _. Ok (make (back c), rest)) fits.1
      ∙ ap (λ m. Ok (m, rest)) (made_again c);
  cut = λ a b c rest e.
      let f = bind_ok (read (a ++ b)) (λ x. judge x.0 >>= λ _. Ok (make x.0, x.1)) (c, rest) e in
      let g = bind_ok (judge f.0.0) (λ _. Ok (make f.0.0, f.0.1)) (c, rest) f.2 in
      let same = ok_is (make f.0.0, f.0.1) (c, rest) g.2 in
      elim (reads.cut a b f.0.0 f.0.1 f.1) [
        | inl short ↦ inl (ap (λ r. r >>= λ x. judge x.0 >>= λ _. Ok (make x.0, x.1)) short)
        | inr on ↦ inr (
          on.0,
          ap (λ r. r >>= λ x. judge x.0 >>= λ _. Ok (make x.0, x.1)) on.1 ∙ ap (λ r. r >>= λ _. Ok (make f.0.0, on.0)) g.1
              ∙ ap (λ m. Ok (m, on.0)) (ap (λ (p : _ × List ℕ). p.0) same),
          sym (ap (λ (p : _ × List ℕ). p.1) same) ∙ on.2,
        )
      ];
}

-- the same in other words
pub reads_as : {C : Type 0} {read : Reader C} {spell : C → List ℕ} {Fits : C → Type 0} (spell' : C → List ℕ) (Fits' : C → Type 0)
    → Reads read spell Fits
    → ((c : C) → Fits c → Fits' c) → ((c : C) → Fits' c → Fits c) → ((c : C) → Fits' c → spell c ≡ spell' c) → Reads read spell' Fits'
reads_as {read = read} {spell = spell} spell' Fits' reads to from same = record {
  takes = λ bytes c rest fits e.
      let t = reads.takes bytes c rest fits e in
      let f = to c t.1 in
      (record { parts = t.0.parts ∙ ap (λ (w : List ℕ). w ++ rest) (same c f); rest_fits = t.0.rest_fits }, f);
  again = λ c rest fits. ap (λ (w : List ℕ). read (w ++ rest)) (sym (same c fits)) ∙ reads.again c rest (from c fits);
  cut = λ a b c rest e. reads.cut a b c rest e;
}

-- ---- many values

module _ {A S : Type 0} (one : S → Reader A) (next : S → A → S) (spell : A → List ℕ) (Fits : S → A → Type 0)
    (each : (s : S) → Reads (one s) spell (Fits s)) where
  -- the values after the first one
  abbrev others : ℕ → S → A → Reader (List A)
  others n s x bytes = many_at one next n (next s x) bytes >>= λ o. Ok (x ∷ o.0, o.1)

  many_again : (n : ℕ) (s : S) (xs : List A) (rest : List ℕ) → (length xs ≡ n) × Each Fits next s xs
      → many_at one next n s (flat_map spell xs ++ rest) ≡ Ok (xs, rest)
  unfolding many_at
  many_again zero s [] rest h = refl
  many_again zero s (x ∷ xs) rest h = absurd (omega (arith, h.0))
  many_again (suc n) s [] rest h = absurd (omega (arith, h.0))
  many_again (suc n) s (x ∷ xs) rest h =
      let regrouped : flat_map spell (x ∷ xs) ++ rest ≡ spell x ++ (flat_map spell xs ++ rest) =
      ap (λ (w : List ℕ). w ++ rest) (flat_map-cons spell x xs) ∙ append_assoc (spell x) (flat_map spell xs) rest in
      ap (many_at one next (suc n) s) regrouped
      ∙ ap (λ r. r >>= λ f. others n s f.0 f.1) ((each s).again x (flat_map spell xs ++ rest) h.1.0)
      ∙ ap (λ r. r >>= λ o. Ok (x ∷ o.0, o.1)) (many_again n (next s x) xs rest (omega (arith, h.0), h.1.1))

  takes_more : (bytes : List ℕ) (x : A) (mid : List ℕ) (xs : List A) (rest : List ℕ) → Takes bytes (spell x) mid
      → Takes mid (flat_map spell xs) rest → Takes bytes (flat_map spell (x ∷ xs)) rest
  takes_more bytes x mid xs rest s t =
      subst (λ (w : List ℕ). Takes bytes w rest) (sym (flat_map-cons spell x xs))
      (takes_then bytes (spell x) mid (flat_map spell xs) rest s t)

  pub many_reads : (n : ℕ) (s : S) → Reads (many_at one next n s) (flat_map spell) (λ xs. (length xs ≡ n) × Each Fits next s xs)
  unfolding many_at
  many_reads zero s = record {
    takes = λ bytes xs rest fits e.
        subst (λ (y : List A × List ℕ). Takes bytes (flat_map spell y.0) y.1 × ((length y.0 ≡ 0) × Each Fits next s y.0))
        (ok_is ([], bytes) (xs, rest) e)
        (record { parts = refl; rest_fits = fits }, (refl, tt));
    again = many_again zero s;
    cut = λ a b xs rest e. cut_as (many_at one next zero s) a b [] xs (a ++ b) rest (ok_is ([], a ++ b) (xs, rest) e) (inr (a, refl, refl));
  }
  many_reads (suc n) s = record {
    takes = λ bytes xs rest fits e.
        let f = bind_ok (one s bytes) (λ f. others n s f.0 f.1) (xs, rest) e in
        let g = bind_ok (many_at one next n (next s f.0.0) f.0.1) (λ o. Ok (f.0.0 ∷ o.0, o.1)) (xs, rest) f.2 in
        let t = (each s).takes bytes f.0.0 f.0.1 fits f.1 in
        let u = (many_reads n (next s f.0.0)).takes f.0.1 g.0.0 g.0.1 t.0.rest_fits g.1 in
        subst (λ (y : List A × List ℕ). Takes bytes (flat_map spell y.0) y.1 × ((length y.0 ≡ suc n) × Each Fits next s y.0))
        (ok_is (f.0.0 ∷ g.0.0, g.0.1) (xs, rest) g.2)
        (takes_more bytes f.0.0 f.0.1 g.0.0 g.0.1 t.0 u.0, (ap suc u.1.0, (t.1, u.1.1)));
    again = many_again (suc n) s;
    cut = λ a b xs rest e.
        let f = bind_ok (one s (a ++ b)) (λ f. others n s f.0 f.1) (xs, rest) e in
        let g = bind_ok (many_at one next n (next s f.0.0) f.0.1) (λ o. Ok (f.0.0 ∷ o.0, o.1)) (xs, rest) f.2 in
        cut_as (many_at one next (suc n) s) a b (f.0.0 ∷ g.0.0) xs g.0.1 rest (ok_is (f.0.0 ∷ g.0.0, g.0.1) (xs, rest) g.2)
        (cut_then (one s) (others n s) a b f.0.0 f.0.1 (f.0.0 ∷ g.0.0) g.0.1 ((each s).cut a b f.0.0 f.0.1 f.1) (λ left same.
        cut_made (many_at one next n (next s f.0.0)) (λ (o : List A). f.0.0 ∷ o) left b g.0.0 g.0.1
        ((many_reads n (next s f.0.0)).cut left b g.0.0 g.0.1 (ap (many_at one next n (next s f.0.0)) (sym same) ∙ g.1))));
  }
