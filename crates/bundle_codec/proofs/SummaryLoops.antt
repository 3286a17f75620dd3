-- Values that a loop keeps while it reads them.
use Rattle.std.proofs.Common.{◌≡◌, ℕ, suc, ◌-◌, ◌+◌, ◌≤◌, ◌<◌, List, [], ◌∷◌, ◌++◌, Option, Some, None, IfSome, Result, Ok, Err, refl, sym, ap, subst, ◌∙◌, append_assoc, arith}
use Rattle.std.specs.Option.{IsSomeAnd}
use Rattle.std.proofs.lemmas.List.{append-nil}
use Rattle.bundle_codec.specs.declared.fault.BundleFault.{BundleFault}
use Rattle.bundle_codec.specs.Reading.{◌>>=◌, many_at}
use Rattle.bundle_codec.specs.Summaries.{NameRanges}
use Rattle.bundle_codec.specs.SummaryReading.{name_read, name_ranges_at, after_name}
use Rattle.bundle_codec.proofs.Readers.{Reader, ok_is}

-- what was read, after what was kept before
abbrev pub after_kept : {A : Type 0} → List A → Result (List A × List ℕ) BundleFault → Result (List A × List ℕ) BundleFault
after_kept kept read = read >>= λ others. Ok (kept ++ others.0, others.1)

after_one : {A : Type 0} (kept : List A) (x : A) (r : Result (List A × List ℕ) BundleFault)
    → after_kept kept (r >>= λ o. Ok (x ∷ o.0, o.1)) ≡ after_kept (kept ++ x ∷ []) r
after_one kept x (Ok o) = ap (λ xs. Ok (xs, o.1)) (sym (append_assoc kept (x ∷ []) o.0))
after_one kept x (Err f) = refl

pub after_none : {A : Type 0} (r : Result (List A × List ℕ) BundleFault) → after_kept [] r ≡ r
after_none (Ok o) = refl
after_none (Err f) = refl

pub kept_on : {A S : Type 0} (one : S → Reader A) (next : S → A → S) (n i : ℕ) (s : S) (bytes : List ℕ) (x : A) (left : List ℕ)
    (kept now : List A) (total : Result (List A × List ℕ) BundleFault) → i < n → one s bytes ≡ Ok (x, left) → now ≡ kept ++ x ∷ []
    → total ≡ after_kept kept (many_at one next (n - i) s bytes) → total ≡ after_kept now (many_at one next (n - (i + 1)) (next s x) left)
unfolding many_at
kept_on one next n i s bytes x left kept now total lt h more so_far =
    let k : n - i ≡ suc (n - (i + 1)) = omega arith in
    let at : after_kept kept (many_at one next (n - i) s bytes)
    ≡ after_kept (kept ++ x ∷ []) (many_at one next (n - (i + 1)) (next s x) left) =
    rw (k, h) (after_one kept x (many_at one next (n - (i + 1)) (next s x) left)) in
    so_far ∙ at ∙ ap (λ xs. after_kept xs (many_at one next (n - (i + 1)) (next s x) left)) (sym more)

pub kept_done : {A S : Type 0} (one : S → Reader A) (next : S → A → S) (n i : ℕ) (s : S) (bytes : List ℕ) (kept : List A)
    (total : Result (List A × List ℕ) BundleFault) → n ≤ i
    → total ≡ after_kept kept (many_at one next (n - i) s bytes) → total ≡ Ok (kept, bytes)
unfolding many_at
kept_done one next n i s bytes kept total le so_far =
    let k : n - i ≡ 0 = omega arith in
    let at : after_kept kept (many_at one next (n - i) s bytes) ≡ Ok (kept ++ [], bytes) = rw k refl in
    so_far ∙ at ∙ ap (λ xs. Ok (xs, bytes)) (append-nil kept)

-- what holds of the one that is there
pub if_some : {A : Type 0} (P Q : A → Type 0) (o : Option A) → ((x : A) → P x → Q x) → IfSome o P → IfSome o Q
if_some P Q None f h = tt
if_some P Q (Some x) f h = f x h

pub some_is : {A : Type 0} (P : A → Type 0) (o : Option A) (x : A) → o ≡ Some x → IfSome o P → P x
some_is P o x e h = subst (λ (r : Option _). IfSome r P) e h

-- what is kept after one thing more, if it was kept before
pub kept_more : {A : Type 0} (P Q : A → Type 0) (R : A → A → Type 0) (before after : Option A) → ((old new : A) → P old → R old new → Q new)
    → IfSome before P → IfSome after (λ new. IsSomeAnd before (λ old. R old new)) → IfSome after Q
kept_more P Q R before None f p r = tt
kept_more P Q R None (Some new) f p r = absurd r
kept_more P Q R (Some old) (Some new) f p r = f old new p r

-- ---- a name that was read with its ranges

pub record NamedSo (read : Result (NameRanges × List ℕ) BundleFault) (name left : List ℕ) : Type 0 where
  pub one : NameRanges
  pub is_read : read ≡ Ok (one, left)
  pub named : one.name ≡ name

pub named_so : (read : Result (NameRanges × List ℕ) BundleFault) (name left : List ℕ) → name_read read ≡ Ok (name, left)
    → NamedSo read name left
named_so (Ok k) name left e =
    let p = ok_is (k.0.name, k.1) (name, left) e in
    record {
      one = k.0;
      is_read = ap (λ (w : List ℕ). Ok (k.0, w)) (ap (λ (q : List ℕ × List ℕ). q.1) p);
      named = ap (λ (q : List ℕ × List ℕ). q.0) p;
    }
named_so (Err f) name left e = absurd cc

pub named_fails : (read : Result (NameRanges × List ℕ) BundleFault) (f : BundleFault) → name_read read ≡ Err f → read ≡ Err f
named_fails (Ok k) f e = absurd cc
named_fails (Err g) f e = cc

-- one name more, if it was kept with its ranges
pub name_kept : (count i : ℕ) (before : Option (List ℕ)) (rest name left : List ℕ) (one : Option NameRanges) (old new : List NameRanges)
    (total : Result (List NameRanges × List ℕ) BundleFault) → i < count → name_read (name_ranges_at before rest) ≡ Ok (name, left)
    → IfSome one (λ k. name_ranges_at before rest ≡ Ok (k, left)) → IsSomeAnd one (λ k. new ≡ old ++ k ∷ [])
    → total ≡ after_kept old (many_at name_ranges_at after_name (count - i) before rest)
    → total ≡ after_kept new (many_at name_ranges_at after_name (count - (i + 1)) (Some name) left)
name_kept count i before rest name left None old new total lt e kept more so_far = absurd more
name_kept count i before rest name left (Some k) old new total lt e kept more so_far =
    let same : k.name ≡ name = ap (λ (p : List ℕ × List ℕ). p.0) (ok_is (k.name, left) (name, left) (sym (ap name_read kept) ∙ e)) in
    subst (λ n. total ≡ after_kept new (many_at name_ranges_at after_name (count - (i + 1)) (Some n) left)) same
    (kept_on name_ranges_at after_name count i before rest k left old new total lt kept more so_far)
