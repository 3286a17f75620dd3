-- What is seen of bytes that were judged is what was read of them.
use Rattle.std.proofs.Common.{Bool, true, false, ◌≡◌, ℕ, ◌-◌, ◌^◌, ◌<◌, ◌≤◌, List, [], ◌∷◌, ◌++◌, length, take, drop, Option, None, Result, Ok, Err, IsTrue, refl, sym, ap, subst, ◌∙◌, arith}
use Rattle.std.specs.List.{flat_map}
use Rattle.std.specs.Int.{w64}
use Rattle.std.proofs.lemmas.List.{take_at, drop_at, length-append, append-nil}
use Rattle.op_core.specs.Ids.{Id, is_id}
use Rattle.op_core.specs.Ops.{Operation}
use Rattle.op_core.specs.Sets.{IsOpSet}
use Rattle.op_core.specs.Thinned.{is_legal, all_full}
use Rattle.bundle_codec.specs.declared.fault.BundleFault.{BundleFault}
use Rattle.bundle_codec.specs.declared.fault.BundleFault.TheVariants.{Memory, Magic, Truncated, NotRising, BadId, BadKey, BadReplaced, BadTag, NotUtf8, BadText, Unsupported}
use Rattle.bundle_codec.specs.Spelling.{id, operation, bundle}
use Rattle.bundle_codec.specs.Reading.{AreBytes, ◌>>=◌, any, number_at, many_at, id_at, named_at, after_id, operation_at, after_operation, operations_at, counted_operations_at, fields_at, judge_thinned, bundle_at, RefusesBundle, ahead}
use Rattle.bundle_codec.specs.Views.{each_at, found, each_id_at, each_operation_at, operations_in, SpellsSet, Spells}
use Rattle.bundle_codec.proofs.Readers.{Each, Reader, Reads, many_reads, bind_ok, ok_is}
use Rattle.bundle_codec.proofs.FieldReaders.{number_reads, wide64}
use Rattle.bundle_codec.proofs.FieldsSpelled.{IsNamed, id_reads, named_reads}
use Rattle.bundle_codec.proofs.Spelled.{Follows, FollowsAt, IsSpelled, IsSpelledIn, any_tag, operation_reads, operations_follow, counted_operations_reads, of_set, fields_reads, judged_right, bundle_reads}
use Rattle.bundle_codec.proofs.OneSpelling.{AreCounted-from_length}

-- ---- bytes that are left

-- the bytes without those that are left at their end
abbrev pub without : List ℕ → List ℕ → List ℕ
without bytes left = take (length bytes - length left) bytes

module _ (bytes front left : List ℕ) (e : bytes ≡ front ++ left) where
  pub left_fits : length left ≤ length bytes
  left_fits = omega (arith, ap length e, length-append front left)

  pub front_length : length bytes - length left ≡ length front
  front_length = omega (arith, ap length e, length-append front left)

  pub without_is : without bytes left ≡ front
  without_is = rw front_length (ap (take (length front)) e ∙ take_at front left (length front) refl)

  pub left_is : drop (length bytes - length left) bytes ≡ left
  left_is = rw front_length (ap (drop (length front)) e ∙ drop_at front left (length front) refl)

-- ---- several values, read again each as if it stood alone

each_relaxed : {A S : Type 0} (next : S → A → S) (Fits : S → A → Type 0) (P : A → Type 0) → ((s : S) (x : A) → Fits s x → P x)
    → (s : S) (xs : List A) → Each Fits next s xs → Each {S = Unit {0}} (λ _. P) (λ t _. t) tt xs
each_relaxed next Fits P weaker s [] e = tt
each_relaxed next Fits P weaker s (x ∷ xs) e = (weaker s x e.0, each_relaxed next Fits P weaker (next s x) xs e.1)

-- values that one reader takes, each after those before it, are what another takes that asks less of them
module _ {A S : Type 0} (one : S → Reader A) (next : S → A → S) (other : Reader A) (spell : A → List ℕ) (Fits : S → A → Type 0)
    (P : A → Type 0) (reads : (s : S) → Reads (one s) spell (Fits s)) (others : Reads other spell P)
    (weaker : (s : S) (x : A) → Fits s x → P x) where
  pub each_again : (n : ℕ) (s : S) (xs : List A) (rest : List ℕ) → length xs ≡ n → Each Fits next s xs
      → each_at other n (flat_map spell xs ++ rest) ≡ Ok (xs, rest)
  each_again n s xs rest len fits = (many_reads (λ _. other) (λ (t : Unit {0}) _. t) spell (λ _. P) (λ _. others) n tt).again xs rest
      (len, each_relaxed next Fits P weaker s xs fits)

  pub each_as : (n : ℕ) (s : S) (bytes : List ℕ) (xs : List A) (rest : List ℕ) → AreBytes bytes → many_at one next n s bytes ≡ Ok (xs, rest)
      → each_at other n bytes ≡ Ok (xs, rest)
  each_as n s bytes xs rest fits e =
      let t = (many_reads one next spell Fits reads n s).takes bytes xs rest fits e in
      ap (each_at other n) t.0.parts ∙ each_again n s xs rest t.1.0 t.1.1

after_ok : {A : Type 0} (r : Result (A × List ℕ) BundleFault) (rest : List ℕ) → ahead r ≡ Ok rest → (x : A) × (r ≡ Ok (x, rest))
after_ok r rest e =
    let b = bind_ok r (λ x. Ok x.1) rest e in
    let is : b.0.1 ≡ rest = ok_is b.0.1 rest b.2 in
    (b.0.0, b.1 ∙ ap (λ (w : List ℕ). Ok (b.0.0, w)) is)

-- what was read of a list, by what is found there again
found_is : {A : Type 0} (r : Result (List A × List ℕ) BundleFault) (xs : List A) (rest : List ℕ) → r ≡ Ok (xs, rest) → found r ≡ xs
found_is r xs rest e = ap found e

-- ---- replaced ids

pub replaced_seen : (bad : BundleFault) (own : Id) (n : ℕ) (bytes rest : List ℕ) → AreBytes bytes
    → ahead (many_at (named_at bad own) after_id n None bytes) ≡ Ok rest
    → many_at (named_at bad own) after_id n None bytes ≡ Ok (found (each_id_at n bytes), rest)
replaced_seen bad own n bytes rest fits e =
    let r = after_ok (many_at (named_at bad own) after_id n None bytes) rest e in
    let again = each_as (named_at bad own) after_id (id_at Truncated) id (IsNamed own) (λ i. is_id i ≡ true) (named_reads bad own)
    (id_reads Truncated) (λ s i f. f.0) n None bytes r.0 rest fits r.1 in
    r.1 ∙ ap (λ (xs : List Id). Ok (xs, rest)) (sym (found_is (each_id_at n bytes) r.0 rest again))

-- ---- a bundle

-- the operations that follow their count, and what follows them
pub record Parts (full : Bool) (bytes : List ℕ) (n : ℕ) (operations left : List ℕ) : Type 0 where
  pub ops : List Operation
  pub read : counted_operations_at full bytes ≡ Ok (ops, left)
  pub own : operations ≡ flat_map operation ops ++ left
  pub count : length ops ≡ n
  pub set : IsSpelledIn full ops

pub counted_parts : (full : Bool) (bytes : List ℕ) (n : ℕ) (operations left : List ℕ) → AreBytes bytes
    → number_at w64 any Truncated bytes ≡ Ok (n, operations) → ahead (operations_at full n (1, None) operations) ≡ Ok left
    → Parts full bytes n operations left
unfolding counted_operations_at
counted_parts full bytes n operations left fits first second =
    let a = (number_reads w64 (2 ^ 64) wide64 any Truncated).takes bytes n operations fits first in
    let b = after_ok (operations_at full n (1, None) operations) left second in
    let t = (many_reads (λ s. operation_at full s.0 s.1) after_operation operation (FollowsAt full)
    (λ s. operation_reads full s.0 s.1) n (1, None)).takes operations b.0 left a.0.rest_fits b.1 in
    let read : counted_operations_at full bytes ≡ Ok (b.0, left) = ap (λ r. r >>= λ k. operations_at full k.0 (1, None) k.1) first ∙ b.1 in
    record {
      ops = b.0;
      read = read;
      own = t.0.parts;
      count = t.1.0;
      set = ((counted_operations_reads full).takes bytes b.0 left fits read).1;
    }

module _ (full : Bool) (bytes : List ℕ) (n : ℕ) (operations left : List ℕ) (p : Parts full bytes n operations left) where
  -- the operations are what their own bytes spell, and no more
  own_read : each_operation_at n (without operations left) ≡ Ok (p.ops, [])
  own_read =
      let again = each_again (λ (s : ℕ × Option Id). operation_at full s.0 s.1) after_operation (operation_at false 0 None) operation
      (FollowsAt full) (Follows false None) (λ s. operation_reads full s.0 s.1) (operation_reads false 0 None)
      (λ s o f. (refl, (any_tag o.text, f.1.1))) n (1, None) p.ops [] p.count (operations_follow full p.ops p.set) in
      ap (each_operation_at n) (without_is operations (flat_map operation p.ops) left p.own ∙ sym (append-nil (flat_map operation p.ops)))
      ∙ again

  pub own_part : operations_in n (without operations left) ≡ p.ops
  own_part = found_is (each_operation_at n (without operations left)) p.ops [] own_read

  pub own_spells : SpellsSet n (without operations left)
  own_spells = record {
    read = own_read ∙ ap (λ (ops : List Operation). Ok (ops, [])) (sym own_part);
    count = sym (ap length own_part ∙ p.count);
    set = subst IsOpSet (sym own_part) p.set.0.0;
  }

-- what is judged right is a legal set, and of the format that the bytes have
pub judged_spells : (full : Bool) (bytes : List ℕ) (n : ℕ) (operations : List ℕ) (rest : List ℕ) → AreBytes bytes
    → fields_at bytes ≡ Ok ((full, operations_in n operations), rest) → judge_thinned full (operations_in n operations) ≡ Ok tt
    → SpellsSet n operations → Spells full n operations
judged_spells full bytes n operations rest fits e right spells =
    let ops = operations_in n operations in
    let p = judged_right full ops (fields_reads.takes bytes (full, ops) rest fits e).1.1 right in
    record { spells = spells; legal = p.1; format = p.0 }

-- ---- what `decode` answers

-- a set that is spelled in bytes that a slice can have can be counted
spelled_in : (bytes : List ℕ) → length bytes < 2 ^ 64 → (ops : List Operation) (rest : List ℕ) → IsOpSet ops → bytes ≡ bundle ops ++ rest
    → IsSpelled ops
spelled_in bytes short ops rest set is = (set, AreCounted-from_length ops (omega (arith, ap length is, length-append (bundle ops) rest)))

-- a legal set that is spelled at the front is read
pub reads_set : (bytes : List ℕ) → length bytes < 2 ^ 64 → (ops : List Operation) (rest : List ℕ) → IsOpSet ops → IsTrue (is_legal ops)
    → bytes ≡ bundle ops ++ rest → bundle_at bytes ≡ Ok (ops, rest)
reads_set bytes short ops rest set legal is =
    ap bundle_at is ∙ bundle_reads.again ops rest (spelled_in bytes short ops rest set is, legal)

module _ (bytes : List ℕ) (fits : AreBytes bytes) (ops : List Operation) (left : List ℕ) (e : bundle_at bytes ≡ Ok (ops, left)) where
  pub read_parts : bytes ≡ bundle ops ++ left
  read_parts = (bundle_reads.takes bytes ops left fits e).0.parts

  pub is_set : IsOpSet ops
  is_set = (bundle_reads.takes bytes ops left fits e).1.0.0

  pub is_right : IsTrue (is_legal ops)
  is_right = (bundle_reads.takes bytes ops left fits e).1.1

  pub is_spelled : without bytes left ≡ bundle ops
  is_spelled = without_is bytes (bundle ops) left read_parts

  pub is_only : length bytes < 2 ^ 64 → (others : List Operation) (rest : List ℕ) → IsOpSet others → IsTrue (is_legal others)
      → bytes ≡ bundle others ++ rest → ops ≡ others
  is_only short others rest set legal is =
      let p = ok_is (ops, left) (others, rest) (sym e ∙ reads_set bytes short others rest set legal is) in
      ap (λ (x : List Operation × List ℕ). x.0) p

no_fault : {A : Type 0} (r : Result A BundleFault) (f : BundleFault) {x : A} → r ≡ Ok x → r ≡ Err f → ⊥
no_fault (Ok y) f e g = absurd cc
no_fault (Err d) f e g = absurd cc

-- Of what is spelled nothing is refused, but that memory may be, where an operation is thinned.
pub not_refused : (bytes : List ℕ) (f : BundleFault) → RefusesBundle bytes f → length bytes < 2 ^ 64
    → (others : List Operation) (rest : List ℕ) → IsOpSet others → IsTrue (is_legal others) → bytes ≡ bundle others ++ rest
    → (f ≡ Memory) × (all_full others ≡ false)
unfolding bundle
not_refused bytes f e short others rest set legal is = refused f e
  where
    read : bundle_at bytes ≡ Ok (others, rest)
    read = reads_set bytes short others rest set legal is

    refused : (g : BundleFault) → RefusesBundle bytes g → (g ≡ Memory) × (all_full others ≡ false)
    refused Memory t =
        let again : fields_at bytes ≡ Ok ((all_full others, others), rest) =
        ap fields_at is ∙ fields_reads.again (of_set others) rest (spelled_in bytes short others rest set is, λ h. h) in (
          refl,
          sym (ap (λ (x : (Bool × List Operation) × List ℕ). x.0.0) (ok_is ((false, t.ops), t.rest) (of_set others, rest)
              (sym t.read ∙ again))),
        )
    refused Magic t = absurd (no_fault (bundle_at bytes) Magic read t)
    refused Truncated t = absurd (no_fault (bundle_at bytes) Truncated read t)
    refused (NotRising k) t = absurd (no_fault (bundle_at bytes) (NotRising k) read t)
    refused (BadId k) t = absurd (no_fault (bundle_at bytes) (BadId k) read t)
    refused (BadKey k) t = absurd (no_fault (bundle_at bytes) (BadKey k) read t)
    refused (BadReplaced k) t = absurd (no_fault (bundle_at bytes) (BadReplaced k) read t)
    refused (BadTag k) t = absurd (no_fault (bundle_at bytes) (BadTag k) read t)
    refused (NotUtf8 k) t = absurd (no_fault (bundle_at bytes) (NotUtf8 k) read t)
    refused (BadText k) t = absurd (no_fault (bundle_at bytes) (BadText k) read t)
    refused (Unsupported k) t = absurd (no_fault (bundle_at bytes) (Unsupported k) read t)
