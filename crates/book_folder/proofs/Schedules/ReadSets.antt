-- Sets that are read from bundles, and the bundles of what is made of them.
use Rattle.std.proofs.Common.{◌≡◌, ◌<◌, ℕ, zero, suc, ◌^◌, Bool, ltb, List, [], ◌∷◌, ◌++◌, length, take, drop, filter, Option, Some, None, Result, Ok, Err}
use Rattle.std.proofs.Common.{IsTrue, refl, sym, ap, subst, ◌∙◌, arith}
use Rattle.std.specs.Int.{w64, to_be_bytes, from_be_bytes}
use Rattle.std.specs.List.{AllByRecursion, flat_map}
use Rattle.std.proofs.lemmas.List.{drop_at, length-append}
use Rattle.std.proofs.lemmas.List.Concat.{flat_map-cons}
use Rattle.op_core.specs.Ids.{Id}
use Rattle.op_core.specs.Ops.{Operation, IsOperation, or_empty}
use Rattle.op_core.specs.Sets.{IsOpSet, join, meet, meet_text}
use Rattle.op_core.specs.Thinned.{is_legal, all_full}
use Rattle.op_core.proofs.FilteredLists.{kept_each}
use Rattle.op_core.proofs.Sets.Filters.{rises-filter}
use Rattle.op_core.proofs.Sets.Union.{IsOpSet-join, each-join}
use Rattle.bundle_codec.specs.declared.fault.BundleFault.{BundleFault}
use Rattle.bundle_codec.specs.declared.fault.BundleFault.TheVariants.{Truncated}
use Rattle.bundle_codec.specs.Spelling.{operation, counted_operations, bundle, IsCounted}
use Rattle.bundle_codec.specs.Reading.{◌>>=◌, AreBytes, any, number_at, many_at, id_at, operation_at, after_operation, operations_at, counted_operations_at, fields_at, judge_thinned, bundle_at}
use Rattle.bundle_codec.specs.Joining.{nothing_after, whole_if, whole_at}
use Rattle.bundle_codec.proofs.OneSpelling.{takes_bytes, AreCounted-from_length}
use Rattle.bundle_codec.proofs.Readers.{Each, bind_ok, not_first, ok_is}
use Rattle.bundle_codec.proofs.RisingIds.{climbs-from_rises}
use Rattle.bundle_codec.proofs.Spelled.{FollowsAt, operation_reads, each_follows, magic_reads, judged_right, bundle_reads}

-- a set of operations that can be counted
pub record IsReadable (ops : List Operation) : Type 0 where
  pub set : IsOpSet ops
  pub counted : AllByRecursion IsCounted ops

-- ---- what is spelled, read to its end

-- what follows a count
number_left : (n : ℕ) (rest : List ℕ) (m : ℕ) (mid : List ℕ) → number_at w64 any Truncated (to_be_bytes w64 n ++ rest) ≡ Ok (m, mid)
    → mid ≡ rest
number_left n rest m mid e =
    let bytes = to_be_bytes w64 n ++ rest in
    let g = not_first (ltb (length bytes) 8) Truncated (Ok (from_be_bytes w64 (take 8 bytes), drop 8 bytes)) (m, mid) e in
    let q = ok_is (from_be_bytes w64 (take 8 bytes), drop 8 bytes) (m, mid) g.1 in
    sym (ap (λ (p : ℕ × List ℕ). p.1) q) ∙ drop_at (to_be_bytes w64 n) rest 8 refl

-- no operation is read of nothing
none_at : (full : Bool) (k : ℕ) (before : Option Id) → operation_at full k before [] ≡ Err Truncated
unfolding operation_at id_at
none_at full k before = refl

module _ (full : Bool) where
  abbrev one : ℕ × Option Id → List ℕ → Result (Operation × List ℕ) BundleFault
  one s bytes = operation_at full s.0 s.1 bytes

  abbrev later : ℕ → ℕ × Option Id → Operation → List ℕ → Result (List Operation × List ℕ) BundleFault
  later n s o bytes = many_at one after_operation n (after_operation s o) bytes >>= λ r. Ok (o ∷ r.0, r.1)

  -- operations that are read to the end of what some spell are these
  all_read : (n : ℕ) (s : ℕ × Option Id) (x ops : List Operation) → Each (FollowsAt full) after_operation s x
      → many_at one after_operation n s (flat_map operation x) ≡ Ok (ops, []) → ops ≡ x
  unfolding many_at
  all_read zero s [] ops h e = sym (ap (λ (p : List Operation × List ℕ). p.0) (ok_is ([], []) (ops, []) e))
  all_read zero s (o ∷ x) ops h e =
      let q = ok_is ([], flat_map operation (o ∷ x)) (ops, []) e in
      let none : length (flat_map operation (o ∷ x)) ≡ 0 = ap (λ (p : List Operation × List ℕ). length p.1) q in
      absurd (omega (
        arith,
        none,
        ap length (flat_map-cons operation o x),
        length-append (operation o) (flat_map operation x),
        takes_bytes o,
      ))
  all_read (suc n) s [] ops h e =
      let cut : Err Truncated ≡ Ok (ops, []) = ap (λ r. r >>= λ f. later n s f.0 f.1) (sym (none_at full s.0 s.1)) ∙ e in cc cut
  all_read (suc n) s (o ∷ x) ops h e =
      let more = flat_map operation x in
      let again = (operation_reads full s.0 s.1).again o more h.0 in
      let front : (one s (operation o ++ more) >>= λ f. later n s f.0 f.1) ≡ Ok (ops, []) =
      ap (λ (w : List ℕ). one s w >>= λ f. later n s f.0 f.1) (sym (flat_map-cons operation o x)) ∙ e in
      let inner : later n s o more ≡ Ok (ops, []) = ap (λ r. r >>= λ f. later n s f.0 f.1) (sym again) ∙ front in
      let g = bind_ok (many_at one after_operation n (after_operation s o) more) (λ r. Ok (o ∷ r.0, r.1)) (ops, []) inner in
      let q = ok_is (o ∷ g.0.0, g.0.1) (ops, []) g.2 in
      let left : g.0.1 ≡ [] = ap (λ (p : List Operation × List ℕ). p.1) q in
      sym (ap (λ (p : List Operation × List ℕ). p.0) q)
      ∙ ap (λ (xs : List Operation). o ∷ xs)
      (all_read n (after_operation s o) x g.0.0 h.1 (g.1 ∙ (λ i. Ok (g.0.0, left i))))

-- fields that are read to the end of the bundle of a set are that set's
fields_are : (x ops : List Operation) (full : Bool) → IsReadable x → fields_at (bundle x) ≡ Ok ((full, ops), [])
    → (all_full x ≡ full) × (ops ≡ x)
unfolding fields_at bundle counted_operations_at
fields_are x ops full h e =
    let front : (counted_operations_at (all_full x) (counted_operations x) >>= λ o. Ok ((all_full x, o.0), o.1)) ≡ Ok ((full, ops), []) =
    ap (λ r. r >>= λ m. counted_operations_at m.0 m.1 >>= λ o. Ok ((m.0, o.0), o.1))
    (sym (magic_reads.again (all_full x) (counted_operations x) tt)) ∙ e in
    let c = bind_ok (counted_operations_at (all_full x) (counted_operations x)) (λ o. Ok ((all_full x, o.0), o.1)) ((full, ops), [])
    front in
    let q = ok_is ((all_full x, c.0.0), c.0.1) ((full, ops), []) c.2 in
    let left : c.0.1 ≡ [] = ap (λ (p : (Bool × List Operation) × List ℕ). p.1) q in
    let d = bind_ok (number_at w64 any Truncated (to_be_bytes w64 (length x) ++ flat_map operation x))
    (λ count. operations_at (all_full x) count.0 (1, None) count.1) c.0 c.1 in
    let follows = each_follows (all_full x) 1 None x (climbs-from_rises (λ o. o.id) x h.set.rising) h.set.each h.counted (λ e. e) in
    let read : operations_at (all_full x) d.0.0 (1, None) (flat_map operation x) ≡ Ok (c.0.0, []) =
    ap (λ (w : List ℕ). operations_at (all_full x) d.0.0 (1, None) w)
    (sym (number_left (length x) (flat_map operation x) d.0.0 d.0.1 d.1)) ∙ d.2 ∙ (λ i. Ok (c.0.0, left i)) in (
      ap (λ (p : (Bool × List Operation) × List ℕ). p.0.0) q,
      sym (ap (λ (p : (Bool × List Operation) × List ℕ). p.0.1) q) ∙ all_read (all_full x) d.0.0 (1, None) x c.0.0 follows read,
    )

nothing_left : (ops held : List Operation) (rest : List ℕ) → nothing_after ops rest ≡ Ok held → (ops ≡ held) × (rest ≡ [])
nothing_left ops held [] e = (cc e, refl)
nothing_left ops held (b ∷ rest) e = cc e

-- the bundle of a set is read as that set, where it is read, and the set is legal
pub read_again : (x ops : List Operation) → IsReadable x → whole_at (bundle x) ≡ Ok ops → (ops ≡ x) × IsTrue (is_legal x)
unfolding bundle_at
read_again x ops h e = by (bundle_at (bundle x)) refl e
  where
    by : (r : Result (List Operation × List ℕ) BundleFault) → bundle_at (bundle x) ≡ r → whole_if r ≡ Ok ops
        → (ops ≡ x) × IsTrue (is_legal x)
    by (Err fault) f e = cc e
    by (Ok read) f e =
        let none = nothing_left read.0 ops read.1 e in
        let a = bind_ok (fields_at (bundle x)) (λ y. judge_thinned y.0.0 y.0.1 >>= λ _. Ok (y.0.1, y.1)) read f in
        let b = bind_ok (judge_thinned a.0.0.0 a.0.0.1) (λ _. Ok (a.0.0.1, a.0.1)) read a.2 in
        let q = ok_is (a.0.0.1, a.0.1) read b.2 in
        let left : a.0.1 ≡ [] = ap (λ (p : List Operation × List ℕ). p.1) q ∙ none.1 in
        let same : a.0.0.1 ≡ ops = ap (λ (p : List Operation × List ℕ). p.0) q ∙ none.0 in
        let is = fields_are x a.0.0.1 a.0.0.0 h (a.1 ∙ (λ i. Ok ((a.0.0.0, a.0.0.1), left i))) in
        let legal = (judged_right a.0.0.0 a.0.0.1 (λ full. ap all_full is.1 ∙ is.0 ∙ full) b.1).1 in
        (sym same ∙ is.1, ap is_legal (sym is.1) ∙ legal)

-- what is read of bytes is a legal set that can be counted
pub read_set : (bytes : List ℕ) (ops : List Operation) → AreBytes bytes → whole_at bytes ≡ Ok ops → IsReadable ops × IsTrue (is_legal ops)
read_set bytes ops fits e = by (bundle_at bytes) refl e
  where
    by : (r : Result (List Operation × List ℕ) BundleFault) → bundle_at bytes ≡ r → whole_if r ≡ Ok ops
        → IsReadable ops × IsTrue (is_legal ops)
    by (Err fault) f e = cc e
    by (Ok read) f e =
        let none = nothing_left read.0 ops read.1 e in
        let t = bundle_reads.takes bytes read.0 read.1 fits f in
        subst (λ (xs : List Operation). IsReadable xs × IsTrue (is_legal xs)) none.0
        (record { set = t.1.0.0; counted = t.1.0.1.each }, t.1.1)

-- ---- what is made of sets

-- a set whose bundle is of less than 2^64 bytes can be counted
pub short_set : (x : List Operation) → IsOpSet x → length (bundle x) < 2 ^ 64 → IsReadable x
short_set x set short = record { set = set; counted = (AreCounted-from_length x short).each }

pub nothing_set : IsReadable []
nothing_set = record { set = record { rising = refl; each = tt }; counted = tt }

-- some of a set
pub some_set : (p : Operation → Bool) (x : List Operation) → IsReadable x → IsReadable (filter p x)
some_set p x h = record {
  set = record { rising = rises-filter p x h.set.rising; each = kept_each IsOperation p x h.set.each };
  counted = kept_each IsCounted p x h.counted;
}

meet_counted : (p o : Operation) → IsCounted p → IsCounted o → IsCounted (meet p o)
meet_counted p o h g = record { replaced = h.replaced; text = text p.text o.text h.text }
  where
    text : (a b : Option (List ℕ)) → length (or_empty a) < 2 ^ 64 → length (or_empty (meet_text a b)) < 2 ^ 64
    text None b h = h
    text (Some a) None h = omega arith
    text (Some a) (Some b) h = h

-- the union of two sets
pub both_set : (x y : List Operation) → IsReadable x → IsReadable y → IsReadable (join x y)
both_set x y h g = record { set = IsOpSet-join x y h.set g.set; counted = each-join IsCounted meet_counted x y h.counted g.counted }
