-- Bytes that are one bundle and nothing more.
use Rattle.std.proofs.Common.{◌≡◌, ◌≢◌, ℕ, ◌^◌, ◌<◌, ◌≤◌, List, [], ◌∷◌, ◌++◌, length, drop, Result, Ok, Err, IsTrue, refl, sym, ap, subst, ◌∙◌, append_assoc, arith}
use Rattle.std.specs.Int.{w64, to_be_bytes}
use Rattle.std.specs.List.{flat_map}
use Rattle.std.proofs.lemmas.List.{append-nil, length-append, length-drop}
use Rattle.op_core.specs.Ops.{Operation}
use Rattle.op_core.specs.Sets.{IsOpSet}
use Rattle.op_core.specs.Thinned.{is_legal, all_full}
use Rattle.bundle_codec.specs.declared.fault.BundleFault.{BundleFault}
use Rattle.bundle_codec.specs.declared.fault.WholeFault.TheVariants.{Trailing}
use Rattle.bundle_codec.specs.Spelling.{magic_of, operation, bundle}
use Rattle.bundle_codec.specs.Reading.{AreBytes, bundle_at}
use Rattle.bundle_codec.specs.Joining.{nothing_after, whole_if, whole_at, IsBundle, IsFollowed}
use Rattle.bundle_codec.proofs.Spelled.{bundle_reads}
use Rattle.bundle_codec.proofs.OneSpelling.{AreCounted-from_length}

pub trails : (ops : List Operation) (rest : List ℕ) → rest ≢ [] → nothing_after ops rest ≡ Err Trailing
trails ops [] some = absurd (some refl)
trails ops (b ∷ rest) some = refl

-- something is left where fewer bytes were read than there are
pub some_left : (bytes : List ℕ) (n : ℕ) → n < length bytes → drop n bytes ≢ []
some_left bytes n less none = absurd (omega (arith, ap length none, length-drop n bytes))

-- what is spelled at the front of bytes that a slice can have is read
pub is_read : (ops : List Operation) (rest : List ℕ) → IsOpSet ops → IsTrue (is_legal ops) → length (bundle ops ++ rest) < 2 ^ 64
    → bundle_at (bundle ops ++ rest) ≡ Ok (ops, rest)
is_read ops rest set legal short =
    bundle_reads.again ops rest ((set, AreCounted-from_length ops (omega (arith, length-append (bundle ops) rest))), legal)

pub is_trailing : (bytes : List ℕ) → length bytes < 2 ^ 64 → IsFollowed bytes → whole_at bytes ≡ Err Trailing
is_trailing bytes short f =
    ap whole_at f.spelled
    ∙ ap whole_if (is_read f.ops f.rest f.set f.legal (omega (arith, ap length f.spelled)))
    ∙ trails f.ops f.rest f.some

-- a bundle is read as the set that it spells
pub whole_reads : (bytes : List ℕ) (b : IsBundle bytes) → whole_at bytes ≡ Ok b.ops
whole_reads bytes b =
    let alone = sym (append-nil (bundle b.ops)) in
    ap whole_at (b.spelled ∙ alone)
    ∙ ap whole_if (is_read b.ops [] b.set b.legal (omega (arith, ap length b.spelled, ap length alone, b.short)))

nothing_left : (ops held : List Operation) (rest : List ℕ) → nothing_after ops rest ≡ Ok held → (ops ≡ held) × (rest ≡ [])
nothing_left ops held [] e = (cc e, refl)
nothing_left ops held (b ∷ rest) e = cc e

-- bytes that are read to their end as a set are its bundle, and the set is legal
pub whole_is : (bytes : List ℕ) (held : List Operation) → AreBytes bytes → whole_at bytes ≡ Ok held
    → IsOpSet held × (IsTrue (is_legal held) × (bytes ≡ bundle held))
whole_is bytes held fits e = by (bundle_at bytes) refl e
  where
    by : (r : Result (List Operation × List ℕ) BundleFault) → bundle_at bytes ≡ r → whole_if r ≡ Ok held
        → IsOpSet held × (IsTrue (is_legal held) × (bytes ≡ bundle held))
    by (Err fault) f e = cc e
    by (Ok read) f e =
        let none = nothing_left read.0 held read.1 e in
        let t = bundle_reads.takes bytes read.0 read.1 fits f in (
          subst IsOpSet none.0 t.1.0.0,
          (
            subst (λ (ops : List Operation). IsTrue (is_legal ops)) none.0 t.1.1,
            t.0.parts ∙ (λ i. bundle (none.0 i) ++ none.1 i) ∙ append-nil (bundle held),
          ),
        )

-- A set that the bytes spell to their end takes them all.
pub not_whole : (bytes : List ℕ) (ops others : List Operation) (n : ℕ) → n < length bytes → n ≡ length (bundle ops)
    → bytes ≡ bundle others → ops ≡ others → ⊥
not_whole bytes ops others n less whole is same =
    omega (arith, less, whole, ap (λ (x : List Operation). length (bundle x)) same, ap length is)

-- A set that the bytes spell with something after it does not take them all.
pub not_left : (bytes : List ℕ) (ops : List Operation) (more : IsFollowed bytes) (n : ℕ) → length bytes ≤ n → n ≡ length (bundle ops)
    → ops ≡ more.ops → ⊥
not_left bytes ops more n all whole same = by more.rest refl
  where
    by : (rest : List ℕ) → more.rest ≡ rest → ⊥
    by [] e = more.some e
    by (b ∷ rest) e =
        omega (
          arith,
          all,
          whole,
          ap (λ (x : List Operation). length (bundle x)) same,
          ap length more.spelled,
          length-append (bundle more.ops) more.rest,
          ap length e,
        )

-- a bundle is its front with the count, and the operations
pub fronted : (ops : List Operation) → (magic_of (all_full ops) ++ to_be_bytes w64 (length ops)) ++ flat_map operation ops ≡ bundle ops
unfolding bundle
fronted ops = append_assoc (magic_of (all_full ops)) (to_be_bytes w64 (length ops)) (flat_map operation ops)
