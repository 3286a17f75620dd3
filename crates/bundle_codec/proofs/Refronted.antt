-- Operations after a front are a bundle once their format and their count are written over it.
use Rattle.std.proofs.Common.{◌≡◌, ℕ, ◌≤◌, Bool, true, List, ◌++◌, length, take, drop, refl, sym, ap, ◌∙◌, ◌+◌, append_assoc, arith}
use Rattle.std.specs.Int.{w64, to_be_bytes}
use Rattle.std.specs.List.{flat_map}
use Rattle.std.proofs.lemmas.List.{length-append, take_at, drop_at}
use Rattle.op_core.specs.Ops.{Operation}
use Rattle.op_core.specs.Thinned.{all_full}
use Rattle.bundle_codec.specs.Spelling.{magic_of, operation, bundle}

-- the front that is written first
abbrev pub begun : List ℕ
begun = magic_of true ++ to_be_bytes w64 0

begun_length : length begun ≡ 16
unfolding magic_of
begun_length = refl

module _ (ops : List Operation) (bytes : List ℕ) (e : bytes ≡ begun ++ flat_map operation ops) where
  pub has_front : 16 ≤ length bytes
  has_front = omega (arith, ap length e, length-append begun (flat_map operation ops), begun_length)

  pub refronted : (full : Bool) (count : ℕ) (made : List ℕ) → full ≡ all_full ops → count ≡ length ops
      → made ≡ (magic_of full ++ to_be_bytes w64 count) ++ drop 16 bytes → made ≡ bundle ops
  unfolding bundle
  refronted full count made f k h =
      h ∙ (λ i. (magic_of (f i) ++ to_be_bytes w64 (k i)) ++ (ap (drop 16) e ∙ drop_at begun (flat_map operation ops) 16 begun_length) i)
      ∙ append_assoc (magic_of (all_full ops)) (to_be_bytes w64 (length ops)) (flat_map operation ops)

-- the same where they stand after other bytes
module _ (before : List ℕ) (at : ℕ) (here : at ≡ length before) (ops : List Operation) (bytes : List ℕ)
    (e : bytes ≡ (before ++ begun) ++ flat_map operation ops) where
  both : length (before ++ begun) ≡ at + 16
  both = omega (arith, length-append before begun, begun_length, here)

  pub has_front_at : at + 16 ≤ length bytes
  has_front_at = omega (arith, ap length e, length-append (before ++ begun) (flat_map operation ops), both)

  kept : take at bytes ≡ before
  kept =
      ap (take at) (e ∙ append_assoc before begun (flat_map operation ops))
      ∙ take_at before (begun ++ flat_map operation ops) at (sym here)

  pub refronted_at : (full : Bool) (count : ℕ) (made : List ℕ) → full ≡ all_full ops → count ≡ length ops
      → made ≡ take at bytes ++ ((magic_of full ++ to_be_bytes w64 count) ++ drop (at + 16) bytes) → made ≡ before ++ bundle ops
  unfolding bundle
  refronted_at full count made f k h =
      h
      ∙ (λ i. kept i ++ ((magic_of (f i) ++ to_be_bytes w64 (k i))
      ++ (ap (drop (at + 16)) e ∙ drop_at (before ++ begun) (flat_map operation ops) (at + 16) both) i))
      ∙ ap (λ (w : List ℕ). before ++ w) (append_assoc (magic_of (all_full ops)) (to_be_bytes w64 (length ops)) (flat_map operation ops))
