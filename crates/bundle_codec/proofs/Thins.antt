-- A walk over the operations of a set that writes each of them, without its text where one of its segment names it.
use Rattle.std.proofs.Common.{◌≡◌, ℕ, suc, ◌+◌, ◌≤◌, Bool, true, false, cond, ◌&&◌, List, [], ◌∷◌, ◌++◌, length, map, filter, sym, ap, ◌∙◌, arith}
use Rattle.std.proofs.Math.Bool.{and-true, and-false, and_assoc}
use Rattle.std.specs.List.{flat_map}
use Rattle.std.proofs.lemmas.List.{append-nil, append_assoc}
use Rattle.op_core.specs.Ops.{Operation, is_full, bare}
use Rattle.op_core.specs.Thinned.{all_full, is_past, is_left_out, thinned_in, thin}
use Rattle.op_core.proofs.ThinnedSets.Past.{counts_within}
use Rattle.bundle_codec.specs.Loops.Naming.{Named, has_named, HoldsNamed}
use Rattle.bundle_codec.specs.Spelling.{operation}

-- what is to be written of the rest
abbrev pub thinned_of : List Operation → List Operation → List Operation
thinned_of all rest = map (thinned_in all) rest

-- how many texts of the rest are left out
abbrev pub left_out_of : List Operation → List Operation → ℕ
left_out_of all rest = length (filter (is_left_out all) rest)

pub record Thins (all rest : List Operation) (before bytes : List ℕ) (full : Bool) (count : ℕ) : Type 0 where
  pub written : bytes ++ flat_map operation (thinned_of all rest) ≡ before ++ flat_map operation (thin all)
  pub format : (full && all_full (thinned_of all rest)) ≡ all_full (thin all)
  pub counted : count + left_out_of all rest ≡ left_out_of all all

pub begins : (all it : List Operation) (before : List ℕ) → it ≡ all → Thins all it before before true 0
begins all it before same = record {
  written = ap (λ (w : List Operation). before ++ flat_map operation (thinned_of all w)) same;
  format = ap (λ (w : List Operation). all_full (thinned_of all w)) same;
  counted = omega (arith, ap (left_out_of all) same);
}

module _ (all it rest : List Operation) (o : Operation) (before bytes : List ℕ) (full : Bool) (count : ℕ) (next : it ≡ o ∷ rest)
    (w : Thins all it before bytes full count) where
  -- the operation is written as it is wanted
  module _ (p : Operation) (is : thinned_in all o ≡ p) where
    with_it : thinned_of all it ≡ p ∷ thinned_of all rest
    with_it = ap (thinned_of all) next ∙ ap (λ (q : Operation). q ∷ thinned_of all rest) is

    written_on : (now : List ℕ) → now ≡ bytes ++ operation p
        → now ++ flat_map operation (thinned_of all rest) ≡ before ++ flat_map operation (thin all)
    written_on now e =
        ap (λ (b : List ℕ). b ++ flat_map operation (thinned_of all rest)) e
        ∙ append_assoc bytes (operation p) (flat_map operation (thinned_of all rest))
        ∙ ap (λ (ops : List Operation). bytes ++ flat_map operation ops) (sym with_it) ∙ w.written

    format_on : (still : Bool) → still ≡ (full && is_full p) → (still && all_full (thinned_of all rest)) ≡ all_full (thin all)
    format_on still f =
        ap (λ b. b && all_full (thinned_of all rest)) f ∙ and_assoc full (is_full p) (all_full (thinned_of all rest))
        ∙ ap (λ (ops : List Operation). full && all_full ops) (sym with_it) ∙ w.format

  left_out_at : (b : Bool) → is_left_out all o ≡ b
      → left_out_of all it ≡ length (cond b (o ∷ filter (is_left_out all) rest) (filter (is_left_out all) rest))
  left_out_at b e =
      ap (left_out_of all) next ∙ ap (λ c. length (cond c (o ∷ filter (is_left_out all) rest) (filter (is_left_out all) rest))) e

  -- it is not past, and stays
  pub keeps : is_past all o ≡ false → (now : List ℕ) (still : Bool) → now ≡ bytes ++ operation o → still ≡ (full && is_full o)
      → Thins all rest before now still count
  keeps off now still e f =
      let stays = ap (λ b. cond b (bare o) o) off in
      record {
        written = written_on o stays now e;
        format = format_on o stays still f;
        counted = ap (λ n. count + n) (sym (left_out_at false (ap (λ b. b && is_full o) off))) ∙ w.counted;
      }

  module _ (on : is_past all o ≡ true) (now : List ℕ) (e : now ≡ bytes ++ operation (bare o)) where
    goes : thinned_in all o ≡ bare o
    goes = ap (λ b. cond b (bare o) o) on

    left : (b : Bool) → is_full o ≡ b → is_left_out all o ≡ b
    left b f = ap (λ c. c && is_full o) on ∙ f

    -- it is past, and had its text
    pub leaves_out : is_full o ≡ true → Thins all rest before now false (count + 1)
    leaves_out f = record {
      written = written_on (bare o) goes now e;
      format = format_on (bare o) goes false (sym (and-false full));
      counted = omega (arith, left_out_at true (left true f), w.counted);
    }

    -- it is past, and was thinned before
    pub stays_out : is_full o ≡ false → Thins all rest before now false count
    stays_out f = record {
      written = written_on (bare o) goes now e;
      format = format_on (bare o) goes false (sym (and-false full));
      counted = ap (λ n. count + n) (sym (left_out_at false (left false f))) ∙ w.counted;
    }

    -- one more can be counted
    pub counts_one : is_full o ≡ true → suc count ≤ length all
    counts_one f = omega (arith, left_out_at true (left true f), w.counted, counts_within (is_left_out all) all)

-- an operation is past where its id is named
pub past_at : (all : List Operation) (named : Named) (o : Operation) (answer b : Bool) → HoldsNamed all named
    → answer ≡ has_named named o.segment o.id → answer ≡ b → is_past all o ≡ b
past_at all named o answer b holds e is = sym (holds o.segment o.id) ∙ sym e ∙ is

-- at the end all are written
module _ (all it : List Operation) (before bytes : List ℕ) (full : Bool) (count : ℕ) (end : it ≡ [])
    (w : Thins all it before bytes full count) where
  none : thinned_of all it ≡ []
  none = ap (thinned_of all) end

  pub all_written : bytes ≡ before ++ flat_map operation (thin all)
  all_written = sym (append-nil bytes) ∙ ap (λ (ops : List Operation). bytes ++ flat_map operation ops) (sym none) ∙ w.written

  pub full_is : full ≡ all_full (thin all)
  full_is = sym (and-true full) ∙ ap (λ (ops : List Operation). full && all_full ops) (sym none) ∙ w.format

  pub count_is : count ≡ length (filter (is_left_out all) all)
  count_is = omega (arith, ap (left_out_of all) end, w.counted)
