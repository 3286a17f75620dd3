-- A step of two walks that are joined, and what a loop over such steps keeps.
use Rattle.std.proofs.Common.{Bor, ◌≡◌, ℕ, ◌+◌, ◌≤◌, Bool, true, false, ◌&&◌, List, [], ◌∷◌, ◌++◌, length, Option, Some, None, is_some, refl, sym, ap, subst, ◌∙◌, append_assoc, arith, inl, inr}
use Rattle.std.proofs.Math.Bool.{and-true}
use Rattle.std.specs.declared.cmp.Ordering.TheVariants.{Less, Equal, Greater}
use Rattle.std.specs.List.{flat_map}
use Rattle.std.proofs.lemmas.List.{append-nil, length-append, flat_map_more}
use Rattle.std.proofs.lemmas.List.Folds.{list_all-append}
use Rattle.op_core.specs.Ids.{id_cmp}
use Rattle.op_core.specs.Ops.{Operation, is_full, agree}
use Rattle.op_core.specs.Sets.{rises, meet_text, meet, join, clash}
use Rattle.op_core.specs.Thinned.{all_full}
use Rattle.op_core.specs.Equal.{same_parts}
use Rattle.op_core.proofs.Sets.Agreement.{agree-is}
use Rattle.op_core.proofs.Sets.Union.{rises_parts}
use Rattle.op_core.proofs.Sets.SideBySide.{clash_none, clash_less, clash_greater, clash_equal, clash_here}
use Rattle.op_core.proofs.Sets.Fronts.{join_none, join_less, join_greater, join_tied}
use Rattle.bundle_codec.specs.Spelling.{operation}
use Rattle.bundle_codec.specs.Views.{lent}
use Rattle.bundle_codec.specs.Loops.Merging.{GoesPast, Meets, Leaves, TakesFirst}
use Rattle.bundle_codec.proofs.OneSpelling.{takes_bytes}

-- the rest of a list, by its two parts in two words
parted : (x p : Operation) (xs ps ops : List Operation) → ops ≡ x ∷ xs → ops ≡ p ∷ ps → (p ≡ x) × (ps ≡ xs)
parted x p xs ps ops e f = let h : p ∷ ps ≡ x ∷ xs = sym f ∙ e in (cc h, cc h)

not_at_end : (x : Operation) (xs ops : List Operation) → ops ≡ x ∷ xs → ops ≡ [] → ⊥
not_at_end x xs ops e none = let h : x ∷ xs ≡ [] = sym e ∙ none in cc h

-- a walk that goes past the first of some operations is not at its end
module _ (ops rest : List Operation) (x : Operation) (xs : List Operation) (e : ops ≡ x ∷ xs) where
  pub passed : (r : Option Operation) (Q : Option Operation → Type 0) → GoesPast ops rest r → (rest ≡ xs → Q (Some x)) → Q r
  passed None Q g f = absurd (not_at_end x xs ops e g.0)
  passed (Some o) Q g f = let p = parted x o xs rest ops e g in subst (λ (z : Operation). Q (Some z)) (sym p.0) (f p.1)

-- where the walk on the other side is at its end
pub steps_alone : (xs ys xs' : List Operation) (r : Option Operation) → ys ≡ [] → rises xs ≡ true → rises ys ≡ true → GoesPast xs xs' r
    → TakesFirst xs ys xs' ys r
steps_alone xs ys xs' None e hx hy g = (g.0, e)
steps_alone xs ys xs' (Some o) e hx hy g = record {
  union = (λ i. join (g i) (e i)) ∙ ap (λ (zs : List Operation). o ∷ join xs' zs) (sym e);
  same_clash = ap (clash xs') e ∙ sym (ap (clash xs) e);
  left = (rises_parts o xs' (ap rises (sym g) ∙ hx)).1;
  right = hy;
  fewer = omega (arith, ap length g);
}

pub steps_other : (xs ys ys' : List Operation) (r : Option Operation) → xs ≡ [] → rises xs ≡ true → rises ys ≡ true → GoesPast ys ys' r
    → TakesFirst xs ys xs ys' r
steps_other xs ys ys' None e hx hy g = (e, g.0)
steps_other xs ys ys' (Some o) e hx hy g =
    let h : rises (o ∷ ys') ≡ true = ap rises (sym g) ∙ hy in
    let rest = (rises_parts o ys' h).1 in
    record {
      union =
          (λ i. join (e i) (g i)) ∙ join_none (o ∷ ys') h
          ∙ ap (λ (zs : List Operation). o ∷ zs) (sym (join_none ys' rest))
          ∙ ap (λ (zs : List Operation). o ∷ join zs ys') (sym e);
      same_clash =
          ap (λ (zs : List Operation). clash zs ys') e ∙ clash_none ys' ∙ sym (ap (λ (zs : List Operation). clash zs ys) e ∙ clash_none ys);
      left = hx;
      right = rest;
      fewer = omega (arith, ap length g);
    }

-- ---- what stays of two operations that agree

thinned_text : (a : Option (List ℕ)) → None ≡ meet_text a None
thinned_text None = refl
thinned_text (Some a) = refl

-- a thinned operation stays, and else the first
pub meets_thinned : (x y : Operation) → is_full y ≡ false → agree x y ≡ true → y ≡ meet x y
meets_thinned x y thinned same = same_parts y (meet x y) (sym (agree-is x y same).bares) (by y.text refl)
  where
    by : (t : Option (List ℕ)) → y.text ≡ t → y.text ≡ meet_text x.text y.text
    by None e = e ∙ thinned_text x.text ∙ sym (ap (meet_text x.text) e)
    by (Some t) e = absurd (full (sym (ap is_some e) ∙ thinned))
      where
        full : true ≡ false → ⊥
        full h = cc h

-- what a view says of its text
pub lent_some : (r : Option (Bor (List ℕ))) (t : Option (List ℕ)) → lent r ≡ t → is_some r ≡ is_some t
lent_some None t e = ap is_some e
lent_some (Some b) t e = ap is_some e

-- where both walks have an operation at hand
module _ (xs ys ps qs : List Operation) (x y : Operation) (ex : xs ≡ x ∷ ps) (ey : ys ≡ y ∷ qs) (hx : rises xs ≡ true)
    (hy : rises ys ≡ true) where
  rx : rises (x ∷ ps) ≡ true
  rx = ap rises (sym ex) ∙ hx

  ry : rises (y ∷ qs) ≡ true
  ry = ap rises (sym ey) ∙ hy

  pub steps_less : (xs' : List Operation) (r : Option Operation) → id_cmp x.id y.id ≡ Less → GoesPast xs xs' r → TakesFirst xs ys xs' ys r
  steps_less xs' r e g = passed xs xs' x ps ex r (TakesFirst xs ys xs' ys) g (λ f. record {
    union = (λ i. join (ex i) (ey i)) ∙ join_less x y ps qs rx ry e ∙ (λ i. x ∷ join (sym f i) (sym ey i));
    same_clash = (λ i. clash (f i) (ey i)) ∙ clash_less x y ps qs rx ry e ∙ (λ i. clash (sym ex i) (sym ey i));
    left = ap rises f ∙ (rises_parts x ps rx).1;
    right = hy;
    fewer = omega (arith, ap length ex, ap length f);
  })

  pub steps_greater : (ys' : List Operation) (r : Option Operation) → id_cmp x.id y.id ≡ Greater → GoesPast ys ys' r
      → TakesFirst xs ys xs ys' r
  steps_greater ys' r e g = passed ys ys' y qs ey r (TakesFirst xs ys xs ys') g (λ f. record {
    union = (λ i. join (ex i) (ey i)) ∙ join_greater x y ps qs rx ry e ∙ (λ i. y ∷ join (sym ex i) (sym f i));
    same_clash = (λ i. clash (ex i) (f i)) ∙ clash_greater x y ps qs rx ry e ∙ (λ i. clash (sym ex i) (sym ey i));
    left = hx;
    right = ap rises f ∙ (rises_parts y qs ry).1;
    fewer = omega (arith, ap length ey, ap length f);
  })

  pub steps_tied : (xs' ys' : List Operation) (r : Option Operation) → id_cmp x.id y.id ≡ Equal → agree x y ≡ true → Meets xs ys xs' ys' r
      → TakesFirst xs ys xs' ys' r
  steps_tied xs' ys' None e same (inl h) = absurd (not_at_end x ps xs ex h)
  steps_tied xs' ys' None e same (inr h) = absurd (not_at_end y qs ys ey h)
  steps_tied xs' ys' (Some both) e same m =
      let p = parted x m.x ps xs' xs ex m.left in
      let q = parted y m.y qs ys' ys ey m.right in
      let stays : meet x y ≡ both = (λ i. meet (sym p.0 i) (sym q.0 i)) ∙ sym (m.met ((λ i. agree (p.0 i) (q.0 i)) ∙ same)) in
      record {
        union = (λ i. join (ex i) (ey i)) ∙ join_tied x y ps qs rx ry e ∙ (λ i. stays i ∷ join (sym p.1 i) (sym q.1 i));
        same_clash = (λ i. clash (p.1 i) (q.1 i)) ∙ clash_equal x y ps qs rx ry e same ∙ (λ i. clash (sym ex i) (sym ey i));
        left = ap rises p.1 ∙ (rises_parts x ps rx).1;
        right = ap rises q.1 ∙ (rises_parts y qs ry).1;
        fewer = omega (arith, ap length ex, ap length p.1, ap length ey, ap length q.1);
      }

  pub clashes : id_cmp x.id y.id ≡ Equal → agree x y ≡ false → clash xs ys ≡ Some x.id
  clashes e other = (λ i. clash (ex i) (ey i)) ∙ sym (clash_here x y ps qs rx ry e other)

-- ---- the loop

-- the operations so far are those at the front of the union
pub record Kept (a b : List Operation) (front bytes : List ℕ) (full : Bool) (count : ℕ) (xs ys : List Operation) : Type 0 where
  pub done : List Operation
  pub text : bytes ≡ front ++ flat_map operation done
  pub all : full ≡ all_full done
  pub counted : count ≡ length done
  pub fits : count ≤ length bytes
  pub union : done ++ join xs ys ≡ join a b
  pub same_clash : clash xs ys ≡ clash a b
  pub left : rises xs ≡ true
  pub right : rises ys ≡ true

pub begins : (a b : List Operation) (front : List ℕ) → rises a ≡ true → rises b ≡ true → Kept a b front front true 0 a b
begins a b front ha hb = record {
  done = [];
  text = sym (append-nil front);
  all = refl;
  counted = refl;
  fits = omega arith;
  union = refl;
  same_clash = refl;
  left = ha;
  right = hb;
}

pub all_more : (done : List Operation) (o : Operation) (full now : Bool) → full ≡ all_full done → now ≡ (full && is_full o)
    → now ≡ all_full (done ++ o ∷ [])
all_more done o full now h e =
    e ∙ (λ i. h i && sym (and-true (is_full o)) i) ∙ sym (list_all-append is_full done (o ∷ []))

pub goes_on : (a b : List Operation) (front bytes more : List ℕ) (full now : Bool) (count : ℕ) (xs ys xs' ys' : List Operation)
    (o : Operation)
    → Kept a b front bytes full count xs ys → Leaves xs ys o xs' ys' → more ≡ operation o → now ≡ (full && is_full o)
    → Kept a b front (bytes ++ more) now (count + 1) xs' ys'
goes_on a b front bytes more full now count xs ys xs' ys' o k l spelled e = record {
  done = k.done ++ o ∷ [];
  text = (λ i. k.text i ++ spelled i) ∙ flat_map_more operation front k.done o;
  all = all_more k.done o full now k.all e;
  counted = omega (arith, k.counted, length-append k.done (o ∷ []));
  fits = omega (arith, k.fits, length-append bytes more, ap length spelled, takes_bytes o);
  union = append_assoc k.done (o ∷ []) (join xs' ys') ∙ ap (λ (zs : List Operation). k.done ++ zs) (sym l.union) ∙ k.union;
  same_clash = l.same_clash ∙ k.same_clash;
  left = l.left;
  right = l.right;
}
