-- The test of equal operations holds exactly of equal operations.
use Rattle.std.proofs.Common.{◌≡◌, ℕ, true, List, [], ◌∷◌, Option, Some, None, refl, sym, ap, subst}
use Rattle.std.specs.Cmp.{IsEquivalence, decided}
use Rattle.std.specs.Cmp.Lexicographic.{pointwise}
use Rattle.std.proofs.lemmas.Bool.{and_parts, and_from, eqb-true, eq-eqb}
use Rattle.usfm_ref.specs.Segments.{same_segment}
use Rattle.usfm_ref.proofs.Orders.{same_segment-is, same_segment-refl, same_bytes-is, same_bytes-refl}
use Rattle.op_core.specs.Ids.{Id, same_id}
use Rattle.op_core.specs.Ops.{Operation, bare, with_text, same_bare, same_text, same_op}

-- ids that the test finds the same are equal
pub id_from_same : (a b : Id) → same_id a b ≡ true → a ≡ b
id_from_same a b h =
    let p = and_parts _ _ h in
    λ i. record {
      number = eqb-true a.number b.number p.0 i;
      name = same_bytes-is a.name b.name p.1
          i;
    }

-- the test finds an id the same as itself
pub same_id-refl : (a : Id) → same_id a a ≡ true
same_id-refl a = and_from _ _ (eq-eqb a.number a.number refl) (same_bytes-refl a.name)

same_ids-is : (a b : List Id) → pointwise same_id a b ≡ true → a ≡ b
same_ids-is [] [] h = refl
same_ids-is [] (y ∷ b) h = cc
same_ids-is (x ∷ a) [] h = cc
same_ids-is (x ∷ a) (y ∷ b) h = let p = and_parts (same_id x y)
    (pointwise same_id a b) h in λ i. id_from_same x y p.0 i ∷ same_ids-is a b p.1 i

same_ids-refl : (a : List Id) → pointwise same_id a a ≡ true
same_ids-refl [] = refl
same_ids-refl (x ∷ a) = and_from _ _ (same_id-refl x) (same_ids-refl a)

-- texts that the test finds equal are equal
same_text-is : (a b : Option (List ℕ)) → same_text a b ≡ true → a ≡ b
same_text-is None None h = refl
same_text-is None (Some t) h = cc
same_text-is (Some s) None h = cc
same_text-is (Some s) (Some t) h = ap Some (same_bytes-is s t h)

-- the test finds a text equal to itself
same_text-refl : (a : Option (List ℕ)) → same_text a a ≡ true
same_text-refl None = refl
same_text-refl (Some s) = same_bytes-refl s

-- operations that the test finds equal but for their texts are so
pub same_bare-is : (o p : Operation) → same_bare o p ≡ true → bare o ≡ bare p
same_bare-is o p h =
    let b = and_parts _ (pointwise same_id o.replaced p.replaced) h in
    let c = and_parts (same_id o.id p.id) (same_segment p.segment o.segment) b.0 in
    λ i. record {
      id = id_from_same o.id p.id c.0 i;
      segment = sym (same_segment-is p.segment o.segment c.1) i;
      replaced = same_ids-is o.replaced p.replaced b.1 i;
      text = None;
    }

-- the test finds an operation equal but for texts to itself
pub same_bare-refl : (o : Operation) → same_bare o o ≡ true
same_bare-refl o = and_from _ _ (and_from _ _ (same_id-refl o.id) (same_segment-refl o.segment))
    (same_ids-refl o.replaced)

-- the test finds operations that are equal but for their texts
pub same_bare-from : (o p : Operation) → bare o ≡ bare p → same_bare o p ≡ true
same_bare-from o p h =
    subst (λ (q : Operation). same_bare (bare o) q ≡ true) h (same_bare-refl (bare o))

-- an operation is its other parts with its text
pub same_parts : (o p : Operation) → bare o ≡ bare p → o.text ≡ p.text → o ≡ p
same_parts o p h e = λ i. with_text (h i) (e i)

-- operations that the test finds equal are equal
pub same_op-is : (o p : Operation) → same_op o p ≡ true → o ≡ p
same_op-is o p h =
    let a = and_parts (same_bare o p) (same_text o.text p.text) h in
    same_parts o p (same_bare-is o p a.0) (same_text-is o.text p.text a.1)

-- the test finds an operation equal to itself
pub same_op-refl : (o : Operation) → same_op o o ≡ true
same_op-refl o = and_from _ _ (same_bare-refl o) (same_text-refl o.text)

-- the test of equal operations is an equivalence
pub same_op_equiv : IsEquivalence same_op
same_op_equiv = decided same_op
    (λ o p. (same_op-is o p, λ e. subst (λ (q : Operation). same_op o q ≡ true) e (same_op-refl o)))
