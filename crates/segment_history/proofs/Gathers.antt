-- Maps of operations by their segments, and the ids that those name.
use Rattle.std.proofs.Common.{◌≡◌, ℕ, ◌+◌, ◌<◌, Bool, true, false, cond, ◌&&◌, ◌||◌, not, List, [], ◌∷◌, ◌++◌, length, take, get_or, Option, Some, None, is_some, Vec, option_map, rules, refl, sym, ap, subst, ◌∙◌, append_assoc}
use Rattle.std.specs.BTreeMap.{BTreeMap, get as value_at, is_at}
use Rattle.std.specs.BTreeSet.{BTreeSet, contains}
use Rattle.std.specs.List.{list_any}
use Rattle.std.specs.Map.{lookup}
use Rattle.std.specs.Option.{unwrap_or}
use Rattle.std.specs.declared.cmp.Ordering.{Ordering}
use Rattle.std.proofs.lemmas.List.{append-nil, take_more}
use Rattle.std.proofs.lemmas.List.Folds.{list_any-append}
use Rattle.std.proofs.Math.Bool.{and-true, or-false}
use Rattle.usfm_ref.specs.Segments.{segment_cmp, same_segment}
use Rattle.usfm_ref.specs.contracts.segment.SegmentOrd.TheImpl as ordered
use Rattle.usfm_ref.specs.contracts.segment.SegmentPartialEq.TheImpl as equal
use Rattle.usfm_ref.specs.declared.segment.Segment.{Segment}
use Rattle.usfm_ref.proofs.Orders.{same_segment-is, same_segment-refl, same_segment-cmp}
use Rattle.op_core.specs.Ids.{Id, id_cmp, same_id}
use Rattle.op_core.specs.Ops.{Operation, names}
use Rattle.op_core.specs.Lists.{is_held}
use Rattle.op_core.proofs.IdOrders.Rising.{same_id-cmp}
use Rattle.op_core.proofs.ThinnedSets.Left.{same_id-sym}
use Rattle.segment_history.specs.Histories.{of_segment}
use Rattle.segment_history.specs.Loops.Gathering.{ops_under, ops_of, AddsOp, is_one_of, HasSegments, is_naming, HasNamed, HasAwaited}

-- ---- tests of keys

-- the key that a map finds for an id is that id
pub at_id : (q k : Id) → is_at (id_cmp k) q ≡ same_id q k
at_id q k = sym (same_id-cmp k q) ∙ same_id-sym k q

segment_turned : (a b : Segment) → same_segment a b ≡ true → same_segment b a ≡ true
segment_turned a b e = subst (λ (g : Segment). same_segment g a ≡ true) (same_segment-is a b e) (same_segment-refl a)

pub same_segment_turned : (a b : Segment) → same_segment a b ≡ same_segment b a
same_segment_turned a b = by (same_segment a b) (same_segment b a) refl refl
  where
    by : (p r : Bool) → same_segment a b ≡ p → same_segment b a ≡ r → p ≡ r
    by true true e f = refl
    by true false e f = sym (segment_turned a b e) ∙ f
    by false true e f = sym e ∙ segment_turned b a f
    by false false e f = refl

-- the same of a segment
pub at_segment : (q k : Segment) → is_at (segment_cmp k) q ≡ same_segment q k
at_segment q k = sym (same_segment-cmp k q) ∙ same_segment_turned k q

-- ---- the segments, without an operation

one_more_segment : (segments : List Segment) (i : ℕ) (k q : Segment) → i < length segments → k ≡ get_or segments i k
    → is_one_of (take (i + 1) segments) q ≡ (is_one_of (take i segments) q || same_segment q k)
one_more_segment segments i k q l is =
    ap (λ (gs : List Segment). is_one_of gs q) (take_more segments i k l)
    ∙ list_any-append (same_segment q) (take i segments) (get_or segments i k ∷ [])
    ∙ ap (λ b. is_one_of (take i segments) q || b) (or-false (same_segment q (get_or segments i k)))
    ∙ ap (λ (g : Segment). is_one_of (take i segments) q || same_segment q g) (sym is)

-- the order of a map's segments is that of segments
pub cmp_is : ordered.ghosts.cmp ≡ segment_cmp
cmp_is i a b = same a b i
  where
    same : (a b : Segment) → ordered.ghosts.cmp a b ≡ segment_cmp a b
    same a b = search rules

-- whether two segments are equal is tested as the definition says
pub eq_is : (a b : Segment) → equal.ghosts.eq a b ≡ same_segment a b
eq_is a b = search rules

plus_none : (u : Option (List Operation)) → u ≡ option_map (λ ops. ops ++ []) u
plus_none None = refl
plus_none (Some ops) = ap Some (sym (append-nil ops))

module _ {A : Type 0} where
  put_by : (segments : List Segment) (i : ℕ) (k : Segment) (m n : BTreeMap Segment (Vec Operation A)) (v : Vec Operation A)
      → i < length segments → k ≡ get_or segments i k → v.items ≡ []
      → ((q : Segment) → value_at segment_cmp n q ≡ cond (is_at (segment_cmp k) q) (Some v) (value_at segment_cmp m q))
      → HasSegments [] (take i segments) m → HasSegments [] (take (i + 1) segments) n
  put_by segments i k m n v l is none updates has q =
      ap (option_map (λ w. w.items)) (updates q)
      ∙ by (is_at (segment_cmp k) q) (same_segment q k) (is_one_of (take i segments) q) (at_segment q k) (has q)
      ∙ ap (λ b. cond b (Some []) None) (sym (one_more_segment segments i k q l is))
    where
      by : (at same there : Bool) → at ≡ same → ops_under m q ≡ cond there (Some []) None
          → option_map (λ w. w.items) (cond at (Some v) (value_at segment_cmp m q)) ≡ cond (there || same) (Some []) None
      by true true true e h = ap Some none
      by true true false e h = ap Some none
      by true false there e h = absurd cc
      by false true there e h = absurd cc
      by false false true e h = h
      by false false false e h = h

  pub put_segment : (segments : List Segment) (i : ℕ) (k : Segment) (m n : BTreeMap Segment (Vec Operation A)) (v : Vec Operation A)
      → i < length segments → k ≡ get_or segments i k → v.items ≡ []
      → ((q : Segment) → value_at ordered.ghosts.cmp n q
      ≡ cond (is_at (ordered.ghosts.cmp k) q) (Some v) (value_at ordered.ghosts.cmp m q))
      → HasSegments [] (take i segments) m → HasSegments [] (take (i + 1) segments) n
  put_segment segments i k m n v l is none updates has = put_by segments i k m n v l is none
      (λ q. subst (λ (cmp : Segment → Segment → Ordering). value_at cmp n q ≡ cond (is_at (cmp k) q) (Some v) (value_at cmp m q)) cmp_is
      (updates q))
      has

  -- what is found under a segment, and that nothing is
  pub found_ops : (m : BTreeMap Segment (Vec Operation A)) (k : Segment) (v : Vec Operation A)
      → Some v ≡ value_at ordered.ghosts.cmp m k → ops_of m k ≡ v.items
  found_ops m k v e =
      ap (λ (u : Option (Vec Operation A)). unwrap_or (option_map (λ w. w.items) u) [])
      (sym (e ∙ (λ i. value_at (cmp_is i) m k)))

  pub none_ops : (m : BTreeMap Segment (Vec Operation A)) (k : Segment) → None ≡ value_at ordered.ghosts.cmp m k → ops_of m k ≡ []
  none_ops m k e =
      ap (λ (u : Option (Vec Operation A)). unwrap_or (option_map (λ w. w.items) u) [])
      (sym (e ∙ (λ i. value_at (cmp_is i) m k)))

  -- ---- one operation more

  module _ (o : Operation) (k : Segment) (is : k ≡ o.segment) (m n : BTreeMap Segment (Vec Operation A)) where
    here : (q : Segment) → same_segment o.segment q ≡ true → q ≡ k
    here q s = sym (same_segment-is o.segment q s) ∙ sym is

    held_by : (v w : Vec Operation A) → value_at segment_cmp m k ≡ Some v → w.items ≡ v.items ++ o ∷ []
        → ((q : Segment) → value_at segment_cmp n q ≡ cond (is_at (segment_cmp k) q) (Some w) (value_at segment_cmp m q))
        → AddsOp o m n
    held_by v w there more updates q =
        ap (option_map (λ x. x.items)) (updates q) ∙ by (is_at (segment_cmp k) q) (same_segment o.segment q) refl tied
      where
        tied : is_at (segment_cmp k) q ≡ same_segment o.segment q
        tied = at_segment q k ∙ ap (same_segment q) is ∙ same_segment_turned q o.segment

        by : (at same : Bool) → same_segment o.segment q ≡ same → at ≡ same
            → option_map (λ x. x.items) (cond at (Some w) (value_at segment_cmp m q))
            ≡ option_map (λ ops. ops ++ cond same (o ∷ []) []) (ops_under m q)
        by true true s e =
            ap Some more
            ∙ ap (λ u. option_map (λ ops. ops ++ o ∷ []) (option_map (λ (x : Vec Operation A). x.items) u))
            (sym (ap (value_at segment_cmp m) (here q s) ∙ there))
        by true false s e = absurd cc
        by false true s e = absurd cc
        by false false s e = plus_none (ops_under m q)

    pub held_more : (v w : Vec Operation A) → Some v ≡ value_at ordered.ghosts.cmp m k → w.items ≡ v.items ++ o ∷ []
        → ((q : Segment) → value_at ordered.ghosts.cmp n q
        ≡ cond (is_at (ordered.ghosts.cmp k) q) (Some w) (value_at ordered.ghosts.cmp m q))
        → AddsOp o m n
    held_more v w found more updates = held_by v w (sym (found ∙ (λ i. value_at (cmp_is i) m k))) more
        (λ q. subst (λ (cmp : Segment → Segment → Ordering). value_at cmp n q ≡ cond (is_at (cmp k) q) (Some w) (value_at cmp m q)) cmp_is
        (updates q))

    not_held : value_at segment_cmp m k ≡ None
        → ((q : Segment) → value_at segment_cmp n q ≡ value_at segment_cmp m q) → AddsOp o m n
    not_held none same_values q = ap (option_map (λ x. x.items)) (same_values q) ∙ by (same_segment o.segment q) refl
      where
        by : (same : Bool) → same_segment o.segment q ≡ same
            → ops_under m q ≡ option_map (λ ops. ops ++ cond same (o ∷ []) []) (ops_under m q)
        by true s =
            let e : value_at segment_cmp m q ≡ None = ap (value_at segment_cmp m) (here q s) ∙ none in
            ap (option_map (λ (x : Vec Operation A). x.items)) e
            ∙ ap (λ u. option_map (λ ops. ops ++ o ∷ []) (option_map (λ (x : Vec Operation A). x.items) u)) (sym e)
        by false s = plus_none (ops_under m q)

    pub held_not : None ≡ value_at ordered.ghosts.cmp m k → n.entries ≡ m.entries → AddsOp o m n
    held_not none same = not_held (sym (none ∙ (λ i. value_at (cmp_is i) m k))) (λ q. ap (lookup (is_at (segment_cmp q))) same)

  -- so far the segments have their operations but for those that are left
  abbrev pub GatheredSoFar : List Operation → List Segment → List Operation → BTreeMap Segment (Vec Operation A) → Type 0
  GatheredSoFar held segments rest m = (q : Segment) →
      option_map (λ ops. ops ++ of_segment rest q) (ops_under m q)
      ≡ cond (is_one_of segments q) (Some (of_segment held q)) None

  module _ (held : List Operation) (segments : List Segment) (it : List Operation) (m : BTreeMap Segment (Vec Operation A)) where
    pub gathered_none : it ≡ held → HasSegments [] segments m → GatheredSoFar held segments it m
    gathered_none same has q =
        ap (option_map (λ ops. ops ++ of_segment it q)) (has q)
        ∙ ap (λ (xs : List Operation). option_map (λ ops. ops ++ of_segment xs q) (cond (is_one_of segments q) (Some []) None)) same
        ∙ by (is_one_of segments q)
      where
        by : (b : Bool) → option_map (λ ops. ops ++ of_segment held q) (cond b (Some []) None) ≡ cond b (Some (of_segment held q)) None
        by true = refl
        by false = refl

    pub gathered_more : (o : Operation) (rest : List Operation) (n : BTreeMap Segment (Vec Operation A)) → it ≡ o ∷ rest
        → AddsOp o m n → GatheredSoFar held segments it m → GatheredSoFar held segments rest n
    gathered_more o rest n next adds s q =
        ap (option_map (λ ops. ops ++ of_segment rest q)) (adds q) ∙ by (same_segment o.segment q) (ops_under m q)
        ∙ ap (λ (xs : List Operation). option_map (λ ops. ops ++ of_segment xs q) (ops_under m q)) (sym next) ∙ s q
      where
        by : (b : Bool) (u : Option (List Operation))
            → option_map (λ ops. ops ++ of_segment rest q) (option_map (λ ops. ops ++ cond b (o ∷ []) []) u)
            ≡ option_map (λ ops. ops ++ cond b (o ∷ of_segment rest q) (of_segment rest q)) u
        by b None = refl
        by true (Some ops) = ap Some (append_assoc ops (o ∷ []) (of_segment rest q))
        by false (Some ops) = ap (λ (xs : List Operation). Some (xs ++ of_segment rest q)) (append-nil ops)

    pub gathered_all : it ≡ [] → GatheredSoFar held segments it m → HasSegments held segments m
    gathered_all end s q =
        plus_none (ops_under m q)
        ∙ ap (λ (xs : List Operation). option_map (λ ops. ops ++ of_segment xs q) (ops_under m q)) (sym end) ∙ s q

-- ---- ids that are named

-- so far a set has the ids of a list but for those that are left
abbrev pub InsertedSoFar : List Id → List Id → BTreeSet Id → BTreeSet Id → Type 0
InsertedSoFar ids rest s t = (q : Id) →
    (contains id_cmp t q || list_any (same_id q) rest) ≡ (contains id_cmp s q || list_any (same_id q) ids)

pub inserted_more : (ids it rest : List Id) (id : Id) (s t u : BTreeSet Id) → it ≡ id ∷ rest
    → ((q : Id) → contains id_cmp u q ≡ cond (is_at (id_cmp id) q) true (contains id_cmp t q))
    → InsertedSoFar ids it s t → InsertedSoFar ids rest s u
inserted_more ids it rest id s t u next updates so q =
    ap (λ b. b || list_any (same_id q) rest) (updates q ∙ ap (λ b. cond b true (contains id_cmp t q)) (at_id q id))
    ∙ by (same_id q id) (contains id_cmp t q) (list_any (same_id q) rest)
    ∙ ap (λ (xs : List Id). contains id_cmp t q || list_any (same_id q) xs) (sym next) ∙ so q
  where
    by : (a c r : Bool) → (cond a true c || r) ≡ (c || (a || r))
    by true true r = refl
    by true false r = refl
    by false c r = refl

pub inserted_all : (o : Operation) (it : List Id) (s t : BTreeSet Id) → it ≡ [] → InsertedSoFar o.replaced it s t
    → (q : Id) → contains id_cmp t q ≡ (contains id_cmp s q || names o q)
inserted_all o it s t end so q =
    sym (or-false (contains id_cmp t q)) ∙ ap (λ (xs : List Id). contains id_cmp t q || list_any (same_id q) xs) (sym end) ∙ so q

module _ {A : Type 0} (m : BTreeMap Segment (Vec Operation A)) where
  -- whether an operation whose segment is gathered, or not, names an id
  pub naming_is : (o : Operation) (g : Segment) (b : Bool) → g ≡ o.segment → b ≡ is_some (value_at ordered.ghosts.cmp m g)
      → (q : Id) → is_naming m q o ≡ (b && names o q)
  naming_is o g b is tested q =
      ap (λ (h : Segment). is_some (value_at segment_cmp m h) && names o q) (sym is)
      ∙ ap (λ c. c && names o q) (sym (tested ∙ (λ i. is_some (value_at (cmp_is i) m g))))

  -- so far a set has the ids that gathered operations name but for those that are left
  abbrev pub NamedSoFar : List Operation → List Operation → BTreeSet Id → Type 0
  NamedSoFar held rest s = (q : Id) → (contains id_cmp s q || list_any (is_naming m q) rest) ≡ list_any (is_naming m q) held

  module _ (held it rest : List Operation) (o : Operation) (s : BTreeSet Id) (next : it ≡ o ∷ rest) (so : NamedSoFar held it s) where
    named_on : (q : Id) → (contains id_cmp s q || (is_naming m q o || list_any (is_naming m q) rest)) ≡ list_any (is_naming m q) held
    named_on q = ap (λ (xs : List Operation). contains id_cmp s q || list_any (is_naming m q) xs) (sym next) ∙ so q

    pub named_more : (t : BTreeSet Id) → ((q : Id) → contains id_cmp t q ≡ (contains id_cmp s q || is_naming m q o))
        → NamedSoFar held rest t
    named_more t more q =
        ap (λ b. b || list_any (is_naming m q) rest) (more q)
        ∙ by (contains id_cmp s q) (is_naming m q o) (list_any (is_naming m q) rest) ∙ named_on q
      where
        by : (a b c : Bool) → ((a || b) || c) ≡ (a || (b || c))
        by true b c = refl
        by false b c = refl

  pub named_all : (held it : List Operation) (s : BTreeSet Id) → it ≡ [] → NamedSoFar held it s → HasNamed held m s
  named_all held it s end so q =
      sym (or-false (contains id_cmp s q))
      ∙ ap (λ (xs : List Operation). contains id_cmp s q || list_any (is_naming m q) xs) (sym end) ∙ so q

  -- so far a set lacks the held ids but for those that are left
  abbrev pub LacksSoFar : List Operation → List Operation → BTreeSet Id → Type 0
  LacksSoFar held rest s = (q : Id) →
      (contains id_cmp s q && not (is_held rest q)) ≡ (list_any (is_naming m q) held && not (is_held held q))

  pub lacks_none : (held it : List Operation) (s : BTreeSet Id) → it ≡ held → HasNamed held m s → LacksSoFar held it s
  lacks_none held it s same has q =
      ap (λ b. b && not (is_held it q)) (has q) ∙ ap (λ (xs : List Operation). list_any (is_naming m q) held && not (is_held xs q)) same

  pub lacks_more : (held it rest : List Operation) (o : Operation) (k : Id) (s t : BTreeSet Id) → it ≡ o ∷ rest → k ≡ o.id
      → ((q : Id) → contains id_cmp t q ≡ cond (is_at (id_cmp k) q) false (contains id_cmp s q))
      → LacksSoFar held it s → LacksSoFar held rest t
  lacks_more held it rest o k s t next is updates so q =
      ap (λ b. b && not (is_held rest q))
      (updates q ∙ ap (λ b. cond b false (contains id_cmp s q)) (at_id q k ∙ ap (same_id q) is))
      ∙ by (same_id q o.id) (contains id_cmp s q) (is_held rest q)
      ∙ ap (λ (xs : List Operation). contains id_cmp s q && not (is_held xs q)) (sym next) ∙ so q
    where
      by : (a c h : Bool) → (cond a false c && not h) ≡ (c && not (a || h))
      by true true h = refl
      by true false h = refl
      by false c h = refl

  pub lacks_all : (held it : List Operation) (s : BTreeSet Id) → it ≡ [] → LacksSoFar held it s → HasAwaited held m s
  lacks_all held it s end so q =
      sym (and-true (contains id_cmp s q))
      ∙ ap (λ (xs : List Operation). contains id_cmp s q && not (is_held xs q)) (sym end) ∙ so q
