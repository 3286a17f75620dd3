-- Two rising lists of ids walked side by side, each parted from what the other one has.
use Rattle.std.proofs.Common.{◌≡◌, Bool, true, false, not, cond, ◌||◌, List, [], ◌∷◌, ◌++◌, filter, refl, sym, ap, subst, ◌∙◌}
use Rattle.std.specs.declared.cmp.Ordering.TheVariants.{Less, Equal, Greater}
use Rattle.std.specs.Ordering.{is_eq, is_lt}
use Rattle.std.specs.List.{list_all}
use Rattle.std.proofs.lemmas.Bool.{and_parts, and_from}
use Rattle.std.proofs.lemmas.List.{append_assoc, append-nil}
use Rattle.usfm_ref.proofs.Sorted.{is_less, parts, back}
use Rattle.op_core.specs.Ids.{Id, id_cmp, id_below, same_id, ids_rise}
use Rattle.op_core.specs.Equal.{same_id-refl, id_from_same}
use Rattle.op_core.specs.NextIds.{is_among}
use Rattle.op_core.proofs.IdOrders.Rising.{id_total, id_exact, same_id-cmp, below_trans}

-- the ids that another list does not have
abbrev pub apart : List Id → List Id → List Id
apart others ids = filter (λ i. not (is_among others i)) ids

abbrev AllOver : Id → List Id → Type 0
AllOver x ids = list_all (id_below x) ids ≡ true

-- ---- an id below others

not_same : (x y : Id) → id_below x y ≡ true → same_id x y ≡ false
not_same x y h = same_id-cmp x y ∙ ap is_eq (is_less _ h)

not_same_back : (x y : Id) → id_below x y ≡ true → same_id y x ≡ false
not_same_back x y h = same_id-cmp y x ∙ ap is_eq (back id_cmp id_total (λ (i : Id). i) x y Less (is_less _ h))

over_some : (x q : Id) (ids : List Id) → AllOver x ids → is_among ids q ≡ true → id_below x q ≡ true
over_some x q [] h m = cc m
over_some x q (y ∷ ids) h m =
    let p = and_parts (id_below x y) (list_all (id_below x) ids) h in
    by (over_some x q ids p.1) (same_id q y) refl m
  where
    by : (is_among ids q ≡ true → id_below x q ≡ true) → (b : Bool) → same_id q y ≡ b → (b || is_among ids q) ≡ true → id_below x q ≡ true
    by rest true e n = ap (id_below x) (id_from_same q y e) ∙ (and_parts (id_below x y) (list_all (id_below x) ids) h).0
    by rest false e n = rest n

not_over : (x : Id) (ids : List Id) → AllOver x ids → is_among ids x ≡ false
not_over x [] h = refl
not_over x (y ∷ ids) h =
    let p = and_parts (id_below x y) (list_all (id_below x) ids) h in
    λ i. not_same x y p.0 i || not_over x ids p.1 i

over_all : (x y : Id) (ids : List Id) → id_below x y ≡ true → AllOver y ids → AllOver x ids
over_all x y [] e h = refl
over_all x y (z ∷ ids) e h =
    let p = and_parts (id_below y z) (list_all (id_below y) ids) h in
    and_from _ _ (below_trans x y z e p.0) (over_all x y ids e p.1)

here : (x : Id) (ids : List Id) → is_among (x ∷ ids) x ≡ true
here x ids = ap (λ b. b || is_among ids x) (same_id-refl x)

later : (q x : Id) (ids : List Id) → is_among ids q ≡ true → is_among (x ∷ ids) q ≡ true
later q x ids h = by (same_id q x)
  where
    by : (b : Bool) → (b || is_among ids q) ≡ true
    by true = refl
    by false = h

-- ---- the walk

-- what is put aside of the two lists, and what is left of them: where the other list has an id that is left, it is left there
pub record Parts (ids others alone lone left right : List Id) : Type 0 where
  pub kept : alone ++ apart others left ≡ apart others ids
  pub kept_too : lone ++ apart ids right ≡ apart ids others
  pub rises : ids_rise left ≡ true
  pub rises_too : ids_rise right ≡ true
  pub ahead : (q : Id) → is_among left q ≡ true → is_among others q ≡ is_among right q
  pub after : (q : Id) → is_among right q ≡ true → is_among ids q ≡ is_among left q

pub parts_first : (ids others alone lone : List Id) → alone ≡ [] → lone ≡ [] → ids_rise ids ≡ true → ids_rise others ≡ true
    → Parts ids others alone lone ids others
parts_first ids others alone lone a b h k = record {
  kept = ap (λ (xs : List Id). xs ++ apart others ids) a;
  kept_too = ap (λ (xs : List Id). xs ++ apart ids others) b;
  rises = h;
  rises_too = k;
  ahead = λ q m. refl;
  after = λ q m. refl;
}

turned : (ids others alone lone left right : List Id) → Parts ids others alone lone left right → Parts others ids lone alone right left
turned ids others alone lone left right h =
    record { kept = h.kept_too; kept_too = h.kept; rises = h.rises_too; rises_too = h.rises; ahead = h.after; after = h.ahead }

module _ (ids others alone lone : List Id) (x : Id) (xs : List Id) where
  -- the first on the left is below all on the right
  keep : (right more : List Id) → AllOver x right → more ≡ alone ++ x ∷ [] → Parts ids others alone lone (x ∷ xs) right
      → Parts ids others more lone xs right
  keep right more o m h =
      let is : is_among others x ≡ false = h.ahead x (here x xs) ∙ not_over x right o in
      record {
        kept = ap (λ (ys : List Id). ys ++ apart others xs) m ∙ append_assoc alone (x ∷ []) (apart others xs)
            ∙ ap (λ b. alone ++ cond (not b) (x ∷ apart others xs) (apart others xs)) (sym is) ∙ h.kept;
        kept_too = h.kept_too;
        rises = (parts id_cmp id_total (λ (i : Id). i) x xs h.rises).1;
        rises_too = h.rises_too;
        ahead = λ q k. h.ahead q (later q x xs k);
        after = λ q k. h.after q k ∙ ap (λ b. b || is_among xs q) (not_same_back x q (over_some x q right o k));
      }

  -- the first of both is the same
  skip : (ys : List Id) → Parts ids others alone lone (x ∷ xs) (x ∷ ys) → Parts ids others alone lone xs ys
  skip ys h =
      let over = parts id_cmp id_total (λ (i : Id). i) x xs h.rises in
      let above = parts id_cmp id_total (λ (i : Id). i) x ys h.rises_too in
      let is : is_among others x ≡ true = h.ahead x (here x xs) ∙ here x ys in
      let has : is_among ids x ≡ true = h.after x (here x ys) ∙ here x xs in
      record {
        kept = ap (λ b. alone ++ cond (not b) (x ∷ apart others xs) (apart others xs)) (sym is) ∙ h.kept;
        kept_too = ap (λ b. lone ++ cond (not b) (x ∷ apart ids ys) (apart ids ys)) (sym has) ∙ h.kept_too;
        rises = over.1;
        rises_too = above.1;
        ahead = λ q k. h.ahead q (later q x xs k) ∙ ap (λ b. b || is_among ys q) (not_same_back x q (over_some x q xs over.0 k));
        after = λ q k. h.after q (later q x ys k) ∙ ap (λ b. b || is_among xs q) (not_same_back x q (over_some x q ys above.0 k));
      }

-- nothing is left of the one list
all_apart : (ids right : List Id) → ((q : Id) → is_among right q ≡ true → is_among ids q ≡ false) → right ≡ apart ids right
all_apart ids [] h = refl
all_apart ids (y ∷ ys) h =
    ap (λ (zs : List Id). y ∷ zs) (all_apart ids ys (λ q k. h q (later q y ys k)))
    ∙ ap (λ b. cond (not b) (y ∷ apart ids ys) (apart ids ys)) (sym (h y (here y ys)))

-- ---- the same of what a walk has in hand

module _ (ids others alone lone left right : List Id) (h : Parts ids others alone lone left right) where
  pub none_left : left ≡ [] → alone ≡ apart others ids
  none_left e = sym (append-nil alone) ∙ ap (λ (xs : List Id). alone ++ apart others xs) (sym e) ∙ h.kept

  pub right_lone : (more : List Id) → left ≡ [] → more ≡ lone ++ right → more ≡ apart ids others
  right_lone more e m =
      m ∙ ap (λ (xs : List Id). lone ++ xs) (all_apart ids right (λ q k. h.after q k ∙ ap (λ (xs : List Id). is_among xs q) e)) ∙ h.kept_too

  pub none_right : right ≡ [] → lone ≡ apart ids others
  none_right e = sym (append-nil lone) ∙ ap (λ (xs : List Id). lone ++ apart ids xs) (sym e) ∙ h.kept_too

  pub left_alone : (more : List Id) → right ≡ [] → more ≡ alone ++ left → more ≡ apart others ids
  left_alone more e m =
      m ∙ ap (λ (xs : List Id). alone ++ xs) (all_apart others left (λ q k. h.ahead q k ∙ ap (λ (xs : List Id). is_among xs q) e)) ∙ h.kept

  module _ (x y : Id) (xs ys : List Id) (el : left ≡ x ∷ xs) (er : right ≡ y ∷ ys) where
    both : Parts ids others alone lone (x ∷ xs) (y ∷ ys)
    both = subst (λ (r : List Id). Parts ids others alone lone (x ∷ xs) r) er
        (subst (λ (l : List Id). Parts ids others alone lone l right) el h)

    over : id_below x y ≡ true → AllOver x (y ∷ ys)
    over e = and_from _ _ e (over_all x y ys e (parts id_cmp id_total (λ (i : Id). i) y ys both.rises_too).0)

    pub part_less : (more : List Id) → id_cmp x y ≡ Less → more ≡ alone ++ x ∷ [] → Parts ids others more lone xs right
    part_less more e m = subst (λ (r : List Id). Parts ids others more lone xs r) (sym er)
        (keep ids others alone lone x xs (y ∷ ys) more (over (ap is_lt e)) m both)

    under : id_below y x ≡ true → AllOver y (x ∷ xs)
    under e = and_from _ _ e (over_all y x xs e (parts id_cmp id_total (λ (i : Id). i) x xs both.rises).0)

    pub part_greater : (more : List Id) → id_cmp x y ≡ Greater → more ≡ lone ++ y ∷ [] → Parts ids others alone more left ys
    part_greater more e m =
        let below : id_below y x ≡ true = ap is_lt (back id_cmp id_total (λ (i : Id). i) x y Greater e) in
        subst (λ (l : List Id). Parts ids others alone more l ys) (sym el)
        (turned others ids more alone ys (x ∷ xs)
        (keep others ids lone alone y ys (x ∷ xs) more (under below) m (turned ids others alone lone (x ∷ xs) (y ∷ ys) both)))

    pub part_equal : id_cmp x y ≡ Equal → Parts ids others alone lone xs ys
    part_equal e =
        skip ids others alone lone x xs ys (subst (λ (z : Id). Parts ids others alone lone (x ∷ xs) (z ∷ ys)) (sym (id_exact x y e)) both)
