-- The walk over the ids of a set or of a bundle, after some of them.
use Rattle.std.proofs.Common.{◌≡◌, true, false, List, [], ◌∷◌, ◌++◌, Option, Some, None, Result, Ok, Err, IfOk, Vec, option_map, cond, is_eq, is_lt, ◌&&◌, map, Bool, ℕ, refl, sym, ap, subst, ◌∙◌, append_assoc}
use Rattle.std.specs.List.{AllByRecursion}
use Rattle.std.specs.List.Sorted.{IsStrictlySortedBy}
use Rattle.std.specs.Map.{lookup, keys_of}
use Rattle.std.specs.BTreeMap.{BTreeMap, IsOrdered, is_at}
use Rattle.std.specs.Cmp.{tied_itself}
use Rattle.std.specs.declared.cmp.Ordering.TheVariants.{Less}
use Rattle.std.specs.List.{list_all}
use Rattle.std.proofs.lemmas.Bool.{and_parts, and_from, cond-true, cond-false}
use Rattle.usfm_ref.specs.Rising.{rises_by}
use Rattle.usfm_ref.proofs.Sorted.{back}
use Rattle.std.proofs.lemmas.List.{append-nil}
use Rattle.std.proofs.lemmas.List.Folds.{list_all-map}
use Rattle.op_core.specs.Names.{name_cmp, is_name}
use Rattle.op_core.specs.Ids.{Id, id_below, ids_rise, is_id, is_number}
use Rattle.op_core.specs.Lists.{ids_of}
use Rattle.op_core.specs.NextIds.{is_among}
use Rattle.op_core.specs.Ops.{Operation, IsOperation}
use Rattle.op_core.specs.Sets.{rises, IsOpSet}
use Rattle.op_core.proofs.Sets.Families.{among_held}
use Rattle.bundle_codec.specs.declared.summaries.range.NumberRange.{NumberRange}
use Rattle.bundle_codec.specs.Summaries.{NameRanges, AreNameRanges, IsSummary, IsSummaryOf, covers, has_number}
use Rattle.bundle_codec.specs.Loops.SummaryMaking.{under, HoldsRun, AreRanges, AreUnder, HoldsRanges, listed}
use Rattle.bundle_codec.proofs.SummaryReads.{name_total}
use Rattle.bundle_codec.proofs.Covered.{covers-found, under_name, found_has}
use Rattle.bundle_codec.proofs.Holding.{Numbered, names_run, all_push}

pub record SoFar {A : Type 0} (all rest : List Id) (m : BTreeMap (List ℕ) (Vec NumberRange A)) : Type 0 where
  pub done : List Id
  pub parts : done ++ rest ≡ all
  pub names : (q : List ℕ) → AreUnder done q (under m q)

-- parts of a list
all_front : {X : Type 0} (P : X → Type 0) (xs ys : List X) → AllByRecursion P (xs ++ ys) → AllByRecursion P xs
all_front P [] ys h = tt
all_front P (x ∷ xs) ys h = (h.0, all_front P xs ys h.1)

all_after : {X : Type 0} (P : X → Type 0) (xs ys : List X) → AllByRecursion P (xs ++ ys) → AllByRecursion P ys
all_after P [] ys h = h
all_after P (x ∷ xs) ys h = all_after P xs ys h.1

numbered : (ids : List Id) → list_all is_id ids ≡ true → Numbered ids
numbered [] h = tt
numbered (id ∷ ids) h =
    let p = and_parts (is_id id) (list_all is_id ids) h in
    ((and_parts (is_number id.number) (is_name id.name) p.0).0, numbered ids p.1)

pub so_far_none : {A : Type 0} (all it : List Id) (m : BTreeMap (List ℕ) (Vec NumberRange A)) → it ≡ all
    → ((q : List ℕ) → under m q ≡ None) → SoFar all it m
so_far_none all it m same none = record {
  done = [];
  parts = same;
  names = λ q. subst (AreUnder [] q) (sym (none q)) (λ n. refl);
}

pub so_far_run : {A : Type 0} (all it ids rest : List Id) (id : Id) (m n : BTreeMap (List ℕ) (Vec NumberRange A))
    → ids_rise all ≡ true → list_all is_id all ≡ true → it ≡ id ∷ ids → HoldsRun id ids rest m n → SoFar all it m → SoFar all rest n
so_far_run all it ids rest id m n rising each next h s =
    let whole : s.done ++ id ∷ ids ≡ all = ap (λ (w : List Id). s.done ++ w) (sym next) ∙ s.parts in
    let cut : s.done ++ ((id ∷ h.0.run) ++ rest) ≡ all = ap (λ (w : List Id). s.done ++ id ∷ w) (sym h.0.parts) ∙ whole in
    let valid = all_front (λ (i : Id). is_number i.number ≡ true) (id ∷ h.0.run) rest
    (all_after (λ (i : Id). is_number i.number ≡ true) s.done ((id ∷ h.0.run) ++ rest) (subst Numbered (sym cut) (numbered all each))) in
    record {
      done = s.done ++ id ∷ h.0.run;
      parts = append_assoc s.done (id ∷ h.0.run) rest ∙ cut;
      names = names_run s.done id ids rest m n h (ap ids_rise whole ∙ rising) valid s.names;
    }

pub so_far_all : {A : Type 0} (all it : List Id) (m : BTreeMap (List ℕ) (Vec NumberRange A)) → it ≡ [] → SoFar all it m
    → (q : List ℕ) → AreUnder all q (under m q)
so_far_all all it m end s q = subst (λ (w : List Id). AreUnder w q (under m q))
    (sym (append-nil s.done) ∙ ap (λ (w : List Id). s.done ++ w) (sym end) ∙ s.parts) (s.names q)

-- ---- what the map has at its names

module _ {V : Type 0} where
  lower : (e : List ℕ × V) (es xs : List (List ℕ × V)) → AllByRecursion (λ y. name_cmp e.0 y ≡ Less) (keys_of xs)
      → AllByRecursion (λ x. lookup (is_at (name_cmp x.0)) es ≡ Some x.1) xs
      → AllByRecursion (λ x. lookup (is_at (name_cmp x.0)) (e ∷ es) ≡ Some x.1) xs
  lower e es [] b h = tt
  lower e es (x ∷ xs) b h =
      (cond-false _ _ _ (ap is_eq (back name_cmp name_total (λ (k : List ℕ). k) e.0 x.0 Less b.0)) ∙ h.0, lower e es xs b.1 h.1)

  pub each_at_name : (es : List (List ℕ × V)) → IsStrictlySortedBy name_cmp (keys_of es)
      → AllByRecursion (λ x. lookup (is_at (name_cmp x.0)) es ≡ Some x.1) es
  unfolding IsStrictlySortedBy
  each_at_name [] s = tt
  each_at_name (e ∷ es) s = (cond-true _ _ _ (ap is_eq (tied_itself name_total e.0)), lower e es es s.0 (each_at_name es s.1))

abbrev has_under : Option (List NumberRange) → ℕ → Bool
has_under None n = false
has_under (Some rs) n = has_number rs n

has_held : (all : List Id) (q : List ℕ) (n : ℕ) (u : Option (List NumberRange)) → AreUnder all q u
    → has_under u n ≡ is_among all (record { number = n; name = q })
has_held all q n None h = sym (h n)
has_held all q n (Some rs) h = h.1 n

module _ {A : Type 0} where
  abbrev pub name_ranges_of : List ℕ × Vec NumberRange A → NameRanges
  name_ranges_of e = record { name = e.0; ranges = e.1.items }

  ranges_at_each : (all : List Id) (m : BTreeMap (List ℕ) (Vec NumberRange A)) (es : List (List ℕ × Vec NumberRange A))
      → ((q : List ℕ) → AreUnder all q (under m q)) → AllByRecursion (λ x. lookup (is_at (name_cmp x.0)) m.entries ≡ Some x.1) es
      → AllByRecursion (λ e. AreRanges e.1.items) es
  ranges_at_each all m [] names h = tt
  ranges_at_each all m (e ∷ es) names h =
      ((subst (AreUnder all e.0) (ap (option_map (λ v. v.items)) h.0) (names e.0)).0, ranges_at_each all m es names h.1)

  pub holds_ranges : (all : List Id) (m : BTreeMap (List ℕ) (Vec NumberRange A)) → IsOrdered name_cmp m
      → ((q : List ℕ) → AreUnder all q (under m q)) → HoldsRanges all m
  holds_ranges all m ordered names =
      record { ordered = ordered; each = ranges_at_each all m m.entries names (each_at_name m.entries ordered); names = names }

  less_all : (name : List ℕ) (es : List (List ℕ × Vec NumberRange A)) → AllByRecursion (λ y. name_cmp name y ≡ Less) (keys_of es)
      → list_all (λ (k : NameRanges). is_lt (name_cmp name k.name)) (map name_ranges_of es) ≡ true
  less_all name [] h = refl
  less_all name (e ∷ es) h = and_from _ _ (ap is_lt h.0) (less_all name es h.1)

  pub rises_listed : (es : List (List ℕ × Vec NumberRange A)) → IsStrictlySortedBy name_cmp (keys_of es)
      → rises_by name_cmp (λ (k : NameRanges). k.name) (map name_ranges_of es) ≡ true
  unfolding IsStrictlySortedBy
  rises_listed [] s = refl
  rises_listed (e ∷ es) s = and_from _ _ (less_all e.0 es s.0) (rises_listed es s.1)

  found_listed : (q : List ℕ) (n : ℕ) (es : List (List ℕ × Vec NumberRange A))
      → found_has (under_name q (map name_ranges_of es)) n ≡ has_under (option_map (λ v. v.items) (lookup (is_at (name_cmp q)) es)) n
  found_listed q n [] = refl
  found_listed q n (e ∷ es) = let rest = found_listed q n es in
      elim (is_eq (name_cmp q e.0)) as
      (λ b. found_has (cond b (Some (name_ranges_of e)) (under_name q (map name_ranges_of es))) n
      ≡ has_under (option_map (λ v. v.items) (cond b (Some e.1) (lookup (is_at (name_cmp q)) es))) n) [ true ↦ refl | false ↦ rest ]

  module _ (all : List Id) (m : BTreeMap (List ℕ) (Vec NumberRange A)) (s : List NameRanges) (e : s ≡ listed m)
      (h : HoldsRanges all m) where
    pub summary_form : AllByRecursion AreNameRanges s → IsSummary s
    summary_form valid = record {
      rising = ap (rises_by name_cmp (λ (k : NameRanges). k.name)) e ∙ rises_listed m.entries h.ordered;
      each = valid;
    }

    pub summary_covers : (id : Id) → covers s id ≡ is_among all id
    summary_covers id =
        ap (λ (ks : List NameRanges). covers ks id) e
        ∙ covers-found id (listed m) (rises_listed m.entries h.ordered)
        ∙ found_listed id.name id.number m.entries
        ∙ has_held all id.name id.number (under m id.name) (h.names id.name)

-- ---- the summary of a set, whose ids were walked over

-- the ids of a set rise
pub ids_of_rise : (ops : List Operation) → ids_rise (ids_of ops) ≡ rises ops
ids_of_rise [] = refl
ids_of_rise (o ∷ ops) = λ i. list_all-map (id_below o.id) (λ (p : Operation). p.id) ops i && ids_of_rise ops i

pub ids_of_valid : (ops : List Operation) → AllByRecursion IsOperation ops → list_all is_id (ids_of ops) ≡ true
ids_of_valid [] h = refl
ids_of_valid (o ∷ ops) h = and_from _ _ h.0.id (ids_of_valid ops h.1)

module _ (held : List Operation) (set : IsOpSet held) (ids : List Id) (same : ids ≡ ids_of held) where
  pub walked_rise : ids_rise ids ≡ true
  walked_rise = ap ids_rise same ∙ ids_of_rise held ∙ set.rising

  pub walked_valid : list_all is_id ids ≡ true
  walked_valid = ap (list_all is_id) same ∙ ids_of_valid held set.each

  pub is_summary_of : (s : List NameRanges) → IsSummary s → ((id : Id) → covers s id ≡ is_among ids id) → IsSummaryOf held s
  is_summary_of s form exactly = record {
    form = form;
    exactly = λ id. exactly id ∙ ap (λ (w : List Id). is_among w id) same ∙ among_held held id;
  }

  pub summed : {E : Type 0} (made : Result (List NameRanges) E) → IfOk made IsSummary
      → IfOk made (λ s. (id : Id) → covers s id ≡ is_among ids id) → IfOk made (IsSummaryOf held)
  summed (Ok s) form exactly = is_summary_of s form exactly
  summed (Err e) form exactly = tt

-- ---- the names of a map, one after another

pub record Walked {A : Type 0} (m : BTreeMap (List ℕ) (Vec NumberRange A)) (it : List (List ℕ × Vec NumberRange A))
    (names : List NameRanges) : Type 0 where
  pub parts : names ++ map name_ranges_of it ≡ listed m
  pub valid : AllByRecursion AreNameRanges names
  pub right : AllByRecursion (λ e. AreRanges e.1.items) it

module _ {A : Type 0} (m : BTreeMap (List ℕ) (Vec NumberRange A)) where
  pub walked_none : (it : List (List ℕ × Vec NumberRange A)) (names : List NameRanges) → it ≡ m.entries → names ≡ []
      → AllByRecursion (λ e. AreRanges e.1.items) m.entries → Walked m it names
  walked_none it names e none h = record {
    parts = (λ i. none i ++ map name_ranges_of (e i));
    valid = subst (AllByRecursion AreNameRanges) (sym none) tt;
    right = subst (AllByRecursion (λ (x : List ℕ × Vec NumberRange A). AreRanges x.1.items)) (sym e) h;
  }

  module _ (it rest : List (List ℕ × Vec NumberRange A)) (e : List ℕ × Vec NumberRange A) (names : List NameRanges) (next : it ≡ e ∷ rest)
      (w : Walked m it names) where
    both : AreRanges e.1.items × AllByRecursion (λ (x : List ℕ × Vec NumberRange A). AreRanges x.1.items) rest
    both = subst (AllByRecursion (λ (x : List ℕ × Vec NumberRange A). AreRanges x.1.items)) next w.right

    pub walked_first : AreRanges e.1.items
    walked_first = both.0

    pub walked_more : (k : NameRanges) (new : List NameRanges) → new ≡ names ++ k ∷ [] → k ≡ name_ranges_of e → AreNameRanges k
        → Walked m rest new
    walked_more k new more is valid = record {
      parts = ap (λ (ks : List NameRanges). ks ++ map name_ranges_of rest) more ∙ append_assoc names (k ∷ []) (map name_ranges_of rest)
          ∙ ap (λ (x : NameRanges). names ++ x ∷ map name_ranges_of rest) is ∙ ap (λ es. names ++ map name_ranges_of es) (sym next)
          ∙ w.parts;
      valid = subst (AllByRecursion AreNameRanges) (sym more) (all_push AreNameRanges names k w.valid valid);
      right = both.1;
    }

  pub walked_all : (it : List (List ℕ × Vec NumberRange A)) (names : List NameRanges) → it ≡ [] → Walked m it names → names ≡ listed m
  walked_all it names end w = sym (append-nil names) ∙ ap (λ es. names ++ map name_ranges_of es) (sym end) ∙ w.parts
