-- The summary of a set as a function of it: for each name the ranges of its numbers.
use Rattle.std.proofs.Common.{◌≡◌, ◌≢◌, ℕ, Bool, true, false, cond, ◌&&◌, ◌||◌, eqb, List, [], ◌∷◌, map, filter, Some, is_eq, is_lt, refl, sym, ap, subst, ◌∙◌}
use Rattle.std.specs.declared.cmp.Ordering.{Ordering}
use Rattle.std.specs.declared.cmp.Ordering.TheVariants.{Less, Equal, Greater}
use Rattle.std.specs.List.{list_all, list_any, AllByRecursion}
use Rattle.std.specs.Option.{is_some}
use Rattle.std.specs.FinMap.Entries.{by_order}
use Rattle.std.proofs.lemmas.Bool.{and_parts, and_from, lt-ltb, true≢false}
use Rattle.std.proofs.Math.Bool.{and-false}
use Rattle.usfm_ref.specs.Books.{same_bytes}
use Rattle.usfm_ref.specs.Rising.{rises_by, rising, with_item}
use Rattle.usfm_ref.proofs.Orders.{same_bytes-is, same_bytes-refl}
use Rattle.usfm_ref.proofs.Sorted.{rises-rising}
use Rattle.op_core.specs.Names.{is_name, name_cmp}
use Rattle.op_core.specs.Ids.{Id, id_below, is_number}
use Rattle.op_core.specs.Ops.{Operation, IsOperation}
use Rattle.op_core.specs.Sets.{IsOpSet, get, rises}
use Rattle.op_core.proofs.Sets.Union.{held_itself}
use Rattle.bundle_codec.specs.Summaries.{NameRanges, AreNameRanges, IsSummaryOf, has_number, covers, numbers_of, ranges_of, summary_of}
use Rattle.bundle_codec.proofs.SummaryReads.{name_total}
use Rattle.bundle_codec.proofs.Holding.{below_strict, id_of}
use Rattle.bundle_codec.proofs.Covered.{same_tied}
use Rattle.bundle_codec.proofs.OneSummary.{same_summary}
use Rattle.bundle_codec.proofs.RisingRanges.{Over, AreNumbers, Made, have_numbers, made, ranges_some}

-- ---- the numbers of a name

numbers_over : (n : ℕ) (q : List ℕ) (ops : List Operation) → list_all (λ (p : Operation). id_below (id_of n q) p.id) ops ≡ true
    → Over n (numbers_of ops q)
numbers_over n q [] h = refl
numbers_over n q (o ∷ ops) h = by (same_bytes o.id.name q) refl
    (and_parts (id_below (id_of n q) o.id) (list_all (λ (p : Operation). id_below (id_of n q) p.id) ops) h) (λ a. numbers_over n q ops a)
  where
    by : (b : Bool) → same_bytes o.id.name q ≡ b
        → (id_below (id_of n q) o.id ≡ true) × (list_all (λ (p : Operation). id_below (id_of n q) p.id) ops ≡ true)
        → (list_all (λ (p : Operation). id_below (id_of n q) p.id) ops ≡ true → Over n (numbers_of ops q))
        → Over n (map (λ (x : Operation). x.id.number) (cond b (o ∷ filter (λ (x : Operation). same_bytes x.id.name q) ops)
        (filter (λ (x : Operation). same_bytes x.id.name q) ops)))
    by true e p on =
        let below : id_below (id_of n o.id.name) o.id ≡ true =
        subst (λ (w : List ℕ). id_below (id_of n w) o.id ≡ true) (sym (same_bytes-is o.id.name q e)) p.0 in
        and_from _ _ (lt-ltb n o.id.number (below_strict n o.id below)) (on p.1)
    by false e p on = on p.1

are_numbers : (q : List ℕ) (ops : List Operation) → rises ops ≡ true → AllByRecursion IsOperation ops → AreNumbers (numbers_of ops q)
are_numbers q [] h a = tt
are_numbers q (o ∷ ops) h a = by (same_bytes o.id.name q) refl
    (and_parts (list_all (λ (x : Operation). id_below o.id x.id) ops) (rises ops) h) (λ r. are_numbers q ops r a.1)
  where
    by : (b : Bool) → same_bytes o.id.name q ≡ b → (list_all (λ (x : Operation). id_below o.id x.id) ops ≡ true) × (rises ops ≡ true)
        → (rises ops ≡ true → AreNumbers (numbers_of ops q))
        → AreNumbers (map (λ (x : Operation). x.id.number) (cond b (o ∷ filter (λ (x : Operation). same_bytes x.id.name q) ops)
        (filter (λ (x : Operation). same_bytes x.id.name q) ops)))
    by true e p on = (
      (and_parts (is_number o.id.number) (is_name o.id.name) a.0.id).0,
      (
        numbers_over o.id.number q ops
            (subst (λ (w : List ℕ). list_all (λ (x : Operation). id_below (id_of o.id.number w) x.id) ops ≡ true)
            (same_bytes-is o.id.name q e) p.0),
        on p.1,
      ),
    )
    by false e p on = on p.1

same_back : (a b : List ℕ) → same_bytes a b ≡ same_bytes b a
same_back a b = by (same_bytes a b) (same_bytes b a) refl refl
  where
    by : (c d : Bool) → same_bytes a b ≡ c → same_bytes b a ≡ d → c ≡ d
    by true true e f = refl
    by false false e f = refl
    by true false e f = absurd (true≢false (sym (same_bytes-refl b) ∙ ap (λ (w : List ℕ). same_bytes b w) (sym (same_bytes-is a b e)) ∙ f))
    by false true e f = absurd (true≢false (sym (same_bytes-refl a) ∙ ap (λ (w : List ℕ). same_bytes a w) (sym (same_bytes-is b a f)) ∙ e))

-- a number is among those of a name where its id is held
among : (q : List ℕ) (k : ℕ) (ops : List Operation) → list_any (eqb k) (numbers_of ops q) ≡ is_some (get ops (id_of k q))
among q k [] = refl
among q k (o ∷ ops) = by (same_bytes o.id.name q) (eqb k o.id.number) refl refl (among q k ops)
  where
    by : (b c : Bool) → same_bytes o.id.name q ≡ b → eqb k o.id.number ≡ c
        → list_any (eqb k) (numbers_of ops q) ≡ is_some (get ops (id_of k q))
        → list_any (eqb k) (map (λ (x : Operation). x.id.number)
        (cond b (o ∷ filter (λ (x : Operation). same_bytes x.id.name q) ops) (filter (λ (x : Operation). same_bytes x.id.name q) ops)))
        ≡ is_some (cond (eqb k o.id.number && same_bytes q o.id.name) (Some o) (get ops (id_of k q)))
    by true true e f rest = rw (f, same_back q o.id.name ∙ e) refl
    by true false e f rest = rw f rest
    by false true e f rest = rw (f, same_back q o.id.name ∙ e) rest
    by false false e f rest = rw f rest

-- ---- the names of a set

module _ (q : List ℕ) where
  abbrev is_q : List ℕ → Bool
  is_q x = same_bytes x q

  or_true : (a : Bool) → (a || true) ≡ true
  or_true true = refl
  or_true false = refl

  any_item : (k : List ℕ) (xs : List (List ℕ)) → is_q k ≡ true → list_any is_q (with_item name_cmp k xs) ≡ true
  any_item k [] h = ap (λ b. b || false) h
  any_item k (x ∷ xs) h = by (name_cmp k x) refl (any_item k xs h)
    where
      by : (o : Ordering) → name_cmp k x ≡ o → list_any is_q (with_item name_cmp k xs) ≡ true
          → list_any is_q (by_order o (k ∷ x ∷ xs) (x ∷ xs) (x ∷ with_item name_cmp k xs)) ≡ true
      by Less e rest = ap (λ b. b || list_any is_q (x ∷ xs)) h
      by Equal e rest =
          let same : x ≡ k = same_bytes-is x k (same_tied k x ∙ ap is_eq e) in
          ap (λ b. b || list_any is_q xs) (ap is_q same ∙ h)
      by Greater e rest = ap (λ b. is_q x || b) rest ∙ or_true (is_q x)

  any_items : (k : List ℕ) (xs : List (List ℕ)) → list_any is_q xs ≡ true → list_any is_q (with_item name_cmp k xs) ≡ true
  any_items k [] h = absurd (true≢false (sym h))
  any_items k (x ∷ xs) h = by (name_cmp k x) refl (λ e. any_items k xs e)
    where
      on : (b : Bool) → is_q x ≡ b → (list_any is_q xs ≡ true → list_any is_q (with_item name_cmp k xs) ≡ true)
          → (is_q x || list_any is_q (with_item name_cmp k xs)) ≡ true
      on true e rest = ap (λ b. b || list_any is_q (with_item name_cmp k xs)) e
      on false e rest = ap (λ b. b || list_any is_q (with_item name_cmp k xs)) e ∙ rest (sym (ap (λ b. b || list_any is_q xs) e) ∙ h)

      by : (o : Ordering) → name_cmp k x ≡ o → (list_any is_q xs ≡ true → list_any is_q (with_item name_cmp k xs) ≡ true)
          → list_any is_q (by_order o (k ∷ x ∷ xs) (x ∷ xs) (x ∷ with_item name_cmp k xs)) ≡ true
      by Less e rest = ap (λ b. is_q k || b) h ∙ or_true (is_q k)
      by Equal e rest = h
      by Greater e rest = on (is_q x) refl rest

  any_rising : (xs : List (List ℕ)) → list_any is_q xs ≡ true → list_any is_q (rising name_cmp xs) ≡ true
  any_rising [] h = h
  any_rising (x ∷ xs) h = by (is_q x) refl (λ e. any_rising xs e)
    where
      by : (b : Bool) → is_q x ≡ b → (list_any is_q xs ≡ true → list_any is_q (rising name_cmp xs) ≡ true)
          → list_any is_q (with_item name_cmp x (rising name_cmp xs)) ≡ true
      by true e rest = any_item x (rising name_cmp xs) e
      by false e rest = any_items x (rising name_cmp xs) (rest (sym (ap (λ b. b || list_any is_q xs) e) ∙ h))

  named_held : (n : ℕ) (ops : List Operation) → is_some (get ops (id_of n q)) ≡ true
      → list_any is_q (map (λ (o : Operation). o.id.name) ops) ≡ true
  named_held n [] h = absurd (true≢false (sym h))
  named_held n (o ∷ ops) h = by (eqb n o.id.number) (same_bytes q o.id.name) refl refl (λ e. named_held n ops e)
    where
      by : (b c : Bool) → eqb n o.id.number ≡ b → same_bytes q o.id.name ≡ c
          → (is_some (get ops (id_of n q)) ≡ true → list_any is_q (map (λ (x : Operation). x.id.name) ops) ≡ true)
          → (is_q o.id.name || list_any is_q (map (λ (x : Operation). x.id.name) ops)) ≡ true
      by true true e f rest = ap (λ b. b || list_any is_q (map (λ (x : Operation). x.id.name) ops)) (same_back o.id.name q ∙ f)
      by true false e f rest = ap (λ b. is_q o.id.name || b)
          (rest (sym (λ i. is_some (cond (e i && f i) (Some o) (get ops (id_of n q)))) ∙ h)) ∙ or_true (is_q o.id.name)
      by false c e f rest = ap (λ b. is_q o.id.name || b)
          (rest (sym (λ i. is_some (cond (e i && same_bytes q o.id.name) (Some o) (get ops (id_of n q)))) ∙ h)) ∙ or_true (is_q o.id.name)

module _ (held : List Operation) where
  abbrev told : List ℕ → NameRanges
  told q = record { name = q; ranges = ranges_of (numbers_of held q) }

  covers_told : (id : Id) (xs : List (List ℕ))
      → covers (map told xs) id ≡ (list_any (is_q id.name) xs && has_number (ranges_of (numbers_of held id.name)) id.number)
  covers_told id [] = refl
  covers_told id (x ∷ xs) =
      by (same_bytes x id.name) refl (has_number (ranges_of (numbers_of held id.name)) id.number) refl (covers_told id xs)
    where
      by : (b : Bool) → same_bytes x id.name ≡ b → (c : Bool) → has_number (ranges_of (numbers_of held id.name)) id.number ≡ c
          → covers (map told xs) id ≡ (list_any (is_q id.name) xs && has_number (ranges_of (numbers_of held id.name)) id.number)
          → ((same_bytes x id.name && has_number (ranges_of (numbers_of held x)) id.number) || covers (map told xs) id)
          ≡ ((same_bytes x id.name || list_any (is_q id.name) xs) && has_number (ranges_of (numbers_of held id.name)) id.number)
      by true e true f rest =
          let here : has_number (ranges_of (numbers_of held x)) id.number ≡ true =
          ap (λ (w : List ℕ). has_number (ranges_of (numbers_of held w)) id.number) (same_bytes-is x id.name e) ∙ f in
          rw (e, here, f) refl
      by true e false f rest =
          let here : has_number (ranges_of (numbers_of held x)) id.number ≡ false =
          ap (λ (w : List ℕ). has_number (ranges_of (numbers_of held w)) id.number) (same_bytes-is x id.name e) ∙ f in
          let none : covers (map told xs) id ≡ false =
          rest ∙ ap (λ b. list_any (is_q id.name) xs && b) f ∙ and-false (list_any (is_q id.name) xs) in
          rw (e, here, f, none) refl
      by false e c f rest = ap (λ b. (b && has_number (ranges_of (numbers_of held x)) id.number) || covers (map told xs) id) e ∙ rest
          ∙ ap (λ b. (b || list_any (is_q id.name) xs) && has_number (ranges_of (numbers_of held id.name)) id.number) (sym e)

  -- the summary of a list covers exactly its ids
  pub covers_its_ids : (id : Id) → covers (summary_of held) id ≡ is_some (get held id)
  covers_its_ids id =
      covers_told id (rising name_cmp (map (λ (o : Operation). o.id.name) held))
      ∙ ap (λ b. list_any (is_q id.name) (rising name_cmp (map (λ (o : Operation). o.id.name) held)) && b)
      (have_numbers (numbers_of held id.name) id.number ∙ among id.name id.number held)
      ∙ by (is_some (get held id)) refl
    where
      by : (b : Bool) → is_some (get held id) ≡ b
          → (list_any (is_q id.name) (rising name_cmp (map (λ (o : Operation). o.id.name) held)) && is_some (get held id))
          ≡ is_some (get held id)
      by true e = ap (λ b. b && is_some (get held id))
          (any_rising id.name (map (λ (o : Operation). o.id.name) held) (named_held id.name id.number held e))
      by false e = ap (λ b. list_any (is_q id.name) (rising name_cmp (map (λ (o : Operation). o.id.name) held)) && b) e
          ∙ and-false (list_any (is_q id.name) (rising name_cmp (map (λ (o : Operation). o.id.name) held))) ∙ sym e

module _ (held : List Operation) (set : IsOpSet held) where
  right : (q : List ℕ) → Made (numbers_of held q) (ranges_of (numbers_of held q))
  right q = made (numbers_of held q) (are_numbers q held set.rising set.each)

  -- a right name, of which there is a number
  record Good (q : List ℕ) : Type 0 where
    name : is_name q ≡ true
    some : numbers_of held q ≢ []

  good_name_ranges : (q : List ℕ) → Good q → AreNameRanges (told held q)
  good_name_ranges q g = record {
    name = g.name;
    some = ranges_some (numbers_of held q) g.some;
    each = (right q).each;
    apart =
        (right q).apart;
  }

  good_each : (ops : List Operation) → AllByRecursion IsOperation ops → AllByRecursion (λ o. get held o.id ≡ Some o) ops
      → AllByRecursion Good (map (λ (o : Operation). o.id.name) ops)
  good_each [] a h = tt
  good_each (o ∷ ops) a h = (
    record {
      name = (and_parts (is_number o.id.number) (is_name o.id.name) a.0.id).1;
      some = λ none. true≢false (sym (ap is_some h.0) ∙ sym (among o.id.name o.id.number held) ∙ ap (list_any (eqb o.id.number)) none);
    },
    good_each ops a.1 h.1,
  )

  all_item : (k : List ℕ) (xs : List (List ℕ)) → Good k → AllByRecursion Good xs → AllByRecursion Good (with_item name_cmp k xs)
  all_item k [] g h = (g, tt)
  all_item k (x ∷ xs) g h = by (name_cmp k x) (all_item k xs g h.1)
    where
      by : (o : Ordering) → AllByRecursion Good (with_item name_cmp k xs)
          → AllByRecursion Good (by_order o (k ∷ x ∷ xs) (x ∷ xs) (x ∷ with_item name_cmp k xs))
      by Less rest = (g, h)
      by Equal rest = h
      by Greater rest = (h.0, rest)

  all_rising : (xs : List (List ℕ)) → AllByRecursion Good xs → AllByRecursion Good (rising name_cmp xs)
  all_rising [] h = tt
  all_rising (x ∷ xs) h = all_item x (rising name_cmp xs) h.0 (all_rising xs h.1)

  each_name_ranges : (xs : List (List ℕ)) → AllByRecursion Good xs → AllByRecursion AreNameRanges (map (told held) xs)
  each_name_ranges [] h = tt
  each_name_ranges (x ∷ xs) h = (good_name_ranges x h.0, each_name_ranges xs h.1)

  below_told : (q : List ℕ) (xs : List (List ℕ)) → list_all (λ x. is_lt (name_cmp q x)) xs ≡ true
      → list_all (λ (k : NameRanges). is_lt (name_cmp q k.name)) (map (told held) xs) ≡ true
  below_told q [] h = refl
  below_told q (x ∷ xs) h =
      let p = and_parts (is_lt (name_cmp q x)) (list_all (λ y. is_lt (name_cmp q y)) xs) h in and_from _ _ p.0 (below_told q xs p.1)

  rises_told : (xs : List (List ℕ)) → rises_by name_cmp (λ x. x) xs ≡ true
      → rises_by name_cmp (λ (k : NameRanges). k.name) (map (told held) xs) ≡ true
  rises_told [] h = refl
  rises_told (x ∷ xs) h = let p = and_parts (list_all (λ y. is_lt (name_cmp x y)) xs) (rises_by name_cmp (λ y. y) xs) h in
      and_from _ _ (below_told x xs p.0) (rises_told xs p.1)

  -- the summary of a set that is computed is its summary
  pub summary_of_is : IsSummaryOf held (summary_of held)
  summary_of_is = record {
    form = record {
      rising = rises_told (rising name_cmp (map (λ (o : Operation). o.id.name) held))
          (rises-rising name_cmp name_total (map (λ (o : Operation). o.id.name) held));
      each = each_name_ranges (rising name_cmp (map (λ (o : Operation). o.id.name) held))
          (all_rising (map (λ (o : Operation). o.id.name) held) (good_each held set.each (held_itself held set.rising)));
    };
    exactly = covers_its_ids held;
  }

  pub same_as_told : (s : List NameRanges) → IsSummaryOf held s → s ≡ summary_of held
  same_as_told s h = same_summary held s (summary_of held) h summary_of_is
