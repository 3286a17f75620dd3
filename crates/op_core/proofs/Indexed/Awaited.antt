-- The ids that a set awaits, gathered from its index.
use Rattle.std.proofs.Common.{Bor, ◌≡◌, ℕ, ◌<◌, ◌+◌, Bool, true, false, not, cond, ◌&&◌, ◌||◌, List, [], ◌∷◌, ◌++◌, Option, Some, None, length, get_or, take, filter, refl, sym, ap, ◌∙◌, Result, Ok, Err, OnErr}
use Rattle.std.specs.declared.cmp.Ordering.{Ordering}
use Rattle.std.specs.declared.cmp.Ordering.TheVariants.{Less, Equal, Greater}
use Rattle.std.specs.Ordering.{is_lt}
use Rattle.std.specs.List.{list_any, list_all, flat_map, dedup, dedup_from, AllByRecursion}
use Rattle.std.specs.List.Sorted.{IsSorted, IsStrictlySortedBy, IsPermutation}
use Rattle.std.proofs.lemmas.List.Sorted.{list_any-IsPermutation}
use Rattle.std.specs.Option.{option_copied, is_some}
use Rattle.std.specs.FinMap.Entries.{by_order}
use Rattle.std.specs.Cmp.{both_ways}
use Rattle.std.proofs.lemmas.Bool.{and_parts, and_from, false≢true}
use Rattle.std.proofs.lemmas.List.Folds.{list_any_more, list_any_at}
use Rattle.std.proofs.lemmas.List.Kept.{IsStrictlySortedBy-dedup}
use Rattle.usfm_ref.specs.Rising.{with_item, rising}
use Rattle.usfm_ref.specs.declared.segment.Segment.{Segment}
use Rattle.usfm_ref.proofs.Sorted.{rises-rising}
use Rattle.op_core.specs.Ids.{Id, id_cmp, same_id, ids_rise}
use Rattle.op_core.specs.Equal.{id_from_same, same_id-refl}
use Rattle.op_core.specs.Ops.{Operation, in_segment, names}
use Rattle.op_core.specs.Sets.{get}
use Rattle.op_core.specs.Shown.{is_replaced}
use Rattle.op_core.specs.Lists.{is_held, awaited}
use Rattle.op_core.specs.Loops.Index.{is_in, is_missing, register_of, missing_in, is_missed, is_missed_in, IsIndex}
use Rattle.op_core.specs.declared.index.register.Register.{Register}
use Rattle.op_core.specs.declared.index.chapter.Chapter.{Chapter}
use Rattle.op_core.proofs.IdOrders.Rising.{id_total, id_exact, same_id-cmp}
use Rattle.op_core.proofs.IdOrders.IdLists.{same_members}
use Rattle.op_core.proofs.Indexed.Enrolled.{here}
use Rattle.op_core.proofs.Indexed.Walks.{from_any, to_any}

-- ---- gathering

-- an id is held where something is held under it
pub held-get : (ops : List Operation) (q : Id) → is_held ops q ≡ is_some (get ops q)
held-get [] q = refl
held-get (o ∷ ops) q = ap (λ b. same_id q o.id || b) (held-get ops q) ∙ is_it (same_id q o.id)
  where
    is_it : (b : Bool) → (b || is_some (get ops q)) ≡ is_some (cond b (Some o) (get ops q))
    is_it true = refl
    is_it false = refl

-- what a look-up says of an id
pub held_none : (ops : List Operation) (q : Id) (r : Option (Bor Operation)) (b : Bool) → option_copied r ≡ get ops q → is_some r ≡ not b
    → is_held ops q ≡ not b
held_none ops q None b e f = held-get ops q ∙ ap is_some (sym e) ∙ f
held_none ops q (Some x) b e f = held-get ops q ∙ ap is_some (sym e) ∙ f

pub any_append : (p : Id → Bool) (xs ys : List Id) → list_any p (xs ++ ys) ≡ (list_any p xs || list_any p ys)
any_append p [] ys = refl
any_append p (x ∷ xs) ys = ap (λ b. p x || b) (any_append p xs ys) ∙ regroup (p x) (list_any p xs) (list_any p ys)
  where
    regroup : (a b c : Bool) → (a || (b || c)) ≡ ((a || b) || c)
    regroup true b c = refl
    regroup false b c = refl

module _ (held : List Operation) (q : Id) (a : Bool) (ids missing : List Id) (i : ℕ) (n : Id) (l : i < length missing)
    (hn : n ≡ get_or missing i n) (h : list_any (same_id q) ids ≡ (a || (list_any (same_id q) (take i missing) && not (is_held held q))))
  where
    more : list_any (same_id q) (take (i + 1) missing) ≡ (list_any (same_id q) (take i missing) || same_id q n)
    more = list_any_more (same_id q) missing i n l ∙ ap (λ (m : Id). list_any (same_id q) (take i missing) || same_id q m) (sym hn)

    pub gathered : (ids' : List Id) → ids' ≡ ids ++ n ∷ [] → is_held held n ≡ false
        → list_any (same_id q) ids' ≡ (a || (list_any (same_id q) (take (i + 1) missing) && not (is_held held q)))
    gathered ids' e f =
        ap (list_any (same_id q)) e ∙ any_append (same_id q) ids (n ∷ []) ∙ ap (λ b. b || (same_id q n || false)) h
        ∙ table a (list_any (same_id q) (take i missing)) (same_id q n) (is_held held q) (λ s. ap (is_held held) (id_from_same q n s) ∙ f)
        ∙ ap (λ b. a || (b && not (is_held held q))) (sym more)
      where
        table : (a b s u : Bool) → (s ≡ true → u ≡ false) → ((a || (b && not u)) || (s || false)) ≡ (a || ((b || s) && not u))
        table true b s u k = refl
        table false b true u k = rw (k refl) (last b)
          where
            last : (b : Bool) → ((b && true) || true) ≡ ((b || true) && true)
            last true = refl
            last false = refl
        table false true false true k = refl
        table false true false false k = refl
        table false false false u k = refl

    pub passed : is_held held n ≡ true → list_any (same_id q) ids
        ≡ (a || (list_any (same_id q) (take (i + 1) missing) && not (is_held held q)))
    passed f =
        h ∙ table a (list_any (same_id q) (take i missing)) (same_id q n) (is_held held q) (λ s. ap (is_held held) (id_from_same q n s) ∙ f)
        ∙ ap (λ b. a || (b && not (is_held held q))) (sym more)
      where
        table : (a b s u : Bool) → (s ≡ true → u ≡ true) → (a || (b && not u)) ≡ (a || ((b || s) && not u))
        table true b s u k = refl
        table false b true u k = rw (k refl) (last b)
          where
            last : (b : Bool) → (b && false) ≡ ((b || true) && false)
            last true = refl
            last false = refl
        table false true false u k = refl
        table false false false u k = refl

-- ---- one that is awaited, where memory was wanted for it

pub on_err : {T E : Type 0} {P : Type 0} (r : Result T E) → P → OnErr r P
on_err (Ok x) p = tt
on_err (Err e) p = p

-- the id at a place of a list, if no operation has it
pub is_unheld : (held : List Operation) (missing : List Id) (i : ℕ) (n : Id) → i < length missing → n ≡ get_or missing i n
    → is_held held n ≡ false → (list_any (same_id n) missing && not (is_held held n)) ≡ true
is_unheld held missing i n l is unheld =
    and_from _ _ (list_any_at (same_id n) missing i n l (ap (same_id n) (sym is) ∙ same_id-refl n)) (ap not unheld)

-- what the register at a place misses, one of the registers misses
pub missed_at : (registers : List Register) (i : ℕ) (r : Register) (q : Id) (unheld : Bool) → i < length registers
    → r ≡ get_or registers i r → (list_any (same_id q) r.missing.items && unheld) ≡ true → (is_missed registers q && unheld) ≡ true
missed_at registers i r q unheld l is h =
    let parts = and_parts (list_any (same_id q) r.missing.items) unheld h in
    and_from _ _ (list_any_at (λ (x : Register). list_any (same_id q) x.missing.items) registers i r l
    (ap (λ (x : Register). list_any (same_id q) x.missing.items) (sym is) ∙ parts.0)) parts.1

-- and so of the chapters
pub missed_in_at : (chapters : List Chapter) (i : ℕ) (c : Chapter) (q : Id) (unheld : Bool) → i < length chapters → c ≡ get_or chapters i c
    → (is_missed c.registers.items q && unheld) ≡ true → (is_missed_in chapters q && unheld) ≡ true
missed_in_at chapters i c q unheld l is h =
    let parts = and_parts (is_missed c.registers.items q) unheld h in
    and_from _ _ (list_any_at (λ (x : Chapter). is_missed x.registers.items q) chapters i c l
    (ap (λ (x : Chapter). is_missed x.registers.items q) (sym is) ∙ parts.0)) parts.1

-- ---- sorted, each once

any_dedup_from : (q k : Id) (xs : List Id) → list_any (same_id q) (dedup_from same_id k xs) ≡ (same_id q k || list_any (same_id q) xs)
any_dedup_from q k [] = refl
any_dedup_from q k (x ∷ xs) = by (any_dedup_from q k xs) (any_dedup_from q x xs) (same_id x k) refl
  where
    twice : (a b : Bool) → (a || b) ≡ (a || (a || b))
    twice true b = refl
    twice false b = refl

    by : list_any (same_id q) (dedup_from same_id k xs) ≡ (same_id q k || list_any (same_id q) xs)
        → list_any (same_id q) (dedup_from same_id x xs) ≡ (same_id q x || list_any (same_id q) xs) → (b : Bool) → same_id x k ≡ b
        → list_any (same_id q) (cond b (dedup_from same_id k xs) (k ∷ dedup_from same_id x xs))
        ≡ (same_id q k || (same_id q x || list_any (same_id q) xs))
    by one other true e = one ∙ twice (same_id q k) (list_any (same_id q) xs)
        ∙ ap (λ (i : Id). same_id q k || (same_id q i || list_any (same_id q) xs)) (sym (id_from_same x k e))
    by one other false e = ap (λ b. same_id q k || b) other

pub any_dedup : (q : Id) (xs : List Id) → list_any (same_id q) (dedup same_id xs) ≡ list_any (same_id q) xs
any_dedup q [] = refl
any_dedup q (x ∷ xs) = any_dedup_from q x xs

pub strict_rises : (xs : List Id) → IsStrictlySortedBy id_cmp xs → ids_rise xs ≡ true
unfolding IsStrictlySortedBy
strict_rises [] h = refl
strict_rises (x ∷ xs) h = and_from _ _ (over xs h.0) (strict_rises xs h.1)
  where
    over : (ys : List Id) → AllByRecursion (λ y. id_cmp x y ≡ Less) ys → list_all (λ y. is_lt (id_cmp x y)) ys ≡ true
    over [] a = refl
    over (y ∷ ys) a = and_from _ _ (ap is_lt a.0) (over ys a.1)

-- ---- what is awaited, by its members

any_with : (q k : Id) (xs : List Id) → list_any (same_id q) (with_item id_cmp k xs) ≡ (same_id q k || list_any (same_id q) xs)
any_with q k [] = refl
any_with q k (x ∷ xs) = by (any_with q k xs) (id_cmp k x) refl
  where
    twice : (a b : Bool) → (a || b) ≡ (a || (a || b))
    twice true b = refl
    twice false b = refl

    swap : (a b c : Bool) → (a || (b || c)) ≡ (b || (a || c))
    swap true true c = refl
    swap true false c = refl
    swap false true c = refl
    swap false false c = refl

    by : list_any (same_id q) (with_item id_cmp k xs) ≡ (same_id q k || list_any (same_id q) xs) → (r : Ordering) → id_cmp k x ≡ r
        → list_any (same_id q) (by_order r (k ∷ x ∷ xs) (x ∷ xs) (x ∷ with_item id_cmp k xs))
        ≡ (same_id q k || (same_id q x || list_any (same_id q) xs))
    by rest Less e = refl
    by rest Equal e = twice (same_id q x) (list_any (same_id q) xs)
        ∙ ap (λ (i : Id). same_id q i || (same_id q x || list_any (same_id q) xs)) (sym (id_exact k x e))
    by rest Greater e = ap (λ b. same_id q x || b) rest ∙ swap (same_id q x) (same_id q k) (list_any (same_id q) xs)

any_rising : (q : Id) (xs : List Id) → list_any (same_id q) (rising id_cmp xs) ≡ list_any (same_id q) xs
any_rising q [] = refl
any_rising q (x ∷ xs) = any_with q x (rising id_cmp xs) ∙ ap (λ b. same_id q x || b) (any_rising q xs)

pub any_filtered : (q : Id) (p : Id → Bool) (xs : List Id) → list_any (same_id q) (filter p xs) ≡ (list_any (same_id q) xs && p q)
any_filtered q p [] = refl
any_filtered q p (x ∷ xs) = by (any_filtered q p xs) (p x) refl (same_id q x) refl
  where
    gone : (b : Bool) → (b && false) ≡ false
    gone true = refl
    gone false = refl

    by : list_any (same_id q) (filter p xs) ≡ (list_any (same_id q) xs && p q) → (b : Bool) → p x ≡ b → (c : Bool) → same_id q x ≡ c
        → list_any (same_id q) (cond b (x ∷ filter p xs) (filter p xs)) ≡ ((c || list_any (same_id q) xs) && p q)
    by rest true e true f = ap (λ b. b || list_any (same_id q) (filter p xs)) f ∙ sym (ap p (id_from_same q x f) ∙ e)
    by rest true e false f = ap (λ b. b || list_any (same_id q) (filter p xs)) f ∙ rest
    by rest false e true f =
        let s : p q ≡ false = ap p (id_from_same q x f) ∙ e in
        rest ∙ ap (λ b. list_any (same_id q) xs && b) s ∙ gone (list_any (same_id q) xs) ∙ sym s
    by rest false e false f = rest

any_named : (q : Id) (ops : List Operation) → list_any (same_id q) (flat_map (λ (o : Operation). o.replaced) ops)
    ≡ list_any (λ o. names o q) ops
any_named q [] = refl
any_named q (o ∷ ops) = any_append (same_id q) o.replaced _ ∙ ap (λ b. names o q || b) (any_named q ops)

any_awaited : (ops : List Operation) (q : Id) → list_any (same_id q) (awaited ops) ≡ (list_any (λ o. names o q) ops && not (is_held ops q))
any_awaited ops q =
    any_rising q _ ∙ any_filtered q (λ id. not (is_held ops id)) (flat_map (λ (o : Operation). o.replaced) ops)
    ∙ ap (λ b. b && not (is_held ops q)) (any_named q ops)

or_true : (b : Bool) → (b || true) ≡ true
or_true true = refl
or_true false = refl

-- an id that an operation of a segment names is named
replaced_named : (ops : List Operation) (g : Segment) (q : Id) → is_replaced ops g q ≡ true → list_any (λ o. names o q) ops ≡ true
replaced_named [] g q h = h
replaced_named (o ∷ ops) g q h = by (replaced_named ops g q) (names o q) refl h
  where
    never : (b : Bool) → (b && false) ≡ false
    never true = refl
    never false = refl

    by : (is_replaced ops g q ≡ true → list_any (λ o. names o q) ops ≡ true) → (b : Bool) → names o q ≡ b
        → ((in_segment g o && b) || is_replaced ops g q) ≡ true → (b || list_any (λ o. names o q) ops) ≡ true
    by rest true e h = refl
    by rest false e h = rest (sym (ap (λ b. b || is_replaced ops g q) (never (in_segment g o))) ∙ h)

-- an id that is held nowhere is held in no segment
nowhere : (ops : List Operation) (g : Segment) (q : Id) → is_held ops q ≡ false → is_in ops g q ≡ false
nowhere [] g q h = refl
nowhere (o ∷ ops) g q h = by (nowhere ops g q) (same_id q o.id) h
  where
    never : (b : Bool) → (b && false) ≡ false
    never true = refl
    never false = refl

    by : (is_held ops q ≡ false → is_in ops g q ≡ false) → (b : Bool) → (b || is_held ops q) ≡ false
        → ((in_segment g o && b) || is_in ops g q) ≡ false
    by rest true h = cc h
    by rest false h = ap (λ b. b || is_in ops g q) (never (in_segment g o)) ∙ rest h

module _ (ops : List Operation) (chapters : List Chapter) (h : IsIndex ops chapters) (q : Id) where
  abbrev missed : List Chapter → Bool
  missed cs = list_any (λ c. list_any (λ r. list_any (same_id q) r.missing.items) c.registers.items) cs

  there : missed chapters ≡ true → list_any (λ o. names o q) ops ≡ true
  there m = from_any chapters h.orderly (λ g r. list_any (same_id q) r.missing.items) (λ g r e p.
      replaced_named ops g q
      (and_parts (is_replaced ops g q) (not (is_in ops g q))
      (sym (h.keeps.missing g q) ∙ ap (λ (x : Option Register). list_any (same_id q) (missing_in x)) e ∙ p)).0) m

  found : (g : Segment) → is_replaced ops g q ≡ true → is_held ops q ≡ false → missed chapters ≡ true
  found g e n = by (register_of g chapters) refl
    where
      missing : is_missing ops g q ≡ true
      missing = and_from _ _ e (ap not (nowhere ops g q n))

      by : (r : Option Register) → register_of g chapters ≡ r → missed chapters ≡ true
      by None f = cc (sym (h.keeps.missing g q ∙ missing) ∙ ap (λ (x : Option Register). list_any (same_id q) (missing_in x)) f)
      by (Some r) f = to_any chapters h.orderly (λ g r. list_any (same_id q) r.missing.items) g r f
          (sym (ap (λ (x : Option Register). list_any (same_id q) (missing_in x)) f) ∙ h.keeps.missing g q ∙ missing)

  back : is_held ops q ≡ false → (rest : List Operation) → ((g : Segment) → is_replaced rest g q ≡ true → is_replaced ops g q ≡ true)
      → list_any (λ o. names o q) rest ≡ true → missed chapters ≡ true
  back n [] all e = absurd (false≢true e)
  back n (o ∷ rest) all e = by
      (back n rest (λ g f. all g (ap (λ b. (in_segment g o && names o q) || b) f ∙ or_true (in_segment g o && names o q))))
      (names o q) refl e
    where
      by : (list_any (λ o. names o q) rest ≡ true → missed chapters ≡ true) → (b : Bool) → names o q ≡ b
          → (b || list_any (λ o. names o q) rest) ≡ true → missed chapters ≡ true
      by later true f e = found o.segment (all o.segment (ap (λ b. b || is_replaced rest o.segment q) (and_from _ _ (here o) f))) n
      by later false f e = later e

  pub missed_awaited : (missed chapters && not (is_held ops q)) ≡ list_any (same_id q) (awaited ops)
  missed_awaited = by (is_held ops q) refl ∙ sym (any_awaited ops q)
    where
      never : (a b : Bool) → (a && false) ≡ (b && false)
      never true true = refl
      never true false = refl
      never false true = refl
      never false false = refl

      by : (b : Bool) → is_held ops q ≡ b → (missed chapters && not b) ≡ (list_any (λ o. names o q) ops && not b)
      by true n = never (missed chapters) (list_any (λ o. names o q) ops)
      by false n = ap (λ b. b && true) (both_ways (missed chapters) (list_any (λ o. names o q) ops) there (back n ops (λ g f. f)))

-- what is gathered, sorted and kept once is what is awaited
pub awaited_is : (ops : List Operation) (chapters : List Chapter) (pushed sorted : List Id) → IsIndex ops chapters
    → ((q : Id) → list_any (same_id q) pushed ≡
    (list_any (λ c. list_any (λ r. list_any (same_id q) r.missing.items) c.registers.items) chapters && not (is_held ops q)))
    → IsPermutation pushed sorted → IsSorted id_cmp sorted → dedup same_id sorted ≡ awaited ops
awaited_is ops chapters pushed sorted h each p s =
    same_members (dedup same_id sorted) (awaited ops)
    (strict_rises (dedup same_id sorted) (IsStrictlySortedBy-dedup id_total (λ x y. same_id-cmp x y) sorted s))
    (rises-rising id_cmp id_total (filter (λ id. not (is_held ops id)) (flat_map (λ (o : Operation). o.replaced) ops))) (λ q.
    any_dedup q sorted ∙ sym (list_any-IsPermutation (same_id q) pushed sorted p) ∙ each q ∙ missed_awaited ops chapters h q)

-- where nothing is awaited, nothing is missed that no operation has
pub none_missed : (ops : List Operation) (chapters : List Chapter) → IsIndex ops chapters → awaited ops ≡ [] → (q : Id)
    → (is_missed_in chapters q && not (is_held ops q)) ≡ true → ⊥
none_missed ops chapters h none q m = false≢true (sym (ap (list_any (same_id q)) none) ∙ sym (missed_awaited ops chapters h q) ∙ m)
