-- The keys of an export are those with an operation, each chapter's after its head.
use Rattle.std.proofs.Common.{◌≡◌, ℕ, Bool, true, false, not, cond, ◌||◌, ◌&&◌, ◌==◌, List, [], ◌∷◌, ◌++◌, Option, None, Some, is_some, MatchOption, map, refl, sym, ap, subst, ◌∙◌}
use Rattle.std.specs.declared.cmp.Ordering.{Ordering}
use Rattle.std.specs.declared.cmp.Ordering.TheVariants.{Less, Equal, Greater}
use Rattle.std.specs.Ordering.{is_eq, is_lt, nat_cmp, ordering_then}
use Rattle.std.specs.List.{filter, flat_map, list_any}
use Rattle.std.specs.FinMap.Entries.{by_order}
use Rattle.std.specs.Cmp.{tied_itself}
use Rattle.std.proofs.lemmas.Cmp.{nat_cmp_total}
use Rattle.std.proofs.lemmas.Map.Lookups.{exact_unsigned}
use Rattle.std.proofs.lemmas.Bool.{and_from, true≢false, eqb-true, eq-eqb}
use Rattle.usfm_ref.specs.declared.key.Place.{Place}
use Rattle.usfm_ref.specs.declared.key.Place.TheVariants.{Head, Verse}
use Rattle.usfm_ref.specs.Keys.{KeyParts, key_cmp, head_of, is_head, place_cmp}
use Rattle.usfm_ref.specs.Rising.{rises_by, rising, with_item}
use Rattle.usfm_ref.proofs.Orders.{key_total, key_exact}
use Rattle.usfm_ref.proofs.Sorted.{Above, parts, first_above, above_trans, is_less, rises-rising}
use Rattle.usfm_ref.proofs.Members.{same_tested, tested_rising}
use Rattle.op_core.specs.Ops.{Operation}
use Rattle.op_core.specs.Export.{of_book, has_book, keys_in, exported_keys}
use Rattle.op_core.specs.Lists.{keys_of}
use Rattle.usfm_export.specs.Loops.Heads.{lacks_head, with_heads}
use Rattle.op_core.proofs.Exports.Exported.{any-rising}

-- ---- whether a book has keys

abbrev is_some_list : {X : Type 0} → List X → Bool
is_some_list [] = false
is_some_list (x ∷ xs) = true

any_kept : {X : Type 0} (p : X → Bool) (xs : List X) → list_any p xs ≡ is_some_list (filter p xs)
any_kept p [] = refl
any_kept p (x ∷ xs) = by (any_kept p xs) (p x)
  where
    by : list_any p xs ≡ is_some_list (filter p xs) → (b : Bool)
        → (b || list_any p xs) ≡ is_some_list (cond b (x ∷ filter p xs) (filter p xs))
    by rest true = refl
    by rest false = rest

some_mapped : {X Y : Type 0} (f : X → Y) (xs : List X) → is_some_list (map f xs) ≡ is_some_list xs
some_mapped f [] = refl
some_mapped f (x ∷ xs) = refl

some_with_item : (k : KeyParts) (xs : List KeyParts) → is_some_list (with_item key_cmp k xs) ≡ true
some_with_item k [] = refl
some_with_item k (x ∷ xs) =
    elim (key_cmp k x) as (λ r. is_some_list (by_order r (k ∷ x ∷ xs) (x ∷ xs) (x ∷ with_item key_cmp k xs)) ≡ true)
    [ Less ↦ refl | Equal ↦ refl | Greater ↦ refl ]

some_rising : (ks : List KeyParts) → is_some_list (rising key_cmp ks) ≡ is_some_list ks
some_rising [] = refl
some_rising (k ∷ ks) = some_with_item k (rising key_cmp ks)

has_book_is : (held : List Operation) (book : List ℕ) → has_book held book ≡ is_some_list (keys_of held book)
has_book_is held book =
    any_kept (of_book book) held ∙ sym (some_mapped (λ (o : Operation). o.segment.key) (filter (of_book book) held))
    ∙ sym (some_rising (keys_in held book))

-- what the first step of a walk over a book's keys says
pub has_key : (held : List Operation) (book : List ℕ) (ks rest : List KeyParts) (first : Option KeyParts) → ks ≡ keys_of held book
    → MatchOption first ((ks ≡ []) × (rest ≡ [])) (λ k. ks ≡ k ∷ rest) → is_some first ≡ has_book held book
has_key held book ks rest None e step = sym (has_book_is held book ∙ ap is_some_list (sym e ∙ step.0))
has_key held book ks rest (Some k) e step = sym (has_book_is held book ∙ ap is_some_list (sym e ∙ step))

-- ---- which keys there are

abbrev key_at : ℕ → Place → KeyParts
key_at c p = record { chapter = c; place = p }

is_own_head : (c : ℕ) (p : Place) → is_head p ≡ true → key_at c Head ≡ key_at c p
is_own_head c Head h = refl
is_own_head c (Verse n l) h = absurd (true≢false (sym h))

module _ (p : KeyParts → Bool) where
  -- the head of the chapter, or the key
  abbrev either : KeyParts → Bool
  either k = p (head_of k) || p k

  -- after a head that came already
  told : (x y w r : Bool) → (x || w) ≡ (x || r) → (x || (y || w)) ≡ (x || ((x || y) || r))
  told true y w r e = refl
  told false y w r e = ap (λ b. y || b) e

  both : (x y w r : Bool) → (x || w) ≡ (x || r) → (x || (y || w)) ≡ ((x || y) || r)
  both true y w r e = refl
  both false y w r e = ap (λ b. y || b) e

  one : (x y w r : Bool) → x ≡ y → (x || w) ≡ (x || r) → (y || w) ≡ ((x || y) || r)
  one true true w r s e = refl
  one true false w r s e = absurd (true≢false s)
  one false true w r s e = refl
  one false false w r s e = e

  same_of_head : (k : KeyParts) → is_head k.place ≡ true → p (head_of k) ≡ p k
  same_of_head k h = ap p (is_own_head k.chapter k.place h)

  any_later : (b : KeyParts) (ks : List KeyParts)
      → (p (head_of b) || list_any p (with_heads (Some b) ks)) ≡ (p (head_of b) || list_any either ks)
  any_later b [] = refl
  any_later b (k ∷ ks) = by (any_later k ks) (b.chapter == k.chapter) refl (is_head k.place) refl
    where
      by : (p (head_of k) || list_any p (with_heads (Some k) ks)) ≡ (p (head_of k) || list_any either ks) → (c : Bool)
          → (b.chapter == k.chapter) ≡ c → (h : Bool) → is_head k.place ≡ h
          → (p (head_of b) || list_any p (cond (not c && not h) (head_of k ∷ k ∷ []) (k ∷ []) ++ with_heads (Some k) ks)) ≡ (p
          (head_of b) || (either k || list_any either ks))
      by rest true e h f =
          let same : p (head_of k) ≡ p (head_of b) = ap (λ (c : ℕ). p (key_at c Head)) (sym (eqb-true b.chapter k.chapter e)) in
          subst (λ (x : Bool). (x || (p k || list_any p (with_heads (Some k) ks))) ≡ (x || (either k || list_any either ks))) same
          (told (p (head_of k)) (p k) (list_any p (with_heads (Some k) ks)) (list_any either ks) rest)
      by rest false e false f =
          ap (λ b'. p (head_of b) || b') (both (p (head_of k)) (p k) (list_any p (with_heads (Some k) ks)) (list_any either ks) rest)
      by rest false e true f =
          ap (λ b'. p (head_of b) || b') (one (p (head_of k)) (p k) (list_any p (with_heads (Some k) ks)) (list_any either ks)
          (same_of_head k f) rest)

  any_heads : (ks : List KeyParts) → list_any p (with_heads None ks) ≡ list_any either ks
  any_heads [] = refl
  any_heads (k ∷ ks) = by (any_later k ks) (is_head k.place) refl
    where
      by : (p (head_of k) || list_any p (with_heads (Some k) ks)) ≡ (p (head_of k) || list_any either ks) → (h : Bool) → is_head k.place ≡ h
          → list_any p (cond (not h) (head_of k ∷ k ∷ []) (k ∷ []) ++ with_heads (Some k) ks) ≡ (either k || list_any either ks)
      by rest false f = both (p (head_of k)) (p k) (list_any p (with_heads (Some k) ks)) (list_any either ks) rest
      by rest true f = one (p (head_of k)) (p k) (list_any p (with_heads (Some k) ks)) (list_any either ks) (same_of_head k f) rest

  any_paired : (ks : List KeyParts) → list_any p (flat_map (λ key. head_of key ∷ key ∷ []) ks) ≡ list_any either ks
  any_paired [] = refl
  any_paired (k ∷ ks) =
      grouped (p (head_of k)) (p k) (list_any p (flat_map (λ key. head_of key ∷ key ∷ []) ks)) ∙ ap (λ b. either k || b) (any_paired ks)
    where
      grouped : (a b c : Bool) → (a || (b || c)) ≡ ((a || b) || c)
      grouped true b c = refl
      grouped false b c = refl

-- ---- they rise

abbrev keys_rise : List KeyParts → Bool
keys_rise = rises_by key_cmp (λ k. k)

abbrev Over : KeyParts → List KeyParts → Type 0
Over = Above key_cmp key_total (λ (x : KeyParts). x)

-- a head is before the verses of its chapter
head_first : (c : ℕ) (p : Place) → is_head p ≡ false → is_lt (ordering_then (nat_cmp c c) (place_cmp Head p)) ≡ true
head_first c Head h = absurd (true≢false h)
head_first c (Verse n l) h = ap (λ (o : Ordering). is_lt (ordering_then o Less)) (tied_itself nat_cmp_total c)

-- what is before a key of another chapter is before that chapter's head
before_head : (b k : KeyParts) → (b.chapter == k.chapter) ≡ false → is_lt (key_cmp b k) ≡ true → is_lt (key_cmp b (head_of k)) ≡ true
before_head b k e l = by (nat_cmp b.chapter k.chapter) refl l
  where
    by : (o : Ordering) → nat_cmp b.chapter k.chapter ≡ o → is_lt (ordering_then o (place_cmp b.place k.place)) ≡ true
        → is_lt (ordering_then o (place_cmp b.place Head)) ≡ true
    by Less f l = refl
    by Equal f l = absurd (true≢false (sym (eq-eqb b.chapter k.chapter (exact_unsigned b.chapter k.chapter f)) ∙ e))
    by Greater f l = absurd (true≢false (sym l))

over_heads : (b : KeyParts) (ks : List KeyParts) → Over b ks → keys_rise ks ≡ true → Over b (with_heads (Some b) ks)
over_heads b [] h r = refl
over_heads b (k ∷ ks) h r =
    let q = first_above key_cmp key_total (λ (x : KeyParts). x) b k ks h in
    let s = parts key_cmp key_total (λ (x : KeyParts). x) k ks r in
    let later = above_trans key_cmp key_total (λ (x : KeyParts). x) b k (with_heads (Some k) ks) (is_less _ q.0)
    (over_heads k ks s.0 s.1) in
    by q.0 (and_from _ _ q.0 later) (b.chapter == k.chapter) refl (is_head k.place)
  where
    by : is_lt (key_cmp b k) ≡ true → Over b (k ∷ with_heads (Some k) ks) → (c : Bool) → (b.chapter == k.chapter) ≡ c → (h : Bool)
        → Over b (cond (not c && not h) (head_of k ∷ k ∷ []) (k ∷ []) ++ with_heads (Some k) ks)
    by l own true e h = own
    by l own false e true = own
    by l own false e false = and_from _ _ (before_head b k e l) own

rise_heads : (before : Option KeyParts) (ks : List KeyParts) → keys_rise ks ≡ true → keys_rise (with_heads before ks) ≡ true
rise_heads before [] h = refl
rise_heads before (k ∷ ks) h =
    let s = parts key_cmp key_total (λ (x : KeyParts). x) k ks h in
    let over : Over k (with_heads (Some k) ks) = over_heads k ks s.0 s.1 in
    by over (and_from _ _ over (rise_heads (Some k) ks s.1)) (lacks_head before k) refl
  where
    no_head : (before : Option KeyParts) → lacks_head before k ≡ true → is_head k.place ≡ false
    no_head None e = no (is_head k.place) e
      where
        no : (h : Bool) → not h ≡ true → h ≡ false
        no true e = sym e
        no false e = refl
    no_head (Some b) e = no (b.chapter == k.chapter) (is_head k.place) e
      where
        no : (c h : Bool) → (not c && not h) ≡ true → h ≡ false
        no true h e = absurd (true≢false (sym e))
        no false true e = sym e
        no false false e = refl

    by : Over k (with_heads (Some k) ks) → keys_rise (k ∷ with_heads (Some k) ks) ≡ true → (t : Bool) → lacks_head before k ≡ t
        → keys_rise (cond t (head_of k ∷ k ∷ []) (k ∷ []) ++ with_heads (Some k) ks) ≡ true
    by over own false e = own
    by over own true e =
        let first : is_lt (key_cmp (head_of k) k) ≡ true = head_first k.chapter k.place (no_head before e) in
        and_from _ _ (and_from _ _ first (above_trans key_cmp key_total (λ (x : KeyParts). x) (head_of k) k (with_heads (Some k) ks)
        (is_less _ first) over)) own

-- the keys with an operation, each chapter's after its head, are those of the export
pub heads_are : (held : List Operation) (book : List ℕ) → with_heads None (keys_of held book) ≡ exported_keys held book
heads_are held book =
    same_tested key_cmp key_total key_exact (with_heads None (keys_of held book)) (exported_keys held book)
    (rise_heads None (keys_of held book) (rises-rising key_cmp key_total (keys_in held book)))
    (rises-rising key_cmp key_total (flat_map (λ key. head_of key ∷ key ∷ []) (keys_in held book))) (λ q.
    let p : KeyParts → Bool = λ k. is_eq (key_cmp q k) in
    any_heads p (keys_of held book)
    ∙ any-rising (either p) (keys_in held book)
    ∙ sym (any_paired p (keys_in held book))
    ∙ sym (tested_rising key_cmp key_total key_exact q (flat_map (λ key. head_of key ∷ key ∷ []) (keys_in held book))))
