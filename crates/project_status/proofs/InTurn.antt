-- The verses of a book come in turn, since its keys rise; and of those that do, the tallies of the chapters.
use Rattle.std.proofs.Common.{◌≡◌, ℕ, zero, suc, ◌+◌, ◌<◌, ◌≤◌, Bool, true, false, cond, ◌==◌, List, [], ◌∷◌, ◌++◌, length, get_or, set, take, arith, refl, sym, ap, ◌∙◌}
use Rattle.std.specs.declared.cmp.Ordering.TheVariants.{Less, Equal, Greater}
use Rattle.std.specs.Ordering.{nat_cmp, ordering_then, is_lt}
use Rattle.std.specs.List.{list_all, flat_map, AllByRecursion}
use Rattle.std.proofs.lemmas.Bool.{and_parts, eqb-true, eqb-false, eq-eqb}
use Rattle.std.proofs.lemmas.Grind.{get_or-set_at, flat_map-append}
use Rattle.std.proofs.lemmas.List.{get_or-set_other, length-set}
use Rattle.std.proofs.lemmas.List.Elements.{filter_more}
use Rattle.usfm_ref.specs.declared.key.Place.{Place}
use Rattle.usfm_ref.specs.declared.key.Place.TheVariants as place
use Rattle.usfm_ref.specs.Keys.{KeyParts, key_cmp, place_cmp, letter_cmp}
use Rattle.usfm_ref.specs.Rising.{rises_by}
use Rattle.usfm_ref.specs.Segments.{segment}
use Rattle.usfm_ref.proofs.Orders.{key_total}
use Rattle.usfm_ref.proofs.Sorted.{is_less, parts, rises-rising}
use Rattle.op_core.specs.Export.{keys_in}
use Rattle.op_core.specs.Lists.{keys_of}
use Rattle.op_core.specs.Ops.{Operation, own_text}
use Rattle.op_core.specs.Shown.{Pick, Line, Greatest, Empty, pick, is_empty}
use Rattle.usfm_token.specs.Tokens.{tokens_of}
use Rattle.project_status.specs.declared.verses.Verse.{Verse}
use Rattle.project_status.specs.Verses.{verse_of, verse_at, verse_picked, verses_of}
use Rattle.project_status.specs.Progress.{in_chapter, below}
use Rattle.project_status.specs.declared.chapters.Tally.{Tally}
use Rattle.project_status.specs.Loops.Tallies.{Follows, AreInTurn, none_counted, tally_of, with_verse}
use Rattle.project_status.proofs.Tallies.{tally_more}

-- ---- by the order of keys

-- the number of a place, 0 at a head
abbrev pub number_of : Place → ℕ
number_of place.Head = 0
number_of (place.Verse number letter) = number

-- the verse of a key
pub record IsAt (k : KeyParts) (v : Verse) : Type 0 where
  pub chapter : v.chapter ≡ k.chapter
  pub first : v.first ≡ number_of k.place

at_key : (k : KeyParts) (p : Pick) → AllByRecursion (IsAt k) (verse_picked k p)
at_key k (Line chapter) = tt
at_key k Empty = tt
at_key k (Greatest o) = by k.place refl
  where
    by : (p : Place) → k.place ≡ p → AllByRecursion (IsAt k) (verse_at k.chapter p (own_text o))
    by place.Head e = tt
    by (place.Verse number letter) e = there (is_empty (own_text o))
      where
        there : (b : Bool)
            → AllByRecursion (IsAt k) (cond b [] (verse_of k.chapter number letter (tokens_of (own_text o)) ∷ []))
        there true = tt
        there false = (record { chapter = refl; first = sym (ap number_of e) }, tt)

place_below : (p q : Place) → place_cmp p q ≡ Less → number_of p ≤ number_of q
place_below place.Head q h = omega arith
place_below (place.Verse n l) place.Head h = cc
place_below (place.Verse n l) (place.Verse m k) h = by (nat_cmp n m) refl h
  where
    by : (r : _) → nat_cmp n m ≡ r → ordering_then r (letter_cmp l k) ≡ Less → n ≤ m
    by Less e t = grind (arith, e)
    by Equal e t = grind (arith, e)
    by Greater e t = cc

key_below : (a b : KeyParts) → key_cmp a b ≡ Less → a.chapter ≡ b.chapter → number_of a.place ≤ number_of b.place
key_below a b h same = by (nat_cmp a.chapter b.chapter) refl h
  where
    by : (r : _) → nat_cmp a.chapter b.chapter ≡ r → ordering_then r (place_cmp a.place b.place) ≡ Less
        → number_of a.place ≤ number_of b.place
    by Less e t = absurd (grind (arith, e, same))
    by Equal e t = place_below a.place b.place t
    by Greater e t = absurd (grind (arith, e, same))

follow : (k q : KeyParts) (v : Verse) (ws : List Verse) → key_cmp k q ≡ Less → IsAt k v → AllByRecursion (IsAt q) ws
    → AllByRecursion (Follows v) ws
follow k q v [] h a b = tt
follow k q v (w ∷ ws) h a b = (
  λ same.
      let le = key_below k q h (sym a.chapter ∙ same ∙ b.0.chapter) in
      omega (arith, le, a.first, b.0.first),
  follow k q v ws h a b.1,
)

append_all : (P : Verse → Type 0) (vs ws : List Verse) → AllByRecursion P vs → AllByRecursion P ws → AllByRecursion P (vs ++ ws)
append_all P [] ws a b = b
append_all P (v ∷ vs) ws a b = (a.0, append_all P vs ws a.1 b)

module _ (f : KeyParts → List Verse) (each : (k : KeyParts) → AllByRecursion (IsAt k) (f k)) where
  all_follow : (k : KeyParts) (v : Verse) (ks : List KeyParts) → IsAt k v → list_all (λ q. is_lt (key_cmp k q)) ks ≡ true
      → AllByRecursion (Follows v) (flat_map f ks)
  all_follow k v [] a h = tt
  all_follow k v (q ∷ ks) a h =
      let p = and_parts (is_lt (key_cmp k q)) (list_all (λ q. is_lt (key_cmp k q)) ks) h in
      append_all (Follows v) (f q) (flat_map f ks) (follow k q v (f q) (is_less _ p.0) a (each q)) (all_follow k v ks a p.1)

  -- verses of one key, and then those that follow
  then_later : (k : KeyParts) (vs : List Verse) (ks : List KeyParts) → AllByRecursion (IsAt k) vs
      → list_all (λ q. is_lt (key_cmp k q)) ks ≡ true → AreInTurn (flat_map f ks) → AreInTurn (vs ++ flat_map f ks)
  then_later k [] ks a h later = later
  then_later k (v ∷ vs) ks a h later = (
    append_all (Follows v) vs (flat_map f ks) (beside vs a.1) (all_follow k v ks a.0 h),
    then_later k vs ks a.1 h later,
  )
    where
      beside : (ws : List Verse) → AllByRecursion (IsAt k) ws → AllByRecursion (Follows v) ws
      beside [] b = tt
      beside (w ∷ ws) b = (λ same. omega (arith, a.0.first, b.0.first), beside ws b.1)

  in_turn : (ks : List KeyParts) → rises_by key_cmp (λ k. k) ks ≡ true → AreInTurn (flat_map f ks)
  in_turn [] h = tt
  in_turn (k ∷ ks) h =
      let p = parts key_cmp key_total (λ (x : KeyParts). x) k ks h in then_later k (f k) ks (each k) p.0 (in_turn ks p.1)

-- the verses of a book come in turn
pub verses_in_turn : (held : List Operation) (book : List ℕ) → AreInTurn (verses_of held book)
verses_in_turn held book =
    in_turn (λ key. verse_picked key (pick held (segment book key))) (λ k. at_key k (pick held (segment book k))) (keys_of held book)
    (rises-rising key_cmp key_total (keys_in held book))

-- ---- of those that come in turn

followed : (vs : List Verse) (i : ℕ) (v : Verse) → AreInTurn vs → i < length vs → v ≡ get_or vs i v
    → AllByRecursion (λ w. Follows w v) (take i vs)
followed [] i v t l e = absurd (omega (arith, l))
followed (w ∷ vs) zero v t l e = tt
followed (w ∷ vs) (suc i) v t l e = (
  at vs i t.0 (omega (arith, l)) e,
  followed vs i v t.1 (omega (arith, l)) e,
)
  where
    at : (ws : List Verse) (j : ℕ) → AllByRecursion (Follows w) ws → j < length ws → v ≡ get_or ws j v → Follows w v
    at [] j a l e = absurd (omega (arith, l))
    at (x ∷ ws) zero a l e = rw e a.0
    at (x ∷ ws) (suc j) a l e = at ws j a.1 (omega (arith, l)) e

kept_before : (v : Verse) (ws : List Verse) → AllByRecursion (λ w. Follows w v) ws
    → AllByRecursion (λ w. w.first ≤ v.first) (in_chapter v.chapter ws)
kept_before v [] h = tt
kept_before v (w ∷ ws) h = by (kept_before v ws h.1) (w.chapter == v.chapter) refl
  where
    by : AllByRecursion (λ x. x.first ≤ v.first) (in_chapter v.chapter ws) → (b : Bool) → (w.chapter == v.chapter) ≡ b
        → AllByRecursion (λ x. x.first ≤ v.first) (cond b (w ∷ in_chapter v.chapter ws) (in_chapter v.chapter ws))
    by rest true e = (h.0 (eqb-true w.chapter v.chapter e), rest)
    by rest false e = rest

-- the verses of its chapter that come before a verse do not begin after it
pub before_it : (vs : List Verse) (i : ℕ) (v : Verse) → AreInTurn vs → i < length vs → v ≡ get_or vs i v
    → AllByRecursion (λ w. w.first ≤ v.first) (in_chapter v.chapter (take i vs))
before_it vs i v t l e = kept_before v (take i vs) (followed vs i v t l e)

-- the verses of a chapter with one more
pub in_chapter_more : (c : ℕ) (vs : List Verse) (i : ℕ) (v : Verse) → i < length vs → v ≡ get_or vs i v
    → in_chapter c (take (i + 1) vs) ≡ in_chapter c (take i vs) ++ cond (v.chapter == c) (v ∷ []) []
in_chapter_more c vs i v l e =
    filter_more (λ (w : Verse). w.chapter == c) vs i v l
    ∙ ap (λ (w : Verse). in_chapter c (take i vs) ++ cond (w.chapter == c) (w ∷ []) []) (sym e)

-- ---- what is kept of the chapters

-- each chapter below 1000 has the tally of its verses
abbrev pub Kept : List Verse → List Tally → Type 0
Kept vs items = (length items ≡ 1000) × ((c : ℕ) → c < 1000 → get_or items c none_counted ≡ tally_of (in_chapter c vs))

end_none : (vs : List Verse) → vs ++ [] ≡ vs
end_none [] = refl
end_none (v ∷ vs) = ap (λ (ws : List Verse). v ∷ ws) (end_none vs)

module _ (vs : List Verse) (i : ℕ) (v : Verse) (l : i < length vs) (is : v ≡ get_or vs i v) where
  others : (c : ℕ) → (v.chapter == c) ≡ false → in_chapter c (take (i + 1) vs) ≡ in_chapter c (take i vs)
  others c e =
      in_chapter_more c vs i v l is ∙ ap (λ b. in_chapter c (take i vs) ++ cond b (v ∷ []) []) e ∙ end_none (in_chapter c (take i vs))

  its : AreInTurn vs → tally_of (in_chapter v.chapter (take (i + 1) vs)) ≡ with_verse (tally_of (in_chapter v.chapter (take i vs))) v
  its turn =
      ap tally_of (in_chapter_more v.chapter vs i v l is
      ∙ ap (λ b. in_chapter v.chapter (take i vs) ++ cond b (v ∷ []) []) (eq-eqb v.chapter v.chapter refl))
      ∙ tally_more (in_chapter v.chapter (take i vs)) v (before_it vs i v turn l is)

  -- a chapter's tally with its verse more
  pub kept_with : AreInTurn vs → (items : List Tally) (t : Tally) → Kept (take i vs) items → v.chapter < length items
      → t ≡ with_verse (get_or items v.chapter none_counted) v → Kept (take (i + 1) vs) (set items v.chapter t)
  kept_with turn items t h less e = (length-set items v.chapter t ∙ h.0, λ c below. by c below (v.chapter == c) refl)
    where
      by : (c : ℕ) → c < 1000 → (b : Bool) → (v.chapter == c) ≡ b
          → get_or (set items v.chapter t) c none_counted ≡ tally_of (in_chapter c (take (i + 1) vs))
      by c below true at =
          let same : c ≡ v.chapter = sym (eqb-true v.chapter c at) in
          get_or-set_at items v.chapter c t none_counted same less
          ∙ e ∙ ap (λ (u : Tally). with_verse u v) (h.1 v.chapter (omega (arith, less, h.0)))
          ∙ sym (its turn) ∙ ap (λ k. tally_of (in_chapter k (take (i + 1) vs))) (sym same)
      by c below false at =
          get_or-set_other items v.chapter c t none_counted (λ same. eqb-false v.chapter c at (sym same))
          ∙ h.1 c below ∙ ap tally_of (sym (others c at))

  -- a verse of a chapter that is not kept
  pub kept_without : (items : List Tally) → Kept (take i vs) items → length items ≤ v.chapter → Kept (take (i + 1) vs) items
  kept_without items h far = (h.0, λ c below. by c below (v.chapter == c) refl)
    where
      by : (c : ℕ) → c < 1000 → (b : Bool) → (v.chapter == c) ≡ b
          → get_or items c none_counted ≡ tally_of (in_chapter c (take (i + 1) vs))
      by c below true at = absurd (omega (arith, far, h.0, below, eqb-true v.chapter c at))
      by c below false at = h.1 c below ∙ ap tally_of (sym (others c at))

below_suc : (n : ℕ) → below (suc n) ≡ below n ++ n ∷ []
unfolding below
below_suc n = refl

-- what a function gives of the numbers up to one more
pub below_more : {X : Type 0} (f : ℕ → List X) (n : ℕ) → flat_map f (below (n + 1)) ≡ flat_map f (below n) ++ f n
below_more {X} f n =
    let e : n + 1 ≡ suc n = omega arith in
    ap (λ k. flat_map f (below k)) e ∙ ap (flat_map f) (below_suc n) ∙ flat_map-append f (below n) (n ∷ [])
    ∙ ap (λ (xs : List X). flat_map f (below n) ++ xs) (none (f n))
  where
    none : {Y : Type 0} (ys : List Y) → ys ++ [] ≡ ys
    none [] = refl
    none {Y} (y ∷ ys) = ap (λ (zs : List Y). y ∷ zs) (none ys)

-- of no numbers nothing
pub below_none : {X : Type 0} (f : ℕ → List X) → flat_map f (below 0) ≡ []
unfolding below
below_none f = refl
