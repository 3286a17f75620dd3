-- Groups of keys by forms: a key more, and their order.
use Rattle.std.proofs.Common.{◌≡◌, ℕ, zero, suc, ◌<◌, Bool, true, false, cond, ◌||◌, List, [], ◌∷◌}
use Rattle.std.proofs.Common.{◌++◌, length, map, take, slice_get, get_or, position, Some, refl, sym}
use Rattle.std.proofs.Common.{ap, subst, ◌∙◌, arith, Bor, false-eqb}
use Rattle.std.specs.Global.{Vec}
use Rattle.std.specs.declared.cmp.Ordering.{Ordering}
use Rattle.std.specs.declared.cmp.Ordering.TheVariants.{Less}
use Rattle.std.specs.Cmp.Lexicographic.{bytes_decides, texts_ties}
use Rattle.std.specs.List.{list_all, dedup, dedup_from, IsDistinct, AllByRecursion}
use Rattle.std.specs.List.Sorted.{IsSorted, IsStrictlySortedBy}
use Rattle.std.specs.Map.{keys_of, values_of}
use Rattle.std.specs.Ordering.{is_eq, is_lt}
use Rattle.std.specs.Str.{bytes_eq}
use Rattle.std.proofs.lemmas.Bool.{and_from, or_parts, ne_eqb, false≢true}
use Rattle.std.proofs.lemmas.Cmp.{on_total}
use Rattle.std.proofs.Math.Bool.{or-false}
use Rattle.std.proofs.lemmas.List.{length-append, map-append}
use Rattle.std.proofs.lemmas.List.Folds.{list_any-append}
use Rattle.std.proofs.lemmas.List.Kept.{IsStrictlySortedBy-dedup}
use Rattle.std.proofs.lemmas.List.Quantifiers.{position-Some}
use Rattle.std.proofs.lemmas.Map.Keys.{IsDistinct-head, IsDistinct-tail}
use Rattle.indexmap.specs.Layout.{set_value_at}
use Rattle.usfm_ref.specs.Keys.{KeyParts}
use Rattle.usfm_ref.specs.Rising.{rises_by}
use Rattle.concordance.specs.Loops.SpellingOrder.{spelling_cmp}
use Rattle.concordance.specs.Loops.Groups.{Group, spellings_with, group_spellings, all_spellings}
use Rattle.concordance.specs.Loops.Groups.{is_bare, has_bare, is_spelled, SpellsBoth}
use Rattle.concordance.specs.Words.{Spelling, form_cmp}
use Rattle.concordance.proofs.OrderLemmas.{form_total}

-- a form with a key, as a spelling
abbrev pub spelled_with : List ℕ → KeyParts → Spelling
spelled_with f k = record { form = f; key = k }

or_assoc : (a b c : Bool) → (a || (b || c)) ≡ ((a || b) || c)
or_assoc true b c = refl
or_assoc false b c = refl

or_last : (a b c : Bool) → ((a || b) || c) ≡ ((a || c) || b)
or_last true b c = refl
or_last false true true = refl
or_last false true false = refl
or_last false false true = refl
or_last false false false = refl

module _ (s : Spelling) where
  abbrev is_it : Spelling → Bool
  is_it t = is_eq (spelling_cmp s t)

  more_keys : (f : List ℕ) (ks js : List KeyParts)
      → is_spelled s (spellings_with f (ks ++ js)) ≡ (is_spelled s (spellings_with f ks) || is_spelled s (spellings_with f js))
  more_keys f ks js =
      ap (is_spelled s) (map-append (spelled_with f) ks js) ∙ list_any-append is_it (spellings_with f ks) (spellings_with f js)

  also_here : (g h : Group) (gs : List Group) (js : List KeyParts) → h.0.now ≡ g.0.now → h.1.items ≡ g.1.items ++ js
      → is_spelled s (all_spellings (h ∷ gs)) ≡ (is_spelled s (all_spellings (g ∷ gs)) || is_spelled s (spellings_with g.0.now js))
  also_here g h gs js form keys =
      let more = is_spelled s (spellings_with g.0.now js) in
      list_any-append is_it (group_spellings h) (all_spellings gs)
      ∙ ap (λ b. b || is_spelled s (all_spellings gs))
      ((λ i. is_spelled s (spellings_with (form i) (keys i))) ∙ more_keys g.0.now g.1.items js)
      ∙ or_last (is_spelled s (group_spellings g)) more (is_spelled s (all_spellings gs))
      ∙ ap (λ b. b || more) (sym (list_any-append is_it (group_spellings g) (all_spellings gs)))

  also_later : (g : Group) (gs hs : List Group) (more : Bool) → is_spelled s (all_spellings hs) ≡ (is_spelled s (all_spellings gs) || more)
      → is_spelled s (all_spellings (g ∷ hs)) ≡ (is_spelled s (all_spellings (g ∷ gs)) || more)
  also_later g gs hs more h =
      list_any-append is_it (group_spellings g) (all_spellings hs) ∙ ap (λ b. is_spelled s (group_spellings g) || b) h
      ∙ or_assoc (is_spelled s (group_spellings g)) (is_spelled s (all_spellings gs)) more
      ∙ ap (λ b. b || more) (sym (list_any-append is_it (group_spellings g) (all_spellings gs)))

  put_here : (gs : List Group) (at : ℕ) (f : Bor (List ℕ)) (old new : Vec KeyParts) (js : List KeyParts)
      → (get_or (keys_of gs) at f).now ≡ f.now → slice_get (values_of gs) at ≡ Some old → new.items ≡ old.items ++ js
      → is_spelled s (all_spellings (set_value_at gs at new)) ≡ (is_spelled s (all_spellings gs) || is_spelled s (spellings_with f.now js))
  put_here [] at f old new js form h e = cc
  put_here (x ∷ gs) zero f old new js form h e =
      let same : x.1 ≡ old = cc in
      also_here x (x.0, new) gs js refl (e ∙ ap (λ (v : Vec KeyParts). v.items ++ js) (sym same))
      ∙ ap (λ n. is_spelled s (all_spellings (x ∷ gs)) || is_spelled s (spellings_with n js)) form
  put_here (x ∷ gs) (suc at) f old new js form h e =
      also_later x gs (set_value_at gs at new) (is_spelled s (spellings_with f.now js)) (put_here gs at f old new js form h e)

  new_here : (gs : List Group) (f : Bor (List ℕ)) (new : Vec KeyParts) (js : List KeyParts) → new.items ≡ js
      → is_spelled s (all_spellings (gs ++ (f, new) ∷ [])) ≡ (is_spelled s (all_spellings gs) || is_spelled s (spellings_with f.now js))
  new_here [] f new js e =
      list_any-append is_it (group_spellings (f, new)) [] ∙ or-false _ ∙ ap (λ ks. is_spelled s (spellings_with f.now ks)) e
  new_here (x ∷ gs) f new js e =
      also_later x gs (gs ++ (f, new) ∷ []) (is_spelled s (spellings_with f.now js)) (new_here gs f new js e)

-- more keys in the group at a place
pub put_spelled : (gs : List Group) (at : ℕ) (f : Bor (List ℕ)) (old new : Vec KeyParts) (js : List KeyParts)
    → Some at ≡ position (λ x. bytes_eq f.now x.now) (keys_of gs) → slice_get (values_of gs) at ≡ Some old → new.items ≡ old.items ++ js
    → SpellsBoth (all_spellings gs) (spellings_with f.now js) (all_spellings (set_value_at gs at new))
put_spelled gs at f old new js is h e s =
    let p = position-Some (λ (x : Bor (List ℕ)). bytes_eq f.now x.now) (keys_of gs) at f (sym is) in
    put_here s gs at f old new js (sym ((bytes_decides f.now (get_or (keys_of gs) at f).now).0 p.1)) h e

-- a group more
pub new_spelled : (gs : List Group) (f : Bor (List ℕ)) (new : Vec KeyParts) (js : List KeyParts) → new.items ≡ js
    → SpellsBoth (all_spellings gs) (spellings_with f.now js) (all_spellings (gs ++ (f, new) ∷ []))
new_spelled gs f new js e s = new_here s gs f new js e

-- ---- each with a key

more_keyed : (f : Bor (List ℕ)) (new : Vec KeyParts) (ks js : List KeyParts) → new.items ≡ ks ++ js → 0 < length js
    → is_bare (f, new) ≡ false
more_keyed f new ks js e some = ne_eqb (length new.items) 0 (λ z. let l = ap length e ∙ length-append ks js in omega arith)

-- a group that gets keys leaves no group without one
pub put_keyed : (gs : List Group) (at : ℕ) (new : Vec KeyParts) (ks js : List KeyParts) → new.items ≡ ks ++ js → 0 < length js
    → has_bare gs ≡ false → has_bare (set_value_at gs at new) ≡ false
put_keyed [] at new ks js e some h = refl
put_keyed (x ∷ gs) zero new ks js e some h =
    let q = or_parts (is_bare x) (has_bare gs) h in ap (λ b. b || has_bare gs) (more_keyed x.0 new ks js e some) ∙ q.1
put_keyed (x ∷ gs) (suc at) new ks js e some h =
    let q = or_parts (is_bare x) (has_bare gs) h in
    ap (λ b. b || has_bare (set_value_at gs at new)) q.0 ∙ put_keyed gs at new ks js e some q.1

-- a new group with keys leaves no group without one
pub new_keyed : (gs : List Group) (f : Bor (List ℕ)) (new : Vec KeyParts) (js : List KeyParts) → new.items ≡ js → 0 < length js
    → has_bare gs ≡ false → has_bare (gs ++ (f, new) ∷ []) ≡ false
new_keyed [] f new js e some h = ap (λ b. b || false) (more_keyed f new [] js e some)
new_keyed (x ∷ gs) f new js e some h =
    let q = or_parts (is_bare x) (has_bare gs) h in
    ap (λ b. b || has_bare (gs ++ (f, new) ∷ [])) q.0 ∙ new_keyed gs f new js e some q.1

-- the keys of a group
pub group_keyed : (gs : List Group) (i : ℕ) (g : Group) → slice_get gs i ≡ Some g → has_bare gs ≡ false → 0 < length g.1.items
group_keyed [] i g at h = cc
group_keyed (x ∷ gs) zero g at h =
    let same : x ≡ g = cc in
    let q = or_parts (is_bare x) (has_bare gs) h in
    let n = false-eqb (length g.1.items) 0 (sym (ap is_bare (sym same) ∙ q.0)) in omega arith
group_keyed (x ∷ gs) (suc i) g at h = group_keyed gs i g at (or_parts (is_bare x) (has_bare gs) h).1

-- ---- sorted

-- lent forms are ordered as forms are
abbrev pub text_cmp : Bor (List ℕ) → Bor (List ℕ) → Ordering
text_cmp a b = form_cmp a.now b.now

-- whether two lent forms are equal in this order
abbrev pub text_eq : Bor (List ℕ) → Bor (List ℕ) → Bool
text_eq a b = bytes_eq a.now b.now

turned : (a b : Bor (List ℕ)) → text_eq a b ≡ false → text_eq b a ≡ false
turned a b h = by (text_eq b a) refl
  where
    by : (r : Bool) → text_eq b a ≡ r → text_eq b a ≡ false
    by false e = e
    by true e = absurd (false≢true (sym h ∙ (bytes_decides a.now b.now).1 (sym ((bytes_decides b.now a.now).0 e))))

kept_from : (k : Bor (List ℕ)) (xs : List (Bor (List ℕ))) → IsDistinct text_eq (k ∷ xs) → dedup_from text_eq k xs ≡ k ∷ xs
kept_from k [] d = refl
kept_from k (x ∷ xs) d =
    ap (λ b. cond b (dedup_from text_eq k xs) (k ∷ dedup_from text_eq x xs)) (turned k x (IsDistinct-head text_eq k (x ∷ xs) d).0)
    ∙ ap (λ l. k ∷ l) (kept_from x xs (IsDistinct-tail text_eq k (x ∷ xs) d))

kept : (xs : List (Bor (List ℕ))) → IsDistinct text_eq xs → dedup text_eq xs ≡ xs
kept [] d = refl
kept (x ∷ xs) d = kept_from x xs d

strict_rises : (gs : List Group) → IsStrictlySortedBy text_cmp (keys_of gs) → rises_by form_cmp (λ g. g.0.now) gs ≡ true
unfolding IsStrictlySortedBy
strict_rises [] h = refl
strict_rises (g ∷ gs) h = and_from _ _ (over gs h.0) (strict_rises gs h.1)
  where
    over : (hs : List Group) → AllByRecursion (λ k. text_cmp g.0 k ≡ Less) (keys_of hs)
        → list_all (λ x. is_lt (form_cmp g.0.now x.0.now)) hs ≡ true
    over [] a = refl
    over (x ∷ hs) a = and_from _ _ (ap is_lt a.0) (over hs a.1)

-- groups whose forms are sorted and distinct rise
pub groups_rise : (gs : List Group) → IsSorted text_cmp (keys_of gs) → IsDistinct text_eq (keys_of gs)
    → rises_by form_cmp (λ g. g.0.now) gs ≡ true
groups_rise gs sorted distinct =
    strict_rises gs
    (subst (IsStrictlySortedBy text_cmp) (kept (keys_of gs) distinct)
    (IsStrictlySortedBy-dedup (on_total (λ (k : Bor (List ℕ)). k.now) form_total) (λ a b. texts_ties a.now b.now) (keys_of gs) sorted))

-- the groups up to a place, and the one there
pub map_at : {A : Type 0} (f : Group → A) (gs : List Group) (i : ℕ) (g : Group) → slice_get gs i ≡ Some g
    → map f (take (suc i) gs) ≡ map f (take i gs) ++ f g ∷ []
map_at f [] i g h = cc
map_at f (x ∷ gs) zero g h = let same : x ≡ g = cc in ap (λ y. f y ∷ []) same
map_at f (x ∷ gs) (suc i) g h = ap (λ l. f x ∷ l) (map_at f gs i g h)
