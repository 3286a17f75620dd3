-- Words gathered from spellings, whatever their order and however often one comes.
use Rattle.std.proofs.Common.{◌≡◌, ℕ, zero, suc, ◌<◌, Bool, true, false, cond, ◌&&◌, ◌||◌, List, []}
use Rattle.std.proofs.Common.{◌∷◌, ◌++◌, length, map, filter, take, slice_get, Some, append-nil}
use Rattle.std.proofs.Common.{append_assoc, refl, sym, ap, ◌∙◌, arith, false-eqb}
use Rattle.std.specs.declared.cmp.Ordering.{Ordering}
use Rattle.std.specs.declared.cmp.Ordering.TheVariants.{Less, Equal, Greater}
use Rattle.std.specs.Ordering.{is_eq, is_lt}
use Rattle.std.specs.Cmp.{tied_itself, Equal-is}
use Rattle.std.specs.Cmp.Lexicographic.{bytes_decides}
use Rattle.std.specs.FinMap.Entries.{by_order}
use Rattle.std.specs.List.{list_any, list_all}
use Rattle.std.specs.List.Sorted.{IsPermutation}
use Rattle.std.specs.Str.{bytes_eq}
use Rattle.std.proofs.lemmas.Bool.{and_parts, and_from, or_parts, or_right, true≢false, false≢true}
use Rattle.std.proofs.lemmas.List.{length-map, map-append}
use Rattle.std.proofs.lemmas.List.Elements.{filter-append}
use Rattle.std.proofs.lemmas.List.Folds.{list_all-append, list_any-append}
use Rattle.std.proofs.lemmas.List.Sorted.{list_any-IsPermutation}
use Rattle.usfm_ref.specs.Keys.{KeyParts, key_cmp}
use Rattle.usfm_ref.specs.Rising.{rises_by, with_item, rising}
use Rattle.usfm_ref.proofs.Members.{same_tested, tested_rising}
use Rattle.usfm_ref.proofs.Orders.{key_total, key_exact}
use Rattle.usfm_ref.proofs.Sorted.{rises-rising, is_less}
use Rattle.concordance.specs.Loops.SpellingOrder.{spelling_cmp}
use Rattle.concordance.specs.Loops.Groups.{Group, spellings_with, group_spellings, all_spellings}
use Rattle.concordance.specs.Loops.Groups.{is_bare, has_bare, is_spelled, SpellsBoth, SpellsSame}
use Rattle.concordance.specs.Loops.Groups.{composed, form_at}
use Rattle.concordance.specs.Words.{Spelling, WordParts, form_cmp, form_of, keys_with, word_with}
use Rattle.concordance.specs.Words.{words_in}
use Rattle.concordance.proofs.OrderLemmas.{form_total, form_exact, spelling_total, spelling_exact}

-- ---- rising lists

module _ {K : Type 0} (cmp : K → K → Ordering) where
  all_with : (p : K → Bool) (k : K) (xs : List K) → p k ≡ true → list_all p xs ≡ true → list_all p (with_item cmp k xs) ≡ true
  all_with p k [] e h = and_from _ _ e refl
  all_with p k (x ∷ xs) e h =
      let q = and_parts (p x) (list_all p xs) h in
      let rest = all_with p k xs e q.1 in
      elim (cmp k x) as (λ r. list_all p (by_order r (k ∷ x ∷ xs) (x ∷ xs) (x ∷ with_item cmp k xs)) ≡ true)
      [ Less ↦ and_from _ _ e h | Equal ↦ h | Greater ↦ and_from _ _ q.0 rest ]

  all_rising : (p : K → Bool) (xs : List K) → list_all p xs ≡ true → list_all p (rising cmp xs) ≡ true
  all_rising p [] h = refl
  all_rising p (x ∷ xs) h = let q = and_parts (p x) (list_all p xs) h in all_with p x (rising cmp xs) q.0 (all_rising p xs q.1)

  -- below all of a list
  with_least : (k : K) (xs : List K) → list_all (λ x. is_lt (cmp k x)) xs ≡ true → with_item cmp k xs ≡ k ∷ xs
  with_least k [] h = refl
  with_least k (x ∷ xs) h =
      let q = and_parts (is_lt (cmp k x)) (list_all (λ x. is_lt (cmp k x)) xs) h in
      ap (λ r. by_order r (k ∷ x ∷ xs) (x ∷ xs) (x ∷ with_item cmp k xs)) (is_less _ q.0)

-- ---- the words do not hang on the order of the spellings, nor on how often one comes

any_forms : (f : List ℕ) (ss : List Spelling)
    → list_any (λ g. is_eq (form_cmp f g)) (map (λ s. s.form) ss) ≡ list_any (λ s. is_eq (form_cmp f s.form)) ss
any_forms f [] = refl
any_forms f (s ∷ ss) = ap (λ b. is_eq (form_cmp f s.form) || b) (any_forms f ss)

any_keys : (f : List ℕ) (k : KeyParts) (ss : List Spelling)
    → list_any (λ j. is_eq (key_cmp k j)) (keys_with ss f) ≡ list_any (λ s. bytes_eq s.form f && is_eq (key_cmp k s.key)) ss
any_keys f k [] = refl
any_keys f k (s ∷ ss) = by (any_keys f k ss) (bytes_eq s.form f)
  where
    by : list_any (λ j. is_eq (key_cmp k j)) (keys_with ss f) ≡ list_any (λ s. bytes_eq s.form f && is_eq (key_cmp k s.key)) ss
        → (b : Bool) → list_any (λ j. is_eq (key_cmp k j))
        (map (λ s. s.key) (cond b (s ∷ filter (λ s. bytes_eq s.form f) ss) (filter (λ s. bytes_eq s.form f) ss)))
        ≡ ((b && is_eq (key_cmp k s.key)) || list_any (λ s. bytes_eq s.form f && is_eq (key_cmp k s.key)) ss)
    by rest true = ap (λ b. is_eq (key_cmp k s.key) || b) rest
    by rest false = rest

-- what is said in one list and also in another
abbrev Also : List Spelling → List Spelling → Type 0
Also ss ts = (s : Spelling) → is_spelled s ss ≡ true → is_spelled s ts ≡ true

module _ (p : Spelling → Bool) where
  any_spelled : (s : Spelling) (ts : List Spelling) → p s ≡ true → is_spelled s ts ≡ true → list_any p ts ≡ true
  any_spelled s [] e h = absurd (false≢true h)
  any_spelled s (t ∷ ts) e h = by (any_spelled s ts e) (is_eq (spelling_cmp s t)) refl
    where
      by : (is_spelled s ts ≡ true → list_any p ts ≡ true) → (b : Bool) → is_eq (spelling_cmp s t) ≡ b → list_any p (t ∷ ts) ≡ true
      by rest true k = ap (λ b. b || list_any p ts) (ap p (sym (spelling_exact s t ((Equal-is _).0 k))) ∙ e)
      by rest false k = or_right (p t) _ (rest (sym (ap (λ b. b || is_spelled s ts) k) ∙ h))

  any_also : (ss ts : List Spelling) → Also ss ts → list_any p ss ≡ true → list_any p ts ≡ true
  any_also [] ts also h = absurd (false≢true h)
  any_also (s ∷ ss) ts also h = by (any_also ss ts (λ t k. also t (or_right (is_eq (spelling_cmp t s)) _ k))) (p s) refl
    where
      by : (list_any p ss ≡ true → list_any p ts ≡ true) → (b : Bool) → p s ≡ b → list_any p ts ≡ true
      by rest true e = any_spelled s ts e (also s (ap (λ r. is_eq r || is_spelled s ss) (tied_itself spelling_total s)))
      by rest false e = rest (sym (ap (λ b. b || list_any p ss) e) ∙ h)

  any_same : (ss ts : List Spelling) → SpellsSame ss ts → list_any p ss ≡ list_any p ts
  any_same ss ts same = both _ _ (any_also ss ts (λ s h. sym (same s) ∙ h)) (any_also ts ss (λ s h. same s ∙ h))
    where
      both : (a b : Bool) → (a ≡ true → b ≡ true) → (b ≡ true → a ≡ true) → a ≡ b
      both true b f g = sym (f refl)
      both false true f g = absurd (false≢true (g refl))
      both false false f g = refl

forms_same : (ss ts : List Spelling) → SpellsSame ss ts → rising form_cmp (map (λ s. s.form) ss) ≡ rising form_cmp (map (λ s. s.form) ts)
forms_same ss ts same =
    same_tested form_cmp form_total form_exact (rising form_cmp (map (λ s. s.form) ss)) (rising form_cmp (map (λ s. s.form) ts))
    (rises-rising form_cmp form_total (map (λ s. s.form) ss)) (rises-rising form_cmp form_total (map (λ s. s.form) ts))
    (λ f.
    tested_rising form_cmp form_total form_exact f (map (λ s. s.form) ss) ∙ any_forms f ss
    ∙ any_same (λ s. is_eq (form_cmp f s.form)) ss ts same
    ∙ sym (any_forms f ts) ∙ sym (tested_rising form_cmp form_total form_exact f (map (λ s. s.form) ts)))

keys_same : (f : List ℕ) (ss ts : List Spelling) → SpellsSame ss ts → rising key_cmp (keys_with ss f) ≡ rising key_cmp (keys_with ts f)
keys_same f ss ts same =
    same_tested key_cmp key_total key_exact (rising key_cmp (keys_with ss f)) (rising key_cmp (keys_with ts f))
    (rises-rising key_cmp key_total (keys_with ss f)) (rises-rising key_cmp key_total (keys_with ts f))
    (λ k.
    tested_rising key_cmp key_total key_exact k (keys_with ss f) ∙ any_keys f k ss
    ∙ any_same (λ s. bytes_eq s.form f && is_eq (key_cmp k s.key)) ss ts same
    ∙ sym (any_keys f k ts) ∙ sym (tested_rising key_cmp key_total key_exact k (keys_with ts f)))

-- lists that say the same spellings have the same words
pub words_same : (ss ts : List Spelling) → SpellsSame ss ts → words_in ss ≡ words_in ts
words_same ss ts same =
    ap (map (word_with ss)) (forms_same ss ts same)
    ∙ ap (λ (w : List ℕ → WordParts). map w (rising form_cmp (map (λ s. s.form) ts)))
    (λ i f. (let word : WordParts = record { form = f; keys = keys_same f ss ts same i } in word))

-- ---- spellings composed

spelled_composed : (s : Spelling) (ss : List Spelling)
    → is_spelled s (map composed ss) ≡ list_any (λ t. is_eq (spelling_cmp s (composed t))) ss
spelled_composed s [] = refl
spelled_composed s (t ∷ ss) = ap (λ b. is_eq (spelling_cmp s (composed t)) || b) (spelled_composed s ss)

keys_composed : (form : List ℕ) (keys : List KeyParts) → map composed (spellings_with form keys) ≡ spellings_with (form_of form) keys
keys_composed form [] = refl
keys_composed form (k ∷ keys) =
    ap (λ l. (let s : Spelling = record { form = form_of form; key = k } in s) ∷ l) (keys_composed form keys)

-- what says the same does so when it is composed
pub composed_same : (ss ts : List Spelling) → SpellsSame ss ts → SpellsSame (map composed ss) (map composed ts)
composed_same ss ts same s =
    spelled_composed s ss ∙ any_same (λ t. is_eq (spelling_cmp s (composed t))) ss ts same ∙ sym (spelled_composed s ts)

-- one more
pub noted_more : (s : Spelling) (old new : List Spelling) (t : Spelling) (rest : List Spelling) → SpellsBoth old (t ∷ []) new
    → (is_spelled s new || is_spelled s rest) ≡ (is_spelled s old || is_spelled s (t ∷ rest))
noted_more s old new t rest also =
    ap (λ b. b || is_spelled s rest) (also s) ∙ by (is_spelled s old) (is_eq (spelling_cmp s t)) (is_spelled s rest)
  where
    by : (a b c : Bool) → ((a || (b || false)) || c) ≡ (a || (b || c))
    by true b c = refl
    by false true c = refl
    by false false c = refl

-- no more spellings say nothing more
pub none_more : (s : Spelling) (ss : List Spelling) → (is_spelled s ss || is_spelled s []) ≡ is_spelled s ss
none_more s ss = by (is_spelled s ss)
  where
    by : (a : Bool) → (a || false) ≡ a
    by true = refl
    by false = refl

-- the spellings of the groups up to a place, and of the one there
pub composed_at : (gs : List Group) (i : ℕ) (g : Group) → slice_get gs i ≡ Some g
    → map composed (all_spellings (take (suc i) gs)) ≡ map composed (all_spellings (take i gs)) ++ spellings_with (form_at g) g.1.items
composed_at [] i g h = cc
composed_at (x ∷ gs) zero g h =
    let same : x ≡ g = cc in
    ap (map composed) (append-nil (group_spellings x)) ∙ keys_composed x.0.now x.1.items
    ∙ ap (λ (y : Group). spellings_with (form_at y) y.1.items) same
composed_at (x ∷ gs) (suc i) g h =
    map-append composed (group_spellings x) (all_spellings (take (suc i) gs))
    ∙ ap (λ l. map composed (group_spellings x) ++ l) (composed_at gs i g h)
    ∙ sym (append_assoc (map composed (group_spellings x)) (map composed (all_spellings (take i gs)))
    (spellings_with (form_at g) g.1.items))
    ∙ ap (λ l. l ++ spellings_with (form_at g) g.1.items) (sym (map-append composed (group_spellings x) (all_spellings (take i gs))))

-- some more in each of two lists
pub same_more : (ss ts more us : List Spelling) → SpellsSame ss ts → SpellsBoth ts more us → SpellsSame (ss ++ more) us
same_more ss ts more us same also s =
    list_any-append (λ t. is_eq (spelling_cmp s t)) ss more ∙ ap (λ b. b || is_spelled s more) (same s) ∙ sym (also s)

-- ---- the word of the least form first

abbrev has_form : List ℕ → Spelling → Bool
has_form f s = bytes_eq s.form f

abbrev is_over : List ℕ → Spelling → Bool
is_over f s = is_lt (form_cmp f s.form)

module _ (f : List ℕ) where
  same_form : (s : Spelling) → has_form f s ≡ true → s.form ≡ f
  same_form s h = (bytes_decides s.form f).0 h

  -- the forms of what has the form, and of what is over it
  forms_split : (front back : List Spelling) → 0 < length front → list_all (has_form f) front ≡ true → list_all (is_over f) back ≡ true
      → rising form_cmp (map (λ s. s.form) (front ++ back)) ≡ f ∷ rising form_cmp (map (λ s. s.form) back)
  forms_split [] back some h over = absurd (omega arith)
  forms_split (s ∷ []) back some h over =
      let q = and_parts (has_form f s) true h in
      ap (λ (g : List ℕ). with_item form_cmp g (rising form_cmp (map (λ s. s.form) back))) (same_form s q.0)
      ∙ with_least form_cmp f (rising form_cmp (map (λ s. s.form) back))
      (all_rising form_cmp (λ g. is_lt (form_cmp f g)) (map (λ s. s.form) back) (over_forms back over))
    where
      over_forms : (ss : List Spelling) → list_all (is_over f) ss ≡ true
          → list_all (λ g. is_lt (form_cmp f g)) (map (λ s. s.form) ss) ≡ true
      over_forms [] h = refl
      over_forms (t ∷ ss) h = let q = and_parts (is_over f t) (list_all (is_over f) ss) h in and_from _ _ q.0 (over_forms ss q.1)
  forms_split (s ∷ t ∷ front) back some h over =
      let q = and_parts (has_form f s) (list_all (has_form f) (t ∷ front)) h in
      let later = rising form_cmp (map (λ s. s.form) back) in
      ap (with_item form_cmp s.form) (forms_split (t ∷ front) back (omega arith) q.1 over)
      ∙ ap (λ (g : List ℕ). with_item form_cmp g (f ∷ later)) (same_form s q.0)
      ∙ ap (λ r. by_order r (f ∷ f ∷ later) (f ∷ later) (f ∷ with_item form_cmp f later)) (tied_itself form_total f)

  all_kept : (front : List Spelling) → list_all (has_form f) front ≡ true → filter (has_form f) front ≡ front
  all_kept [] h = refl
  all_kept (s ∷ front) h =
      let q = and_parts (has_form f s) (list_all (has_form f) front) h in
      ap (λ b. cond b (s ∷ filter (has_form f) front) (filter (has_form f) front)) q.0 ∙ ap (λ l. s ∷ l) (all_kept front q.1)

  not_over : (s : Spelling) → is_over f s ≡ true → has_form f s ≡ false
  not_over s h = by (has_form f s) refl
    where
      by : (b : Bool) → has_form f s ≡ b → has_form f s ≡ false
      by false e = e
      by true e =
          absurd (true≢false (sym h ∙ ap (λ (g : List ℕ). is_lt (form_cmp f g)) (same_form s e) ∙ ap is_lt (tied_itself form_total f)))

  none_kept : (back : List Spelling) → list_all (is_over f) back ≡ true → filter (has_form f) back ≡ []
  none_kept [] h = refl
  none_kept (s ∷ back) h =
      let q = and_parts (is_over f s) (list_all (is_over f) back) h in
      ap (λ b. cond b (s ∷ filter (has_form f) back) (filter (has_form f) back)) (not_over s q.0) ∙ none_kept back q.1

  -- another form is none of those at the front
  none_other : (g : List ℕ) (front : List Spelling) → is_lt (form_cmp f g) ≡ true → list_all (has_form f) front ≡ true
      → filter (has_form g) front ≡ []
  none_other g [] l h = refl
  none_other g (s ∷ front) l h =
      let q = and_parts (has_form f s) (list_all (has_form f) front) h in
      ap (λ b. cond b (s ∷ filter (has_form g) front) (filter (has_form g) front)) (by (has_form g s) refl q.0) ∙ none_other g front l q.1
    where
      by : (b : Bool) → has_form g s ≡ b → has_form f s ≡ true → has_form g s ≡ false
      by false e k = e
      by true e k =
          let same : f ≡ g = sym (same_form s k) ∙ (bytes_decides s.form g).0 e in
          absurd (true≢false (sym l ∙ ap (λ (x : List ℕ). is_lt (form_cmp f x)) (sym same) ∙ ap is_lt (tied_itself form_total f)))

  -- the words of what has the form, and then of what is over it
  pub words_split : (front back : List Spelling) → 0 < length front → list_all (has_form f) front ≡ true → list_all (is_over f) back ≡ true
      → words_in (front ++ back) ≡ (let word : WordParts = record { form = f; keys = rising key_cmp (map (λ s. s.key) front) } in word)
      ∷ words_in back
  words_split front back some h over =
      ap (map (word_with (front ++ back))) (forms_split front back some h over)
      ∙ (λ i. (let word : WordParts = record { form = f; keys = here i } in word)
      ∷ there (rising form_cmp (map (λ s. s.form) back)) forms_over i)
    where
      here : rising key_cmp (keys_with (front ++ back) f) ≡ rising key_cmp (map (λ s. s.key) front)
      here =
          ap (λ l. rising key_cmp (map (λ s. s.key) l))
          (filter-append (has_form f) front back ∙ (λ i. all_kept front h i ++ none_kept back over i) ∙ append-nil front)

      forms_over : list_all (λ g. is_lt (form_cmp f g)) (rising form_cmp (map (λ s. s.form) back)) ≡ true
      forms_over = all_rising form_cmp (λ g. is_lt (form_cmp f g)) (map (λ s. s.form) back) (each back over)
        where
          each : (ss : List Spelling) → list_all (is_over f) ss ≡ true → list_all (λ g. is_lt (form_cmp f g)) (map (λ s. s.form) ss) ≡ true
          each [] h = refl
          each (t ∷ ss) h = let q = and_parts (is_over f t) (list_all (is_over f) ss) h in and_from _ _ q.0 (each ss q.1)

      there : (gs : List (List ℕ)) → list_all (λ g. is_lt (form_cmp f g)) gs ≡ true
          → map (word_with (front ++ back)) gs ≡ map (word_with back) gs
      there [] a = refl
      there (g ∷ gs) a =
          let q = and_parts (is_lt (form_cmp f g)) (list_all (λ g. is_lt (form_cmp f g)) gs) a in
          let keys : rising key_cmp (keys_with (front ++ back) g) ≡ rising key_cmp (keys_with back g) =
          ap (λ l. rising key_cmp (map (λ s. s.key) l))
          (filter-append (has_form g) front back ∙ ap (λ l. l ++ filter (has_form g) back) (none_other g front q.0 h)) in
          λ i. (let word : WordParts = record { form = g; keys = keys i } in word) ∷ there gs q.1 i

-- ---- groups

-- a group as a word: its form, and its keys
abbrev pub word_spelled : Group → WordParts
word_spelled g = record { form = g.0.now; keys = rising key_cmp g.1.items }

group_has : (f : List ℕ) (ks : List KeyParts) → list_all (has_form f) (map (λ k. record { form = f; key = k }) ks) ≡ true
group_has f [] = refl
group_has f (k ∷ ks) = and_from _ _ ((bytes_decides f f).1 refl) (group_has f ks)

group_keys : (f : List ℕ) (ks : List KeyParts) → map (λ s. s.key) (map (λ k. (let s : Spelling = record { form = f; key = k } in s)) ks)
    ≡ ks
group_keys f [] = refl
group_keys f (k ∷ ks) = ap (λ l. k ∷ l) (group_keys f ks)

group_over : (f g : List ℕ) (ks : List KeyParts) → is_lt (form_cmp f g) ≡ true
    → list_all (is_over f) (map (λ k. record { form = g; key = k }) ks) ≡ true
group_over f g [] l = refl
group_over f g (k ∷ ks) l = and_from _ _ l (group_over f g ks l)

groups_over : (f : List ℕ) (gs : List Group) → list_all (λ g. is_lt (form_cmp f g.0.now)) gs ≡ true
    → list_all (is_over f) (all_spellings gs) ≡ true
groups_over f [] a = refl
groups_over f (g ∷ gs) a =
    let q = and_parts (is_lt (form_cmp f g.0.now)) (list_all (λ g. is_lt (form_cmp f g.0.now)) gs) a in
    list_all-append (is_over f) (group_spellings g) (all_spellings gs)
    ∙ and_from _ _ (group_over f g.0.now g.1.items q.0) (groups_over f gs q.1)

some_keys : (g : Group) → is_bare g ≡ false → 0 < length (group_spellings g)
some_keys g h =
    let l = length-map g.1.items (λ k. (let s : Spelling = record { form = g.0.now; key = k } in s)) in
    let n = false-eqb (length g.1.items) 0 (sym h) in omega arith

-- groups with rising forms say a word each
pub groups_words : (gs : List Group) → rises_by form_cmp (λ g. g.0.now) gs ≡ true → has_bare gs ≡ false
    → words_in (all_spellings gs) ≡ map word_spelled gs
groups_words [] r h = refl
groups_words (g ∷ gs) r h =
    let q = and_parts (list_all (λ x. is_lt (form_cmp g.0.now x.0.now)) gs) (rises_by form_cmp (λ g. g.0.now) gs) r in
    let f = or_parts (is_bare g) (has_bare gs) h in
    words_split g.0.now (group_spellings g) (all_spellings gs) (some_keys g f.0) (group_has g.0.now g.1.items) (groups_over g.0.now gs q.0)
    ∙ (λ i. (let word : WordParts = record { form = g.0.now; keys = rising key_cmp (group_keys g.0.now g.1.items i) } in word)
    ∷ groups_words gs q.1 f.1 i)

-- ---- groups made, and put in order

is_spelled_groups : (s : Spelling) (gs : List Group) → is_spelled s (all_spellings gs) ≡ list_any (λ g. is_spelled s (group_spellings g)) gs
is_spelled_groups s [] = refl
is_spelled_groups s (g ∷ gs) =
    list_any-append (λ t. is_eq (spelling_cmp s t)) (group_spellings g) (all_spellings gs)
    ∙ ap (λ b. is_spelled s (group_spellings g) || b) (is_spelled_groups s gs)

-- the order of groups does not matter
pub reordered_tell : (gs hs : List Group) → IsPermutation gs hs → SpellsSame (all_spellings gs) (all_spellings hs)
reordered_tell gs hs p s =
    is_spelled_groups s gs ∙ list_any-IsPermutation (λ g. is_spelled s (group_spellings g)) gs hs p ∙ sym (is_spelled_groups s hs)

-- groups in another order have keys where all had
pub reordered_keyed : (gs hs : List Group) → IsPermutation gs hs → has_bare gs ≡ false → has_bare hs ≡ false
reordered_keyed gs hs p h = sym (list_any-IsPermutation is_bare gs hs p) ∙ h
