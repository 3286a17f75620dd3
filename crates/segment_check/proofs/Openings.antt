-- The marks before a mark, by the state that a reading has there.
use Rattle.std.proofs.Common.{◌≡◌, ℕ, ◌<◌, ◌≤◌, max, Bool, true, false, not, cond, List, [], ◌∷◌, ◌++◌, codes, Option, None, Some, option_map, sym, refl, ap, ◌∙◌, subst, arith, append_assoc, append-nil, ◌&&◌, ◌||◌}
use Rattle.std.specs.Prelude.{◌==◌, nat_lt}
use Rattle.std.specs.List.{list_any}
use Rattle.std.specs.Option.{is_some, option_map_or}
use Rattle.std.specs.Ordering.{is_lt}
use Rattle.std.specs.Str.{bytes_eq}
use Rattle.std.proofs.lemmas.Bool.{eq-eqb}
use Rattle.std.proofs.lemmas.Bool.Decides.{nat_tests}
use Rattle.std.proofs.lemmas.List.Folds.{list_any-append}
use Rattle.std.proofs.lemmas.Slice.Eq.{bytes_eq-Decides}
use Rattle.std.proofs.Math.Bool.{or-false}
use Rattle.usfm_ref.specs.Keys.{KeyParts, chapter_head, place_cmp}
use Rattle.usfm_ref.specs.Numbers.{chapter_in, verse_in}
use Rattle.usfm_ref.specs.declared.key.Place.TheVariants.{Head}
use Rattle.usfm_ref.specs.declared.number.VerseMark.{VerseMark}
use Rattle.usfm_token.specs.Tokens.{MarkParts}
use Rattle.verse_cut.specs.Keys.{key_below, verse_key, mark_key}
use Rattle.verse_cut.specs.Marks.{Site, Keyed, chapter_number, greater_of, chapter_in_force, key_after, with_key, keyed_after, opens}
use Rattle.verse_cut.proofs.KeyOrder.{below_trans, below_weak, key_below-is, nothing_before_head}
use Rattle.verse_cut.proofs.MarkLaws.{chapter_after, above_in_force, below_in_force, in_force-snoc, number_step, IsGreatest, greatest-more, both_first, both_second}
use Rattle.segment_check.specs.Scenes.{Scene, scenes_after, chapter_of, key_of, opens_piece, mark_verse, opened_verse}
use Rattle.segment_check.specs.NumberConditions.{is_after, reaches, bridge_reaches, overlaps_from, not_rising, overlap}
use Rattle.segment_check.specs.Numbers.{mark_chapter, key_by}
use Rattle.segment_check.specs.Reading.{Last, is_letter_within, is_within, further, any_reaches, is_above, key_then, reach_with}

-- ---- keys

name_differs : (name : List ℕ) → bytes_eq name (codes "c") ≡ true → bytes_eq name (codes "v") ≡ false
name_differs name h = ap (λ n. bytes_eq n (codes "v")) ((bytes_eq-Decides name (codes "c")).0 h)

by_parts : (c : ℕ) (e f g : Bool) (n : Option ℕ) (v : Option VerseMark) → (f ≡ true → g ≡ false)
    → cond e None (cond f (option_map chapter_head n) (cond g (option_map (verse_key c) v) None))
    ≡ key_by c (cond (not e && f) n None) (cond (not e && g) v None)
by_parts c true f g n v h = refl
by_parts c false true g None v h = sym (ap (λ b. key_by c None (cond b v None)) (h refl))
by_parts c false true g (Some n) v h = refl
by_parts c false false false n v h = refl
by_parts c false false true n None h = refl
by_parts c false false true n (Some v) h = refl

-- the key of a mark, by the chapter and the verse after it
pub mark_key-by : (c : ℕ) (m : MarkParts) (after : List ℕ) → mark_key c m after ≡ key_by c (mark_chapter m after) (mark_verse m after)
mark_key-by c m after =
    by_parts c (m.nested || m.closing) (bytes_eq m.name (codes "c")) (bytes_eq m.name (codes "v")) (chapter_in after) (verse_in after)
    (name_differs m.name)

-- a mark has a chapter or a verse
one_number : (e f g : Bool) (n : Option ℕ) (v : Option VerseMark) (w : VerseMark) → (f ≡ true → g ≡ false)
    → cond (not e && g) v None ≡ Some w → cond (not e && f) n None ≡ None
one_number true f g n v w h is = refl
one_number false false g n v w h is = refl
one_number false true g n v w h is = absurd (let none : None ≡ Some w = ap (λ b. cond b v None) (sym (h refl)) ∙ is in cc)

no_chapter : (m : MarkParts) (after : List ℕ) (w : VerseMark) → mark_verse m after ≡ Some w → mark_chapter m after ≡ None
no_chapter m after w is =
    one_number (m.nested || m.closing) (bytes_eq m.name (codes "c")) (bytes_eq m.name (codes "v")) (chapter_in after) (verse_in after) w
    (name_differs m.name) is

-- ---- the chapter in force

then_chapter : (g : KeyParts) (k : Option KeyParts) → chapter_after g.chapter k ≡ (key_then g k).chapter
then_chapter g None = refl
then_chapter g (Some q) = by (key_below g q) refl
  where
    by : (b : Bool) → key_below g q ≡ b → max g.chapter q.chapter ≡ (cond (key_below g q) q g).chapter
    by true e = above_in_force g q e ∙ ap (λ b. (cond b q g).chapter) (sym e)
    by false e = below_in_force g q e ∙ ap (λ b. (cond b q g).chapter) (sym e)

-- ---- the greatest key

greatest_then : (g : KeyParts) (before : List Keyed) (at : ℕ) (k : Option KeyParts) → IsGreatest g before
    → IsGreatest (key_then g k) (before ++ with_key k at [])
greatest_then g before at None h = let F : List Keyed → Type 0 = λ l. IsGreatest g l in subst F (sym (append-nil before)) h
greatest_then g before at (Some q) h = by (key_below g q) refl
  where
    m : Keyed
    m = record { key = q; at = at }

    by : (b : Bool) → key_below g q ≡ b → IsGreatest (cond (key_below g q) q g) (before ++ m ∷ [])
    by true e =
        let F : Bool → Type 0 = λ b. IsGreatest (cond b q g) (before ++ m ∷ []) in
        subst F (sym e) (λ k. greatest-more g before m k h ∙ both_second (key_below g k) (key_below q k) (λ r. below_trans g q k e r))
    by false e =
        let F : Bool → Type 0 = λ b. IsGreatest (cond b q g) (before ++ m ∷ []) in
        subst F (sym e) (λ k. greatest-more g before m k h ∙ both_first (key_below g k) (key_below q k) (λ r. below_weak g q k e r))

keyed-snoc : (c : ℕ) (b0 before : List Site) (s : Site) → keyed_after c b0 (before ++ s ∷ [])
    ≡ keyed_after c b0 before ++ with_key (key_after c (b0 ++ before) s) s.at []
keyed-snoc c b0 [] s = ap (λ b. with_key (key_after c b s) s.at []) (sym (append-nil b0))
keyed-snoc c b0 (x ∷ before) s =
    ap (with_key (key_after c b0 x) x.at) (keyed-snoc c (b0 ++ x ∷ []) before s
    ∙ ap (λ b. keyed_after c (b0 ++ x ∷ []) before ++ with_key (key_after c b s) s.at []) (append_assoc b0 (x ∷ []) before))
    ∙ with_key-append (key_after c b0 x) x.at (keyed_after c (b0 ++ x ∷ []) before) (with_key (key_after c (b0 ++ x ∷ before) s) s.at [])
  where
    with_key-append : (k : Option KeyParts) (at : ℕ) (ms ns : List Keyed) → with_key k at (ms ++ ns) ≡ with_key k at ms ++ ns
    with_key-append None at ms ns = refl
    with_key-append (Some k) at ms ns = refl

-- ---- bridges

scenes-snoc : (b0 before : List Site) (s : Site) → scenes_after b0 (before ++ s ∷ [])
    ≡ scenes_after b0 before ++ record { before = b0 ++ before; here = s } ∷ []
scenes-snoc b0 [] s = ap (λ (b : List Site). record { before = b; here = s } ∷ []) (sym (append-nil b0))
scenes-snoc b0 (x ∷ before) s =
    ap (λ r. record { before = b0; here = x } ∷ r)
    (scenes-snoc (b0 ++ x ∷ []) before s ∙ ap (λ (b : List Site). scenes_after (b0 ++ x ∷ []) before ++ record { before = b; here = s }
    ∷ []) (append_assoc b0 (x ∷ []) before))

-- what the one that reaches more reaches is what either reaches
within_reaches : (a b : Last) (v : VerseMark) → is_within b a ≡ true → reaches a v ≡ reaches a v || reaches b v
within_reaches a b v h = by a.1 b.1 v.letter h
  where
    by : (x y z : Option ℕ) → nat_lt b.0 a.0 || (b.0 == a.0 && is_letter_within y x) ≡ true
        → nat_lt v.number a.0 || (v.number == a.0 && not (is_after z x))
        ≡ (nat_lt v.number a.0 || (v.number == a.0 && not (is_after z x)))
        || (nat_lt v.number b.0 || (v.number == b.0 && not (is_after z y)))
    by None None None h = grind (arith, nat_tests)
    by None None (Some z) h = grind (arith, nat_tests)
    by None (Some y) None h = grind (arith, nat_tests)
    by None (Some y) (Some z) h = grind (arith, nat_tests)
    by (Some x) None None h = grind (arith, nat_tests)
    by (Some x) None (Some z) h = grind (arith, nat_tests)
    by (Some x) (Some y) None h = grind (arith, nat_tests)
    by (Some x) (Some y) (Some z) h = grind (arith, nat_tests)

beyond_reaches : (a b : Last) (v : VerseMark) → is_within b a ≡ false → reaches b v ≡ reaches a v || reaches b v
beyond_reaches a b v h = by a.1 b.1 v.letter h
  where
    by : (x y z : Option ℕ) → nat_lt b.0 a.0 || (b.0 == a.0 && is_letter_within y x) ≡ false
        → nat_lt v.number b.0 || (v.number == b.0 && not (is_after z y))
        ≡ (nat_lt v.number a.0 || (v.number == a.0 && not (is_after z x)))
        || (nat_lt v.number b.0 || (v.number == b.0 && not (is_after z y)))
    by None None None h = grind (arith, nat_tests)
    by None None (Some z) h = grind (arith, nat_tests)
    by None (Some y) None h = grind (arith, nat_tests)
    by None (Some y) (Some z) h = grind (arith, nat_tests)
    by (Some x) None None h = grind (arith, nat_tests)
    by (Some x) None (Some z) h = grind (arith, nat_tests)
    by (Some x) (Some y) None h = grind (arith, nat_tests)
    by (Some x) (Some y) (Some z) h = grind (arith, nat_tests)

further_reaches : (a b : Option Last) (v : VerseMark) → any_reaches (further a b) v ≡ any_reaches a v || any_reaches b v
further_reaches None b v = refl
further_reaches (Some a) None v = sym (or-false (reaches a v))
further_reaches (Some a) (Some b) v = by (is_within b a) refl
  where
    by : (e : Bool) → is_within b a ≡ e → any_reaches (cond (is_within b a) (Some a) (Some b)) v ≡ reaches a v || reaches b v
    by true is = ap (λ e. any_reaches (cond e (Some a) (Some b)) v) is ∙ within_reaches a b v is
    by false is = ap (λ e. any_reaches (cond e (Some a) (Some b)) v) is ∙ beyond_reaches a b v is

-- ---- one mark

-- the head of a chapter that is above a key is that of a later chapter
head_later : (g : KeyParts) (n : ℕ) → key_below g (chapter_head n) ≡ true → g.chapter < n
head_later g n h = by (nat_lt g.chapter n) refl
  where
    by : (b : Bool) → nat_lt g.chapter n ≡ b → g.chapter < n
    by true e = grind (arith, nat_tests)
    by false e =
        absurd (let no : true ≡ false = sym h ∙ key_below-is g (chapter_head n)
        ∙ ap (λ x. x || (g.chapter == n && is_lt (place_cmp g.place Head))) e ∙ ap (λ x. g.chapter == n && x) (nothing_before_head g.place)
        ∙ and_false (g.chapter == n) in cc)
      where
        and_false : (x : Bool) → x && false ≡ false
        and_false true = refl
        and_false false = refl

-- what the bridges of a chapter reach: those of g's chapter that which reach says, and those of later chapters nothing
abbrev pub Reaching : KeyParts → Option Last → List Site → Type 0
Reaching g reach before =
    (c : ℕ) (v : VerseMark) → g.chapter ≤ c → list_any (overlaps_from c v) (scenes_after [] before)
    ≡ (g.chapter == c) && any_reaches reach v

-- what the mark adds to what is reached in chapter c
abbrev Adds : KeyParts → Option Last → ℕ → VerseMark → Bool → Option VerseMark → KeyParts → Bool → Type 0
Adds g reach c v old w q b =
    (cond b q g).chapter ≤ c → old || (((g.chapter == c) && option_map_or (λ e. bridge_reaches e v) (cond b w None) false) || false)
    ≡ ((cond b q g).chapter == c) && any_reaches (cond b (reach_with reach w) reach) v

or_nothing : (x y : Bool) → x || ((y && false) || false) ≡ x
or_nothing true y = refl
or_nothing false true = refl
or_nothing false false = refl

and_or : (x r q : Bool) → (x && r) || ((x && q) || false) ≡ x && (r || q)
and_or true true q = refl
and_or true false q = or-false q
and_or false r q = refl

and_false : (x : Bool) → false ≡ x && false
and_false true = refl
and_false false = refl

module _ (g : KeyParts) (reach : Option Last) (c : ℕ) (v : VerseMark) (old : Bool)
    (known : g.chapter ≤ c → old ≡ (g.chapter == c) && any_reaches reach v) where
  adds_none : (w : Option VerseMark) (q : KeyParts) → Adds g reach c v old w q false
  adds_none w q low = or_nothing old (g.chapter == c) ∙ known low

  adds_head : (n : ℕ) → g.chapter < n → Adds g reach c v old None (chapter_head n) true
  adds_head n later low =
      let other : (g.chapter == c) ≡ false = not_same g.chapter c (omega arith) in
      or_nothing old (g.chapter == c) ∙ known (omega arith) ∙ ap (λ x. x && any_reaches reach v) other ∙ and_false (n == c)
    where
      not_same : (a b : ℕ) → a < b → (a == b) ≡ false
      not_same a b h = grind (arith, nat_tests)

  adds_verse : (u : VerseMark) → Adds g reach c v old (Some u) (verse_key g.chapter u) true
  adds_verse u low =
      ap (λ x. x || (((g.chapter == c) && bridge_reaches u v) || false)) (known low)
      ∙ and_or (g.chapter == c) (any_reaches reach v) (any_reaches u.last v)
      ∙ ap (λ x. (g.chapter == c) && x) (sym (further_reaches reach u.last v))

  -- by the test whether the key is above
  either_adds : (w : Option VerseMark) (q : KeyParts) → (key_below g q ≡ true → Adds g reach c v old w q true)
      → Adds g reach c v old w q (key_below g q)
  either_adds w q above = by (key_below g q) refl
    where
      by : (b : Bool) → key_below g q ≡ b → Adds g reach c v old w q (key_below g q)
      by true e = subst (Adds g reach c v old w q) (sym e) (above e)
      by false e = subst (Adds g reach c v old w q) (sym e) (adds_none w q)

  pub adds : (n : Option ℕ) (w : Option VerseMark) → ((u : VerseMark) → w ≡ Some u → n ≡ None) → let k = key_by g.chapter n w in
      (key_then g k).chapter ≤ c → old || (((g.chapter == c) && option_map_or (λ e. bridge_reaches e v) (cond (is_above g k) w None) false)
      || false)
      ≡ ((key_then g k).chapter == c) && any_reaches (cond (is_above g k) (reach_with reach w) reach) v
  adds None None one low = or_nothing old (g.chapter == c) ∙ known low
  adds (Some n) None one low = either_adds None (chapter_head n) (λ e. adds_head n (head_later g n e)) low
  adds None (Some u) one low = either_adds (Some u) (verse_key g.chapter u) (λ e. adds_verse u) low
  adds (Some n) (Some u) one low = absurd (let no : Some n ≡ None = one u refl in cc)

module _ (before : List Site) (here : Site) (g : KeyParts) (force : chapter_in_force 0 before ≡ g.chapter)
    (great : IsGreatest g (keyed_after 0 [] before)) where
  abbrev pub scene : Scene
  scene = record { before = before; here = here }

  abbrev verse : Option VerseMark
  verse = mark_verse here.parts here.after

  abbrev chapter : Option ℕ
  chapter = mark_chapter here.parts here.after

  abbrev pub key : Option KeyParts
  key = key_by g.chapter chapter verse

  key_is : key_of scene ≡ key
  key_is = ap (λ c. mark_key c here.parts here.after) force ∙ mark_key-by g.chapter here.parts here.after

  opens_by : (k : Option KeyParts) → option_map_or (λ x. opens (keyed_after 0 [] before) (record { key = x; at = here.at })) k false
      ≡ is_above g k
  opens_by None = refl
  opens_by (Some k) = great k

  opens_is : opens_piece scene ≡ is_above g key
  opens_is =
      ap (λ k. option_map_or (λ x. opens (keyed_after 0 [] before) (record { key = x; at = here.at })) k false) key_is ∙ opens_by key

  opened_is : opened_verse scene ≡ cond (is_above g key) verse None
  opened_is = ap (λ b. cond b verse None) opens_is

  pub force_then : chapter_in_force 0 (before ++ here ∷ []) ≡ (key_then g key).chapter
  force_then =
      in_force-snoc 0 before here ∙ ap (greater_of (chapter_number here)) force
      ∙ number_step g.chapter (here.parts.nested || here.parts.closing) (bytes_eq here.parts.name (codes "c"))
      (bytes_eq here.parts.name (codes "v")) (chapter_in here.after) (verse_in here.after)
      ∙ ap (chapter_after g.chapter) (mark_key-by g.chapter here.parts here.after)
      ∙ then_chapter g key

  pub great_then : IsGreatest (key_then g key) (keyed_after 0 [] (before ++ here ∷ []))
  great_then =
      subst (IsGreatest (key_then g key))
      (sym (keyed-snoc 0 [] before here ∙ ap (λ k. keyed_after 0 [] before ++ with_key k here.at []) key_is))
      (greatest_then g (keyed_after 0 [] before) here.at key great)

  pub not_rising_is : is_some key && not (is_above g key) ≡ not_rising scene
  not_rising_is = λ i. is_some (sym key_is i) && not (sym opens_is i)

  module _ (reach : Option Last) (reaching : Reaching g reach before) where
    overlap_by : (b : Bool) (o : Option VerseMark) → b && option_map_or (any_reaches reach) o false
        ≡ option_map_or (λ v. list_any (overlaps_from (chapter_of scene) v) (scenes_after [] before)) (cond b o None) false
    overlap_by false o = refl
    overlap_by true None = refl
    overlap_by true (Some v) =
        sym (ap (λ c. list_any (overlaps_from c v) (scenes_after [] before)) force
        ∙ reaching g.chapter v (omega arith)
        ∙ ap (λ x. x && any_reaches reach v) (eq-eqb g.chapter g.chapter refl))

    pub overlap_is : is_above g key && option_map_or (any_reaches reach) verse false ≡ overlap scene
    overlap_is =
        overlap_by (is_above g key) verse
        ∙ ap (λ o. option_map_or (λ v. list_any (overlaps_from (chapter_of scene) v) (scenes_after [] before)) o false) (sym opened_is)

    pub reaching_then : Reaching (key_then g key) (cond (is_above g key) (reach_with reach verse) reach) (before ++ here ∷ [])
    reaching_then c v low =
        ap (list_any (overlaps_from c v)) (scenes-snoc [] before here)
        ∙ list_any-append (overlaps_from c v) (scenes_after [] before) (scene ∷ [])
        ∙ (λ i. list_any (overlaps_from c v) (scenes_after [] before)
        || (((force i == c) && option_map_or (λ e. bridge_reaches e v) (opened_is i) false) || false))
        ∙ adds g reach c v (list_any (overlaps_from c v) (scenes_after [] before)) (reaching c v) chapter verse
        (λ u is. no_chapter here.parts here.after u is) low
