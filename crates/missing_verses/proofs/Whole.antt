-- Nothing is listed of a book exactly where each of its chapters is whole.
use Rattle.std.proofs.Common.{◌≡◌, ℕ, ◌<◌, ◌≤◌, Bool, true, false, cond, ◌&&◌, ◌||◌, nat_le, nat_eq, List, [], ◌∷◌, ◌++◌, length, arith, refl, sym, ap, ◌∙◌, eqb-true}
use Rattle.std.specs.Prelude.{not, codes, ◌==◌}
use Rattle.std.specs.List.{flat_map, list_any, AllByRecursion}
use Rattle.std.proofs.lemmas.Bool.{true≢false, and_parts}
use Rattle.std.proofs.lemmas.Bool.Decides.{nat_tests}
use Rattle.verse_cut.specs.Pieces.{PieceParts, pieces_of}
use Rattle.verse_cut.specs.Views.{pieces_view}
use Rattle.verse_cut.specs.declared.cutter.Piece.{Piece}
use Rattle.versification.specs.Versifications.{Verses, last_verse_or_0, is_verse}
use Rattle.covered_verses.specs.declared.covered.Covered.{Covered}
use Rattle.usfm_ref.specs.References.{ref_text}
use Rattle.missing_verses.specs.Numbers.{of_chapter, covered_in, covers_of, has, is_there, is_twice, is_missing, is_extra, exceeds, is_doubled, knows, flags, below}
use Rattle.missing_verses.specs.Lines.{missing_lines, verse_lines, segment_line, beyond_line, lines_of, chapter_lines, book_lines}
use Rattle.missing_verses.specs.Laws.{NothingIsMissing}
use Rattle.missing_verses.proofs.Below.{all_none, none_each, both_none, any_none, none_any}
use Rattle.missing_verses.proofs.Runs.{NoneSet, no_runs, runs_none, no_verses, verses_none, no_chapter, chapter_none, flags_unset, unset_flags, not_none}

-- ---- what is missing

no_missing : (book : List ℕ) (c : ℕ) (ps : List PieceParts) (fs : List Bool) → NoneSet fs → missing_lines book c ps fs ≡ []
no_missing book c [] fs h = no_chapter book c fs h
no_missing book c (p ∷ ps) fs h = no_runs (codes "missing") book c fs h

missing_none : (book : List ℕ) (c : ℕ) (ps : List PieceParts) (fs : List Bool) → missing_lines book c ps fs ≡ [] → NoneSet fs
missing_none book c [] fs e = chapter_none book c fs e
missing_none book c (p ∷ ps) fs e = runs_none (codes "missing") book c fs e

-- ---- the lines of segments

all_append : (P : Covered → Type 0) (vs ws : List Covered) → AllByRecursion P vs → AllByRecursion P ws → AllByRecursion P (vs ++ ws)
all_append P [] ws a b = b
all_append P (v ∷ vs) ws a b = (a.0, all_append P vs ws a.1 b)

append_all : (P : Covered → Type 0) (vs ws : List Covered) → AllByRecursion P (vs ++ ws) → AllByRecursion P vs × AllByRecursion P ws
append_all P [] ws h = (tt, h)
append_all P (v ∷ vs) ws h = let rest = append_all P vs ws h.1 in ((h.0, rest.0), rest.1)

-- none of what is covered passes
abbrev NonePasses : (Covered → Bool) → List Covered → Type 0
NonePasses t vs = AllByRecursion (λ w. t w ≡ false) vs

passes_any : (t : Covered → Bool) (vs : List Covered) → list_any t vs ≡ false → NonePasses t vs
passes_any t [] h = tt
passes_any t (v ∷ vs) h = by (passes_any t vs) (t v) refl h
  where
    by : (list_any t vs ≡ false → NonePasses t vs) → (b : Bool) → t v ≡ b → (b || list_any t vs) ≡ false → NonePasses t (v ∷ vs)
    by rest false e h = (e, rest h)
    by rest true e h = absurd (true≢false h)

any_passes : (t : Covered → Bool) (vs : List Covered) → NonePasses t vs → list_any t vs ≡ false
any_passes t [] h = refl
any_passes t (v ∷ vs) h = (λ i. h.0 i || any_passes t vs h.1 i)

segments_none : (word : List ℕ) (t : Covered → Bool) (book : List ℕ) (ps : List PieceParts)
    → flat_map (segment_line word t book) ps ≡ [] → NonePasses t (covers_of ps)
segments_none word t book [] e = tt
segments_none word t book (p ∷ ps) e =
    let two = both_none (segment_line word t book p) (flat_map (segment_line word t book) ps) e in
    all_append _ (covered_in p) (covers_of ps) (by (list_any t (covered_in p)) refl two.0) (segments_none word t book ps two.1)
  where
    by : (b : Bool) → list_any t (covered_in p) ≡ b
        → cond b (word ++ (32 ∷ (ref_text book p.key ++ 10 ∷ []))) [] ≡ [] → NonePasses t (covered_in p)
    by true at h = absurd (not_none word 32 _ h)
    by false at h = passes_any t (covered_in p) at

no_segments : (word : List ℕ) (t : Covered → Bool) (book : List ℕ) (ps : List PieceParts) → NonePasses t (covers_of ps)
    → flat_map (segment_line word t book) ps ≡ []
no_segments word t book [] h = refl
no_segments word t book (p ∷ ps) h =
    let two = append_all _ (covered_in p) (covers_of ps) h in
    (λ i. cond (any_passes t (covered_in p) two.0 i) (word ++ (32 ∷ (ref_text book p.key ++ 10 ∷ []))) []
    ++ no_segments word t book ps two.1 i)

abbrev Written : List Covered → Type 0
Written vs = AllByRecursion (λ w. w.written ≡ true) vs

abbrev is_unwritten : Covered → Bool
is_unwritten w = not w.written

all_written : (vs : List Covered) → NonePasses is_unwritten vs → Written vs
all_written [] h = tt
all_written (v ∷ vs) h = (by v.written h.0, all_written vs h.1)
  where
    by : (b : Bool) → not b ≡ false → b ≡ true
    by true e = refl
    by false e = absurd (true≢false e)

written_all : (vs : List Covered) → Written vs → NonePasses is_unwritten vs
written_all [] h = tt
written_all (v ∷ vs) h = (ap not h.0, written_all vs h.1)

-- ---- what is beyond

module _ (v : Verses) (book : List ℕ) (c : ℕ) where
  -- what is covered has no verse from 1 on that the versification does not have
  abbrev Inside : List Covered → Type 0
  Inside vs = NonePasses (exceeds v book c) vs

  not_has : (n : ℕ) (w : Covered) → knows v book ≡ true → exceeds v book c w ≡ false → n < 1000 → nat_le 1 n ≡ true
      → is_verse v book c n ≡ false → has n w ≡ false
  not_has n w known h low one out =
      let none = none_any (is_extra v book c w) 1000 (sym (ap (λ b. b && list_any (is_extra v book c w) (below 1000)) known) ∙ h) n low in
      by (has n w) refl
      (sym (λ i. one i && has n w && not (out i)) ∙ none)
    where
      by : (b : Bool) → has n w ≡ b → (b && true) ≡ false → has n w ≡ false
      by true e h = absurd (true≢false h)
      by false e h = e

  -- a verse that the versification does not have is not there
  not_there : (n : ℕ) (vs : List Covered) → knows v book ≡ true → Inside vs → n < 1000 → nat_le 1 n ≡ true
      → is_verse v book c n ≡ false → is_there n vs ≡ false
  not_there n [] known h low one out = refl
  not_there n (w ∷ vs) known h low one out =
      (λ i. not_has n w known h.0 low one out i || not_there n vs known h.1 low one out i)

  is_inside : (vs : List Covered) → ((n : ℕ) → n < 1000 → nat_le 1 n ≡ true → is_verse v book c n ≡ false → is_there n vs ≡ false)
      → Inside vs
  is_inside [] h = tt
  is_inside (w ∷ vs) h = (
    both (knows v book) (list_any (is_extra v book c w) (below 1000)) (any_none (is_extra v book c w) 1000
        (λ n low. extra n low (nat_le 1 n) refl (is_verse v book c n) refl)),
    is_inside vs (λ n low one out. (neither (has n w) (is_there n vs) (h n low one out)).1),
  )
    where
      both : (a b : Bool) → b ≡ false → (a && b) ≡ false
      both true b e = e
      both false b e = refl

      neither : (a b : Bool) → (a || b) ≡ false → (a ≡ false) × (b ≡ false)
      neither true b e = absurd (true≢false e)
      neither false b e = (refl, e)

      no : (b : Bool) → (b && false) ≡ false
      no true = refl
      no false = refl

      extra : (n : ℕ) → n < 1000 → (a : Bool) → nat_le 1 n ≡ a → (b : Bool) → is_verse v book c n ≡ b
          → (a && has n w && not b) ≡ false
      extra n low false one b out = refl
      extra n low true one true out = no (has n w)
      extra n low true one false out =
          ap (λ b. b && true) (neither (has n w) (is_there n vs) (h n low one out)).0

-- ---- a chapter

module _ (v : Verses) (book : List ℕ) (c : ℕ) (ps : List PieceParts) where
  abbrev vs : List Covered
  vs = covers_of ps

  first_verse : (n : ℕ) → is_verse v book c n ≡ true → 1 ≤ n
  first_verse n h =
      let a = and_parts (nat_le 1 n && nat_le n (last_verse_or_0 v book c)) _ h in
      let b = (and_parts (nat_le 1 n) (nat_le n (last_verse_or_0 v book c)) a.0).0 in
      grind (arith, nat_tests, b)

  one_le : (n : ℕ) → 1 ≤ n → nat_le 1 n ≡ true
  one_le n l = grind (arith, nat_tests, l)

  same : (n : ℕ) → n < 1000 → 1 ≤ n → knows v book ≡ true → is_missing v book c vs n ≡ false → Inside v book c vs
      → is_there n vs ≡ is_verse v book c n
  same n low l known m inside = by (is_there n vs) refl (is_verse v book c n) refl
    where
      by : (t : Bool) → is_there n vs ≡ t → (w : Bool) → is_verse v book c n ≡ w → t ≡ w
      by true e true f = refl
      by false e false f = refl
      by true e false f = sym e ∙ not_there v book c n vs known inside low (one_le n l) f
      by false e true f = absurd (true≢false (sym (λ i. f i && not (e i)) ∙ m))

  none_listed : ((n : ℕ) → 1 ≤ n → n < 1000 → is_there n vs ≡ is_verse v book c n)
      → ((n : ℕ) → 1 ≤ n → n < 1000 → is_twice n vs ≡ false) → Written vs → lines_of v book c ps ≡ []
  none_listed there once written =
      (λ i. no_missing book c ps _ (flags_unset (is_missing v book c vs) (λ n l. missing n l (is_verse v book c n) refl)) i
      ++ (no_segments (codes "beyond") (exceeds v book c) book ps (is_inside v book c vs beyond) i
      ++ (no_verses (codes "twice") book c _ (flags_unset (is_doubled vs) twice) i
      ++ no_segments (codes "empty") is_unwritten book ps (written_all vs written) i)))
    where
      missing : (n : ℕ) → n < 1000 → (b : Bool) → is_verse v book c n ≡ b → is_missing v book c vs n ≡ false
      missing n l true e =
          let t = there n (first_verse n e) l ∙ e in (λ i. e i && not (t i))
      missing n l false e = ap (λ b. b && not (is_there n vs)) e

      from_one : (n : ℕ) → (b : Bool) → nat_le 1 n ≡ b → b ≡ true → 1 ≤ n
      from_one n b e t = let h = e ∙ t in grind (arith, nat_tests, h)

      beyond : (n : ℕ) → n < 1000 → nat_le 1 n ≡ true → is_verse v book c n ≡ false → is_there n vs ≡ false
      beyond n l one out = there n (from_one n true one refl) l ∙ out

      twice : (n : ℕ) → n < 1000 → is_doubled vs n ≡ false
      twice n l = by (nat_le 1 n) refl
        where
          by : (b : Bool) → nat_le 1 n ≡ b → (b && is_twice n vs) ≡ false
          by true e = once n (from_one n true e refl) l
          by false e = refl

  listed : knows v book ≡ true → lines_of v book c ps ≡ []
      → ((n : ℕ) → 1 ≤ n → n < 1000 → is_there n vs ≡ is_verse v book c n)
      × (((n : ℕ) → 1 ≤ n → n < 1000 → is_twice n vs ≡ false) × Written vs)
  listed known e =
      let m = both_none (missing_lines book c ps (flags (is_missing v book c vs))) _ e in
      let b = both_none (flat_map (beyond_line v book c) ps) _ m.1 in
      let t = both_none (verse_lines (codes "twice") book c (flags (is_doubled vs))) _ b.1 in
      let no_m = unset_flags (is_missing v book c vs) (missing_none book c ps _ m.0) in
      let inside = segments_none (codes "beyond") (exceeds v book c) book ps b.0 in
      let no_t = unset_flags (is_doubled vs) (verses_none (codes "twice") book c _ t.0) in (
        λ n low l. same n l low known (no_m n l) inside,
        (
          λ n low l. ap (λ b. b && is_twice n vs) (sym (one_le n low)) ∙ no_t n l,
          all_written vs (segments_none (codes "empty") is_unwritten book ps t.1),
        ),
      )

-- where a chapter has no piece, and no verse by the versification, nothing is listed of it
pub nothing_of : (v : Verses) (book : List ℕ) (c : ℕ) → last_verse_or_0 v book c ≡ 0 → lines_of v book c [] ≡ []
nothing_of v book c e = none_listed v book c [] (λ n l m. by n l (is_verse v book c n) refl) (λ n l m. refl) tt
  where
    by : (n : ℕ) → 1 ≤ n → (b : Bool) → is_verse v book c n ≡ b → false ≡ b
    by n l true h =
        let a = and_parts (nat_le 1 n && nat_le n (last_verse_or_0 v book c)) _ h in
        let b = (and_parts (nat_le 1 n) (nat_le n (last_verse_or_0 v book c)) a.0).1 in
        absurd (grind (arith, nat_tests, b, e, l))
    by n l false h = refl

-- the same, by how many pieces there are
pub nothing_here : (v : Verses) (book : List ℕ) (c : ℕ) (own : List Piece) → true ≡ (length own == 0)
    → false ≡ not (last_verse_or_0 v book c == 0) → lines_of v book c (pieces_view own) ≡ []
nothing_here v book c [] none last = nothing_of v book c (by (last_verse_or_0 v book c == 0) refl last)
  where
    by : (b : Bool) → (last_verse_or_0 v book c == 0) ≡ b → false ≡ not b → last_verse_or_0 v book c ≡ 0
    by true e h = eqb-true (last_verse_or_0 v book c) 0 e
    by false e h = absurd (true≢false (sym h))
nothing_here v book c (p ∷ own) none last = absurd (let e = eqb-true (length (p ∷ own)) 0 (sym none) in omega (arith, e))

-- Of a book that the versification has, and of which there is something, nothing is listed exactly
-- where each chapter is whole.
pub nothing_is_missing : NothingIsMissing
nothing_is_missing v book text has some = (
  λ e c low.
      let one = listed v book c (of_chapter c (pieces_of text)) known (none_each (chapter_lines v book text) 1000 (sym there ∙ e) c low) in
      record { there = one.0; once = one.1.0; written = one.1.1 },
  λ whole. there ∙ all_none (chapter_lines v book text) 1000 (λ c low.
      let w = whole c low in none_listed v book c (of_chapter c (pieces_of text)) w.there w.once w.written),
)
  where
    known : knows v book ≡ true
    known = let z : (length (v.last_verses book) == 0) ≡ false = grind (arith, nat_tests, has) in ap not z

    there : book_lines v book text ≡ flat_map (chapter_lines v book text) (below 1000)
    there =
        let z : nat_eq (length text) 0 ≡ false = grind (arith, nat_tests, some) in
        ap (λ b. cond b [] (flat_map (chapter_lines v book text) (below 1000))) z
