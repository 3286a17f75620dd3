-- Chapters with one of them changed or added, and their registers.
use Rattle.std.proofs.Common.{◌≡◌, ◌≢◌, ℕ, ◌<◌, Bool, true, false, cond, List, Option, Some, None, length, get_or, set, inl, inr, refl, sym, ap, subst, ◌∙◌}
use Rattle.std.specs.declared.cmp.Ordering.{Ordering}
use Rattle.std.specs.declared.cmp.Ordering.TheVariants.{Equal}
use Rattle.std.specs.Ordering.{is_eq, ordering_then}
use Rattle.std.specs.Option.{is_some}
use Rattle.std.specs.List.{insert, AllByRecursion}
use Rattle.std.specs.Cmp.{Equal-is, tied_itself}
use Rattle.std.proofs.lemmas.Bool.{cases_lt, false≢true, cond-true}
use Rattle.usfm_ref.specs.Keys.{KeyParts, key_cmp, head_of}
use Rattle.usfm_ref.specs.Segments.{segment_cmp}
use Rattle.usfm_ref.specs.declared.segment.Segment.{Segment}
use Rattle.usfm_ref.specs.Books.{book_cmp}
use Rattle.usfm_ref.specs.Rising.{rises_by, placed}
use Rattle.usfm_ref.proofs.Orders.{segment_total, segment_exact, book_total, key_exact}
use Rattle.usfm_ref.proofs.Sorted.{found, place, found_here, found_not, found_end, tied_back}
use Rattle.usfm_ref.proofs.Placed.{all_placed, found_placed, placed_set, placed_insert, rises_placed}
use Rattle.op_core.specs.Loops.Index.{home_of, chapter_of, registers_in, registers_of, register_at, register_of, is_there, shown_in, missing_in, IsOrderly, ChangesKey, Changes, Same, LaysKeys, Lays, IsAtKey, IsAt}
use Rattle.op_core.specs.declared.index.register.Register.{Register}
use Rattle.op_core.specs.declared.index.chapter.Chapter.{Chapter}
use Rattle.op_core.proofs.Indexed.Registers.{rise}

abbrev pub chapters_rise : List Chapter → Bool
chapters_rise = rises_by segment_cmp home_of

abbrev found_chapter : Segment → List Chapter → Option Chapter
found_chapter = found segment_cmp segment_total home_of

abbrev IsAtHead : Chapter → Type 0
IsAtHead c = head_of c.head ≡ c.head

-- the registers of a segment's chapter are these, and those of the others as before
pub record ChangesChapter (g : Segment) (registers : List Register) (before after : List Chapter) : Type 0 where
  pub rising : chapters_rise after ≡ true
  pub heads : AllByRecursion IsAtHead before → AllByRecursion IsAtHead after
  pub is_now : (h : Segment) → registers_of h after ≡ cond (is_eq (segment_cmp (chapter_of h) (chapter_of g))) registers
      (registers_of h before)

chosen : (b : Bool) (y : Chapter) (r : Option Chapter) → registers_in (cond b (Some y) r) ≡ cond b y.registers.items (registers_in r)
chosen true y r = refl
chosen false y r = refl

now_placed : (g : Segment) (y : Chapter) (before after : List Chapter) → chapters_rise before ≡ true → home_of y ≡ chapter_of g
    → after ≡ placed segment_cmp home_of y before → ChangesChapter g y.registers.items before after
now_placed g y before after h same e = record {
  rising = ap chapters_rise e ∙ rises_placed segment_cmp segment_total home_of y before h;
  heads = λ a. subst (AllByRecursion IsAtHead) (sym e)
      (all_placed segment_cmp segment_total home_of IsAtHead y before
      (ap (λ (s : Segment). head_of s.key) same ∙ sym (ap (λ (s : Segment). s.key) same)) a);
  is_now = λ k.
      ap (registers_of k) e ∙ ap registers_in (found_placed segment_cmp segment_total home_of (chapter_of k) y before)
      ∙ chosen (is_eq (segment_cmp (chapter_of k) (home_of y))) y (found_chapter (chapter_of k) before)
      ∙ ap (λ (s : Segment). cond (is_eq (segment_cmp (chapter_of k) s)) y.registers.items (registers_of k before)) same;
}

module _ (g : Segment) (chapters : List Chapter) (n : ℕ) (h : chapters_rise chapters ≡ true)
    (e : n ≡ place segment_cmp segment_total home_of (chapter_of g) chapters) where
  -- where the chapter is there
  module _ (x : Chapter) (l : n < length chapters) (hx : x ≡ get_or chapters n x)
      (t : is_eq (segment_cmp (home_of x) (chapter_of g)) ≡ true) where
    tie : is_eq (segment_cmp (chapter_of g) (home_of x)) ≡ true
    tie = tied_back segment_cmp segment_total (home_of x) (chapter_of g) true t

    pub were_there : registers_of g chapters ≡ x.registers.items
    were_there = ap registers_in (found_here segment_cmp segment_total home_of (chapter_of g) chapters n x h e l hx tie)

    pub set_chapter : (y : Chapter) → home_of y ≡ home_of x → ChangesChapter g y.registers.items chapters (set chapters n y)
    set_chapter y k =
        let same : home_of y ≡ chapter_of g = k ∙ segment_exact (home_of x) (chapter_of g) ((Equal-is _).0 t) in
        now_placed g y chapters _ h same
        (placed_set segment_cmp segment_total home_of y chapters n x h
        (e ∙ ap (λ (s : Segment). place segment_cmp segment_total home_of s chapters) (sym same)) l hx
        (ap (λ (s : Segment). is_eq (segment_cmp s (home_of x))) same ∙ tie))

  -- where there is none yet
  pub insert_chapter : (y : Chapter) → found_chapter (chapter_of g) chapters ≡ None → home_of y ≡ chapter_of g
      → ChangesChapter g y.registers.items chapters (insert chapters n y)
  insert_chapter y none same =
      now_placed g y chapters _ h same
      (placed_insert segment_cmp segment_total home_of y chapters n
      (e ∙ ap (λ (s : Segment). place segment_cmp segment_total home_of s chapters) (sym same))
      (ap (λ (s : Segment). found_chapter s chapters) same ∙ none))

  -- where the segment has a register, its chapter is there
  pub chapter_there : is_there g chapters ≡ true → n < length chapters
  chapter_there s = elim (cases_lt n (length chapters)) [
    | inl l ↦ l
    | inr l ↦
        let gone = ap (λ (c : Option Chapter). is_some (register_at g.key (registers_in c)))
        (found_end segment_cmp segment_total home_of (chapter_of g) chapters n h e l) in
        absurd (false≢true (sym gone ∙ s))
  ]

  pub chapter_tied : (x : Chapter) → x ≡ get_or chapters n x → is_there g chapters ≡ true
      → is_eq (segment_cmp (home_of x) (chapter_of g)) ≡ true
  chapter_tied x hx s = by (is_eq (segment_cmp (home_of x) (chapter_of g))) refl
    where
      by : (b : Bool) → is_eq (segment_cmp (home_of x) (chapter_of g)) ≡ b → b ≡ true
      by true t = refl
      by false t =
          let gone = ap (λ (c : Option Chapter). is_some (register_at g.key (registers_in c)))
          (found_not segment_cmp segment_total home_of (chapter_of g) chapters n x h e hx
          (tied_back segment_cmp segment_total (home_of x) (chapter_of g) false t)) in
          absurd (false≢true (sym gone ∙ s))

  -- so it is the one at this place
  module _ (x : Chapter) (hx : x ≡ get_or chapters n x) (s : is_there g chapters ≡ true) where
    pub chapter_was : registers_of g chapters ≡ x.registers.items
    chapter_was = were_there x (chapter_there s) hx (chapter_tied x hx s)

    pub chapter_changes : (y : Chapter) → home_of y ≡ home_of x → ChangesChapter g y.registers.items chapters (set chapters n y)
    chapter_changes y k = set_chapter x (chapter_there s) hx (chapter_tied x hx s) y k

-- ---- segments of one chapter, and of two

pub in_chapter : (h g : Segment) → is_eq (segment_cmp (chapter_of h) (chapter_of g)) ≡ true
    → is_eq (segment_cmp h g) ≡ is_eq (key_cmp h.key g.key)
in_chapter h g t =
    let same : h.book ≡ g.book = ap (λ (s : Segment). s.book) (segment_exact (chapter_of h) (chapter_of g) ((Equal-is _).0 t)) in
    let tied : book_cmp h.book g.book ≡ Equal = ap (λ (b : List ℕ). book_cmp b g.book) same ∙ tied_itself book_total g.book in
    ap (λ (o : Ordering). is_eq (ordering_then o (key_cmp h.key g.key))) tied

pub apart : (h g : Segment) → is_eq (segment_cmp (chapter_of h) (chapter_of g)) ≡ false → is_eq (segment_cmp h g) ≡ false
apart h g f = by (is_eq (segment_cmp h g)) refl
  where
    by : (b : Bool) → is_eq (segment_cmp h g) ≡ b → b ≡ false
    by false t = refl
    by true t =
        let same : h ≡ g = segment_exact h g ((Equal-is _).0 t) in
        sym (ap is_eq (tied_itself segment_total (chapter_of g)))
        ∙ ap (λ (s : Segment). is_eq (segment_cmp (chapter_of s) (chapter_of g))) (sym same) ∙ f

module _ (g : Segment) (regs : List Register) (before after : List Chapter) (c : ChangesChapter g regs before after) where
  same_chapter : (h : Segment) → is_eq (segment_cmp (chapter_of h) (chapter_of g)) ≡ true → registers_of h before ≡ registers_of g before
  same_chapter h t =
      ap (λ (s : Segment). registers_in (found_chapter s before)) (segment_exact (chapter_of h) (chapter_of g) ((Equal-is _).0 t))

  -- what is so at a key of the chapter is so at its segment
  at_segment : {A : Type 0} (f : Option Register → A) (z : Bool → A → A) → ((v : A) → v ≡ z false v)
      → ((k : KeyParts) → f (register_at k regs) ≡ z (is_eq (key_cmp k g.key)) (f (register_at k (registers_of g before)))) → (h : Segment)
      → f (register_of h after) ≡ z (is_eq (segment_cmp h g)) (f (register_of h before))
  at_segment f z none each h =
      ap (λ (rs : List Register). f (register_at h.key rs)) (c.is_now h) ∙ by (is_eq (segment_cmp (chapter_of h) (chapter_of g))) refl
    where
      by : (b : Bool) → is_eq (segment_cmp (chapter_of h) (chapter_of g)) ≡ b
          → f (register_at h.key (cond b regs (registers_of h before))) ≡ z (is_eq (segment_cmp h g)) (f (register_of h before))
      by true t = each h.key ∙ (λ i. z (sym (in_chapter h g t) i) (f (register_at h.key (sym (same_chapter h t) i))))
      by false t = none (f (register_of h before)) ∙ ap (λ b. z b (f (register_of h before))) (sym (apart h g t))

  pub now_in : registers_of g after ≡ regs
  now_in = c.is_now g ∙ cond-true _ _ _ (ap is_eq (tied_itself segment_total (chapter_of g)))

  still_orderly : IsOrderly before → rise regs ≡ true → ((k : KeyParts) → register_at k regs ≢ None → head_of k ≡ head_of g.key)
      → IsOrderly after
  still_orderly o r home = record {
    heads = c.heads o.heads;
    homes = λ h k e. homes (is_eq (segment_cmp (chapter_of h) (chapter_of g))) h k refl (λ f. e (ap (register_at k) (c.is_now h) ∙ f));
    rising = c.rising;
    registers = λ h. ap rise (c.is_now h) ∙ rises (is_eq (segment_cmp (chapter_of h) (chapter_of g))) h;
  }
    where
      homes : (b : Bool) (h : Segment) (k : KeyParts) → is_eq (segment_cmp (chapter_of h) (chapter_of g)) ≡ b
          → register_at k (cond b regs (registers_of h before)) ≢ None → head_of k ≡ head_of h.key
      homes true h k t e = home k e ∙ sym (ap (λ (s : Segment). s.key) (segment_exact (chapter_of h) (chapter_of g) ((Equal-is _).0 t)))
      homes false h k t e = o.homes h k e

      rises : (b : Bool) (h : Segment) → rise (cond b regs (registers_of h before)) ≡ true
      rises true h = r
      rises false h = o.registers h

  -- more registers in the chapter, which keep no id
  pub lays_in : IsOrderly before → LaysKeys (head_of g.key) (registers_of g before) regs → Lays before after
  lays_in o p = record {
    orderly = still_orderly o p.rising (λ k e. elim (p.homes k e) [ inl f ↦ o.homes g k f | inr q ↦ q ]);
    shown = at_segment shown_in (λ b v. v) (λ v. refl) p.shown;
    missing = at_segment missing_in (λ b v. v) (λ v. refl) p.missing;
  }

  -- one register of the chapter changed or added
  pub changes_in : (r : Register) → IsOrderly before → ChangesKey g.key r (registers_of g before) regs → Changes g r before after
  changes_in r o a = record {
    orderly = still_orderly o a.rising (λ k e. home (is_eq (key_cmp k g.key)) k refl (λ f. e (a.is_now k ∙ f)));
    is_now = at_segment (λ r. r) (λ b v. cond b (Some r) v) (λ v. refl) a.is_now;
  }
    where
      home : (b : Bool) (k : KeyParts) → is_eq (key_cmp k g.key) ≡ b → cond b (Some r) (register_at k (registers_of g before)) ≢ None
          → head_of k ≡ head_of g.key
      home true k t e = ap head_of (key_exact k g.key ((Equal-is _).0 t))
      home false k t e = o.homes g k e

  -- the same registers in the chapter
  pub same_in : IsOrderly before → regs ≡ registers_of g before → Same before after
  same_in o e = record {
    orderly = still_orderly o (ap rise e ∙ o.registers g) (λ k f. o.homes g k (λ n. f (ap (register_at k) e ∙ n)));
    is_now = at_segment (λ r. r) (λ b v. v) (λ v. refl) (λ k. ap (register_at k) e);
  }

-- and what holds of it
pub is_at : (P : Register → Register → Type 0) (g : Segment) (regs : List Register) (before after : List Chapter)
    → ChangesChapter g regs before after → IsOrderly before → IsAtKey P g.key (registers_of g before) regs → IsAt P g before after
is_at P g regs before after c ord a =
    record { old = a.old; new = a.new; was = a.was; changes = changes_in g regs before after c a.new ord a.changes; holds = a.holds }

pub same_chapters : (chapters : List Chapter) → IsOrderly chapters → Same chapters chapters
same_chapters chapters o = record { orderly = o; is_now = λ g. refl }
