-- Each run of a reading that stands in a note comes after the note's mark.
use Rattle.sty_sheet.specs.declared.kind.StyleKind.{StyleKind}
use Rattle.sty_sheet.specs.declared.kind.StyleKind.TheVariants as kinds
use Rattle.std.proofs.Common.{◌≡◌, ℕ, Bool, true, false, cond, List, [], ◌∷◌, ◌++◌, length, take, drop, Option, None, Some}
use Rattle.std.proofs.Common.{refl, sym, ap, subst, ◌∙◌, append_assoc, append-nil, eqb-true, arith}
use Rattle.std.specs.Prelude.{not, ◌&&◌, ◌||◌, ◌==◌, is_some, filter, codes}
use Rattle.std.specs.Str.{bytes_eq}
use Rattle.usfm_token.specs.Tokens.{MarkParts, mark_bytes}
use Rattle.usfm_tree.specs.Forest.{Forest, nothing, text, leaf, node}
use Rattle.usfm_tree.specs.Reading.{Styles, is_note_kind, tree_of}
use Rattle.book_reading.specs.Leads.{blanks_of, after_blanks, number_length, number_sort, gap_length, node_lead}
use Rattle.book_reading.specs.Readings.{is_caller, notes_after, numbered_from, is_filled, reading_of}
use Rattle.book_reading.specs.Stretches.{Place, Stretch, root, stretch, within, mark_sort, is_known, leaf_sort, leaf_lead}
use Rattle.book_reading.specs.Stretches.{close_stretches, node_end, words_length, words_sort, text_stretches, is_nothing}
use Rattle.book_reading.specs.Stretches.{lead_at_end, stretches_in}
use Rattle.book_reading.specs.declared.lead.Lead.{Lead}
use Rattle.book_reading.specs.declared.lead.Lead.TheVariants as leads
use Rattle.book_reading.specs.declared.run.Sort.{Sort}
use Rattle.book_reading.specs.declared.run.Sort.TheVariants as sorts
use Rattle.book_reading.proofs.NoteLemmas.{AllCome}

-- a stretch may come after one that stands in a note, or after another
abbrev Comes : Bool → Stretch → Type 0
Comes b s =
    ((s.in_note && not (is_caller s.sort)) ≡ true → b ≡ true)
    × ((is_caller s.sort ≡ true → s.in_note ≡ true) × (is_caller s.sort ≡ true → is_filled s ≡ true))

abbrev AllPlaced : Bool → List Stretch → Type 0
AllPlaced b [] = Unit {0}
AllPlaced b (s ∷ ss) = Comes b s × AllPlaced s.in_note ss

-- ---- numbers

some_is : (b : Bool) (m : ℕ) → is_some (cond b (Some m) None) ≡ b
some_is true m = refl
some_is false m = refl

numbers_come : (b : Bool) (n : ℕ) (ss : List Stretch) → AllPlaced b ss → AllCome b (numbered_from n ss)
numbers_come b n [] h = tt
numbers_come b n (s ∷ ss) h =
    let m = notes_after n s.sort in
    let is = sym (some_is s.in_note m) in (
      (
        subst (λ x. (x && not (is_caller s.sort)) ≡ true → b ≡ true) is h.0.0,
        subst (λ x. is_caller s.sort ≡ true → x ≡ true) is h.0.1.0,
      ),
      subst (λ x. AllCome x (numbered_from m ss)) is (numbers_come s.in_note m ss h.1),
    )

-- ---- empty stretches

weaker : (x b : Bool) (ss : List Stretch) → (x ≡ true → b ≡ true) → AllPlaced x ss → AllPlaced b ss
weaker x b [] may h = tt
weaker x b (s ∷ ss) may h = ((λ on. may (h.0.0 on), h.0.1), h.1)

still : (x b k f : Bool) → ((x && not k) ≡ true → b ≡ true) → (k ≡ true → f ≡ true) → f ≡ false → x ≡ true → b ≡ true
still x b true f may filled none is = let e = filled refl in absurd (cc)
still true b false f may filled none is = may refl
still false b false f may filled none is = absurd (cc)

filled_come : (b : Bool) (ss : List Stretch) → AllPlaced b ss → AllPlaced b (filter is_filled ss)
filled_come b [] h = tt
filled_come b (s ∷ ss) h = by (is_filled s) refl (filled_come s.in_note ss h.1)
  where
    by : (f : Bool) → is_filled s ≡ f → AllPlaced s.in_note (filter is_filled ss)
        → AllPlaced b (cond f (s ∷ filter is_filled ss) (filter is_filled ss))
    by true is later = (h.0, later)
    by false is later =
        weaker s.in_note b (filter is_filled ss) (still s.in_note b (is_caller s.sort) (is_filled s) h.0.0 h.0.1.1 is) later

-- ---- trees

-- what stands at a place may come here
abbrev May : Place → Bool → Type 0
May p b = p.in_note ≡ true → b ≡ true

and_left : (x y : Bool) → (x && y) ≡ true → x ≡ true
and_left true y h = refl
and_left false y h = h

or_right : (x y : Bool) → y ≡ true → (x || y) ≡ true
or_right true y h = refl
or_right false y h = h

-- a stretch at a place that is no mark of a note
plain : (p : Place) (sort : Sort) (bytes : List ℕ) (l : List Stretch) (b : Bool) → is_caller sort ≡ false → May p b
    → AllPlaced p.in_note l → AllPlaced b (stretch p sort bytes ∷ l)
plain p sort bytes l b other may later =
    ((λ h. may (and_left p.in_note (not (is_caller sort)) h), (λ h. absurd (cc), λ h. absurd (cc))), later)

number_is : (lead : Lead) → is_caller (number_sort lead) ≡ false
number_is leads.Nothing = refl
number_is leads.Blanks = refl
number_is leads.Sign = refl
number_is leads.Verse = refl
number_is leads.Chapter = refl

cond_is : (b : Bool) (x y : Sort) → is_caller x ≡ false → is_caller y ≡ false → is_caller (cond b x y) ≡ false
cond_is true x y hx hy = hx
cond_is false x y hx hy = hy

-- five at a place
five : (p : Place) (x y z u v : List ℕ) (n w : Sort) (l : List Stretch) (b : Bool) → is_caller n ≡ false → is_caller w ≡ false → May p b
    → AllPlaced p.in_note l
    → AllPlaced b (stretch p sorts.Markup x ∷ stretch p n y ∷ stretch p sorts.Markup z ∷ stretch p w u ∷ stretch p sorts.Markup v ∷ l)
five p x y z u v n w l b is_n is_w may later =
    let l4 : List Stretch = stretch p sorts.Markup v ∷ l in
    let l3 : List Stretch = stretch p w u ∷ l4 in
    let l2 : List Stretch = stretch p sorts.Markup z ∷ l3 in
    let l1 : List Stretch = stretch p n y ∷ l2 in
    let on : May p p.in_note = λ h. h in
    plain p sorts.Markup x l1 b refl may
    (plain p n y l2 p.in_note is_n on
    (plain p sorts.Markup z l3 p.in_note refl on
    (plain p w u l4 p.in_note is_w on (plain p sorts.Markup v l p.in_note refl on later))))

text_placed : (p : Place) (may_end : Bool) (lead : Lead) (t : List ℕ) (l : List Stretch) (b : Bool) → May p b
    → AllPlaced p.in_note l → AllPlaced b (text_stretches p may_end lead t ++ l)
text_placed p may_end lead t l b may later =
    let front = take (number_length lead t) t in
    let rest = drop (number_length lead t) t in
    let inner = drop (gap_length lead rest) rest in
    five p (blanks_of front) (after_blanks front) (take (gap_length lead rest) rest) (take (words_length may_end inner) inner)
    (drop (words_length may_end inner) inner) (number_sort lead) (words_sort p.style) l b (number_is lead)
    (cond_is (bytes_eq p.style (codes "fig")) sorts.Caption sorts.Words refl refl) may later

-- a mark has bytes
cons_filled : (x : ℕ) (xs : List ℕ) → not (length (x ∷ xs) == 0) ≡ true
cons_filled x xs = by (length (x ∷ xs) == 0) refl
  where
    by : (b : Bool) → (length (x ∷ xs) == 0) ≡ b → not b ≡ true
    by true h = let none : length (x ∷ xs) ≡ 0 = eqb-true (length (x ∷ xs)) 0 h in absurd (omega arith)
    by false h = refl

-- the mark of a node
mark_placed : (k : StyleKind) (p : Place) (m : MarkParts) (closed : Bool) (l : List Stretch) (b : Bool) → May p b
    → (let inner = within p k m.name closed in
    AllPlaced inner.in_note l → AllPlaced b (stretch inner (mark_sort k m.name) (mark_bytes m) ∷ l))
mark_placed kinds.Paragraph p m closed l b may later =
    plain (within p kinds.Paragraph m.name closed) (mark_sort kinds.Paragraph m.name) (mark_bytes m) l b refl may later
mark_placed kinds.Character p m closed l b may later =
    plain (within p kinds.Character m.name closed) sorts.Markup (mark_bytes m) l b refl may later
mark_placed kinds.Milestone p m closed l b may later =
    plain (within p kinds.Milestone m.name closed) sorts.Markup (mark_bytes m) l b refl may later
mark_placed kinds.Note p m closed l b may later = ((λ h. absurd (cc), (λ h. refl, λ h. cons_filled 92 (drop 1 (mark_bytes m)))), later)

tree_placed : (styles : Styles) (p : Place) (lead : Lead) (f : Forest) (later : List Stretch)
    → ((b : Bool) → May p b → AllPlaced b later)
    → (b : Bool) → May p b → AllPlaced b (stretches_in styles p lead f ++ later)
tree_placed styles p lead nothing later go b may = go b may
tree_placed styles p lead (text s t f) later go b may =
    text_placed p (is_nothing f && p.has_attributes) lead t (stretches_in styles p leads.Nothing f ++ later) b may
    (tree_placed styles p leads.Nothing f later go p.in_note (λ h. h))
tree_placed styles p lead (leaf s m f) later go b may =
    plain p (leaf_sort (is_known styles m)) (mark_bytes m)
    (stretches_in styles p (leaf_lead (is_known styles m) m.name) f ++ later) b
    (cond_is (is_known styles m) sorts.Markup sorts.Unknown refl refl) may
    (tree_placed styles p (leaf_lead (is_known styles m) m.name) f later go p.in_note (λ h. h))
tree_placed styles p lead (node k s x m ks c f) later go b may =
    let inner = within p k m.name (is_some c) in
    let end = node_end (lead_at_end styles (node_lead k m.name) ks) c in
    let kids = stretches_in styles inner (node_lead k m.name) ks in
    let close = close_stretches inner c in
    let after = stretches_in styles p end f in
    let whole = append_assoc kids (close ++ after) later ∙ ap (λ l. kids ++ l) (append_assoc close after later) in
    mark_placed k p m (is_some c) ((kids ++ (close ++ after)) ++ later) b may
    (subst (AllPlaced inner.in_note) (sym whole)
    (tree_placed styles inner (node_lead k m.name) ks (close ++ (after ++ later))
    (closed k p m c (after ++ later) (tree_placed styles p end f later go)) inner.in_note (λ h. h)))
  where
    closed : (k : StyleKind) (p : Place) (m : MarkParts) (c : Option MarkParts) (l : List Stretch)
        → ((b : Bool) → May p b → AllPlaced b l)
        → (b : Bool) → May (within p k m.name (is_some c)) b → AllPlaced b (close_stretches (within p k m.name (is_some c)) c ++ l)
    closed k p m None l go b may = go b (λ h. may (or_right (is_note_kind k) p.in_note h))
    closed k p m (Some m') l go b may =
        let inner = within p k m.name true in
        plain inner sorts.Markup (mark_bytes m') l b refl may (go inner.in_note (λ h. or_right (is_note_kind k) p.in_note h))

-- ---- the reading

pub reading_placed : (styles : Styles) (s : List ℕ) → AllCome false (reading_of styles s)
unfolding reading_of
reading_placed styles s =
    let ss = stretches_in styles root leads.Nothing (tree_of styles s) in
    numbers_come false 0 (filter is_filled ss) (filled_come false ss
    (subst (AllPlaced false) (append-nil ss)
    (tree_placed styles root leads.Nothing (tree_of styles s) [] (λ b may. tt) false (λ h. h))))
