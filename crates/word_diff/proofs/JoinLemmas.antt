-- Runs of steps of one kind, joined.
use Rattle.std.proofs.Common.{◌≡◌, ℕ, zero, suc, ◌+◌, ◌<◌, ◌≤◌, Bool, true, false, List, [], ◌∷◌, ◌++◌, length, take, drop, sym, refl, ap, ◌∙◌, subst, arith, cond, IsUtf8, append_assoc, length-append, take-append-drop}
use Rattle.std.proofs.lemmas.List.{append-nil, drop_at, take_at}
use Rattle.std.proofs.lemmas.Str.{IsCharBoundary-start, IsCharBoundary-at_seam}
use Rattle.std.specs.List.{prefix_len}
use Rattle.std.specs.Str.{IsCharBoundary}
use Rattle.word_diff.specs.declared.part.Kind.{Kind}
use Rattle.word_diff.specs.declared.part.Kind.TheVariants.{Kept, Removed, Added}
use Rattle.word_diff.specs.declared.part.Part.{Part}
use Rattle.word_diff.specs.Joins.{Joins, all_bytes}
use Rattle.word_diff.specs.Kinds.{is_kept, is_new, is_old, may_follow}
use Rattle.word_diff.specs.Parts.{Span, spans, texts_of, words_by, GoesOn, AreApart}
use Rattle.word_diff.specs.Steps.{same_kind, may_stand, StandsBefore, AreOrdered, AtLast}
use Rattle.word_diff.specs.Words.{words_of, joined}
use Rattle.word_diff.proofs.OrderLemmas.{follows_by}
use Rattle.word_diff.proofs.PartLemmas.{nothing, one_text, texts_of-append}
use Rattle.word_diff.proofs.Utf8.{utf8_rest}
use Rattle.word_diff.proofs.WordLaws.{joined-append, joined-words_of, words_part}

abbrev Words : Type 0
Words = List (List ℕ)

-- how many steps at the front are of a kind
abbrev pub run_of : Kind → List Span → ℕ
run_of k ss = prefix_len (λ (s : Span). same_kind s.kind k) ss

-- the same, as the code counts them
pub run_of-spans : (k : Kind) (items : List Part) → prefix_len (λ (part : Part). same_kind part.kind k) items ≡ run_of k (spans items)
run_of-spans k [] = refl
run_of-spans k (x ∷ xs) = ap (λ (n : ℕ). cond (same_kind x.kind k) (1 + n) 0) (run_of-spans k xs)

same_is : (a b : Kind) → same_kind a b ≡ true → a ≡ b
same_is Kept Kept h = refl
same_is Kept Removed h = absurd (cc)
same_is Kept Added h = absurd (cc)
same_is Removed Kept h = absurd (cc)
same_is Removed Removed h = refl
same_is Removed Added h = absurd (cc)
same_is Added Kept h = absurd (cc)
same_is Added Removed h = absurd (cc)
same_is Added Added h = refl

same_self : (a : Kind) → same_kind a a ≡ true
same_self Kept = refl
same_self Removed = refl
same_self Added = refl

run_by : (p : Kind → Bool) (k : Kind) (s : Span) (ss : List Span) (n : ℕ) (b : Bool) → same_kind s.kind k ≡ b
    → texts_of p (take n ss) ≡ cond (p k) (all_bytes (take n ss)) []
    → texts_of p (take (cond b (1 + n) 0) (s ∷ ss)) ≡ cond (p k) (all_bytes (take (cond b (1 + n) 0) (s ∷ ss))) []
run_by p k s ss n true h is =
    let next : 1 + n ≡ suc n = omega arith in
    let kind : s.kind ≡ k = same_is s.kind k h in
    let T = texts_of p (take n ss) in
    rw next
    ((λ i. cond (p (kind i)) (s.bytes ∷ is i) (is i)) ∙ one_text (p k) s.bytes (all_bytes (take n ss)))
run_by p k s ss n false h is = nothing (p k)

-- on each side the texts of a run are all of it, or none
run_texts : (p : Kind → Bool) (k : Kind) (ss : List Span) → texts_of p (take (run_of k ss) ss) ≡ cond (p k) (all_bytes (take
    (run_of k ss) ss)) []
run_texts p k [] = nothing (p k)
run_texts p k (s ∷ ss) = run_by p k s ss (run_of k ss) (same_kind s.kind k) refl (run_texts p k ss)

-- so are those of the steps from it on
pub rest_texts : (p : Kind → Bool) (k : Kind) (ss : List Span)
    → texts_of p ss ≡ cond (p k) (all_bytes (take (run_of k ss) ss)) [] ++ texts_of p (drop (run_of k ss) ss)
rest_texts p k ss =
    ap (texts_of p) (sym (take-append-drop (run_of k ss) ss)) ∙ texts_of-append p (take (run_of k ss) ss) (drop (run_of k ss) ss)
    ∙ ap (λ (l : Words). l ++ texts_of p (drop (run_of k ss) ss)) (run_texts p k ss)

goes_by : (k : Kind) (s : Span) (ss : List Span) (n : ℕ) (b : Bool) → same_kind s.kind k ≡ b → may_stand k s.kind ≡ true
    → (same_kind s.kind k ≡ true → GoesOn k (drop n ss)) → GoesOn k (drop (cond b (1 + n) 0) (s ∷ ss))
goes_by k s ss n true h stands on = let next : 1 + n ≡ suc n = omega arith in rw next (on h)
goes_by k s ss n false h stands on = follows_by k s.kind stands h

-- what follows a run may follow it
pub run_ends : (k : Kind) (ss : List Span) → StandsBefore k ss → AreOrdered ss → GoesOn k (drop (run_of k ss) ss)
run_ends k [] stands are = tt
run_ends k (s ∷ ss) stands are = goes_by k s ss (run_of k ss) (same_kind s.kind k) refl stands
    (λ same. run_ends k ss (subst (λ (l : Kind). StandsBefore l ss) (same_is s.kind k same) are.0) are.1)

-- and is in order
pub ordered_drop : (n : ℕ) (ss : List Span) → AreOrdered ss → AreOrdered (drop n ss)
ordered_drop zero ss are = are
ordered_drop (suc n) [] are = tt
ordered_drop (suc n) (s ∷ ss) are = ordered_drop n ss are.1

-- a run has the step that it begins with
pub run_some : (s : Span) (ss : List Span) → run_of s.kind (s ∷ ss) ≡ suc (run_of s.kind ss)
run_some s ss = let next : 1 + run_of s.kind ss ≡ suc (run_of s.kind ss) = omega arith in
    ap (λ (b : Bool). cond b (1 + run_of s.kind ss) 0) (same_self s.kind) ∙ next

-- a part after the others, where it may follow the last
pub apart_push : (parts rest : List Span) (x r : Span) → AreApart parts → 0 < length x.bytes → x.kind ≡ r.kind
    → AtLast (λ (k : Kind). GoesOn k (r ∷ rest)) parts → AreApart (parts ++ x ∷ [])
apart_push [] rest x r h some kind last = (some, tt, tt)
apart_push (s ∷ []) rest x r h some kind last = (h.0, ap (may_follow s.kind) kind ∙ last, (some, tt, tt))
apart_push (s ∷ t ∷ ss) rest x r h some kind last = (h.0, h.1, apart_push (t ∷ ss) rest x r h.2 some kind last)

-- a side's words up to here, those of a run, and those after it
record Around (p : Kind → Bool) (k : Kind) (parts rest : List Span) (text : List ℕ) : Type 0 where
  before : words_of text ≡ words_by p parts ++ (all_bytes (take (run_of k rest) rest) ++ texts_of p (drop (run_of k rest) rest))

around : (p : Kind → Bool) (k : Kind) (parts rest steps : List Span) (text : List ℕ) → p k ≡ true → texts_of p steps ≡ words_of text
    → words_by p parts ++ texts_of p rest ≡ texts_of p steps → Around p k parts rest text
around p k parts rest steps text here are so_far = record {
  before = sym are ∙ sym so_far
      ∙ ap (λ (l : Words). words_by p parts ++ l)
      (rest_texts p k rest
      ∙ ap (λ (b : Bool). cond b (all_bytes (take (run_of k rest) rest)) [] ++ texts_of p (drop (run_of k rest) rest)) here);
}

-- the words of a joined run are its texts
run_words : (p : Kind → Bool) (k : Kind) (parts rest : List Span) (text : List ℕ) → Around p k parts rest text
    → words_of (joined (all_bytes (take (run_of k rest) rest))) ≡ all_bytes (take (run_of k rest) rest)
run_words p k parts rest text around =
    words_part text (words_by p parts) (all_bytes (take (run_of k rest) rest)) (texts_of p (drop (run_of k rest) rest)) around.before

-- a joined run is no longer than its side
run_fits : (p : Kind → Bool) (k : Kind) (parts rest : List Span) (text : List ℕ) → Around p k parts rest text
    → length (joined (all_bytes (take (run_of k rest) rest))) ≤ length text
run_fits p k parts rest text around =
    let B = all_bytes (take (run_of k rest) rest) in
    let A = texts_of p (drop (run_of k rest) rest) in
    let W = words_by p parts in
    let parted : text ≡ joined W ++ (joined B ++ joined A) = sym (joined-words_of text) ∙ ap joined around.before
    ∙ joined-append W (B ++ A) ∙ ap (λ (l : List ℕ). joined W ++ l) (joined-append B A) in
    omega (arith, ap length parted, length-append (joined W) (joined B ++ joined A), length-append (joined B) (joined A))

-- how far a joining has come: the words of the parts and of the steps that are left, what is left of both texts, and that no
-- neighbours are of one kind
pub record Joining (parts rest steps : List Span) (old new old_rest new_rest : List ℕ) : Type 0 where
  pub old_words : words_by is_old parts ++ texts_of is_old rest ≡ texts_of is_old steps
  pub new_words : words_by is_new parts ++ texts_of is_new rest ≡ texts_of is_new steps
  pub kept_words : words_by is_kept parts ++ texts_of is_kept rest ≡ texts_of is_kept steps
  pub old_left : old_rest ≡ joined (texts_of is_old rest)
  pub new_left : new_rest ≡ joined (texts_of is_new rest)
  pub apart : AreApart parts
  pub goes_on : AtLast (λ k. GoesOn k rest) parts
  pub ordered : AreOrdered rest

-- nothing is joined before the first run
pub joining_none : (steps : List Span) (old new : List ℕ) → texts_of is_old steps ≡ words_of old → texts_of is_new steps ≡ words_of new
    → AreOrdered steps → Joining [] steps steps old new old new
joining_none steps old new old_are new_are ordered = record {
  old_words = refl;
  new_words = refl;
  kept_words = refl;
  old_left = sym (ap joined old_are ∙ joined-words_of old);
  new_left = sym (ap joined new_are ∙ joined-words_of new);
  apart = tt;
  goes_on = tt;
  ordered = ordered;
}

-- and all is joined where no steps are left
pub joining_all : (parts rest steps : List Span) (old new old_rest new_rest : List ℕ) → rest ≡ []
    → Joining parts rest steps old new old_rest new_rest
    → Joins parts steps
joining_all parts rest steps old new old_rest new_rest none j = record {
  old = sym (append-nil (words_by is_old parts)) ∙ ap (λ (l : List Span). words_by is_old parts ++ texts_of is_old l) (sym none)
      ∙ j.old_words;
  new = sym (append-nil (words_by is_new parts)) ∙ ap (λ (l : List Span). words_by is_new parts ++ texts_of is_new l) (sym none)
      ∙ j.new_words;
  kept = sym (append-nil (words_by is_kept parts)) ∙ ap (λ (l : List Span). words_by is_kept parts ++ texts_of is_kept l) (sym none)
      ∙ j.kept_words;
  apart = j.apart;
}

-- what both texts have words of
pub record OfTexts (steps : List Span) (old new : List ℕ) : Type 0 where
  pub old_are : texts_of is_old steps ≡ words_of old
  pub new_are : texts_of is_new steps ≡ words_of new

-- the words of a joined run, on whichever side it is
pub joined_words : (k : Kind) (parts rest steps : List Span) (old new old_rest new_rest : List ℕ) → OfTexts steps old new
    → Joining parts rest steps old new old_rest new_rest
    → words_of (joined (all_bytes (take (run_of k rest) rest))) ≡ all_bytes (take (run_of k rest) rest)
joined_words Kept parts rest steps old new old_rest new_rest t j =
    run_words is_old Kept parts rest old (around is_old Kept parts rest steps old refl t.old_are j.old_words)
joined_words Removed parts rest steps old new old_rest new_rest t j =
    run_words is_old Removed parts rest old (around is_old Removed parts rest steps old refl t.old_are j.old_words)
joined_words Added parts rest steps old new old_rest new_rest t j =
    run_words is_new Added parts rest new (around is_new Added parts rest steps new refl t.new_are j.new_words)

-- its length is one that a text has
pub joined_fits : (k : Kind) (parts rest steps : List Span) (old new old_rest new_rest : List ℕ) (limit : ℕ) → OfTexts steps old new
    → Joining parts rest steps old new old_rest new_rest → length old < limit → length new < limit
    → length (joined (all_bytes (take (run_of k rest) rest))) < limit
joined_fits Kept parts rest steps old new old_rest new_rest limit t j a b =
    omega (arith, run_fits is_old Kept parts rest old (around is_old Kept parts rest steps old refl t.old_are j.old_words))
joined_fits Removed parts rest steps old new old_rest new_rest limit t j a b =
    omega (arith, run_fits is_old Removed parts rest old (around is_old Removed parts rest steps old refl t.old_are j.old_words))
joined_fits Added parts rest steps old new old_rest new_rest limit t j a b =
    omega (arith, run_fits is_new Added parts rest new (around is_new Added parts rest steps new refl t.new_are j.new_words))

-- Where a side's text is cut: after the run where it is on that side, and else at the front.

-- the two sides of that place
pub cut_by : (b : Bool) (B A : Words) (left : List ℕ) → left ≡ joined (cond b B [] ++ A)
    → (take (cond b (length (joined B)) 0) left ≡ cond b (joined B) []) × (drop (cond b (length (joined B)) 0) left ≡ joined A)
cut_by true B A left is =
    let parted = is ∙ joined-append B A in (
      ap (take (length (joined B))) parted ∙ take_at (joined B) (joined A) (length (joined B)) refl,
      ap (drop (length (joined B))) parted ∙ drop_at (joined B) (joined A) (length (joined B)) refl,
    )
cut_by false B A left is = (refl, is)

boundary_by : (b : Bool) (B A : Words) (left : List ℕ) → left ≡ joined (cond b B [] ++ A) → IsUtf8 left → IsUtf8 (joined A)
    → IsCharBoundary left (cond b (length (joined B)) 0)
boundary_by true B A left is utf8 rest = IsCharBoundary-at_seam left (joined B) (joined A) (is ∙ joined-append B A) rest
boundary_by false B A left is utf8 rest = IsCharBoundary-start left utf8

-- what is left of a side, by the run at its front
pub left_by : (p : Kind → Bool) (k : Kind) (rest : List Span) (left : List ℕ) → left ≡ joined (texts_of p rest)
    → left ≡ joined (cond (p k) (all_bytes (take (run_of k rest) rest)) [] ++ texts_of p (drop (run_of k rest) rest))
left_by p k rest left is = is ∙ ap joined (rest_texts p k rest)

-- what comes after a run is a text
pub side_utf8 : (p : Kind → Bool) (k : Kind) (parts rest steps : List Span) (text after : List ℕ) → texts_of p steps ≡ words_of text
    → words_by p parts ++ texts_of p rest ≡ texts_of p steps → IsUtf8 text → after ≡ joined (texts_of p (drop (run_of k rest) rest))
    → IsUtf8 after
side_utf8 p k parts rest steps text after are so_far utf8 is =
    let B = cond (p k) (all_bytes (take (run_of k rest) rest)) [] in
    let A = texts_of p (drop (run_of k rest) rest) in
    let words : words_of text ≡ (words_by p parts ++ B) ++ A = sym are ∙ sym so_far
    ∙ ap (λ (l : Words). words_by p parts ++ l) (rest_texts p k rest) ∙ sym (append_assoc (words_by p parts) B A) in
    subst IsUtf8 (sym is) (utf8_rest (words_by p parts ++ B) A text utf8 words)

-- and a side's text may be cut before it
pub side_boundary : (p : Kind → Bool) (k : Kind) (parts rest steps : List Span) (text left : List ℕ)
    → left ≡ joined (texts_of p rest) → texts_of p steps ≡ words_of text → words_by p parts ++ texts_of p rest ≡ texts_of p steps
    → IsUtf8 text → IsUtf8 left → IsCharBoundary left (cond (p k) (length (joined (all_bytes (take (run_of k rest) rest)))) 0)
side_boundary p k parts rest steps text left is are so_far utf8 left_utf8 =
    boundary_by (p k) (all_bytes (take (run_of k rest) rest)) (texts_of p (drop (run_of k rest) rest)) left
    (left_by p k rest left is) left_utf8
    (side_utf8 p k parts rest steps text _ are so_far utf8 refl)
