-- The notes of a reading's chapters have all runs that stand in notes.
use Rattle.std.proofs.Common.{◌≡◌, ℕ, suc, ◌+◌, Bool, true, false, cond, List, [], ◌∷◌, ◌++◌, take, Option, None, Some}
use Rattle.std.proofs.Common.{refl, sym, ap, subst, ◌∙◌, append_assoc, append-nil, arith}
use Rattle.std.specs.List.{flat_map, prefix_len}
use Rattle.std.specs.Prelude.{not, ◌&&◌, is_some, is_none, filter}
use Rattle.book_reading.specs.Blocks.{NoteParts, goes_on, notes_of}
use Rattle.book_reading.specs.Chapters.{has_mark, onto_chapters, chapters_of}
use Rattle.book_reading.specs.Readings.{RunParts, is_caller}

-- the runs at the front that go on with a note
abbrev going : List RunParts → List RunParts
going rs = take (prefix_len goes_on rs) rs

-- the runs of the notes of a chapter
abbrev pub note_runs : List RunParts → List RunParts
note_runs rs = flat_map (λ (n : NoteParts). n.runs) (notes_of rs)

-- the runs of the notes of chapters
abbrev pub all_note_runs : List (List RunParts) → List RunParts
all_note_runs cs = flat_map note_runs cs

-- ---- the runs at the front

-- what goes on after a run with what goes on from it
abbrev after : RunParts → List RunParts → List RunParts
after r g = cond (goes_on r) (r ∷ g) []

-- what a run begins, with what goes on from it
abbrev begun : RunParts → List RunParts → List RunParts
begun r g = cond (is_caller r.sort) (r ∷ g) []

going_is : (r : RunParts) (rs : List RunParts) → going (r ∷ rs) ≡ after r (going rs)
going_is r rs = by (goes_on r)
  where
    by : (b : Bool) → take (cond b (1 + prefix_len goes_on rs) 0) (r ∷ rs) ≡ cond b (r ∷ going rs) []
    by true = let more : 1 + prefix_len goes_on rs ≡ suc (prefix_len goes_on rs) = omega arith in ap (λ k. take k (r ∷ rs)) more
    by false = refl

begun_is : (r : RunParts) (rs : List RunParts) → note_runs (r ∷ rs) ≡ begun r (going rs) ++ note_runs rs
begun_is r rs = by (is_caller r.sort)
  where
    by : (b : Bool)
        → flat_map (λ (n : NoteParts). n.runs) (cond b (record { number = r.note; runs = r ∷ going rs } ∷ notes_of rs) (notes_of rs))
        ≡ cond b (r ∷ going rs) [] ++ note_runs rs
    by true = refl
    by false = refl

stopped : (a : Bool) (o : Option ℕ) (k : Bool) → (a && is_none o) ≡ true → (is_some o && k) ≡ false
stopped true (Some n) k h = absurd (cc)
stopped false (Some n) k h = absurd (cc)
stopped a None k h = refl

-- the mark of a chapter goes on with no note
mark_stops : (c : List RunParts) → has_mark c ≡ true → going c ≡ []
mark_stops [] h = absurd (cc)
mark_stops (r ∷ rs) h = going_is r rs ∙ ap (λ b. cond b (r ∷ going rs) []) (stopped _ r.note (not (is_caller r.sort)) h)

-- ---- the runs at the front of the first chapter

abbrev first_going : List (List RunParts) → List RunParts
first_going [] = []
first_going (c ∷ cs) = going c

onto_going : (r : RunParts) (cs : List (List RunParts)) → first_going (onto_chapters r cs) ≡ after r (first_going cs)
onto_going r [] = going_is r []
onto_going r (c ∷ cs) = by (has_mark c) refl
  where
    by : (b : Bool) → has_mark c ≡ b → first_going (cond b ((r ∷ []) ∷ c ∷ cs) ((r ∷ c) ∷ cs)) ≡ after r (going c)
    by true h = going_is r [] ∙ ap (after r) (sym (mark_stops c h))
    by false h = going_is r c

first_is : (rs : List RunParts) → first_going (chapters_of rs) ≡ going rs
first_is [] = refl
first_is (r ∷ rs) = onto_going r (chapters_of rs) ∙ ap (after r) (first_is rs) ∙ sym (going_is r rs)

-- ---- the notes of chapters, with one run more in front

onto_notes : (r : RunParts) (cs : List (List RunParts))
    → all_note_runs (onto_chapters r cs) ≡ begun r (first_going cs) ++ all_note_runs cs
onto_notes r [] = ap (λ l. l ++ []) (begun_is r [] ∙ append-nil (begun r []))
onto_notes r (c ∷ cs) = by (has_mark c) refl
  where
    by : (b : Bool) → has_mark c ≡ b
        → all_note_runs (cond b ((r ∷ []) ∷ c ∷ cs) ((r ∷ c) ∷ cs)) ≡ begun r (going c) ++ (note_runs c ++ all_note_runs cs)
    by true h =
        ap (λ l. l ++ (note_runs c ++ all_note_runs cs))
        (begun_is r [] ∙ append-nil (begun r []) ∙ ap (begun r) (sym (mark_stops c h)))
    by false h = ap (λ l. l ++ all_note_runs cs) (begun_is r c) ∙ append_assoc (begun r (going c)) (note_runs c) (all_note_runs cs)

-- ---- runs, each of which stands in a note only after its mark

-- a run may come after one that stands in a note, or after another
abbrev Comes : Bool → RunParts → Type 0
Comes b r = (goes_on r ≡ true → b ≡ true) × (is_caller r.sort ≡ true → is_some r.note ≡ true)

abbrev pub AllCome : Bool → List RunParts → Type 0
AllCome b [] = Unit {0}
AllCome b (r ∷ rs) = Comes b r × AllCome (is_some r.note) rs

none_goes : (rs : List RunParts) → AllCome false rs → going rs ≡ []
none_goes [] h = refl
none_goes (r ∷ rs) h = going_is r rs ∙ by (goes_on r) h.0.0
  where
    by : (b : Bool) → (b ≡ true → false ≡ true) → cond b (r ∷ going rs) [] ≡ []
    by true h = let no = h refl in absurd (cc)
    by false h = refl

-- a run more in front, by whether it stands in a note and whether it is the mark of one
one_more : (r : RunParts) (whole g notes : List RunParts) (n k : Bool) → (k ≡ true → n ≡ true) → (n ≡ false → g ≡ [])
    → whole ≡ g ++ notes
    → cond n (r ∷ whole) whole ≡ cond (n && not k) (r ∷ g) [] ++ (cond k (r ∷ g) [] ++ notes)
one_more r whole g notes true true caller none is = ap (λ l. r ∷ l) is
one_more r whole g notes true false caller none is = ap (λ l. r ∷ l) is
one_more r whole g notes false true caller none is = let no = caller refl in absurd (cc)
one_more r whole g notes false false caller none is = is ∙ ap (λ l. l ++ notes) (none refl)

all_held : (rs : List RunParts) (b : Bool) → AllCome b rs
    → filter (λ (r : RunParts). is_some r.note) rs ≡ going rs ++ all_note_runs (chapters_of rs)
all_held [] b h = refl
all_held (r ∷ rs) b h =
    one_more r _ (going rs) (all_note_runs (chapters_of rs)) (is_some r.note) (is_caller r.sort) h.0.1
    (λ is. none_goes rs (subst (λ x. AllCome x rs) is h.1)) (all_held rs (is_some r.note) h.1)
    ∙ (λ i. sym (going_is r rs) i ++ (begun r (sym (first_is rs) i) ++ all_note_runs (chapters_of rs)))
    ∙ ap (λ l. going (r ∷ rs) ++ l) (sym (onto_notes r (chapters_of rs)))

pub notes_hold : (rs : List RunParts) → AllCome false rs
    → all_note_runs (chapters_of rs) ≡ filter (λ (r : RunParts). is_some r.note) rs
notes_hold rs h = ap (λ l. l ++ all_note_runs (chapters_of rs)) (sym (none_goes rs h)) ∙ sym (all_held rs false h)
