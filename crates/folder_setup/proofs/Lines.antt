-- The lines of a setup, put together and taken apart.
use Rattle.std.proofs.Common.{◌≡◌, ◌==◌, ◌<◌, ◌+◌, ℕ, Bool, true, false, cond, eqb, ltb, List, [], ◌∷◌, ◌++◌, length, take, drop, Option, Some, None, Result, Ok, Err, arith, append_assoc, append-nil, length-append, get_or, refl, ap, sym, ◌∙◌}
use Rattle.std.specs.Prelude.{not, ◌&&◌}
use Rattle.std.proofs.lemmas.Bool.Decides.{nat_tests}
use Rattle.std.proofs.lemmas.Bool.{eqb-true, lt-ltb, ltb-true}
use Rattle.std.proofs.lemmas.List.{take_at, drop_at}
use Rattle.std.proofs.lemmas.List.Sums.{split_at_first, passes_at_first}
use Rattle.std.specs.List.{list_any, position_or_len, before_first, after_first}
use Rattle.folder_setup.specs.Setups.{SetupParts, Cut, setup, is_feed, has_byte, is_value, is_line_value, is_value_if, has_values, after, first_line, valued, value_in, value_of, line, line_if, lines, project_word, box_word, names_word, read_end, read_names_by, read_names, read_box_by, read_by, read}
use Rattle.folder_setup.specs.declared.fault.SetupFault.{SetupFault}
use Rattle.folder_setup.proofs.Fronts.{after_itself, after_is}

-- ---- one line

-- the first line feed of a text that has none before it
place_of_feed : (xs rest : List ℕ) → has_byte 10 xs ≡ false → position_or_len is_feed (xs ++ 10 ∷ rest) ≡ length xs
place_of_feed [] rest h = refl
place_of_feed (b ∷ xs) rest h = by (place_of_feed xs rest) (b == 10) refl h
  where
    by : (has_byte 10 xs ≡ false → position_or_len is_feed (xs ++ 10 ∷ rest) ≡ length xs) → (is : Bool) → (b == 10) ≡ is
        → has_byte 10 (b ∷ xs) ≡ false → position_or_len is_feed (b ∷ xs ++ 10 ∷ rest) ≡ length (b ∷ xs)
    by later true e h = absurd (grind (arith, nat_tests, e, h))
    by later false e h = grind (arith, nat_tests, e, h, later (grind (arith, nat_tests, e, h)))

drop_past : (xs rest : List ℕ) → drop (length xs + 1) (xs ++ 10 ∷ rest) ≡ rest
drop_past xs rest =
    ap (drop (length xs + 1)) (sym (append_assoc xs (10 ∷ []) rest))
    ∙ drop_at (xs ++ 10 ∷ []) rest (length xs + 1) (omega (arith, length-append xs (10 ∷ [])))

-- a line and its line feed are the first line
pub first_line_of : (xs rest : List ℕ) → has_byte 10 xs ≡ false → first_line (xs ++ 10 ∷ rest) ≡ Some (xs, rest)
first_line_of xs rest h =
    let text = xs ++ 10 ∷ rest in
    let place = place_of_feed xs rest h in
    let fits : ltb (position_or_len is_feed text) (length text) ≡ true =
    lt-ltb _ _ (omega (arith, place, length-append xs (10 ∷ rest))) in
    let front : before_first is_feed text ≡ xs = ap (λ n. take n text) place ∙ take_at xs (10 ∷ rest) (length xs) refl in
    let back : after_first is_feed text ≡ rest = ap (λ n. drop (n + 1) text) place ∙ drop_past xs rest in
    rw fits (λ i. Some (front i, back i))

-- the cut that there is, if there is one
abbrev cut_or : Option Cut → Cut
cut_or None = ([], [])
cut_or (Some r) = r

-- a text with a first line is that line, a line feed, and what follows
pub first_line_is : (text : List ℕ) (r : Cut) → first_line text ≡ Some r → text ≡ r.0 ++ 10 ∷ r.1
first_line_is text r h = by (ltb (position_or_len is_feed text) (length text)) refl h
  where
    by : (t : Bool) → ltb (position_or_len is_feed text) (length text) ≡ t
        → cond t (Some (before_first is_feed text, after_first is_feed text)) None ≡ Some r → text ≡ r.0 ++ 10 ∷ r.1
    by true e h =
        let less = ltb-true _ _ e in
        let byte : get_or text (position_or_len is_feed text) 0 ≡ 10 = eqb-true _ _ (passes_at_first is_feed text 0 less) in
        let cut : (before_first is_feed text, after_first is_feed text) ≡ r = ap cut_or h in
        split_at_first is_feed text 0 less ∙ (λ i. (cut i).0 ++ (byte i ∷ (cut i).1))
    by false e h = absurd (grind (arith, h))

-- ---- a word and its value

no_feed : (xs ys : List ℕ) → has_byte 10 xs ≡ false → has_byte 10 ys ≡ false → has_byte 10 (xs ++ ys) ≡ false
no_feed [] ys h k = k
no_feed (b ∷ xs) ys h k = by (no_feed xs ys) (b == 10) refl h
  where
    by : (has_byte 10 xs ≡ false → has_byte 10 ys ≡ false → has_byte 10 (xs ++ ys) ≡ false) → (is : Bool) → (b == 10) ≡ is
        → has_byte 10 (b ∷ xs) ≡ false → has_byte 10 (b ∷ xs ++ ys) ≡ false
    by later true e h = absurd (grind (arith, nat_tests, e, h))
    by later false e h = grind (arith, nat_tests, e, h, later (grind (arith, nat_tests, e, h)) k)

both : (a b : Bool) → (a && b) ≡ true → (a ≡ true) × (b ≡ true)
both true b h = (refl, h)
both false b h = absurd (grind (arith, h))

is_no : (a : Bool) → not a ≡ true → a ≡ false
is_no true h = absurd (grind (arith, h))
is_no false h = refl

-- a line and what follows, by its parts
line_is : (word value rest : List ℕ) → line word value ++ rest ≡ (word ++ value) ++ 10 ∷ rest
line_is word value rest = append_assoc (word ++ value) (10 ∷ []) rest

-- the value of a line is read of it
pub value_of_line : (word value rest : List ℕ) → has_byte 10 word ≡ false → is_line_value value ≡ true
    → value_of word (line word value ++ rest) ≡ Some (value, rest)
value_of_line word value rest h k =
    let valid = both (is_value value) (not (has_byte 10 value)) k in
    let one = first_line_of (word ++ value) rest (no_feed word value h (is_no (has_byte 10 value) valid.1)) in
    ap (value_of word) (line_is word value rest)
    ∙ ap (value_in word) one
    ∙ ap (λ v. valued v rest) (after_itself word value)
    ∙ rw valid.0 refl

-- a text whose first line has a value begins with that line
pub value_of_is : (word text : List ℕ) (r : Cut) → value_of word text ≡ Some r → text ≡ line word r.0 ++ r.1
value_of_is word text r h = by (first_line text) refl h
  where
    chosen : (value : List ℕ) (is : Bool) (c : Cut) → after word c.0 ≡ Some value
        → cond is (Some (value, c.1)) None ≡ Some r → first_line text ≡ Some c → text ≡ line word r.0 ++ r.1
    chosen value true c e h f =
        let cut : (value, c.1) ≡ r = ap cut_or h in
        first_line_is text c f
        ∙ ap (λ t. t ++ 10 ∷ c.1) (after_is word c.0 value e)
        ∙ (λ i. (word ++ (cut i).0) ++ 10 ∷ (cut i).1)
        ∙ sym (line_is word r.0 r.1)
    chosen value false c e h f = absurd (grind (arith, h))

    valued_by : (c : Cut) (v : Option (List ℕ)) → after word c.0 ≡ v → valued v c.1 ≡ Some r → first_line text ≡ Some c
        → text ≡ line word r.0 ++ r.1
    valued_by c None e h f = absurd (grind (arith, h))
    valued_by c (Some value) e h f = chosen value (is_value value) c e h f

    by : (c : Option Cut) → first_line text ≡ c → value_in word c ≡ Some r → text ≡ line word r.0 ++ r.1
    by None f h = absurd (grind (arith, h))
    by (Some c) f h = valued_by c (after word c.0) refl h f

-- ---- what is written is read

to_end : (word value : List ℕ) → has_byte 10 word ≡ false → is_line_value value ≡ true
    → value_of word (line word value) ≡ Some (value, [])
to_end word value h k = ap (value_of word) (sym (append-nil (line word value))) ∙ value_of_line word value [] h k

names_again : (project : List ℕ) (box_folder : Option (List ℕ)) (n : ℕ) (names : Option (List ℕ)) → is_value_if names ≡ true
    → read_names project box_folder n (line_if names_word names) ≡ Ok (setup project box_folder names)
names_again project box_folder n None h = refl
names_again project box_folder n (Some names) h =
    ap (read_names_by project box_folder n) (to_end names_word names refl h)

no_box : (names : Option (List ℕ)) → is_value_if names ≡ true → value_of box_word (line_if names_word names) ≡ None
no_box None h = refl
no_box (Some names) h =
    let valid = both (is_value names) (not (has_byte 10 names)) h in
    let one = first_line_of (names_word ++ names) [] (no_feed names_word names refl (is_no (has_byte 10 names) valid.1)) in
    ap (value_of box_word) (sym (append-nil (line names_word names)) ∙ line_is names_word names []) ∙ ap (value_in box_word) one

box_again : (project : List ℕ) (box_folder names : Option (List ℕ)) → is_value_if box_folder ≡ true → is_value_if names ≡ true
    → (let rest = line_if box_word box_folder ++ line_if names_word names in read_box_by project rest (value_of box_word rest))
    ≡ Ok (setup project box_folder names)
box_again project None names h k =
    ap (read_box_by project (line_if names_word names)) (no_box names k) ∙ names_again project None 2 names k
box_again project (Some box_folder) names h k =
    let rest = line_if names_word names in
    ap (read_box_by project (line box_word box_folder ++ rest)) (value_of_line box_word box_folder rest refl h)
    ∙ names_again project (Some box_folder) 3 names k

pub again : (s : SetupParts) → has_values s ≡ true → read (lines s) ≡ Ok s
again s h =
    let first = both (is_line_value s.project) (is_value_if s.box_folder && is_value_if s.names) h in
    let later = both (is_value_if s.box_folder) (is_value_if s.names) first.1 in
    let rest = line_if box_word s.box_folder ++ line_if names_word s.names in
    ap read (append_assoc (line project_word s.project) (line_if box_word s.box_folder) (line_if names_word s.names))
    ∙ ap read_by (value_of_line project_word s.project rest refl first.0)
    ∙ box_again s.project s.box_folder s.names later.0 later.1

-- ---- what is read was written

abbrev setup_or : SetupParts → Result SetupParts SetupFault → SetupParts
setup_or other (Ok s) = s
setup_or other (Err fault) = other

end_is : (made s : SetupParts) (n : ℕ) (text : List ℕ) → read_end made n text ≡ Ok s → (made ≡ s) × (text ≡ [])
end_is made s n [] h = (ap (setup_or made) h, refl)
end_is made s n (b ∷ text) h = absurd (grind (arith, h))

names_are : (project : List ℕ) (box_folder : Option (List ℕ)) (n : ℕ) (text : List ℕ) (s : SetupParts)
    → read_names project box_folder n text ≡ Ok s
    → line project_word project ++ line_if box_word box_folder ++ text ≡ lines s
names_are project box_folder n [] s h = ap lines (ap (setup_or (setup project box_folder None)) h)
names_are project box_folder n (b ∷ text) s h = by (value_of names_word (b ∷ text)) refl h
  where
    by : (c : Option Cut) → value_of names_word (b ∷ text) ≡ c → read_names_by project box_folder n c ≡ Ok s
        → line project_word project ++ line_if box_word box_folder ++ b ∷ text ≡ lines s
    by None e h = absurd (grind (arith, h))
    by (Some r) e h =
        let ended = end_is (setup project box_folder (Some r.0)) s (n + 1) r.1 h in
        ap (λ t. line project_word project ++ line_if box_word box_folder ++ t)
        (value_of_is names_word (b ∷ text) r e ∙ ap (λ t. line names_word r.0 ++ t) ended.1 ∙ append-nil (line names_word r.0))
        ∙ ap lines ended.0

box_is : (project text : List ℕ) (s : SetupParts) (c : Option Cut) → value_of box_word text ≡ c
    → read_box_by project text c ≡ Ok s → line project_word project ++ text ≡ lines s
box_is project text s None e h =
    ap (λ t. t ++ text) (sym (append-nil (line project_word project))) ∙ names_are project None 2 text s h
box_is project text s (Some r) e h =
    ap (λ t. line project_word project ++ t) (value_of_is box_word text r e)
    ∙ sym (append_assoc (line project_word project) (line box_word r.0) r.1)
    ∙ names_are project (Some r.0) 3 r.1 s h

pub alone : (text : List ℕ) (s : SetupParts) → read text ≡ Ok s → text ≡ lines s
alone text s h = by (value_of project_word text) refl h
  where
    by : (c : Option Cut) → value_of project_word text ≡ c → read_by c ≡ Ok s → text ≡ lines s
    by None e h = absurd (grind (arith, h))
    by (Some r) e h =
        value_of_is project_word text r e ∙ box_is r.0 r.1 s (value_of box_word r.1) refl h
