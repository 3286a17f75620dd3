-- The runs of a reading join to its text.
use Rattle.std.proofs.Common.{◌≡◌, ℕ, Bool, true, false, cond, List, [], ◌∷◌, ◌++◌, length, take, drop, Option, None, Some}
use Rattle.std.proofs.Common.{refl, sym, ap, ◌∙◌, append_assoc, append-nil, eqb-true, arith}
use Rattle.std.proofs.lemmas.Grind.{flat_map-append}
use Rattle.std.proofs.lemmas.List.{take-append-drop}
use Rattle.std.specs.List.{flat_map}
use Rattle.std.specs.Prelude.{not, ◌==◌, ◌&&◌, is_some, filter}
use Rattle.usfm_token.specs.Tokens.{MarkParts, mark_bytes}
use Rattle.usfm_tree.specs.Forest.{Forest, nothing, text, leaf, node, bytes_of, leaves_of, close_leaves}
use Rattle.usfm_tree.specs.Reading.{Styles, tree_of}
use Rattle.usfm_tree.proofs.LeavesLemmas.{tree_bytes}
use Rattle.book_reading.specs.Laws.{joined_runs}
use Rattle.book_reading.specs.Leads.{blanks_of, after_blanks, blank_length, number_length, gap_length, node_lead}
use Rattle.book_reading.specs.Readings.{numbered_from, notes_after, is_filled, reading_of}
use Rattle.book_reading.specs.Stretches.{Place, Stretch, root, within, close_stretches, node_end, text_stretches}
use Rattle.book_reading.specs.Stretches.{is_nothing, is_known, leaf_lead, lead_at_end, stretches_in, words_length}
use Rattle.book_reading.specs.declared.lead.Lead.{Lead}
use Rattle.book_reading.specs.declared.lead.Lead.TheVariants as leads

-- the bytes of stretches
abbrev joined : List Stretch → List ℕ
joined ss = flat_map (λ (s : Stretch). s.text) ss

-- ---- a text

parts : (n g k : ℕ) (t : List ℕ)
    → blanks_of (take n t) ++ (after_blanks (take n t) ++ (take g (drop n t)
    ++ (take k (drop g (drop n t)) ++ (drop k (drop g (drop n t)) ++ []))))
    ≡ t
parts n g k t =
    let front = take n t in
    let rest = drop n t in
    let words = drop g rest in
    ap (λ l. blanks_of front ++ (after_blanks front ++ (take g rest ++ (take k words ++ l)))) (append-nil (drop k words))
    ∙ ap (λ l. blanks_of front ++ (after_blanks front ++ (take g rest ++ l))) (take-append-drop k words)
    ∙ ap (λ l. blanks_of front ++ (after_blanks front ++ l)) (take-append-drop g rest)
    ∙ sym (append_assoc (blanks_of front) (after_blanks front) rest)
    ∙ ap (λ l. l ++ rest) (take-append-drop (blank_length front) front)
    ∙ take-append-drop n t

text_joins : (p : Place) (may_end : Bool) (lead : Lead) (t : List ℕ) → joined (text_stretches p may_end lead t) ≡ t
text_joins p may_end lead t =
    let n = number_length lead t in
    let g = gap_length lead (drop n t) in
    parts n g (words_length may_end (drop g (drop n t))) t

close_joins : (p : Place) (c : Option MarkParts) → joined (close_stretches p c) ≡ flat_map (λ t. t) (close_leaves c)
close_joins p None = refl
close_joins p (Some m) = refl

-- ---- a tree

pub tree_joins : (styles : Styles) (p : Place) (lead : Lead) (f : Forest) → joined (stretches_in styles p lead f) ≡ bytes_of f
tree_joins styles p lead nothing = refl
tree_joins styles p lead (text s t f) =
    let first = text_stretches p (is_nothing f && p.has_attributes) lead t in
    flat_map-append (λ (s : Stretch). s.text) first (stretches_in styles p leads.Nothing f)
    ∙ (λ i. text_joins p (is_nothing f && p.has_attributes) lead t i ++ tree_joins styles p leads.Nothing f i)
tree_joins styles p lead (leaf s m f) = ap (λ l. mark_bytes m ++ l) (tree_joins styles p (leaf_lead (is_known styles m) m.name) f)
tree_joins styles p lead (node k s b m ks c f) =
    let inner = within p k m.name (is_some c) in
    let end = node_end (lead_at_end styles (node_lead k m.name) ks) c in
    let kids = stretches_in styles inner (node_lead k m.name) ks in
    let close = close_stretches inner c in
    let after = stretches_in styles p end f in
    ap (λ l. mark_bytes m ++ l)
    (flat_map-append (λ (s : Stretch). s.text) kids (close ++ after)
    ∙ ap (λ l. joined kids ++ l) (flat_map-append (λ (s : Stretch). s.text) close after)
    ∙ (λ i. tree_joins styles inner (node_lead k m.name) ks i ++ (close_joins inner c i ++ tree_joins styles p end f i))
    ∙ ap (λ l. flat_map (λ t. t) (leaves_of ks) ++ l) (sym (flat_map-append (λ t. t) (close_leaves c) (leaves_of f)))
    ∙ sym (flat_map-append (λ t. t) (leaves_of ks) (close_leaves c ++ leaves_of f)))

-- ---- numbers, and empty stretches

numbers_join : (n : ℕ) (ss : List Stretch) → joined_runs (numbered_from n ss) ≡ joined ss
numbers_join n [] = refl
numbers_join n (s ∷ ss) = ap (λ l. s.text ++ l) (numbers_join (notes_after n s.sort) ss)

no_bytes : (t : List ℕ) → (length t == 0) ≡ true → t ≡ []
no_bytes [] h = refl
no_bytes (b ∷ t) h = let none : length (b ∷ t) ≡ 0 = eqb-true (length (b ∷ t)) 0 h in absurd (omega arith)

filled_first : (s : Stretch) (ss : List Stretch) (b : Bool) → (length s.text == 0) ≡ b
    → joined (filter is_filled ss) ≡ joined ss
    → joined (cond (not b) (s ∷ filter is_filled ss) (filter is_filled ss)) ≡ s.text ++ joined ss
filled_first s ss true h more = more ∙ ap (λ t. t ++ joined ss) (sym (no_bytes s.text h))
filled_first s ss false h more = ap (λ l. s.text ++ l) more

filled_join : (ss : List Stretch) → joined (filter is_filled ss) ≡ joined ss
filled_join [] = refl
filled_join (s ∷ ss) = filled_first s ss (length s.text == 0) refl (filled_join ss)

pub nothing_left_out : (styles : Styles) (s : List ℕ) → joined_runs (reading_of styles s) ≡ s
unfolding reading_of
nothing_left_out styles s =
    let ss = stretches_in styles root leads.Nothing (tree_of styles s) in
    numbers_join 0 (filter is_filled ss) ∙ filled_join ss ∙ tree_joins styles root leads.Nothing (tree_of styles s) ∙ tree_bytes styles s
