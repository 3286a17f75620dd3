-- Passages that do not overlap in a text: those of a tree, and those within others.
use Rattle.std.proofs.Common.{◌≡◌, ℕ, ◌+◌, ◌-◌, ◌≤◌, Bool, true, false, cond, ◌&&◌, List, [], ◌∷◌}
use Rattle.std.proofs.Common.{◌++◌, length, take, drop, Option, None, Some, refl, sym, ap, subst}
use Rattle.std.proofs.Common.{◌∙◌, arith, append_assoc, append-nil, length-append}
use Rattle.std.specs.Prelude.{is_some}
use Rattle.std.specs.List.{flat_map, position_or_len}
use Rattle.std.specs.Str.{bytes_eq}
use Rattle.std.proofs.Math.Seq.{take-append_seam, drop-append_seam}
use Rattle.std.proofs.lemmas.List.{take-append-drop, length-take-le}
use Rattle.sty_sheet.specs.Records.{Record}
use Rattle.usfm_ref.specs.Numbers.{verse_in}
use Rattle.usfm_ref.specs.declared.number.VerseMark.{VerseMark}
use Rattle.usfm_ref.proofs.Readings.{verse_in-some}
use Rattle.usfm_token.specs.Tokens.{MarkParts, mark_bytes}
use Rattle.usfm_tree.specs.Forest.{Forest, nothing, text, leaf, node, bytes_of, close_bytes}
use Rattle.usfm_tree.specs.Places.{Runs}
use Rattle.usfm_tree.specs.Reading.{tree_of}
use Rattle.usfm_tree.specs.SheetViews.{styles_in}
use Rattle.usfm_tree.proofs.PlaceLemmas.{tree_runs, past, runs_at}
use Rattle.usfm_tree.proofs.LeavesLemmas.{tree_bytes}
use Rattle.concordance.specs.Passages.{Passage, StandsIn, StandApart}
use Rattle.concordance.specs.Plain.{is_nothing, node_end, mark_at_end, is_bar, number_length}
use Rattle.concordance.specs.Plain.{verse_length, without_attributes, plain_leaves}
use Rattle.concordance.specs.Loops.Reading.{Surroundings, inside_of, within, left_of, counts}
use Rattle.concordance.specs.Loops.Reading.{with_text, leaves_from}
use Rattle.concordance.proofs.Sites.{sites_read, node_bytes}

-- what comes before the passage in the text, and what after it
abbrev pub Stands : List ℕ → Passage → Type 0
Stands s p = (x : List ℕ) × (y : List ℕ) × (s ≡ x ++ (p.text ++ y)) × (length x ≡ p.start)

-- passages that are in the text between two places, none overlapping the one before it
abbrev pub Apart : List ℕ → ℕ → ℕ → List Passage → Type 0
Apart s low high [] = Unit {0}
Apart s low high (p ∷ ps) = (low ≤ p.start) × Stands s p × (p.start + length p.text ≤ high) × Apart s (p.start + length p.text) high ps

-- passages that lie apart from a place on do so from each lower one on
pub apart_from : (s : List ℕ) (low low' high : ℕ) (ps : List Passage) → low ≤ low' → Apart s low' high ps → Apart s low high ps
apart_from s low low' high [] h a = tt
apart_from s low low' high (p ∷ ps) h a = let b = a.0 in (omega arith, a.1, a.2, a.3)

-- passages that lie apart up to a place do so up to each higher one
pub apart_to : (s : List ℕ) (low high high' : ℕ) (ps : List Passage) → high ≤ high' → Apart s low high ps → Apart s low high' ps
apart_to s low high high' [] h a = tt
apart_to s low high high' (p ∷ ps) h a = let e = a.2 in (a.0, a.1, omega arith, apart_to s (p.start + length p.text) high high' ps h a.3)

-- passages that lie apart before a place, and others after it
pub apart_append : (s : List ℕ) (low mid high : ℕ) (ps qs : List Passage) → low ≤ mid → mid ≤ high → Apart s low mid ps
    → Apart s mid high qs → Apart s low high (ps ++ qs)
apart_append s low mid high [] qs l h a b = apart_from s low mid high qs l b
apart_append s low mid high (p ∷ ps) qs l h a b =
    let e = a.2 in (a.0, a.1, omega arith, apart_append s (p.start + length p.text) mid high ps qs e h a.3 b)

-- passages within each of some that do not overlap
pub apart_within : (s : List ℕ) (parts : Passage → List Passage) (low high : ℕ) (ps : List Passage)
    → ((p : Passage) → Stands s p → Apart s p.start (p.start + length p.text) (parts p)) → Apart s low high ps
    → Apart s low high (flat_map parts ps)
apart_within s parts low high [] within a = tt
apart_within s parts low high (p ∷ ps) within a =
    let b = a.0 in let e = a.2 in
    apart_append s low (p.start + length p.text) high (parts p) (flat_map parts ps) (omega arith) e
    (apart_from s low p.start (p.start + length p.text) (parts p) b (within p a.1))
    (apart_within s parts (p.start + length p.text) high ps within a.3)

-- a part of a passage is in the text
pub stands_within : (s : List ℕ) (p q : Passage) (x y : List ℕ) → Stands s p → p.text ≡ x ++ (q.text ++ y) → p.start + length x ≡ q.start
    → Stands s q
stands_within s p q x y (a, b, is, at) e l = (
  a ++ x,
  y ++ b,
  is ∙ ap (λ t. a ++ (t ++ b)) e ∙ ap (λ t. a ++ t) (append_assoc x (q.text ++ y) b ∙ ap (λ t. x ++ t) (append_assoc q.text y b))
      ∙ sym (append_assoc a x (q.text ++ (y ++ b))),
  length-append a x ∙ ap (λ n. n + length x) at ∙ l,
)

-- in the words of the contracts
stands_in : (s : List ℕ) (p : Passage) → Stands s p → StandsIn s p
stands_in s p (x, y, is, at) =
    let n : p.start + length p.text - p.start ≡ length p.text = omega arith in
    ap (λ k. take k (drop p.start s)) n
    ∙ ap (λ k. take (length p.text) (drop k s)) (sym at)
    ∙ ap (λ l. take (length p.text) (drop (length x) l)) is
    ∙ ap (take (length p.text)) (drop-append_seam x (p.text ++ y)) ∙ take-append_seam p.text y

-- passages that lie apart in a text do not overlap there
pub stand_apart : (s : List ℕ) (low : ℕ) (ps : List Passage) → Apart s low (length s) ps → StandApart s low ps
stand_apart s low [] a = tt
stand_apart s low (p ∷ ps) a = (a.0, stands_in s p a.1, a.2, stand_apart s (p.start + length p.text) ps a.3)

-- ---- the leaves of a tree

verse_fits : (t : List ℕ) (r : Option VerseMark) → verse_in t ≡ r → verse_length r ≤ length t
verse_fits t None e = omega arith
verse_fits t (Some v) e = let h = (verse_in-some t v e).length_is in omega arith

number_fits : (b : Option MarkParts) (t : List ℕ) → number_length b t ≤ length t
number_fits None t = omega arith
number_fits (Some m) t = by (bytes_eq (mark_bytes m) (92 ∷ 118 ∷ []))
  where
    by : (is : Bool) → cond is (verse_length (verse_in t)) 0 ≤ length t
    by true = verse_fits t (verse_in t) refl
    by false = omega arith

attributes_after : (may : Bool) (t : List ℕ) → (q : List ℕ) × (t ≡ without_attributes may t ++ q)
attributes_after true t = (drop (position_or_len is_bar t) t, sym (take-append-drop (position_or_len is_bar t) t))
attributes_after false t = ([], sym (append-nil t))

-- what is left of a text is in it
left_apart : (s : List ℕ) (sur : Surroundings) (b : Option MarkParts) (last : Bool) (a t z : List ℕ) → s ≡ a ++ (t ++ z) → (k : ℕ)
    → k ≡ length a → Apart s (length a) (length a + length t) (left_of sur b last k t ∷ [])
left_apart s sur b last a t z is k at =
    let n = number_length b t in
    let may = last && sur.in_closed in
    let fits = number_fits b t in
    let front = take n t in
    let after = attributes_after may (drop n t) in
    let cut : t ≡ front ++ (without_attributes may (drop n t) ++ after.0) = sym (take-append-drop n t) ∙ ap (λ l. front ++ l) after.1 in
    let l : length front ≡ n = length-take-le n t fits in
    let sizes : length t ≡ length front + (length (without_attributes may (drop n t)) + length after.0) =
    ap length cut ∙ length-append front (without_attributes may (drop n t) ++ after.0)
    ∙ ap (λ m. length front + m) (length-append (without_attributes may (drop n t)) after.0)
    in
    let whole : Passage = record { start = length a; text = t } in
    (omega arith, stands_within s whole (left_of sur b last k t) front after.0 (a, z, is, refl) cut (omega arith), omega arith, tt)

with_text_apart : (s : List ℕ) (sur : Surroundings) (b : Option MarkParts) (last : Bool) (a t z : List ℕ) → s ≡ a ++ (t ++ z) → (k : ℕ)
    → k ≡ length a → (high : ℕ) → length a + length t ≤ high → (later : List Passage) → Apart s (length a + length t) high later
    → Apart s (length a) high (with_text sur b last k t later)
with_text_apart s sur b last a t z is k at high le later h = by (counts sur)
  where
    by : (c : Bool) → Apart s (length a) high (cond c (left_of sur b last k t ∷ later) later)
    by true =
        apart_append s (length a) (length a + length t) high (left_of sur b last k t ∷ []) later (omega arith) le
        (left_apart s sur b last a t z is k at) h
    by false = apart_from s (length a) (length a + length t) high later (omega arith) h

from_to : (s : List ℕ) (low low' high high' : ℕ) (ps : List Passage) → low ≡ low' → high ≡ high' → Apart s low high ps
    → Apart s low' high' ps
from_to s low low' high high' ps e f a = subst (λ (l : ℕ). Apart s l high' ps) e (subst (λ (h : ℕ). Apart s low h ps) f a)

-- the leaves of a tree lie apart where the tree is in the text
pub forest_apart : (sheet : List Record) (sur : Surroundings) (b : Option MarkParts) (f : Forest) (s a z : List ℕ)
    → s ≡ a ++ (bytes_of f ++ z) → Runs (length a) f → Apart s (length a) (length a + length (bytes_of f)) (leaves_from sheet sur b f)
forest_apart sheet sur b nothing s a z is r = tt
forest_apart sheet sur b (text k t f) s a z is r =
    let sizes = length-append t (bytes_of f) in
    let l = length-append a t in
    with_text_apart s sur b (is_nothing f) a t (bytes_of f ++ z) (is ∙ ap (λ l. a ++ l) (append_assoc t (bytes_of f) z)) k r.0
    (length a + length (t ++ bytes_of f)) (omega arith)
    (leaves_from sheet sur None f)
    (from_to s (length (a ++ t)) (length a + length t) (length (a ++ t) + length (bytes_of f)) (length a + length (t ++ bytes_of f)) _ l
    (omega arith)
    (forest_apart sheet sur None f s (a ++ t) z (past s a t (bytes_of f) z is) (runs_at _ _ f (sym l) r.1)))
forest_apart sheet sur b (leaf k m f) s a z is r =
    let sizes = length-append (mark_bytes m) (bytes_of f) in
    let l = length-append a (mark_bytes m) in
    apart_from s (length a) (length (a ++ mark_bytes m)) _ _ (omega arith)
    (from_to s _ _ (length (a ++ mark_bytes m) + length (bytes_of f)) (length a + length (mark_bytes m ++ bytes_of f)) _ refl (omega arith)
    (forest_apart sheet sur (Some m) f s (a ++ mark_bytes m) z (past s a (mark_bytes m) (bytes_of f) z is) (runs_at _ _ f (sym l) r.1)))
forest_apart sheet sur b (node k n x m ks c f) s a z is r =
    let joined : bytes_of (node k n x m ks c f) ≡ x ++ bytes_of f = node_bytes k n x m ks c f r.1 in
    let at : s ≡ a ++ ((x ++ bytes_of f) ++ z) = is ∙ ap (λ l. a ++ (l ++ z)) joined in
    let here : s ≡ a ++ (x ++ (bytes_of f ++ z)) = at ∙ ap (λ l. a ++ l) (append_assoc x (bytes_of f) z) in
    let inside : s ≡ (a ++ mark_bytes m) ++ (bytes_of ks ++ (close_bytes c ++ (bytes_of f ++ z))) =
    here ∙ ap (λ l. a ++ (l ++ (bytes_of f ++ z))) r.1
    ∙ ap (λ l. a ++ l) (append_assoc (mark_bytes m) (bytes_of ks ++ close_bytes c) (bytes_of f ++ z))
    ∙ sym (append_assoc a (mark_bytes m) ((bytes_of ks ++ close_bytes c) ++ (bytes_of f ++ z)))
    ∙ ap (λ l. (a ++ mark_bytes m) ++ l) (append_assoc (bytes_of ks) (close_bytes c) (bytes_of f ++ z))
    in
    let a_mark = length-append a (mark_bytes m) in
    let a_node = length-append a x in
    let whole : length (bytes_of (node k n x m ks c f)) ≡ length x + length (bytes_of f) =
    ap length joined ∙ length-append x (bytes_of f) in
    let inner : length x ≡ length (mark_bytes m) + length (bytes_of ks ++ close_bytes c) =
    ap length r.1 ∙ length-append (mark_bytes m) (bytes_of ks ++ close_bytes c) in
    let kids = length-append (bytes_of ks) (close_bytes c) in
    let first =
    forest_apart sheet (within sheet sur (record { kind = k; mark = m; is_closed = is_some c })) (Some m) ks s (a ++ mark_bytes m)
    (close_bytes c ++ (bytes_of f ++ z)) inside (runs_at _ _ ks (sym a_mark) r.2) in
    let later =
    forest_apart sheet sur (node_end (mark_at_end (Some m) ks) c) f s (a ++ x) z (past s a x (bytes_of f) z at)
    (runs_at _ _ f (sym a_node) r.3) in
    from_to s (length a) (length a) (length (a ++ x) + length (bytes_of f)) (length a + length (bytes_of (node k n x m ks c f))) _ refl
    (omega arith)
    (apart_append s (length a) (length (a ++ x)) (length (a ++ x) + length (bytes_of f)) _ _ (omega arith) (omega arith)
    (apart_from s (length a) (length (a ++ mark_bytes m)) (length (a ++ x)) _ (omega arith)
    (apart_to s _ (length (a ++ mark_bytes m) + length (bytes_of ks)) (length (a ++ x)) _ (omega arith) first))
    later)

-- the plain leaves of a text do not overlap in it
pub leaves_apart : (sheet : List Record) (s : List ℕ) → Apart s 0 (length s) (plain_leaves sheet s)
unfolding plain_leaves
leaves_apart sheet s =
    let styles = styles_in sheet in
    let join = tree_bytes styles s in
    subst (Apart s 0 (length s)) (sym (sites_read sheet [] None (tree_of styles s)))
    (from_to s 0 0 (0 + length (bytes_of (tree_of styles s))) (length s) _ refl (let l = ap length join in omega arith)
    (forest_apart sheet (inside_of sheet []) None (tree_of styles s) s [] [] (sym join ∙ sym (append-nil (bytes_of (tree_of styles s))))
    (tree_runs styles s)))
