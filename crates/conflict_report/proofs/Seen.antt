-- The texts of the operations that a walk has reported, gathered in a set.
use Rattle.std.proofs.Common.{Bor, ◌≡◌, ℕ, Bool, true, false, not, cond, ◌||◌, List, [], ◌∷◌, ◌++◌, refl, sym, ap, ◌∙◌}
use Rattle.std.specs.declared.cmp.Ordering.{Ordering}
use Rattle.std.specs.Ordering.{nat_cmp}
use Rattle.std.specs.Cmp.Lexicographic.{slice_cmp}
use Rattle.std.specs.BTreeMap.{is_at}
use Rattle.std.specs.BTreeSet.{BTreeSet, contains}
use Rattle.std.specs.List.{list_any}
use Rattle.std.specs.Str.{bytes_eq}
use Rattle.std.proofs.lemmas.Map.Text.{is_eq-slice_cmp}
use Rattle.std.proofs.lemmas.List.Folds.{list_any-append}
use Rattle.usfm_ref.specs.Books.{same_bytes}
use Rattle.op_core.specs.Ops.{Operation, own_text}

-- the order of texts
abbrev pub text_cmp : Bor (List ℕ) → Bor (List ℕ) → Ordering
text_cmp a b = slice_cmp nat_cmp a.now b.now

-- the texts that were met on a walk
abbrev pub Texts : Type 0
Texts = BTreeSet (Bor (List ℕ))

-- whether one of the operations has the text
abbrev pub has : List (Bor Operation) → List ℕ → Bool
has ops text = list_any (λ o. same_bytes (own_text o.now) text) ops

-- the set has the texts of the operations, and no other
abbrev pub Seen : Texts → List (Bor Operation) → Type 0
Seen texts ops = (q : Bor (List ℕ)) → contains text_cmp texts q ≡ has ops q.now

-- before the walk no text was met
pub none_seen : (texts : Texts) (ops : List (Bor Operation)) → texts.keys ≡ [] → ops ≡ [] → Seen texts ops
none_seen texts ops e f q = (λ i. list_any (is_at (text_cmp q)) (e i)) ∙ sym (λ i. has (f i) q.now)

-- what was met depends on the keys of the map alone
pub same_seen : (old new : Texts) (ops : List (Bor Operation)) → new.keys ≡ old.keys → Seen old ops → Seen new ops
same_seen old new ops e h q = (λ i. list_any (is_at (text_cmp q)) (e i)) ∙ h q

turned : (b rest : Bool) → cond b true rest ≡ (rest || (b || false))
turned true true = refl
turned true false = refl
turned false true = refl
turned false false = refl

-- with one more key the map has the texts of one more operation
pub more_seen : (old new : Texts) (ops : List (Bor Operation)) (op : Bor Operation) (key : Bor (List ℕ)) → key.now ≡ own_text op.now
    → ((q : Bor (List ℕ)) → contains text_cmp new q ≡ cond (is_at (text_cmp key) q) true (contains text_cmp old q))
    → Seen old ops → Seen new (ops ++ op ∷ [])
more_seen old new ops op key is updates h q =
    updates q
    ∙ (λ i. cond (is_eq-slice_cmp key.now q.now i) true (h q i))
    ∙ (λ i. cond (bytes_eq (is i) q.now) true (has ops q.now))
    ∙ turned (same_bytes (own_text op.now) q.now) (has ops q.now)
    ∙ sym (list_any-append (λ (o : Bor Operation). same_bytes (own_text o.now) q.now) ops (op ∷ []))

twice : (b : Bool) → not (not b) ≡ b
twice true = refl
twice false = refl

-- a text is new in the set exactly where none of the operations has it
pub is_old : (texts : Texts) (ops : List (Bor Operation)) (op : Bor Operation) (key : Bor (List ℕ)) → key.now ≡ own_text op.now
    → Seen texts ops → (added : Bool) → added ≡ not (contains text_cmp texts key) → not added ≡ has ops (own_text op.now)
is_old texts ops op key is h added e = ap not e ∙ twice (contains text_cmp texts key) ∙ h key ∙ (λ i. has ops (is i))
