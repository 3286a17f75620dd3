-- Texts by keys: rising lists of them that have the same text at each key are equal.
use Rattle.std.proofs.Common.{◌≡◌, ℕ, ◌+◌, Bool, true, false, not, cond, ◌&&◌, ◌||◌, List, []}
use Rattle.std.proofs.Common.{◌∷◌, T, map, length, Option, None, Some, refl, sym, ap, subst, ◌∙◌}
use Rattle.std.specs.FinMap.Entries as entries
use Rattle.std.specs.FinMap.Entries.{is_sorted, below_all, same_entries}
use Rattle.std.specs.List.{All, Contains, find, list_all}
use Rattle.std.specs.Ordering.{is_eq, is_lt}
use Rattle.std.proofs.lemmas.Bool.{cond-true, cond-false}
use Rattle.std.proofs.lemmas.List.Elements.{All-nil, All-cons, All-head, All-tail, All-from_recursion}
use Rattle.usfm_ref.specs.Keys.{KeyParts, key_cmp}
use Rattle.usfm_ref.specs.Rising.{rises_by}
use Rattle.usfm_ref.proofs.Orders.{key_total, key_exact}
use Rattle.usfm_ref.proofs.Sorted.{each_found}
use Rattle.verse_cut.specs.Joins.{KeyText, filled, pieces_from}
use Rattle.verse_cut.specs.Reading.{is_empty}
use Rattle.op_core.specs.Ops.{Operation}
use Rattle.op_core.specs.CutsBack.{picked_at, keyed_text}
use Rattle.replica_state.specs.Imports.{piece_own_text, piece_of, piece_at}
use Rattle.replica_state.proofs.Appended.{is_there, key_is}

-- a text that may be missing: empty where it is
abbrev pub own_text : Option KeyText → List ℕ
own_text None = []
own_text (Some t) = t.text

abbrev pub at_key : List KeyText → KeyParts → Option KeyText
at_key ts q = find (λ t. is_eq (key_cmp q t.key)) ts

-- the text of a key, empty if there is none
abbrev pub text_at : List KeyText → KeyParts → List ℕ
text_at ts q = own_text (at_key ts q)

-- the piece of a key has the key's text
pub text_of_piece : (n : ℕ) (ts : List KeyText) (q : KeyParts) → piece_at (pieces_from n ts) q ≡ text_at ts q
text_of_piece n [] q = refl
text_of_piece n (t ∷ ts) q = by (text_of_piece (n + length t.text) ts q) (is_eq (key_cmp q t.key))
  where
    by : piece_at (pieces_from (n + length t.text) ts) q ≡ text_at ts q → (b : Bool)
        → piece_own_text (cond b (Some (record { key = t.key; start = n; text = t.text }))
        (piece_of (pieces_from (n + length t.text) ts) q))
        ≡ own_text (cond b (Some t) (at_key ts q))
    by rest true = refl
    by rest false = rest

-- a text that is not empty is one of the list's, of which what holds of all holds
pub record Stands (P : KeyText → Type 0) (ts : List KeyText) (q : KeyParts) : Type 0 where
  pub item : KeyText
  pub holds : P item
  pub key : q ≡ item.key
  pub text : item.text ≡ text_at ts q

-- the text of such a key is one of the list's
pub stands : (P : KeyText → Type 0) (ts : List KeyText) (q : KeyParts) → All P ts → is_empty (text_at ts q) ≡ false → Stands P ts q
stands P [] q all h = absurd (cc)
stands P (t ∷ ts) q all h = by (λ g. stands P ts q (All-tail P t ts all) g) (is_eq (key_cmp q t.key)) refl h
  where
    by : (is_empty (text_at ts q) ≡ false → Stands P ts q) → (b : Bool) → is_eq (key_cmp q t.key) ≡ b
        → is_empty (own_text (cond b (Some t) (at_key ts q))) ≡ false → Stands P (t ∷ ts) q
    by rest true e h =
        record { item = t; holds = All-head P t ts all; key = key_is q t.key e; text = sym (ap own_text (cond-true _ _ _ e)) }
    by rest false e h =
        let r = rest h in record { item = r.item; holds = r.holds; key = r.key; text = r.text ∙ sym (ap own_text (cond-false _ _ _ e)) }

-- an item of a rising list is found at its key
pub item_at : (ts : List KeyText) (t : KeyText) → rises_by key_cmp (λ u. u.key) ts ≡ true → Contains ts t → text_at ts t.key ≡ t.text
item_at ts t r (j, lt, is) =
    let all =
    All-from_recursion (λ (u : KeyText). at_key ts u.key ≡ Some u) ts (each_found key_cmp key_total (λ (u : KeyText). u.key) ts r) in
    ap own_text (subst (λ (u : KeyText). at_key ts u.key ≡ Some u) is (all j t lt))

-- ---- rising lists with the same texts

abbrev pairs : List KeyText → List (KeyParts × List ℕ)
pairs ts = map (λ t. (t.key, t.text)) ts

unpaired : (ts : List KeyText) → map (λ (e : KeyParts × List ℕ). record { key = e.0; text = e.1 }) (pairs ts) ≡ ts
unpaired [] = refl
unpaired (t ∷ ts) = ap (λ (us : List KeyText). t ∷ us) (unpaired ts)

pairs_below : (k : KeyParts) (ts : List KeyText) → below_all key_cmp k (pairs ts) ≡ list_all (λ t. is_lt (key_cmp k t.key)) ts
pairs_below k [] = refl
pairs_below k (t ∷ ts) = ap (λ b. is_lt (key_cmp k t.key) && b) (pairs_below k ts)

pairs_rise : (ts : List KeyText) → is_sorted key_cmp (pairs ts) ≡ rises_by key_cmp (λ t. t.key) ts
pairs_rise [] = refl
pairs_rise (t ∷ ts) = λ i. pairs_below t.key ts i && pairs_rise ts i

abbrev if_some : List ℕ → Option (List ℕ)
if_some text = cond (is_empty text) None (Some text)

pair_found : (ts : List KeyText) (q : KeyParts) → All (λ t. is_empty t.text ≡ false) ts
    → entries.find key_cmp q (pairs ts) ≡ if_some (text_at ts q)
pair_found [] q all = refl
pair_found (t ∷ ts) q all = by (pair_found ts q (All-tail (λ t. is_empty t.text ≡ false) t ts all)) (is_eq (key_cmp q t.key))
  where
    by : entries.find key_cmp q (pairs ts) ≡ if_some (text_at ts q) → (b : Bool)
        → cond b (Some t.text) (entries.find key_cmp q (pairs ts)) ≡ if_some (own_text (cond b (Some t) (at_key ts q)))
    by rest true = sym (cond-false (is_empty t.text) None (Some t.text) (All-head (λ t. is_empty t.text ≡ false) t ts all))
    by rest false = rest

-- rising lists of texts that are not empty are equal where they give each key the same text
pub same_texts : (xs ys : List KeyText) → rises_by key_cmp (λ t. t.key) xs ≡ true → rises_by key_cmp (λ t. t.key) ys ≡ true →
    All (λ t. is_empty t.text ≡ false) xs → All (λ t. is_empty t.text ≡ false) ys → ((q : KeyParts) → text_at xs q ≡ text_at ys q) → xs ≡ ys
same_texts xs ys rx ry fx fy is =
    sym (unpaired xs)
    ∙ ap (map (λ (e : KeyParts × List ℕ). record { key = e.0; text = e.1 })) (same_entries key_cmp key_total key_exact (pairs xs) (pairs ys)
    (subst T (sym (pairs_rise xs ∙ rx)) tt) (subst T (sym (pairs_rise ys ∙ ry)) tt)
    (λ q. pair_found xs q fx ∙ ap if_some (is q) ∙ sym (pair_found ys q fy)))
    ∙ unpaired ys

-- ---- the texts of a book's keys that are not empty

-- none of the filled texts is empty
pub filled_are : (ts : List KeyText) → All (λ t. is_empty t.text ≡ false) (filled ts)
filled_are [] = All-nil (λ t. is_empty t.text ≡ false)
filled_are (t ∷ ts) = by (filled_are ts) (is_empty t.text) refl
  where
    by : All (λ t. is_empty t.text ≡ false) (filled ts) → (b : Bool) → is_empty t.text ≡ b
        → All (λ t. is_empty t.text ≡ false) (cond (not b) (t ∷ filled ts) (filled ts))
    by rest true e = rest
    by rest false e = All-cons (λ t. is_empty t.text ≡ false) t (filled ts) e rest

pub filled_at : (held : List Operation) (book : List ℕ) (ks : List KeyParts) (q : KeyParts)
    → text_at (filled (map (keyed_text held book) ks)) q ≡ cond (is_there q ks) (picked_at held book q) []
filled_at held book [] q = refl
filled_at held book (k ∷ ks) q = by (filled_at held book ks q) (is_eq (key_cmp q k)) refl (is_empty (picked_at held book k)) refl
  where
    more : List KeyText
    more = filled (map (keyed_text held book) ks)

    empty_is : (t : List ℕ) → is_empty t ≡ true → t ≡ []
    empty_is [] h = refl
    empty_is (b ∷ bs) h = absurd (cc)

    either : (b : Bool) (t : List ℕ) → t ≡ [] → cond b t [] ≡ t
    either true t h = refl
    either false t h = sym h

    by : text_at more q ≡ cond (is_there q ks) (picked_at held book q) [] → (b : Bool) → is_eq (key_cmp q k) ≡ b → (e : Bool)
        → is_empty (picked_at held book k) ≡ e →
        text_at (cond (not e) (keyed_text held book k ∷ more) more) q ≡ cond (b || is_there q ks) (picked_at held book q) []
    by rest true s true f =
        let gone : picked_at held book q ≡ [] = ap (picked_at held book) (key_is q k s) ∙ empty_is (picked_at held book k) f in
        rest ∙ either (is_there q ks) (picked_at held book q) gone
    by rest true s false f = ap own_text (cond-true _ _ _ s) ∙ ap (picked_at held book) (sym (key_is q k s))
    by rest false s true f = rest
    by rest false s false f = ap own_text (cond-false _ _ _ s) ∙ rest
