-- Maps of what is kept of operations.
use Rattle.std.proofs.Common.{◌≡◌, ℕ, ◌+◌, ◌<◌, Bool, true, false, cond, List, [], ◌∷◌, ◌++◌, length, take, drop, get_or, Some, None, refl, sym, ap, ◌∙◌, append_assoc}
use Rattle.std.specs.BTreeMap.{BTreeMap, get as value_at, is_at}
use Rattle.std.specs.List.{list_all}
use Rattle.std.proofs.lemmas.Bool.{and_parts}
use Rattle.std.proofs.lemmas.List.{take_more, take-append-drop}
use Rattle.op_core.specs.Ids.{Id, id_cmp, same_id, id_below}
use Rattle.op_core.specs.Equal.{id_from_same}
use Rattle.op_core.specs.Ops.{Operation}
use Rattle.op_core.specs.Sets.{rises, get}
use Rattle.op_core.proofs.Sets.Union.{apart_above, rises_parts}
use Rattle.segment_history.specs.Histories.{kept_of}
use Rattle.segment_history.specs.Entries.{kept_part}
use Rattle.segment_history.specs.declared.entry.Kept.{Kept}
use Rattle.segment_history.specs.Loops.Texts.{part_or_none, kept_under, HasTexts, PutsText}
use Rattle.segment_history.proofs.Gathers.{at_id}

pub text_put : (o : Operation) (k : Id) (kept : Kept) (m n : BTreeMap Id Kept) → k ≡ o.id → kept_part kept ≡ kept_of (Some o)
    → ((q : Id) → value_at id_cmp n q ≡ cond (is_at (id_cmp k) q) (Some kept) (value_at id_cmp m q)) → PutsText o m n
text_put o k kept m n is part updates q =
    ap part_or_none (updates q ∙ ap (λ b. cond b (Some kept) (value_at id_cmp m q)) (at_id q k ∙ ap (same_id q) is))
    ∙ by (same_id q o.id)
  where
    by : (b : Bool) → part_or_none (cond b (Some kept) (value_at id_cmp m q)) ≡ cond b (kept_of (Some o)) (kept_under m q)
    by true = part
    by false = refl

-- ---- operations that rise

above_middle : (id : Id) (ops : List Operation) (o : Operation) (rest : List Operation)
    → list_all (λ p. id_below id p.id) (ops ++ o ∷ rest) ≡ true → id_below id o.id ≡ true
above_middle id [] o rest h = (and_parts (id_below id o.id) (list_all (λ p. id_below id p.id) rest) h).0
above_middle id (p ∷ ops) o rest h =
    above_middle id ops o rest (and_parts (id_below id p.id) (list_all (λ p. id_below id p.id) (ops ++ o ∷ rest)) h).1

-- an operation is not among those before it
none_before : (ops : List Operation) (o : Operation) (rest : List Operation) → rises (ops ++ o ∷ rest) ≡ true → get ops o.id ≡ None
none_before [] o rest h = refl
none_before (p ∷ ops) o rest h =
    let r = rises_parts p (ops ++ o ∷ rest) h in
    ap (λ b. cond b (Some p) (get ops o.id)) (apart_above o.id p.id (above_middle p.id ops o rest r.0)) ∙ none_before ops o rest r.1

get_last : (ops : List Operation) (o : Operation) (q : Id) → get ops o.id ≡ None
    → get (ops ++ o ∷ []) q ≡ cond (same_id q o.id) (Some o) (get ops q)
get_last [] o q h = refl
get_last (p ∷ ops) o q h = by (same_id q p.id) (same_id o.id p.id) refl refl h (λ g. get_last ops o q g)
  where
    by : (a b : Bool) → same_id q p.id ≡ a → same_id o.id p.id ≡ b → cond b (Some p) (get ops o.id) ≡ None
        → (get ops o.id ≡ None → get (ops ++ o ∷ []) q ≡ cond (same_id q o.id) (Some o) (get ops q))
        → cond a (Some p) (get (ops ++ o ∷ []) q) ≡ cond (same_id q o.id) (Some o) (cond a (Some p) (get ops q))
    by a true e f g on = absurd cc
    by false false e f g on = on g
    by true false e f g on = other (same_id q o.id) refl
      where
        other : (c : Bool) → same_id q o.id ≡ c → Some p ≡ cond c (Some o) (Some p)
        other false k = refl
        other true k = absurd (let x = sym f ∙ ap (λ (i : Id). same_id i p.id) (sym (id_from_same q o.id k)) ∙ e in cc)

parted : (ops : List Operation) (i : ℕ) (o : Operation) → i < length ops → o ≡ get_or ops i o
    → ops ≡ take i ops ++ o ∷ drop (i + 1) ops
parted ops i o l is =
    sym (take-append-drop (i + 1) ops)
    ∙ ap (λ (xs : List Operation). xs ++ drop (i + 1) ops) (take_more ops i o l ∙ ap (λ (p : Operation). take i ops ++ p ∷ []) (sym is))
    ∙ append_assoc (take i ops) (o ∷ []) (drop (i + 1) ops)

pub texts_more : (ops : List Operation) (i : ℕ) (o : Operation) (m n : BTreeMap Id Kept) → i < length ops → o ≡ get_or ops i o
    → rises ops ≡ true → PutsText o m n → HasTexts (take i ops) m → HasTexts (take (i + 1) ops) n
texts_more ops i o m n l is rising puts has q =
    puts q ∙ ap (λ k. cond (same_id q o.id) (kept_of (Some o)) k) (has q)
    ∙ by (same_id q o.id)
    ∙ ap kept_of (sym (get_last (take i ops) o q
    (none_before (take i ops) o (drop (i + 1) ops) (ap rises (sym (parted ops i o l is)) ∙ rising))))
    ∙ ap (λ (os : List Operation). kept_of (get os q)) (ap (λ (p : Operation). take i ops ++ p ∷ []) is ∙ sym (take_more ops i o l))
  where
    by : (b : Bool) → cond b (kept_of (Some o)) (kept_of (get (take i ops) q)) ≡ kept_of (cond b (Some o) (get (take i ops) q))
    by true = refl
    by false = refl
