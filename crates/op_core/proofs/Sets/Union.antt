-- Sets of operations, by what they hold at each id.
use Rattle.std.proofs.Common.{Bor, ◌≡◌, ◌⊎◌, inl, inr, ℕ, suc, ◌+◌, Bool, true, false, not, cond, ◌&&◌, List, [], ◌∷◌, ◌++◌, map, T, arith, refl, sym, ap, subst, ◌∙◌, Option, Some, None}
use Rattle.std.specs.declared.cmp.Ordering.TheVariants.{Less, Equal, Greater}
use Rattle.std.specs.Ordering.{is_eq, is_lt, ordering_reverse}
use Rattle.std.specs.List.{list_all, position_or_len, insert, AllByRecursion}
use Rattle.std.specs.Option.{option_or, option_copied, is_some}
use Rattle.std.specs.FinMap.Entries.{by_order, is_sorted, find, below_all, same_entries}
use Rattle.std.proofs.lemmas.Bool.{and_parts, and_from, true≢false, false≢true, cond-true, cond-false}
use Rattle.op_core.specs.Ids.{Id, id_cmp, same_id, id_below}
use Rattle.op_core.specs.Ops.{Operation, IsOperation, MayBeText, is_full, with_text, agree}
use Rattle.op_core.specs.Sets.{rises, get, meet_text, meet, met, put, join, IsOpSet, differs, clash}
use Rattle.std.specs.List.{find as find_in}
use Rattle.std.specs.Option.{option_map}
use Rattle.std.proofs.lemmas.Bool.{not-false}
use Rattle.op_core.proofs.Sets.Agreement.{Agree, agree-is, agree-from, agree_itself, meet_comm, kept_text}
use Rattle.usfm_ref.proofs.Sorted.{Above, is_less, above_trans as above_trans_by}
use Rattle.op_core.proofs.IdOrders.Rising.{id_total, id_exact, same_id-cmp}
use Rattle.op_core.specs.Equal.{id_from_same, same_id-refl}

-- the operations are above an id
abbrev pub AllAbove : Id → List Operation → Type 0
AllAbove id ops = Above id_cmp id_total (λ (o : Operation). o.id) id ops

-- an id below another is not that one
pub apart_below : (a b : Id) → id_below a b ≡ true → same_id a b ≡ false
apart_below a b h = same_id-cmp a b ∙ ap is_eq (is_less _ h)

-- nor is one above another
pub apart_above : (a b : Id) → id_below b a ≡ true → same_id a b ≡ false
apart_above a b h = same_id-cmp a b ∙ ap is_eq (id_total.antisymm a b ∙ ap ordering_reverse (is_less _ h))

pub above_trans : (a b : Id) (ops : List Operation) → id_below a b ≡ true → AllAbove b ops → AllAbove a ops
above_trans a b ops p h = above_trans_by id_cmp id_total (λ (o : Operation). o.id) a b ops (is_less _ p) h

-- no operation above an id has it
pub get_above : (id : Id) (ops : List Operation) → AllAbove id ops → get ops id ≡ None
get_above id [] h = refl
get_above id (o ∷ ops) h =
    let q = and_parts (id_below id o.id) (list_all (λ p. id_below id p.id) ops) h in
    cond-false _ _ _ (apart_below id o.id q.0) ∙ get_above id ops q.1

-- a set that rises, read: the first is below all others, and these rise
pub rises_parts : (o : Operation) (ops : List Operation) → rises (o ∷ ops) ≡ true → AllAbove o.id ops × (rises ops ≡ true)
rises_parts o ops h = and_parts (list_all (λ p. id_below o.id p.id) ops) (rises ops) h

-- how o's id compares to p's
module _ (o p : Operation) where
  pub less_below : id_cmp o.id p.id ≡ Less → id_below o.id p.id ≡ true
  less_below h = ap is_lt h

  pub greater_below : id_cmp o.id p.id ≡ Greater → id_below p.id o.id ≡ true
  greater_below h = ap is_lt (id_total.antisymm p.id o.id ∙ ap ordering_reverse h)

  pub equal_ids : id_cmp o.id p.id ≡ Equal → o.id ≡ p.id
  equal_ids h = id_exact o.id p.id h

-- ---- what meets

pub text_assoc : (a b c : Option (List ℕ)) → meet_text (meet_text a b) c ≡ meet_text a (meet_text b c)
text_assoc None b c = refl
text_assoc (Some a) None c = refl
text_assoc (Some a) (Some b) None = refl
text_assoc (Some a) (Some b) (Some c) = refl

pub text_itself : (a : Option (List ℕ)) → meet_text a a ≡ a
text_itself None = refl
text_itself (Some a) = refl

pub met_assoc : (x y z : Option Operation) → met (met x y) z ≡ met x (met y z)
met_assoc None y z = refl
met_assoc (Some x) None z = refl
met_assoc (Some x) (Some y) None = refl
met_assoc (Some x) (Some y) (Some z) = ap (λ t. Some (with_text x t)) (text_assoc x.text y.text z.text)

met_itself : (x : Option Operation) → met x x ≡ x
met_itself None = refl
met_itself (Some x) = ap (λ t. Some (with_text x t)) (text_itself x.text)

-- meeting nothing changes nothing
pub met_none : (x : Option Operation) → met x None ≡ x
met_none None = refl
met_none (Some x) = refl

-- ---- one operation more

here : (x z : Option Operation) (b : Bool) → (b ≡ true → x ≡ None) → cond b z x ≡ met x (cond b z None)
here x z true h = rw (h refl) refl
here x z false h = sym (met_none x)

tied : (p o : Operation) (x : Option Operation) (b d : Bool) → b ≡ d
    → cond b (Some (meet p o)) x ≡ met (cond b (Some p) x) (cond d (Some o) None)
tied p o x true true e = refl
tied p o x false false e = sym (met_none x)
tied p o x true false e = cc
tied p o x false true e = cc

later : (p : Operation) (x z : Option Operation) (b d : Bool) → (b ≡ true → d ≡ false)
    → cond b (Some p) (met x (cond d z None)) ≡ met (cond b (Some p) x) (cond d z None)
later p x z true d h = rw (h refl) refl
later p x z false d h = refl

-- what is held under an id after an operation was put in
pub get-put : (o : Operation) (ops : List Operation) (q : Id) → rises ops ≡ true
    → get (put o ops) q ≡ met (get ops q) (cond (same_id q o.id) (Some o) None)
get-put o [] q h = refl
get-put o (p ∷ ops) q h =
    let parts = rises_parts p ops h in
    elim (id_cmp o.id p.id) as
    (λ r. id_cmp o.id p.id ≡ r
    → get (by_order r (o ∷ p ∷ ops) (meet p o ∷ ops) (p ∷ put o ops)) q ≡ met (get (p ∷ ops) q) (cond (same_id q o.id) (Some o) None)) [
      | Less ↦ λ e. here (get (p ∷ ops) q) (Some o) (same_id q o.id) (λ s.
          ap (get (p ∷ ops)) (id_from_same q o.id s)
          ∙ get_above o.id (p ∷ ops) (and_from _ _ (less_below o p e) (above_trans o.id p.id ops (less_below o p e) parts.0)))
      | Equal ↦ λ e. tied p o (get ops q) (same_id q p.id) (same_id q o.id) (ap (same_id q) (sym (equal_ids o p e)))
      | Greater ↦ λ e. ap (cond (same_id q p.id) (Some p)) (get-put o ops q parts.1)
          ∙ later p (get ops q) (Some o) (same_id q p.id) (same_id q o.id)
          (λ s. ap (λ i. same_id i o.id) (id_from_same q p.id s) ∙ apart_below p.id o.id (greater_below o p e))
    ] refl

pub above-put : (id : Id) (o : Operation) (ops : List Operation) → id_below id o.id ≡ true → AllAbove id ops → AllAbove id (put o ops)
above-put id o [] p h = and_from _ _ p refl
above-put id o (x ∷ ops) p h =
    let q = and_parts (id_below id x.id) (list_all (λ p. id_below id p.id) ops) h in
    elim (id_cmp o.id x.id) as (λ r. AllAbove id (by_order r (o ∷ x ∷ ops) (meet x o ∷ ops) (x ∷ put o ops))) [
      | Less ↦ and_from _ _ p h
      | Equal ↦ h
      | Greater ↦ and_from _ _ q.0 (above-put id o ops p q.1)
    ]

-- a set rises still when an operation is put in
pub rises-put : (o : Operation) (ops : List Operation) → rises ops ≡ true → rises (put o ops) ≡ true
rises-put o [] h = refl
rises-put o (p ∷ ops) h =
    let parts = rises_parts p ops h in
    elim (id_cmp o.id p.id) as (λ r. id_cmp o.id p.id ≡ r → rises (by_order r (o ∷ p ∷ ops) (meet p o ∷ ops) (p ∷ put o ops)) ≡ true) [
      | Less ↦ λ e. and_from _ _ (and_from _ _ (less_below o p e) (above_trans o.id p.id ops (less_below o p e) parts.0)) h
      | Equal ↦ λ e. h
      | Greater ↦ λ e. and_from _ _ (above-put p.id o ops (greater_below o p e) parts.0) (rises-put o ops parts.1)
    ] refl

pub each-put : (P : Operation → Type 0) → ((p o : Operation) → P p → P o → P (meet p o)) → (o : Operation) (ops : List Operation) → P o
    → AllByRecursion P ops → AllByRecursion P (put o ops)
each-put P m o [] p h = (p, tt)
each-put P m o (x ∷ ops) p h =
    elim (id_cmp o.id x.id) as (λ r. AllByRecursion P (by_order r (o ∷ x ∷ ops) (meet x o ∷ ops) (x ∷ put o ops))) [
      | Less ↦ (p, h)
      | Equal ↦ (m x o h.0 p, h.1)
      | Greater ↦ (h.0, each-put P m o ops p h.1)
    ]

-- the operations with their ids
entries : List Operation → List (Id × Operation)
entries ops = map (λ o. (o.id, o)) ops

unpaired : (ops : List Operation) → map (λ (e : Id × Operation). e.1) (map (λ (o : Operation). (o.id, o)) ops) ≡ ops
unpaired [] = refl
unpaired (o ∷ ops) = ap (λ xs. o ∷ xs) (unpaired ops)

sorted_above : (id : Id) (ops : List Operation)
    → below_all id_cmp id (map (λ (o : Operation). (o.id, o)) ops) ≡ list_all (λ p. id_below id p.id) ops
sorted_above id [] = refl
sorted_above id (o ∷ ops) = ap (λ b. id_below id o.id && b) (sorted_above id ops)

sorted_rises : (ops : List Operation) → is_sorted id_cmp (map (λ (o : Operation). (o.id, o)) ops) ≡ rises ops
sorted_rises [] = refl
sorted_rises (o ∷ ops) = λ i. sorted_above o.id ops i && sorted_rises ops i

found_get : (q : Id) (ops : List Operation) → find id_cmp q (map (λ (o : Operation). (o.id, o)) ops) ≡ get ops q
found_get q [] = refl
found_get q (o ∷ ops) = λ i. cond (sym (same_id-cmp q o.id) i) (Some o) (found_get q ops i)

-- sets that hold the same operation at each id are equal
pub same_gets : (xs ys : List Operation) → rises xs ≡ true → rises ys ≡ true → ((q : Id) → get xs q ≡ get ys q) → xs ≡ ys
same_gets xs ys hx hy is =
    sym (unpaired xs)
    ∙ ap (map (λ (e : Id × Operation). e.1))
    (same_entries id_cmp id_total id_exact (map (λ (o : Operation). (o.id, o)) xs) (map (λ (o : Operation). (o.id, o)) ys)
    (subst T (sym (sorted_rises xs ∙ hx)) tt) (subst T (sym (sorted_rises ys ∙ hy)) tt) (λ q. found_get q xs ∙ is q ∙ sym (found_get q ys)))
    ∙ unpaired ys

-- a union rises
pub rises-join : (xs ys : List Operation) → rises xs ≡ true → rises (join xs ys) ≡ true
rises-join xs [] h = h
rises-join xs (o ∷ ys) h = rises-put o (join xs ys) (rises-join xs ys h)

-- what holds of each operation of two sets, and of two that meet, holds of each of their union
pub each-join : (P : Operation → Type 0) → ((p o : Operation) → P p → P o → P (meet p o)) → (xs ys : List Operation) → AllByRecursion P xs
    → AllByRecursion P ys → AllByRecursion P (join xs ys)
each-join P m xs [] h g = h
each-join P m xs (o ∷ ys) h g = each-put P m o (join xs ys) g.0 (each-join P m xs ys h g.1)

last_met : (x y z : Option Operation) (b : Bool) → (b ≡ true → y ≡ None) → met (met x y) (cond b z None) ≡ met x (cond b z y)
last_met x y z true h = rw (h refl) (ap (λ v. met v z) (met_none x))
last_met x y z false h = met_none _

-- what a union holds under an id is what both sets hold there, met
pub get-join : (xs ys : List Operation) (q : Id) → rises xs ≡ true → rises ys ≡ true → get (join xs ys) q ≡ met (get xs q) (get ys q)
get-join xs [] q hx hy = sym (met_none (get xs q))
get-join xs (o ∷ ys) q hx hy =
    let parts = rises_parts o ys hy in
    get-put o (join xs ys) q (rises-join xs ys hx)
    ∙ ap (λ x. met x (cond (same_id q o.id) (Some o) None)) (get-join xs ys q hx parts.1)
    ∙ last_met (get xs q) (get ys q) (Some o) (same_id q o.id) (λ s. ap (get ys) (id_from_same q o.id s) ∙ get_above o.id ys parts.0)

-- joining is associative
pub join_assoc : (xs ys zs : List Operation) → rises xs ≡ true → rises ys ≡ true → rises zs ≡ true
    → join (join xs ys) zs ≡ join xs (join ys zs)
join_assoc xs ys zs hx hy hz = same_gets _ _ (rises-join (join xs ys) zs (rises-join xs ys hx)) (rises-join xs (join ys zs) hx) (λ q.
    get-join (join xs ys) zs q (rises-join xs ys hx) hz
    ∙ ap (λ x. met x (get zs q)) (get-join xs ys q hx hy)
    ∙ met_assoc (get xs q) (get ys q) (get zs q)
    ∙ ap (met (get xs q)) (sym (get-join ys zs q hy hz))
    ∙ sym (get-join xs (join ys zs) q hx (rises-join ys zs hy)))

-- joining a set to itself changes nothing
pub join_itself : (xs : List Operation) → rises xs ≡ true → join xs xs ≡ xs
join_itself xs h = same_gets _ _ (rises-join xs xs h) h (λ q. get-join xs xs q h h ∙ met_itself (get xs q))

-- what is held by at most one of two
pub met_or : (x y : Option Operation) → (x ≡ None) ⊎ (y ≡ None) → met x y ≡ option_or x y
met_or None y h = refl
met_or (Some x) None h = refl
met_or (Some x) (Some y) (inl h) = cc
met_or (Some x) (Some y) (inr h) = cc

pub or_none : (x : Option Operation) → option_or x None ≡ x
or_none None = refl
or_none (Some x) = refl

pub or_assoc : (x y z : Option Operation) → option_or (option_or x y) z ≡ option_or x (option_or y z)
or_assoc None y z = refl
or_assoc (Some x) y z = refl

-- what meets is within its ranges
meet-IsOperation : (p o : Operation) → IsOperation p → IsOperation o → IsOperation (meet p o)
meet-IsOperation p o h g = record { id = h.id; segment = h.segment; ids = h.ids; falls = h.falls; text = text p.text o.text h.text }
  where
    text : (a b : Option (List ℕ)) → MayBeText p.segment a → MayBeText p.segment (meet_text a b)
    text None b h = tt
    text (Some a) None h = tt
    text (Some a) (Some b) h = h

-- what two sets hold agrees, at every id
abbrev pub AgreeAtAll : List Operation → List Operation → Type 0
AgreeAtAll xs ys = (q : Id) (x y : Operation) → get xs q ≡ Some x → get ys q ≡ Some y → Agree x y

met_comm : (a b : Option Operation) → ((x y : Operation) → a ≡ Some x → b ≡ Some y → Agree x y) → met a b ≡ met b a
met_comm None None h = refl
met_comm None (Some y) h = refl
met_comm (Some x) None h = refl
met_comm (Some x) (Some y) h = ap Some (meet_comm x y (h x y refl refl))

-- joining is commutative, where two operations of one id agree
pub join_comm : (xs ys : List Operation) → rises xs ≡ true → rises ys ≡ true → AgreeAtAll xs ys → join xs ys ≡ join ys xs
join_comm xs ys hx hy h = same_gets _ _ (rises-join xs ys hx) (rises-join ys xs hy) (λ q.
    get-join xs ys q hx hy ∙ met_comm (get xs q) (get ys q) (h q) ∙ sym (get-join ys xs q hy hx))

-- a full operation of a held id adds nothing
pub put_held : (o p : Operation) (ops : List Operation) → rises ops ≡ true → get ops o.id ≡ Some p → is_full o ≡ true → put o ops ≡ ops
put_held o p ops h g f =
    same_gets _ _ (rises-put o ops h) h
    (λ q. get-put o ops q h ∙ kept (get ops q) (same_id q o.id) (λ s. ap (get ops) (id_from_same q o.id s) ∙ g))
  where
    kept : (x : Option Operation) (b : Bool) → (b ≡ true → x ≡ Some p) → met x (cond b (Some o) None) ≡ x
    kept (Some x) true h = ap (λ t. Some (with_text x t)) (kept_text x.text o.text f)
    kept (Some x) false h = refl
    kept None true h = cc (h refl)
    kept None false h = refl

-- at another it goes in front of the first that is not below it
inserted : (o p : Operation) (ops : List Operation) (n : ℕ) → put o ops ≡ insert ops n o → p ∷ put o ops ≡ insert (p ∷ ops) (1 + n) o
inserted o p ops n h = let e : 1 + n ≡ suc n = omega arith in rw e (ap (λ xs. p ∷ xs) h)

pub put_insert : (o : Operation) (ops : List Operation) → get ops o.id ≡ None
    → put o ops ≡ insert ops (position_or_len (λ p. not (id_below p.id o.id)) ops) o
put_insert o [] g = refl
put_insert o (p ∷ ops) g =
    elim (id_cmp o.id p.id) as
    (λ r. id_cmp o.id p.id ≡ r
    → by_order r (o ∷ p ∷ ops) (meet p o ∷ ops) (p ∷ put o ops)
    ≡ insert (p ∷ ops) (position_or_len (λ p. not (id_below p.id o.id)) (p ∷ ops)) o) [
      | Less ↦ λ e.
          let above : id_below p.id o.id ≡ false = ap is_lt (id_total.antisymm p.id o.id ∙ ap ordering_reverse e) in
          rw above refl
      | Equal ↦ λ e. cc (sym (cond-true (same_id o.id p.id) (Some p) (get ops o.id) (same_id-cmp o.id p.id ∙ ap is_eq e)) ∙ g)
      | Greater ↦ λ e.
          rw (greater_below o p e)
          (inserted o p ops _ (put_insert o ops
          (sym (cond-false (same_id o.id p.id) (Some p) (get ops o.id) (same_id-cmp o.id p.id ∙ ap is_eq e)) ∙ g)))
    ] refl

pub put_at : (o : Operation) (ops : List Operation) (id : Id) (at : ℕ) → id ≡ o.id → None ≡ get ops id
    → at ≡ position_or_len (λ p. not (id_below p.id id)) ops → insert ops at o ≡ put o ops
put_at o ops id at e g h =
    ap (λ n. insert ops n o) (h ∙ ap (λ (i : Id). position_or_len (λ p. not (id_below p.id i)) ops) e)
    ∙ sym (put_insert o ops (sym (g ∙ ap (get ops) e)))

-- a set stays one when an operation is put in
pub IsOpSet-put : (o : Operation) (ops : List Operation) → IsOperation o → IsOpSet ops → IsOpSet (put o ops)
IsOpSet-put o ops h g = record { rising = rises-put o ops g.rising; each = each-put IsOperation meet-IsOperation o ops h g.each }

pub join_push : (xs ys : List Operation) (o : Operation) → join xs (ys ++ o ∷ []) ≡ join (put o xs) ys
join_push xs [] o = refl
join_push xs (y ∷ ys) o = ap (put y) (join_push xs ys o)

-- a union is a set
pub IsOpSet-join : (xs ys : List Operation) → IsOpSet xs → IsOpSet ys → IsOpSet (join xs ys)
IsOpSet-join xs ys h g = record { rising = rises-join xs ys h.rising; each = each-join IsOperation meet-IsOperation xs ys h.each g.each }

pub put_kept : (o : Operation) (ops : List Operation) (id : Id) (r : Option (Bor Operation)) → rises ops ≡ true → id ≡ o.id
    → option_copied r ≡ get ops id → is_some r ≡ true → is_full o ≡ true → put o ops ≡ ops
put_kept o ops id None h e g n f = absurd (false≢true n)
put_kept o ops id (Some b) h e g n f = put_held o b.now ops h (ap (get ops) (sym e) ∙ sym g) f

pub put_new : (o : Operation) (ops : List Operation) (id : Id) (at : ℕ) (r : Option (Bor Operation)) → id ≡ o.id
    → option_copied r ≡ get ops id → is_some r ≡ false → at ≡ position_or_len (λ p. not (id_below p.id id)) ops
    → insert ops at o ≡ put o ops
put_new o ops id at None e g n h = put_at o ops id at e g h
put_new o ops id at (Some b) e g n h = absurd (true≢false n)

-- ---- clashes

-- where no operation of ys differs from what xs holds, the two agree
agree_at : (xs ys : List Operation) → find_in (λ (o : Operation). differs (get xs o.id) o) ys ≡ None → (q : Id) (x y : Operation)
    → get xs q ≡ Some x → get ys q ≡ Some y → Agree x y
agree_at xs [] none q x y gx gy = cc gy
agree_at xs (o ∷ ys) none q x y gx gy = by (λ n g. agree_at xs ys n q x y gx g) (differs (get xs o.id) o) refl none
  where
    held : (find_in (λ (o : Operation). differs (get xs o.id) o) ys ≡ None → get ys q ≡ Some y → Agree x y) → (b : Bool)
        → same_id q o.id ≡ b → differs (get xs o.id) o ≡ false → find_in (λ (o : Operation). differs (get xs o.id) o) ys ≡ None
        → cond b (Some o) (get ys q) ≡ Some y → Agree x y
    held rest true e d n g =
        let at : get xs o.id ≡ Some x = ap (get xs) (sym (id_from_same q o.id e)) ∙ gx in
        let same : agree x o ≡ true = not-false (agree x o) (ap (λ (r : Option Operation). differs r o) (sym at) ∙ d) in
        let is : o ≡ y = cc g in subst (Agree x) is (agree-is x o same)
    held rest false e d n g = rest n g

    by : (find_in (λ (o : Operation). differs (get xs o.id) o) ys ≡ None → get ys q ≡ Some y → Agree x y) → (b : Bool)
        → differs (get xs o.id) o ≡ b → cond b (Some o) (find_in (λ (o : Operation). differs (get xs o.id) o) ys) ≡ None → Agree x y
    by rest true d n = cc n
    by rest false d n = held rest (same_id q o.id) refl d n gy

-- sets that do not clash agree at every id
pub agree_from_no_clash : (xs ys : List Operation) → clash xs ys ≡ None → AgreeAtAll xs ys
agree_from_no_clash xs ys h = agree_at xs ys (unmapped (find_in (λ (o : Operation). differs (get xs o.id) o) ys) h)
  where
    unmapped : (r : Option Operation) → option_map (λ (o : Operation). o.id) r ≡ None → r ≡ None
    unmapped None h = refl
    unmapped (Some o) h = cc h

later_held : (x : Operation) (xs ys : List Operation) → AllAbove x.id ys → AllByRecursion (λ o. get xs o.id ≡ Some o) ys
    → AllByRecursion (λ o. get (x ∷ xs) o.id ≡ Some o) ys
later_held x xs [] above h = tt
later_held x xs (o ∷ ys) above h =
    let p = and_parts (id_below x.id o.id) (list_all (λ p. id_below x.id p.id) ys) above in
    (cond-false (same_id o.id x.id) (Some x) (get xs o.id) (apart_above o.id x.id p.0) ∙ h.0, later_held x xs ys p.1 h.1)

-- each operation is held under its id
pub held_itself : (xs : List Operation) → rises xs ≡ true → AllByRecursion (λ o. get xs o.id ≡ Some o) xs
held_itself [] h = tt
held_itself (x ∷ xs) h =
    let p = rises_parts x xs h in
    (cond-true (same_id x.id x.id) (Some x) (get xs x.id) (same_id-refl x.id), later_held x xs xs p.0 (held_itself xs p.1))

none_differs : (xs ys : List Operation) → AllByRecursion (λ o. get xs o.id ≡ Some o) ys
    → find_in (λ (o : Operation). differs (get xs o.id) o) ys ≡ None
none_differs xs [] h = refl
none_differs xs (o ∷ ys) h =
    let same : differs (get xs o.id) o ≡ false = ap (λ (r : Option Operation). differs r o) h.0
    ∙ ap not (agree-from o o (agree_itself o)) in
    cond-false (differs (get xs o.id) o) (Some o) _ same ∙ none_differs xs ys h.1

-- a set does not clash with itself
pub no_clash_itself : (xs : List Operation) → rises xs ≡ true → clash xs xs ≡ None
no_clash_itself xs h = ap (option_map (λ (o : Operation). o.id)) (none_differs xs xs (held_itself xs h))
