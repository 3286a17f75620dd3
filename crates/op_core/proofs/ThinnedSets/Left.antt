-- Sets whose operations lose texts in place: the index stays, and steps add up.
use Rattle.std.proofs.Math.Seq.{take-append_seam}
use Rattle.std.specs.Option.{is_some}
use Rattle.std.proofs.lemmas.List.Folds.{list_any-append, list_any_at}
use Rattle.op_core.proofs.Indexed.Enrolled.{more_items, apart_at}
use Rattle.std.proofs.Common.{◌+◌, zero, ◌<◌, get_or, option_map, arith, suc, length, take, drop, ◌≡◌, ℕ, Bool, true, false, not, cond, ◌&&◌, ◌||◌, List, [], ◌∷◌, ◌++◌, Option, Some, None, map, filter, refl, sym, ap, ◌∙◌}
use Rattle.std.specs.List.{list_any, AllByRecursion}
use Rattle.std.specs.Cmp.{both_ways}
use Rattle.usfm_ref.specs.declared.segment.Segment.{Segment}
use Rattle.op_core.specs.Ids.{Id, same_id}
use Rattle.op_core.specs.Equal.{id_from_same, same_id-refl}
use Rattle.op_core.specs.Ops.{Operation, IsOperation, is_thinned, bare, in_segment}
use Rattle.op_core.specs.Sets.{rises, get, join, IsOpSet}
use Rattle.op_core.specs.Shown.{is_shown}
use Rattle.op_core.specs.Lists.{shown_ids}
use Rattle.op_core.specs.NextIds.{is_among}
use Rattle.op_core.specs.Loops.Index.{is_missing, IsIndex, AreApart}
use Rattle.op_core.specs.Thinned.{is_past, is_legal, bare_where, thin_where, is_thinned_in, ArePast, thinned_in, thin, skeleton, all_full}
use Rattle.op_core.specs.declared.index.chapter.Chapter.{Chapter}
use Rattle.op_core.proofs.Sets.Held.{same_turned}
use Rattle.op_core.proofs.ThinnedSets.Bare.{any_same, rises_same, told_same, is_shown_same, replaced_same}
use Rattle.op_core.proofs.ThinnedSets.TwoSteps.{skeleton_where, rises_where, get_where, past_where}
use Rattle.op_core.proofs.Sets.Clashes.{get_id}
use Rattle.op_core.proofs.Sets.Legal.{skeleton_thin, join_legal, full_legal}

-- sameness of ids, read from the other side
pub same_id-sym : (a b : Id) → same_id a b ≡ same_id b a
same_id-sym a b = both_ways (same_id a b) (same_id b a) (same_turned a b) (same_turned b a)

-- the index follows from the operations without their texts
module _ (s u : List Operation) (e : skeleton s ≡ skeleton u) where
  pub shown_ids_same : (g : Segment) → shown_ids s g ≡ shown_ids u g
  shown_ids_same g =
      told_same s u e (is_shown s g) (λ o. o.id) ∙ (λ i. map (λ (o : Operation). o.id) (filter (λ o. is_shown_same s u e g o i) u))

  pub missing_same : (g : Segment) (q : Id) → is_missing s g q ≡ is_missing u g q
  missing_same g q = λ i. replaced_same s u e g q i && not (any_same s u e (λ o. in_segment g o && same_id q o.id) i)

  pub index_same : (chapters : List Chapter) → IsIndex s chapters → IsIndex u chapters
  index_same chapters h = record {
    orderly = h.orderly;
    keeps = record {
      shown = λ g. h.keeps.shown g ∙ shown_ids_same g;
      rising = h.keeps.rising;
      missing = λ g q. h.keeps.missing g q ∙ missing_same g q;
    };
  }

module _ (p : Id → Bool) where
  each_where : (ops : List Operation) → AllByRecursion IsOperation ops → AllByRecursion IsOperation (thin_where p ops)
  each_where [] h = tt
  each_where (o ∷ ops) h = (one (p o.id), each_where ops h.1)
    where
      one : (b : Bool) → IsOperation (cond b (bare o) o)
      one true = let k : IsOperation o = h.0 in record { id = k.id; segment = k.segment; ids = k.ids; falls = k.falls; text = tt }
      one false = h.0

  pub IsOpSet-where : (ops : List Operation) → IsOpSet ops → IsOpSet (thin_where p ops)
  IsOpSet-where ops h = record { rising = rises_where p ops h.rising; each = each_where ops h.each }

  pub index_where : (ops : List Operation) (chapters : List Chapter) → IsIndex ops chapters → IsIndex (thin_where p ops) chapters
  index_where ops = index_same ops (thin_where p ops) (sym (skeleton_where p ops))

  -- steps add up
  pub where_then : (r : Id → Bool) (ops : List Operation) → thin_where r (thin_where p ops) ≡ thin_where (λ q. p q || r q) ops
  where_then r [] = refl
  where_then r (o ∷ ops) = λ i. one (p o.id) i ∷ where_then r ops i
    where
      one : (b : Bool) → bare_where r (cond b (bare o) o) ≡ cond (b || r o.id) (bare o) o
      one true = by (r o.id)
        where
          by : (d : Bool) → cond d (bare (bare o)) (bare o) ≡ bare o
          by true = refl
          by false = refl
      one false = refl

-- tests that answer alike leave out the same texts
pub where_agree : (p r : Id → Bool) (ops : List Operation) → ((q : Id) → p q ≡ r q) → thin_where p ops ≡ thin_where r ops
where_agree p r ops h = λ i. map (bare_where (λ q. h q i)) ops

-- a test that never holds leaves out nothing
pub where_never : (ops : List Operation) → thin_where (λ q. false) ops ≡ ops
where_never [] = refl
where_never (o ∷ ops) = ap (λ xs. o ∷ xs) (where_never ops)

any-push : (q x : Id) (ids : List Id) → list_any (same_id q) (ids ++ x ∷ []) ≡ (list_any (same_id q) ids || same_id q x)
any-push q x [] = by (same_id q x)
  where
    by : (b : Bool) → (b || false) ≡ b
    by true = refl
    by false = refl
any-push q x (y ∷ ids) = ap (λ b. same_id q y || b) (any-push q x ids) ∙ by (same_id q y)
  where
    by : (b : Bool) → (b || (list_any (same_id q) ids || same_id q x)) ≡ ((b || list_any (same_id q) ids) || same_id q x)
    by true = refl
    by false = refl

-- one id more
pub where_more : (ids : List Id) (x : Id) (ops now : List Operation) → now ≡ thin_where (is_among ids) ops
    → thin_where (same_id x) now ≡ thin_where (is_among (ids ++ x ∷ [])) ops
where_more ids x ops now e =
    ap (thin_where (same_id x)) e ∙ where_then (is_among ids) (same_id x) ops
    ∙ where_agree _ _ ops (λ q. ap (λ b. is_among ids q || b) (same_id-sym x q) ∙ sym (any-push q x ids))

-- ---- a slice written back into its vector

pub written : {X : Type 0} (new items : List X) (n : ℕ) → length new ≡ n → take n (new ++ drop (length new) items) ≡ new
written new items n e = ap (λ (k : ℕ). take k (new ++ drop (length new) items)) (sym e) ∙ take-append_seam new (drop (length new) items)

pub length_where : (p : Id → Bool) (ops : List Operation) → length (thin_where p ops) ≡ length ops
length_where p [] = refl
length_where p (o ∷ ops) = ap suc (length_where p ops)

-- ---- a walk over ids

pub among_at : (ids : List Id) (k : ℕ) (x : Id) → k < length ids → x ≡ get_or ids k x → is_among ids x ≡ true
among_at [] k x l e = absurd (omega arith)
among_at (y ∷ ids) zero x l e = ap (λ b. b || is_among ids x) (ap (same_id x) (sym e) ∙ same_id-refl x)
among_at (y ∷ ids) (suc k) x l e = by (same_id x y) (among_at ids k x (omega arith) e)
  where
    by : (b : Bool) → is_among ids x ≡ true → (b || is_among ids x) ≡ true
    by true h = refl
    by false h = h

-- what is past at first is past after some texts are left out
pub past_on : (p t : Id → Bool) (s now : List Operation) (x : Id) → now ≡ thin_where p s → ArePast t s → t x ≡ true
    → ArePast (same_id x) now
past_on p t s now x e past a o g named =
    by (get s x) refl (sym (get_where p s x) ∙ ap (λ (xs : List Operation). get xs x) (sym e) ∙ ap (get now) (id_from_same x o.id named)
    ∙ g)
  where
    some : (y z : Operation) → Some y ≡ Some z → y ≡ z
    some y z e = cc

    bare_left : (y : Operation) (b : Bool) → bare (cond b (bare y) y) ≡ bare y
    bare_left y true = refl
    bare_left y false = refl

    by : (m : Option Operation) → get s x ≡ m → option_map (bare_where p) (get s x) ≡ Some o → is_past now o ≡ true
    by None d f = cc (sym (ap (option_map (bare_where p)) d) ∙ f)
    by (Some y) d f =
        let is : bare_where p y ≡ o = some (bare_where p y) o (sym (ap (option_map (bare_where p)) d) ∙ f) in
        let name : y.id ≡ x = get_id s x y d in
        let before : is_past s y ≡ true = past y (ap (get s) name ∙ d) (ap t name ∙ a) in
        ap (λ xs. is_past xs o) e ∙ past_where p s o ∙ ap (is_past s) (sym is) ∙ ap (is_past s) (bare_left y (p y.id)) ∙ before

-- ---- the ids of thinned operations, gathered

-- whether something is lacking, asked of its text
pub none_thinned : {X : Type 0} (f : X → List ℕ) (r : Option X) (t : Option (List ℕ)) (b : Bool) → option_map f r ≡ t → is_some r ≡ not b
    → not (is_some t) ≡ b
none_thinned {X} f r t b e g = ap (λ (t : Option (List ℕ)). not (is_some t)) (sym e) ∙ one r b g
  where
    one : (r : Option X) (b : Bool) → is_some r ≡ not b → not (is_some (option_map f r)) ≡ b
    one None true g = refl
    one None false g = cc
    one (Some x) true g = cc
    one (Some x) false g = refl

thinned_more : (ops : List Operation) (i : ℕ) (o : Operation) → i < length ops → o ≡ get_or ops i o → (q : Id)
    → is_thinned_in (take (i + 1) ops) q ≡ (is_thinned_in (take i ops) q || (same_id q o.id && is_thinned o))
thinned_more ops i o l e q =
    ap (λ (xs : List Operation). is_thinned_in xs q) (more_items ops i o l e)
    ∙ list_any-append (λ (p : Operation). same_id q p.id && is_thinned p) (take i ops) (o ∷ [])
    ∙ ap (λ b. is_thinned_in (take i ops) q || b) (by (same_id q o.id && is_thinned o))
  where
    by : (b : Bool) → (b || false) ≡ b
    by true = refl
    by false = refl

both_pass : (a b : Bool) → b ≡ true → a ≡ (a && b)
both_pass true b h = sym h
both_pass false b h = refl

one_fails : (a b d : Bool) → d ≡ false → (a || (b && d)) ≡ a
one_fails true b d h = refl
one_fails false true d h = h
one_fails false false d h = refl

pub gathers : (ops : List Operation) (i : ℕ) (o : Operation) → i < length ops → o ≡ get_or ops i o
    → (q : Id) (before after : List Id) (id : Id) → id ≡ o.id → is_thinned o ≡ true → after ≡ before ++ id ∷ []
    → is_among before q ≡ is_thinned_in (take i ops) q → is_among after q ≡ is_thinned_in (take (i + 1) ops) q
gathers ops i o l e q before after id name thinned is h =
    ap (λ (ids : List Id). is_among ids q) is ∙ any-push q id before
    ∙ (λ j. h j || same_id q (name j))
    ∙ ap (λ b. is_thinned_in (take i ops) q || b) (both_pass (same_id q o.id) (is_thinned o) thinned)
    ∙ sym (thinned_more ops i o l e q)

pub passes : (ops : List Operation) (i : ℕ) (o : Operation) → i < length ops → o ≡ get_or ops i o → (q : Id) (ids : List Id)
    → is_thinned o ≡ false → is_among ids q ≡ is_thinned_in (take i ops) q → is_among ids q ≡ is_thinned_in (take (i + 1) ops) q
passes ops i o l e q ids full h =
    h ∙ sym (one_fails (is_thinned_in (take i ops) q) (same_id q o.id) (is_thinned o) full) ∙ sym (thinned_more ops i o l e q)

-- ---- a walk over operations, of which the thinned ones leave texts out

pub thinned_item : (ops : List Operation) (i : ℕ) (o : Operation) → i < length ops → o ≡ get_or ops i o → is_thinned o ≡ true
    → is_thinned_in ops o.id ≡ true
thinned_item ops i o l e t =
    list_any_at (λ p. same_id o.id p.id && is_thinned p) ops i o l
    (ap (λ p. same_id o.id p.id && is_thinned p) (sym e) ∙ (λ j. same_id-refl o.id j && t j))

pub leaves_more : (ops : List Operation) (i : ℕ) (o : Operation) → i < length ops → o ≡ get_or ops i o → is_thinned o ≡ true
    → (s now : List Operation) → now ≡ thin_where (is_thinned_in (take i ops)) s
    → thin_where (same_id o.id) now ≡ thin_where (is_thinned_in (take (i + 1) ops)) s
leaves_more ops i o l e t s now h =
    ap (thin_where (same_id o.id)) h ∙ where_then (is_thinned_in (take i ops)) (same_id o.id) s
    ∙ where_agree _ _ s (λ q. ap (λ b. is_thinned_in (take i ops) q || b) (same_id-sym o.id q ∙ both_pass (same_id q o.id) (is_thinned o) t)
    ∙ sym (thinned_more ops i o l e q))

pub leaves_same : (ops : List Operation) (i : ℕ) (o : Operation) → i < length ops → o ≡ get_or ops i o → is_thinned o ≡ false
    → (s now : List Operation) → now ≡ thin_where (is_thinned_in (take i ops)) s → now ≡ thin_where (is_thinned_in (take (i + 1) ops)) s
leaves_same ops i o l e full s now h =
    h
    ∙ where_agree _ _ s (λ q. sym (one_fails (is_thinned_in (take i ops) q) (same_id q o.id) (is_thinned o) full)
    ∙ sym (thinned_more ops i o l e q))

-- ---- all that are past

length_thinned : (s ops : List Operation) → length (map (thinned_in s) ops) ≡ length ops
length_thinned s [] = refl
length_thinned s (o ∷ ops) = ap suc (length_thinned s ops)

pub length_thin : (s : List Operation) → length (thin s) ≡ length s
length_thin s = length_thinned s s

-- a set is one still when it is thinned
pub IsOpSet-thin : (s : List Operation) → IsOpSet s → IsOpSet (thin s)
IsOpSet-thin s h = record { rising = rises_same (thin s) s (skeleton_thin s) ∙ h.rising; each = over s h.each }
  where
    one : (b : Bool) (o : Operation) → IsOperation o → IsOperation (cond b (bare o) o)
    one true o k = record { id = k.id; segment = k.segment; ids = k.ids; falls = k.falls; text = tt }
    one false o k = k

    over : (ops : List Operation) → AllByRecursion IsOperation ops → AllByRecursion IsOperation (map (thinned_in s) ops)
    over [] h = tt
    over (o ∷ ops) h = (one (is_past s o) o h.0, over ops h.1)

pub index_thin : (s : List Operation) (chapters : List Chapter) → IsIndex s chapters → IsIndex (thin s) chapters
index_thin s = index_same s (thin s) (sym (skeleton_thin s))

-- ---- new full operations

-- new full operations make a legal set with what is held
pub join_full_legal : (held new : List Operation) → rises held ≡ true → rises new ≡ true → is_legal held ≡ true → all_full new ≡ true
    → AreApart held new → is_legal (join held new) ≡ true
join_full_legal held new hh hn l f a =
    join_legal held new hh hn l (full_legal new new f) (λ q x y gx gy. cc (sym gx ∙ apart_at held new q y a gy))
