-- What lies outside the summary of a set is what the set does not hold, and goes with what it is thinned for.
use Rattle.std.proofs.Common.{◌≡◌, Bool, true, false, not, cond, ◌&&◌, ◌||◌, List, [], ◌∷◌, Option, Some, None, IsTrue, filter, is_none, refl, sym, ap, ◌∙◌}
use Rattle.std.specs.Option.{is_some, option_map}
use Rattle.std.specs.List.{find, list_any, AllByRecursion}
use Rattle.usfm_ref.specs.declared.segment.Segment.{Segment}
use Rattle.op_core.specs.Ids.{Id}
use Rattle.op_core.specs.Ops.{Operation, is_thinned, in_segment}
use Rattle.op_core.specs.Sets.{IsOpSet, get, join, clash, differs}
use Rattle.op_core.specs.Thinned.{is_legal, all_full, skeleton, is_lacked, is_sent}
use Rattle.op_core.specs.Loops.Index.{AreApart}
use Rattle.op_core.proofs.Sets.Fresh.{fresh, fresh_apart, join_fresh}
use Rattle.op_core.proofs.Sets.Legal.{delta_legal, full_delta}
use Rattle.op_core.proofs.Sets.Groupings.{delta_joins}
use Rattle.op_core.proofs.Sets.Union.{held_itself}
use Rattle.bundle_codec.specs.Summaries.{NameRanges, IsSummaryOf, covers, outside}

not_some : {A : Type 0} (x : Option A) → not (is_some x) ≡ is_none x
not_some None = refl
not_some (Some x) = refl

same_filter : {A : Type 0} (p q : A → Bool) (xs : List A) → ((x : A) → p x ≡ q x) → filter p xs ≡ filter q xs
same_filter p q [] h = refl
same_filter p q (x ∷ xs) h = λ i. cond (h x i) (x ∷ same_filter p q xs h i) (same_filter p q xs h i)

-- ---- without thinned operations

pub outside_fresh : (own other : List Operation) (s : List NameRanges) → IsTrue (all_full own) → IsSummaryOf other s
    → outside s own ≡ fresh other own
outside_fresh own other s full h =
    full_delta own (covers s) full
    ∙ same_filter (is_lacked (covers s)) (λ (o : Operation). is_none (get other o.id)) own
    (λ o. ap not (h.exactly o.id) ∙ not_some (get other o.id))

apart_none : (held new : List Operation) → AreApart held new → find (λ (o : Operation). differs (get held o.id) o) new ≡ None
apart_none held [] h = refl
apart_none held (o ∷ new) h = ap
    (λ (r : Option Operation). cond (differs r o) (Some o) (find (λ (p : Operation). differs (get held p.id) p) new)) h.0
    ∙ apart_none held new h.1

-- what lies outside a copy's summary gives that copy the union, where all operations are full
pub outside_union : (own other : List Operation) (s : List NameRanges) → IsOpSet own → IsOpSet other → IsTrue (all_full own)
    → IsSummaryOf other s
    → (join other (outside s own) ≡ join other own) × (clash other (outside s own) ≡ None)
outside_union own other s a b full h =
    let e = outside_fresh own other s full h in (
      ap (join other) e ∙ join_fresh other own b.rising a.rising full,
      ap (clash other) e ∙ ap (option_map (λ (o : Operation). o.id)) (apart_none other (fresh other own) (fresh_apart other own)),
    )

-- ---- with thinned operations

pub outside_skeleton : (own other : List Operation) (s : List NameRanges) → IsOpSet own → IsOpSet other → clash other own ≡ None
    → IsSummaryOf other s
    → (skeleton (join other (outside s own)) ≡ skeleton (join other own)) × (clash other (outside s own) ≡ None)
outside_skeleton own other s a b none h =
    let p = delta_joins other own (covers s) b.rising a.rising none (λ q e. sym (h.exactly q) ∙ e) in (p.1, p.0)

-- of a legal set, what lies outside a summary is legal
pub outside_legal : (own : List Operation) (s : List NameRanges) → IsOpSet own → IsTrue (is_legal own) → IsTrue (is_legal (outside s own))
outside_legal own s a legal = delta_legal own (covers s) a.rising legal

-- ---- its own summary

-- where no operation is lacked, no thinned one is
none_lacked : (knows : Id → Bool) (g : Segment) (ops : List Operation) → AllByRecursion (λ o. knows o.id ≡ true) ops
    → list_any (λ p. in_segment g p && (is_thinned p && is_lacked knows p)) ops ≡ false
none_lacked knows g [] h = refl
none_lacked knows g (o ∷ ops) h = rw h.0 (by (in_segment g o) (is_thinned o) ∙ none_lacked knows g ops h.1)
  where
    by : (a b : Bool) → ((a && (b && false)) || list_any (λ p. in_segment g p && (is_thinned p && is_lacked knows p)) ops)
        ≡ list_any (λ p. in_segment g p && (is_thinned p && is_lacked knows p)) ops
    by false b = refl
    by true false = refl
    by true true = refl

none_sent : (held : List Operation) (knows : Id → Bool) → AllByRecursion (λ o. knows o.id ≡ true) held → (ops : List Operation)
    → AllByRecursion (λ o. knows o.id ≡ true) ops → filter (is_sent held knows) ops ≡ []
none_sent held knows all [] h = refl
none_sent held knows all (o ∷ ops) h =
    let off : is_sent held knows o ≡ false = (λ i. not (h.0 i) || none_lacked knows o.segment held all i) in
    ap (λ b. cond b (o ∷ filter (is_sent held knows) ops) (filter (is_sent held knows) ops)) off ∙ none_sent held knows all ops h.1

known_each : (held : List Operation) (knows : Id → Bool) (ops : List Operation) → ((q : Id) → knows q ≡ is_some (get held q))
    → AllByRecursion (λ o. get held o.id ≡ Some o) ops → AllByRecursion (λ o. knows o.id ≡ true) ops
known_each held knows [] e h = tt
known_each held knows (o ∷ ops) e h = (e o.id ∙ ap is_some h.0, known_each held knows ops e h.1)

-- nothing of a set lies outside its own summary
pub own_outside : (held : List Operation) (s : List NameRanges) → IsOpSet held → IsSummaryOf held s → outside s held ≡ []
own_outside held s a h =
    let all = known_each held (covers s) held h.exactly (held_itself held a.rising) in
    none_sent held (covers s) all held all
