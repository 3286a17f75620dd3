use Rattle.std.proofs.Common.{◌≡◌, Some, None, sym, ap, ◌∙◌}
use Rattle.std.proofs.lemmas.List.{get_or_default}
use Rattle.op_core.specs.Ids.{id_cmp}
use Rattle.op_core.specs.Equal.{id_from_same}
use Rattle.op_core.specs.Ops.{Operation, is_full, bare}
use Rattle.op_core.specs.Sets.{get}
use Rattle.op_core.specs.Thinned.{has_text}
use Rattle.std.specs.Prelude.{slice_set}
use Rattle.op_core.proofs.IdOrders.Rising.{id_total}
use Rattle.op_core.proofs.Sets.Held.{get-found, tied_at, apart_at}
use Rattle.op_core.proofs.ThinnedSets.TwoSteps.{where_at, where_none}
use Rattle.usfm_ref.proofs.Sorted.{found_here, found_not, found_end}
use Rattle.op_core.proofs.lists.place.leave_text_at.Goals as goal

pub returns-then-eq-clause-thin : goal.returns-then-eq-clause-thin
returns-then-eq-clause-thin c =
    let r = c.index-ops-at.result in
    let here : c.id.result ≡ r.id = c.id.ensures.id ∙ ap (λ (o : Operation). o.id) (sym c.index-ops-at.is) in
    let same : r.id ≡ c.args.id = sym here ∙ id_from_same c.id.result c.args.id (sym c.eq.ensures ∙ c.if-eq.true) in
    ap (slice_set c.args.ops.now c.args.at)
    (c.leave_text.ensures.bare ∙ ap bare
    (get_or_default c.args.ops.now c.args.at c.index-ops-at-then-eq.result r c.if-at-ops.true ∙ sym c.index-ops-at.is))
    ∙ where_at c.args.id c.args.ops.now c.args.at r c.requires.rising c.if-at-ops.true c.index-ops-at.is same

pub returns-then-eq-clause-was : goal.returns-then-eq-clause-was
returns-then-eq-clause-was c =
    let r = c.index-ops-at.result in
    let here : c.id.result ≡ r.id = c.id.ensures.id ∙ ap (λ (o : Operation). o.id) (sym c.index-ops-at.is) in
    let held : get c.args.ops.now c.args.id ≡ Some r = get-found c.args.ops.now c.args.id
    ∙ found_here id_cmp id_total (λ (o : Operation). o.id) c.args.id c.args.ops.now c.args.at r c.requires.rising c.requires.place
    c.if-at-ops.true c.index-ops-at.is (tied_at c.args.id r _ _ here c.eq.ensures c.if-eq.true) in
    c.leave_text.ensures.was
    ∙ ap is_full (get_or_default c.args.ops.now c.args.at c.index-ops-at-then-eq.result r c.if-at-ops.true ∙ sym c.index-ops-at.is)
    ∙ sym (ap has_text held)

pub returns-else-eq-clause-thin : goal.returns-else-eq-clause-thin
returns-else-eq-clause-thin c =
    let r = c.index-ops-at.result in
    let here : c.id.result ≡ r.id = c.id.ensures.id ∙ ap (λ (o : Operation). o.id) (sym c.index-ops-at.is) in
    let none : get c.args.ops.now c.args.id ≡ None = get-found c.args.ops.now c.args.id
    ∙ found_not id_cmp id_total (λ (o : Operation). o.id) c.args.id c.args.ops.now c.args.at r c.requires.rising c.requires.place
    c.index-ops-at.is (apart_at c.args.id r _ _ here c.eq.ensures c.if-eq.false) in
    sym (where_none c.args.id c.args.ops.now none)

pub returns-else-eq-clause-was : goal.returns-else-eq-clause-was
returns-else-eq-clause-was c =
    let r = c.index-ops-at.result in
    let here : c.id.result ≡ r.id = c.id.ensures.id ∙ ap (λ (o : Operation). o.id) (sym c.index-ops-at.is) in
    let none : get c.args.ops.now c.args.id ≡ None = get-found c.args.ops.now c.args.id
    ∙ found_not id_cmp id_total (λ (o : Operation). o.id) c.args.id c.args.ops.now c.args.at r c.requires.rising c.requires.place
    c.index-ops-at.is (apart_at c.args.id r _ _ here c.eq.ensures c.if-eq.false) in
    sym (ap has_text none)

pub returns-else-at-ops-clause-thin : goal.returns-else-at-ops-clause-thin
returns-else-at-ops-clause-thin c =
    let none : get c.args.ops.now c.args.id ≡ None = get-found c.args.ops.now c.args.id
    ∙ found_end id_cmp id_total (λ (o : Operation). o.id) c.args.id c.args.ops.now c.args.at c.requires.rising c.requires.place
    c.if-at-ops.false in
    sym (where_none c.args.id c.args.ops.now none)

pub returns-else-at-ops-clause-was : goal.returns-else-at-ops-clause-was
returns-else-at-ops-clause-was c =
    let none : get c.args.ops.now c.args.id ≡ None = get-found c.args.ops.now c.args.id
    ∙ found_end id_cmp id_total (λ (o : Operation). o.id) c.args.id c.args.ops.now c.args.at c.requires.rising c.requires.place
    c.if-at-ops.false in
    sym (ap has_text none)
