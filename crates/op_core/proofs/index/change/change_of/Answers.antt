use Rattle.std.proofs.Common.{◌&&◌, not, refl, ap, ◌∙◌, List}
use Rattle.usfm_ref.specs.Segments.{segment}
use Rattle.op_core.specs.Ids.{Id}
use Rattle.op_core.specs.NextIds.{is_among}
use Rattle.op_core.specs.Loops.Index.{is_in}
use Rattle.op_core.proofs.IdOrders.IdSets.{arrived_table, lacking_table}
use Rattle.op_core.proofs.index.change.change_of.Goals as goal

pub returns-clause-change : goal.returns-clause-change
returns-clause-change c =
    let a = λ (q : Id). is_among c.args.aside.now.arrived.items q in
    let n = λ (q : Id). is_among c.args.aside.now.named.items q in
    let s = λ (q : Id). is_among c.args.register.now.shown.items q in
    let m = λ (q : Id). is_among c.args.register.now.missing.items q in
    let h = λ (q : Id). is_in c.args.held.now (segment c.args.book c.args.register.now.key) q in
    let leaving =
    λ (q : Id). c.in_ok-leaving.ensures.members q ∙ (λ i. is_among (c.deref.ensures.value i) q && is_among (c.deref-2.ensures.value i) q) in
    let found =
    λ (q : Id). c.in_ok-found.ensures.members q ∙ (λ i. is_among (c.deref-3.ensures.value i) q && is_among (c.deref-4.ensures.value i) q) in
    let fresh = λ (q : Id). c.in_ok-part_ids.ensures.ids q
    ∙ (λ i. is_among (c.deref-5.ensures.value i) q && not (is_among (c.deref-6.ensures.value i) q)) in
    let absent = λ (q : Id). c.in_ok-part_ids.ensures.others q
    ∙ (λ i. is_among (c.deref-6.ensures.value i) q && not (is_among (c.deref-5.ensures.value i) q)) in
    let arrived = λ (q : Id). c.remove_ids.ensures.members q
    ∙ (λ i. fresh q i && not ((ap (λ (ids : List Id). is_among ids q) c.deref-7.ensures.value ∙ found q) i)) in
    let unshown = λ (q : Id). c.remove_ids-2.ensures.members q
    ∙ (λ i. absent q i && not ((ap (λ (ids : List Id). is_among ids q) c.deref-8.ensures.value ∙ leaving q) i)) in
    let unknown = λ (q : Id). c.remove_ids-3.ensures.members q ∙ (λ i. unshown q i && not (is_among (c.deref-9.ensures.value i) q)) in
    let lacking = λ (q : Id). c.remove_held_ids.ensures.members q ∙ (λ i. unknown q i && not (h q)) in
    record {
      place = refl;
      arrived = λ q. ap (λ (ids : List Id). is_among ids q) (c.in_ok-arrived.ensures.items ∙ c.deref-10.ensures.value) ∙ arrived q
          ∙ arrived_table (a q) (n q) (m q);
      leaving = leaving;
      lacking = λ q. ap (λ (ids : List Id). is_among ids q) (c.in_ok-lacking.ensures.items ∙ c.deref-11.ensures.value) ∙ lacking q
          ∙ lacking_table (a q) (n q) (s q) (m q) (h q);
      found = found;
    }
