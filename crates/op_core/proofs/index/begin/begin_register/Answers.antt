use Rattle.std.proofs.Common.{◌&&◌, not, ap, ◌∙◌, List}
use Rattle.op_core.specs.Ids.{Id, ids_rise}
use Rattle.op_core.specs.NextIds.{is_among}
use Rattle.op_core.proofs.index.begin.begin_register.Goals as goal

pub returns-clause-begun : goal.returns-clause-begun
returns-clause-begun c =
    let comes_is = λ (q : Id). ap (λ (ids : List Id). is_among ids q) c.deref.ensures.value ∙ c.in_ok-gather_arrived.ensures.members q in
    let called_is = λ (q : Id). ap (λ (ids : List Id). is_among ids q) c.deref-2.ensures.value ∙ c.in_ok-gather_named.ensures.members q in
    let shown = c.in_ok-shown.ensures.items ∙ c.deref-3.ensures.value in
    let missing = c.in_ok-missing.ensures.items ∙ c.deref-4.ensures.value in
    record {
      shown_rises = ap ids_rise shown ∙ c.in_ok-part_ids.ensures.ids_rise;
      shown = λ q. ap (λ (ids : List Id). is_among ids q) shown ∙ c.in_ok-part_ids.ensures.ids q
          ∙ (λ i. comes_is q i && not (called_is q i));
      missing_rises = ap ids_rise missing ∙ c.in_ok-part_ids.ensures.others_rise;
      missing = λ q. ap (λ (ids : List Id). is_among ids q) missing ∙ c.in_ok-part_ids.ensures.others q
          ∙ (λ i. called_is q i && not (comes_is q i));
    }
