use Rattle.std.proofs.Common.{◌≡◌, true, List, sym, ap, subst, ◌∙◌}
use Rattle.std.specs.BTreeMap.{values}
use Rattle.std.specs.Map.{values_of}
use Rattle.op_core.specs.Ops.{Operation}
use Rattle.op_core.specs.Sets.{IsOpSet, put}
use Rattle.op_core.specs.Thinned.{is_legal}
use Rattle.replica_state.specs.Loops.Gathering.{by_id}
use Rattle.replica_state.proofs.Gathered.{IsGathering, goes_on, gathered, without_clash, gathered_legal, unpaired}
use Rattle.replica_state.proofs.gathering.Gathering.receive.Goals as goal

pub loop-view-preserved : goal.loop-view-preserved
loop-view-preserved c =
    let now = values c.loop-view.ops in
    let entries = c.in_ok-hold.ensures.ok in
    let is = ap values_of entries ∙ unpaired (put c.in-Some.view now) in (
      entries ∙ ap by_id (sym is),
      subst (λ (ops : List Operation). IsGathering c.args.self c.args.bundle.now ops c.next.new.self) (sym is)
          (goes_on c.args.self c.args.bundle.now now c.loop-view.view-iterator c.next.new.self c.in-Some.view c.loop-view.invariant.1
          c.in-Some.ensures.steps c.in_ok-hold.ensures.valid c.in_ok-hold.ensures.agrees),
    )

pub invariant_of-result : goal.invariant_of-result
invariant_of-result c =
    let now = values c.loop-view.ops in
    let walk = c.loop-view.view-iterator in
    let k = c.loop-view.invariant.1 in
    let set : IsOpSet c.args.self = subst IsOpSet c.self.view_is c.self.invariant.1 in
    let legal : is_legal c.args.self ≡ true = subst (λ (ops : List Operation). is_legal ops ≡ true) c.self.view_is c.self.invariant.2 in
    let none = without_clash c.args.self c.args.bundle.now now walk k c.in-None.ensures.steps.0 in (
      c.loop-view.invariant.0,
      k.set,
      ap is_legal (gathered c.args.self c.args.bundle.now now walk k c.in-None.ensures.steps.0)
          ∙ gathered_legal c.args.self c.args.bundle.now set c.ops-view-items.ensures.set none legal c.ops-view-items.ensures.legal,
    )
