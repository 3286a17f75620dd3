use Rattle.std.proofs.Common.{◌≡◌, true, List, sym, subst, ◌∙◌}
use Rattle.op_core.specs.Ops.{Operation}
use Rattle.op_core.specs.Sets.{rises}
use Rattle.segment_history.proofs.Gathers.{found_ops}
use Rattle.segment_history.proofs.history.history_in.Goals as goal

pub entries_of-requires : goal.entries_of-requires
entries_of-requires c =
    subst (λ (ops : List Operation). rises ops ≡ true)
    (found_ops c.args.gathered.now c.args.segment c.in-Some.ops.now c.in-Some.ensures.value ∙ sym c.deref.ensures.value) c.requires
