use Rattle.std.proofs.Common.{List, length, sym, ap, ◌∙◌, arith}
use Rattle.op_core.specs.Ops.{Operation}
use Rattle.op_core.specs.Sets.{clash, join}
use Rattle.op_core.proofs.Sets.Fronts.{join_none}
use Rattle.op_core.proofs.Sets.SideBySide.{clash_none}
use Rattle.op_core.proofs.set.OpSet.take_over.Goals as goal

pub returns-clause-new : goal.returns-clause-new
returns-clause-new c =
    sym (join_none c.other.inside.ops.items c.other.invariant.0.rising)
    ∙ (λ i. join (sym c.requires i) (c.other.view_is i))

pub returns-clause-count : goal.returns-clause-count
returns-clause-count c = omega (arith, ap length c.requires, ap length c.other.view_is, c.len-count.ensures)

pub returns-clause-agrees : goal.returns-clause-agrees
returns-clause-agrees c =
    ap (λ (held : List Operation). clash held c.args.other) c.requires ∙ clash_none c.args.other
