use Rattle.std.proofs.Common.{arith, map}
use Rattle.std.proofs.lemmas.Bool.Decides.{nat_tests}
use Rattle.std.proofs.lemmas.List.{length-map}
use Rattle.project_status.proofs.OtherTexts.{few_agree}
use Rattle.project_status.proofs.conflicts.differ.Goals as goal

pub returns-else-ops-gt1 : goal.returns-else-ops-gt1
returns-else-ops-gt1 c =
    let few = few_agree (map (λ op. op.now) c.args.ops.now) (omega (arith, length-map c.args.ops.now (λ op. op.now), c.if-ops-gt1.false)) in
    rw few (grind (arith, nat_tests, c.if-ops-gt1.false))
