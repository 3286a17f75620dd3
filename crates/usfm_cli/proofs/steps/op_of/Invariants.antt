use Rattle.std.proofs.Common.{◌≡◌, drop, map}
use Rattle.std.specs.List.{find}
use Rattle.op_core.specs.Ids.{same_id}
use Rattle.usfm_cli.proofs.steps.op_of.Given as goal

-- what is found among the operations that are left is what is found among all
abbrev pub invariant-loop-op : goal.invariant-loop-op
invariant-loop-op l =
    find (λ o. same_id o.id l.of) (map (λ op. op.now) (drop l.op-index l.ops))
    ≡ find (λ o. same_id o.id l.of) (map (λ op. op.now) l.ops)
