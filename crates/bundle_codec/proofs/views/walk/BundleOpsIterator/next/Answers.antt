use Rattle.std.proofs.Common.{false, None, ap, sym, ◌∙◌, length, arith}
use Rattle.bundle_codec.specs.Reading.{operation_at}
use Rattle.bundle_codec.proofs.Steps.{each_none, each_one, each_rest, each_next}
use Rattle.bundle_codec.proofs.views.walk.BundleOpsIterator.next.Goals as goal

pub returns-then-self-eq0-clause-steps : goal.returns-then-self-eq0-clause-steps
returns-then-self-eq0-clause-steps c =
    let e = sym c.self.view_is
    ∙ each_none (operation_at false 0 None) c.self.inside.left c.self.inside.bytes.now c.if-self-eq0.true in (e, e)

pub operation_in-operation-requires : goal.operation_in-operation-requires
operation_in-operation-requires c =
    each_one (operation_at false 0 None) c.self.inside.left c.self.inside.bytes.now c.if-self-eq0.false c.self.invariant

pub invariant_of-self : goal.invariant_of-self
invariant_of-self c = each_rest
    (operation_at false 0 None) c.self.inside.left c.self.inside.bytes.now c.if-self-eq0.false c.self.invariant _ _
    c.operation_in-operation.ensures

pub returns-clause-steps : goal.returns-clause-steps
returns-clause-steps c = sym c.self.view_is
    ∙ each_next (operation_at false 0 None) c.self.inside.left c.self.inside.bytes.now c.if-self-eq0.false c.self.invariant _ _
    c.operation_in-operation.ensures

pub returns-clause-goes : goal.returns-clause-goes
returns-clause-goes c =
    let e = sym c.self.view_is ∙ each_next (operation_at false 0 None) c.self.inside.left c.self.inside.bytes.now c.if-self-eq0.false
    c.self.invariant _ _ c.operation_in-operation.ensures in
    record { on = λ _. (tt, tt, omega (arith, ap length e)); keeps = tt; rests = λ _. tt }
