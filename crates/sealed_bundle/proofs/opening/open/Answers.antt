use Rattle.std.proofs.Common.{ap, arith}
use Rattle.sealed_bundle.specs.Seals.{behind}
use Rattle.sealed_bundle.proofs.Openings.{not_refused, opens, opens_sealed, opens_end, opens_only}
use Rattle.sealed_bundle.proofs.opening.open.Goals as goal

pub returns-in_err-header-clause-only : goal.returns-in_err-header-clause-only
returns-in_err-header-clause-only c =
    λ bundle is. absurd (not_refused c.args.bytes.now c.in_err-header.field-0.0 (omega arith) (ap behind c.in_err-header.ensures) bundle is)

pub returns-clause-exact : goal.returns-clause-exact
returns-clause-exact c = opens c.args.bytes.now (c.in_ok-header.header.now, c.in_ok-header.bundle.now) c.stated_length.result
    c.stated_digest.result.now c.judge.result c.in_ok-header.ensures c.stated_length.ensures c.stated_digest.ensures c.judge.ensures

pub returns-clause-sealed : goal.returns-clause-sealed
returns-clause-sealed c = opens_sealed c.args.bytes.now c.judge.result (λ i. omega (arith, c.type_inv.bytes i)) (returns-clause-exact c)

pub returns-clause-place : goal.returns-clause-place
returns-clause-place c = opens_end c.args.bytes.now c.judge.result (λ i. omega (arith, c.type_inv.bytes i)) (returns-clause-exact c)

pub returns-clause-only : goal.returns-clause-only
returns-clause-only c = opens_only c.args.bytes.now c.judge.result (omega arith) (returns-clause-exact c)
