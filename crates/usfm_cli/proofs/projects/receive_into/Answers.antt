use Rattle.std.proofs.Common.{Err, ap}
use Rattle.std.proofs.lemmas.Result.{err_from_is_err_and}
use Rattle.usfm_cli.proofs.Loading.{loads_or_wants}
use Rattle.usfm_cli.proofs.Received.{union_refused, makes, is_after, bundle_refused, bundle_wants, joining_wants}
use Rattle.usfm_cli.specs.Commands.{with_bundle}
use Rattle.bundle_codec.specs.Joining.{whole_at}
use Rattle.usfm_cli.proofs.projects.receive_into.Goals as goal

pub returns-in_err-given-clause-memory : goal.returns-in_err-given-clause-memory
returns-in_err-given-clause-memory c = λ e s loads full.
    absurd (loads_or_wants c.args.project.now s c.in_err-given.field-0.0 loads c.in_err-given.ensures.refused
    (λ m. c.in_err-given.ensures.full s loads full (ap Err m)))

pub returns-in_err-bundle-clause-answer : goal.returns-in_err-bundle-clause-answer
returns-in_err-bundle-clause-answer c =
    let from = err_from_is_err_and c.from_residual-in_err-bundle.result c.from_residual-in_err-bundle.ensures.1 in
    rw (from.1, from.2) (λ e. bundle_refused c.args.bytes.now c.args.project.now c.in_ok-given.given c.in_err-bundle.field-0.0
    c.in_ok-given.ensures.read c.in_err-bundle.ensures.exact (λ m. e (ap Err m)))

pub returns-in_err-bundle-clause-memory : goal.returns-in_err-bundle-clause-memory
returns-in_err-bundle-clause-memory c =
    let from = err_from_is_err_and c.from_residual-in_err-bundle.result c.from_residual-in_err-bundle.ensures.1 in
    rw (from.1, from.2) (λ e s loads full. bundle_wants c.args.bytes.now (with_bundle s (whole_at c.args.bytes.now))
    c.in_err-bundle.field-0.0 c.in_err-bundle.ensures.exact (cc e))

pub returns-in_err-made-clause-answer : goal.returns-in_err-made-clause-answer
returns-in_err-made-clause-answer c =
    let from = err_from_is_err_and c.from_residual-in_err-made.result c.from_residual-in_err-made.ensures.1 in
    rw (from.1, from.2) (λ e. union_refused c.args.project.now c.args.bytes.now c.in_ok-given.given c.in_ok-bundle.bundle
    c.in_ok-given.ensures.read c.in_ok-bundle.ensures.exact c.in_err-made.field-0.0 c.in_err-made.ensures.refused
    (λ m. e (ap Err m)))

pub returns-in_err-made-clause-memory : goal.returns-in_err-made-clause-memory
returns-in_err-made-clause-memory c = λ e s loads full.
    joining_wants c.args.bytes.now s c.in_ok-bundle.bundle c.in_ok-bundle.ensures.exact

pub returns-in_err-output-clause-memory : goal.returns-in_err-output-clause-memory
returns-in_err-output-clause-memory c = λ e s loads full.
    joining_wants c.args.bytes.now s c.in_ok-bundle.bundle c.in_ok-bundle.ensures.exact

pub returns-clause-answer : goal.returns-clause-answer
returns-clause-answer c = λ _.
    makes c.args.project.now c.args.bytes.now c.in_ok-given.given c.in_ok-bundle.bundle c.in_ok-given.ensures.read
    c.in_ok-bundle.ensures.exact c.in_ok-made.new c.in_ok-made.ensures.agrees c.in_ok-made.ensures.new
    c.in_ok-output.output.items c.in_ok-output.ensures c.in_ok-made.made.items c.in_ok-made.ensures.spelled

pub returns-clause-after : goal.returns-clause-after
returns-clause-after c = λ s loads.
    is_after c.args.project.now c.args.bytes.now c.in_ok-given.given c.in_ok-bundle.bundle c.in_ok-given.ensures.read
    c.in_ok-bundle.ensures.exact c.in_ok-made.new c.in_ok-made.ensures.agrees c.in_ok-made.ensures.new
    c.in_ok-output.output.items c.in_ok-output.ensures c.in_ok-made.made.items c.in_ok-made.ensures.again s loads
