use Rattle.std.proofs.Common.{List, ℕ, Ok, ap, sym, ◌∙◌, arith}
use Rattle.std.proofs.lemmas.Result.{err_from_is_err_and}
use Rattle.bundle_codec.specs.Spelling.{bundle}
use Rattle.bundle_codec.proofs.Seen.{left_fits, front_length, left_is, read_parts, is_set, is_right, is_spelled, is_only, not_refused}
use Rattle.bundle_codec.proofs.bundle.decode.Goals as goal

pub returns-in_err-bundle-clause-only : goal.returns-in_err-bundle-clause-only
returns-in_err-bundle-clause-only c =
    let p = err_from_is_err_and c.from_residual.result c.from_residual.ensures.1 in
    λ ops rest set legal is. rw (p.1, p.2)
    (not_refused c.args.bytes.now c.in_err-bundle.field-0.0 c.in_err-bundle.ensures (omega arith) ops rest set legal is)

pub overflow_sub-result : goal.overflow_sub-result
overflow_sub-result c = left_fits c.args.bytes.now (bundle c.in_ok-bundle.bundle) c.in_ok-bundle.rest.now
    (read_parts c.args.bytes.now (λ i. omega (arith, c.type_inv.bytes i)) c.in_ok-bundle.bundle c.in_ok-bundle.rest.now
    c.in_ok-bundle.ensures)

pub returns-clause-set : goal.returns-clause-set
returns-clause-set c =
    is_set c.args.bytes.now (λ i. omega (arith, c.type_inv.bytes i)) c.in_ok-bundle.bundle c.in_ok-bundle.rest.now c.in_ok-bundle.ensures

pub returns-clause-legal : goal.returns-clause-legal
returns-clause-legal c =
    is_right c.args.bytes.now (λ i. omega (arith, c.type_inv.bytes i)) c.in_ok-bundle.bundle c.in_ok-bundle.rest.now c.in_ok-bundle.ensures

pub returns-clause-spelled : goal.returns-clause-spelled
returns-clause-spelled c = is_spelled c.args.bytes.now
    (λ i. omega (arith, c.type_inv.bytes i)) c.in_ok-bundle.bundle c.in_ok-bundle.rest.now c.in_ok-bundle.ensures

pub returns-clause-only : goal.returns-clause-only
returns-clause-only c = λ ops rest set legal is. is_only c.args.bytes.now
    (λ i. omega (arith, c.type_inv.bytes i)) c.in_ok-bundle.bundle c.in_ok-bundle.rest.now c.in_ok-bundle.ensures
    (omega arith) ops rest set legal is

pub returns-clause-length : goal.returns-clause-length
returns-clause-length c = front_length c.args.bytes.now (bundle c.in_ok-bundle.bundle) c.in_ok-bundle.rest.now
    (read_parts c.args.bytes.now (λ i. omega (arith, c.type_inv.bytes i)) c.in_ok-bundle.bundle c.in_ok-bundle.rest.now
    c.in_ok-bundle.ensures)

pub returns-clause-exact : goal.returns-clause-exact
returns-clause-exact c = c.in_ok-bundle.ensures
    ∙ ap (λ (w : List ℕ). Ok (c.in_ok-bundle.bundle, w))
    (sym (left_is c.args.bytes.now (bundle c.in_ok-bundle.bundle) c.in_ok-bundle.rest.now
    (read_parts c.args.bytes.now (λ i. omega (arith, c.type_inv.bytes i)) c.in_ok-bundle.bundle c.in_ok-bundle.rest.now
    c.in_ok-bundle.ensures)))
