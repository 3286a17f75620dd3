use Rattle.std.proofs.Common.{List, ℕ, [], ◌++◌, drop, refl, ap, sym, ◌∙◌}
use Rattle.std.proofs.lemmas.List.{append-nil, take-append-drop}
use Rattle.std.proofs.lemmas.Result.{err_from_is_err_and}
use Rattle.bundle_codec.specs.declared.fault.WholeFault.TheVariants.{Bundle}
use Rattle.bundle_codec.specs.Spelling.{bundle}
use Rattle.bundle_codec.specs.Joining.{whole_if}
use Rattle.bundle_codec.proofs.Wholes.{trails, some_left, not_whole, not_left}
use Rattle.bundle_codec.proofs.bundle.whole.decode_whole.Goals as goal

pub returns-in_err-bundle-clause-followed : goal.returns-in_err-bundle-clause-followed
returns-in_err-bundle-clause-followed c =
    let p = err_from_is_err_and c.from_residual.result c.from_residual.ensures.1 in
    rw (p.1, p.2) (λ e. absurd cc)

pub returns-in_err-bundle-clause-only : goal.returns-in_err-bundle-clause-only
returns-in_err-bundle-clause-only c =
    let p = err_from_is_err_and c.from_residual.result c.from_residual.ensures.1 in
    λ ops set legal is.
    let f = c.in_err-bundle.ensures.only ops [] set legal (is ∙ sym (append-nil (bundle ops))) in
    rw (p.1, p.2) (ap Bundle f.0, f.1)

pub returns-in_err-bundle-clause-trailing : goal.returns-in_err-bundle-clause-trailing
returns-in_err-bundle-clause-trailing c =
    let p = err_from_is_err_and c.from_residual.result c.from_residual.ensures.1 in
    λ more.
    let f = c.in_err-bundle.ensures.only more.ops more.rest more.set more.legal more.spelled in
    rw (p.1, p.2) (λ _. (ap Bundle f.0, f.1))

pub returns-in_err-bundle-clause-exact : goal.returns-in_err-bundle-clause-exact
returns-in_err-bundle-clause-exact c =
    let p = err_from_is_err_and c.from_residual.result c.from_residual.ensures.1 in
    rw (p.1, p.2) c.in_err-bundle.ensures.exact

pub returns-then-length-bytes-clause-only : goal.returns-then-length-bytes-clause-only
returns-then-length-bytes-clause-only c =
    λ ops set legal is. absurd (not_whole c.args.bytes.now c.in_ok-bundle.bundle ops c.in_ok-bundle.length
    c.if-length-bytes.true c.in_ok-bundle.ensures.length is
    (c.in_ok-bundle.ensures.only ops [] set legal (is ∙ sym (append-nil (bundle ops)))))

pub returns-then-length-bytes-clause-followed : goal.returns-then-length-bytes-clause-followed
returns-then-length-bytes-clause-followed c = λ _. record {
  ops = c.in_ok-bundle.bundle;
  rest = drop c.in_ok-bundle.length c.args.bytes.now;
  set = c.in_ok-bundle.ensures.set;
  legal = c.in_ok-bundle.ensures.legal;
  some = some_left c.args.bytes.now c.in_ok-bundle.length c.if-length-bytes.true;
  spelled = sym (take-append-drop c.in_ok-bundle.length c.args.bytes.now)
      ∙ ap (λ (w : List ℕ). w ++ drop c.in_ok-bundle.length c.args.bytes.now) c.in_ok-bundle.ensures.spelled;
}

pub returns-then-length-bytes-clause-trailing : goal.returns-then-length-bytes-clause-trailing
returns-then-length-bytes-clause-trailing c = λ more ne. absurd (ne refl)

pub returns-then-length-bytes-clause-exact : goal.returns-then-length-bytes-clause-exact
returns-then-length-bytes-clause-exact c =
    ap whole_if c.in_ok-bundle.ensures.exact
    ∙ trails c.in_ok-bundle.bundle (drop c.in_ok-bundle.length c.args.bytes.now)
    (some_left c.args.bytes.now c.in_ok-bundle.length c.if-length-bytes.true)

pub returns-clause-only : goal.returns-clause-only
returns-clause-only c = λ ops set legal is. c.in_ok-bundle.ensures.only ops [] set legal (is ∙ sym (append-nil (bundle ops)))

pub returns-clause-trailing : goal.returns-clause-trailing
returns-clause-trailing c = λ more. not_left c.args.bytes.now c.in_ok-bundle.bundle more c.in_ok-bundle.length
    c.if-length-bytes.false c.in_ok-bundle.ensures.length
    (c.in_ok-bundle.ensures.only more.ops more.rest more.set more.legal more.spelled)
