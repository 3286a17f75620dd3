use Rattle.std.proofs.Common.{◌≡◌, true, false, List, Ok, sym, ap, ◌∙◌}
use Rattle.std.proofs.lemmas.Result.{err_from_is_err_and}
use Rattle.op_core.specs.Ops.{Operation}
use Rattle.bundle_codec.specs.Summaries.{summary_of}
use Rattle.usfm_cli.specs.Copies.{is_like_summary}
use Rattle.usfm_cli.proofs.OtherCopies.{summary_told, summary_refused, bundle_told, bundle_wants, bundle_refused}
use Rattle.usfm_cli.proofs.copies.known_of.Goals as goal

pub returns-in_err-read : goal.returns-in_err-read
returns-in_err-read c =
    let begins : is_like_summary c.args.bytes.now ≡ true = sym c.is_like_summary.ensures ∙ c.if-is_like_summary.true in
    let from = err_from_is_err_and c.from_residual.result c.from_residual.ensures.1 in
    rw (from.1, from.2) (summary_refused c.args.bytes.now begins c.in_err-read.field-0.0 c.in_err-read.ensures.none)

pub returns-then-is_like_summary : goal.returns-then-is_like_summary
returns-then-is_like_summary c =
    let begins : is_like_summary c.args.bytes.now ≡ true = sym c.is_like_summary.ensures ∙ c.if-is_like_summary.true in
    summary_told c.args.bytes.now begins c.in_ok-read.field-0 c.in_ok-read.ensures.exact

pub returns-in_err-bundle : goal.returns-in_err-bundle
returns-in_err-bundle c =
    let begins : is_like_summary c.args.bytes.now ≡ false = sym c.is_like_summary.ensures ∙ c.if-is_like_summary.false in
    let from = err_from_is_err_and c.from_residual-in_err-bundle.result c.from_residual-in_err-bundle.ensures.1 in
    rw (from.1, from.2) (bundle_refused c.args.bytes.now begins c.in_err-bundle.field-0.0 c.in_err-bundle.ensures.exact)

pub returns-in_err-set : goal.returns-in_err-set
returns-in_err-set c =
    let begins : is_like_summary c.args.bytes.now ≡ false = sym c.is_like_summary.ensures ∙ c.if-is_like_summary.false in
    let from = err_from_is_err_and c.from_residual-in_err-set.result c.from_residual-in_err-set.ensures.1 in
    rw (from.1, from.2) (bundle_wants c.args.bytes.now begins c.in_ok-bundle.bundle c.in_ok-bundle.ensures.exact)

pub returns-in_err-of : goal.returns-in_err-of
returns-in_err-of c =
    let begins : is_like_summary c.args.bytes.now ≡ false = sym c.is_like_summary.ensures ∙ c.if-is_like_summary.false in
    let from = err_from_is_err_and c.from_residual-in_err-of.result c.from_residual-in_err-of.ensures.1 in
    rw (from.1, from.2) (bundle_wants c.args.bytes.now begins c.in_ok-bundle.bundle c.in_ok-bundle.ensures.exact)

pub returns : goal.returns
returns c =
    let begins : is_like_summary c.args.bytes.now ≡ false = sym c.is_like_summary.ensures ∙ c.if-is_like_summary.false in
    bundle_told c.args.bytes.now begins c.in_ok-bundle.bundle c.in_ok-bundle.ensures.exact
    ∙ ap (λ (ops : List Operation). Ok (summary_of ops)) (sym c.in_ok-set.ensures)
    ∙ ap Ok (sym c.in_ok-of.ensures.value)
