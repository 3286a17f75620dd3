use Rattle.std.proofs.Common.{◌≡◌, true, refl, sym, ◌∙◌}
use Rattle.std.proofs.lemmas.Result.{err_from_is_err_and}
use Rattle.segment_history.specs.Naming.{has_books}
use Rattle.usfm_cli.proofs.LookingBack.{since_unknown, since_told, since_refused}
use Rattle.usfm_cli.proofs.restoring.restored_in.Goals as goal

pub returns-in_err-known : goal.returns-in_err-known
returns-in_err-known c =
    let has : has_books c.args.held.now c.args.names.now ≡ true = sym c.has_books.ensures ∙ c.if-not-has_books.false in
    let from = err_from_is_err_and c.from_residual.result c.from_residual.ensures.1 in
    rw (from.1, from.2) (λ other. since_unknown c.args.since.now c.args.names.now c.args.held.now has
    c.in_err-known.field-0.0 (c.in_err-known.ensures other))

pub returns-in_err-restored_since : goal.returns-in_err-restored_since
returns-in_err-restored_since c =
    let has : has_books c.args.held.now c.args.names.now ≡ true = sym c.has_books.ensures ∙ c.if-not-has_books.false in
    let from = err_from_is_err_and c.from_residual-in_err-restored_since.result c.from_residual-in_err-restored_since.ensures.1 in
    rw (from.1, from.2) (since_refused c.args.since.now c.args.names.now c.args.held.now has c.in_ok-known.known
    (c.in_ok-known.ensures refl) c.deref.result.now (c.deref.ensures.value ∙ c.in_ok-segments.ensures)
    c.in_err-restored_since.field-0.0 c.in_err-restored_since.ensures.refused)

pub returns : goal.returns
returns c = λ other.
    let has : has_books c.args.held.now c.args.names.now ≡ true = sym c.has_books.ensures ∙ c.if-not-has_books.false in
    since_told c.args.since.now c.args.names.now c.args.held.now has c.in_ok-known.known (c.in_ok-known.ensures refl)
    c.deref.result.now (c.deref.ensures.value ∙ c.in_ok-segments.ensures)
    c.in_ok-restored_since.field-0.items c.in_ok-restored_since.ensures.edits c.in_ok-restored_since.ensures.there
