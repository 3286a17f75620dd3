use Rattle.std.proofs.Common.{◌≡◌, true, List, refl, sym, ap, ◌∙◌}
use Rattle.std.proofs.lemmas.Result.{err_from_is_err_and}
use Rattle.segment_history.specs.ChangeLines.{changes_text}
use Rattle.segment_history.specs.Changes.{ChangedParts}
use Rattle.segment_history.specs.Naming.{has_books}
use Rattle.usfm_cli.proofs.LookingBack.{changes_unknown, changes_told}
use Rattle.usfm_cli.proofs.history.changes_since.Goals as goal

pub returns-in_err-known-clause-answer : goal.returns-in_err-known-clause-answer
returns-in_err-known-clause-answer c =
    let has : has_books c.args.held.now c.args.names.now ≡ true = sym c.has_books.ensures ∙ c.if-not-has_books.false in
    let from = err_from_is_err_and c.from_residual.result c.from_residual.ensures.1 in
    rw (from.1, from.2) (λ other. changes_unknown c.args.since.now c.args.names.now c.args.texts c.args.held.now has
    c.in_err-known.field-0.0 (c.in_err-known.ensures other))

pub returns-clause-answer : goal.returns-clause-answer
returns-clause-answer c = λ other.
    let has : has_books c.args.held.now c.args.names.now ≡ true = sym c.has_books.ensures ∙ c.if-not-has_books.false in
    changes_told c.args.since.now c.args.names.now c.args.texts c.args.held.now has c.in_ok-known.known
    c.in_ok-changes_text.field-0.items (c.in_ok-known.ensures refl)
    (c.in_ok-changes_text.ensures
    ∙ ap (λ (changes : List ChangedParts). changes_text c.args.texts changes) (c.deref.ensures.value ∙ c.in_ok-changes.ensures))
