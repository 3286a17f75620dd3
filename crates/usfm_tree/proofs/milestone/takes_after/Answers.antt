use Rattle.std.proofs.Common.{◌≡◌, ◌∷◌, ◌∙◌, ap, sym}
use Rattle.usfm_token.specs.Tokens.{tokens_of, mark}
use Rattle.usfm_token.specs.View.{mark_parts, lexeme, rest_of}
use Rattle.usfm_tree.proofs.TakenLemmas.{outcome_text_bare}
use Rattle.usfm_tree.proofs.milestone.takes_after.Goals as goal

pub returns-then-is_bare : goal.returns-then-is_bare
returns-then-is_bare c =
    let m = mark_parts c.in-Some-Mark.close in
    let front : tokens_of c.args.after_text.now ≡ mark m ∷ tokens_of c.rest.result.now =
    ap tokens_of (sym c.new-tokens.ensures) ∙ c.in-Some-Mark.ensures.steps
    ∙ ap (λ x. lexeme x ∷ tokens_of (rest_of c.next.new.self)) c.in-Some-Mark.field-0-is
    ∙ ap (λ l. mark m ∷ tokens_of l) (sym c.rest.ensures)
    in
    outcome_text_bare c.args.rest.now c.args.after_text.now c.rest.result.now c.args.text.now m c.requires front
    (sym c.is_bare.ensures ∙ c.if-is_bare.true)
