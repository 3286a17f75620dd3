use Rattle.std.proofs.Common.{◌∙◌, ◌∷◌, sym, ap}
use Rattle.usfm_token.specs.Tokens.{tokens_of}
use Rattle.usfm_token.specs.View.{lexeme}
use Rattle.verse_cut.proofs.walk.Walk.step.Goals as goal

pub returns : goal.returns
returns c =
    let token = lexeme c.in_ok-token.token in
    record {
      token = token;
      front =
          ap tokens_of (sym c.new-tokens.ensures) ∙ c.in_ok-token.ensures.steps ∙ ap (λ r. token ∷ tokens_of r) (sym c.rest-self.ensures);
      key_is = c.key_of.ensures;
    }
