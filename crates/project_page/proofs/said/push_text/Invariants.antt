use Rattle.std.proofs.Common.{◌≡◌, ◌++◌}
use Rattle.std.specs.List.{flat_map}
use Rattle.usfm_token.specs.Tokens.{tokens_of}
use Rattle.usfm_token.specs.View.{rest_of}
use Rattle.project_page.specs.Pages.{text_said, token_said}
use Rattle.project_page.specs.Said.{said}
use Rattle.project_page.proofs.said.push_text.Given as goal

-- the tokens so far, and those that are left
abbrev pub invariant-loop-token : goal.invariant-loop-token
invariant-loop-token l =
    l.page.items ++ flat_map (token_said (said l.returns)) (tokens_of (rest_of l.token-iterator))
    ≡ l.fn.page.items ++ text_said (said l.returns) l.text
