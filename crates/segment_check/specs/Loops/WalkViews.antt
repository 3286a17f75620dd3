-- What a contract sees of a walk over marks.
use Rattle.std.specs.Prelude.{◌≡◌, List, [], ◌∷◌, Option, None, Some}
use Rattle.usfm_token.specs.Tokens.{Lexeme}
use Rattle.usfm_token.specs.View.{lexeme}
use Rattle.usfm_token.specs.declared.token.Token.{Token}
use Rattle.segment_check.specs.Reading.{State}
use Rattle.segment_check.specs.declared.marks.Walk.{Walk}

-- where a walk is, as a state of the reading
abbrev pub state_of : Walk → State
state_of w = record { key = w.key; reach = w.reach; seen = w.seen.now }

-- the token, if there is one, before others; and else nothing
abbrev pub before : Option Token → List Lexeme → List Lexeme
before None ts = []
before (Some t) ts = lexeme t ∷ ts

-- the token is the first
abbrev pub IsFirst : Option Token → List Lexeme → Type 0
IsFirst None ts = ts ≡ []
IsFirst (Some t) [] = ⊥
IsFirst (Some t) (x ∷ ts) = lexeme t ≡ x
