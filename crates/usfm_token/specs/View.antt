-- What a contract sees of a token: its parts, and not where they lie in memory.
use Rattle.std.specs.Prelude.{ℕ, List, map}
use Rattle.usfm_token.specs.Tokens.{MarkParts, Lexeme, mark, words}
use Rattle.usfm_token.specs.declared.fault.TokenFault.{TokenFault}
use Rattle.usfm_token.specs.declared.fault.TokenFault.TheVariants.{NotUtf8}
use Rattle.usfm_token.specs.declared.iter.TokenIter.{TokenIter}
use Rattle.usfm_token.specs.declared.mark.Mark.{Mark}
use Rattle.usfm_token.specs.declared.token.Token.{Token}
use Rattle.usfm_token.specs.declared.token.Token.TheVariants as token

-- the parts of a mark
abbrev pub mark_parts : Mark → MarkParts
mark_parts m = record { nested = m.nested; name = m.name.now; closing = m.closing }

-- a token: a mark by its parts, or a text by its bytes
abbrev pub lexeme : Token → Lexeme
lexeme (token.Mark m) = mark (mark_parts m)
lexeme (token.Text t) = words t.now

-- tokens, each as the parts of a mark or the bytes of a text
abbrev pub lexemes : List Token → List Lexeme
lexemes ts = map lexeme ts

-- the text that an iterator has left
abbrev pub rest_of : TokenIter → List ℕ
rest_of s = s.rest.now

-- the length of the longest front that is UTF-8
abbrev pub valid_of : TokenFault → ℕ
valid_of (NotUtf8 valid) = valid
