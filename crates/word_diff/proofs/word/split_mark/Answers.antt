use Rattle.std.proofs.Common.{◌≡◌, ℕ, List, ◌∷◌, ◌++◌, Option, None, Some, drop, get_or, sym, ap, ◌∙◌, refl, subst, arith}
use Rattle.std.specs.Prelude.{IsSome}
use Rattle.std.specs.Iterator.{YieldsFirstBy}
use Rattle.usfm_token.specs.declared.iter.TokenIter.{TokenIter}
use Rattle.usfm_token.specs.declared.token.Token.{Token}
use Rattle.usfm_token.specs.Tokens.{Lexeme, mark, mark_after, mark_bytes, slice_of, tokens_of}
use Rattle.usfm_token.specs.View.{lexeme, rest_of}
use Rattle.usfm_token.proofs.TokenLemmas.{cons_from_read, tokens_of-cons}
use Rattle.usfm_token.proofs.Walk.{token_front}
use Rattle.word_diff.proofs.word.split_mark.Goals as goal

abbrev Step : TokenIter → Option Token → TokenIter → Type 0
Step = YieldsFirstBy lexeme (λ s. tokens_of (rest_of s))

first_token : (text : List ℕ) → get_or text 0 0 ≡ 92
    → (rest : List Lexeme) × (tokens_of text ≡ mark (mark_after (drop 1 text)) ∷ rest)
first_token text at =
    (_, ap tokens_of (cons_from_read text 92 (omega arith) at) ∙ tokens_of-cons 92 (drop 1 text))

some_token : (s t : TokenIter) (r : Option Token) → get_or (rest_of s) 0 0 ≡ 92 → Step s r t → IsSome r
some_token s t None at step = absurd (let first = (first_token (rest_of s) at).1 in let none = step.0 in cc)
some_token s t (Some x) at step = refl

-- the token that is given, where a backslash is at the front, is the mark there, and the others follow it
given : (s t : TokenIter) (x : Token) (text : List ℕ) → get_or text 0 0 ≡ 92 → rest_of s ≡ text → Step s (Some x) t
    → (slice_of (lexeme x) ≡ mark_bytes (mark_after (drop 1 text))) × (text ≡ slice_of (lexeme x) ++ rest_of t)
given s t x text at is step =
    let cut : tokens_of text ≡ lexeme x ∷ tokens_of (rest_of t) = ap tokens_of (sym is) ∙ step in
    let first = (first_token text at).1 in
    let same : lexeme x ≡ mark (mark_after (drop 1 text)) = cc in
    (ap slice_of same, token_front text (rest_of t) (lexeme x) cut)

pub unwrap-mark-requires : goal.unwrap-mark-requires
unwrap-mark-requires c =
    some_token c.new-tokens.result c.next.new.self c.next.result
    (ap (λ l. get_or l 0 0) c.new-tokens.ensures ∙ c.requires) c.next.ensures.steps

pub returns-clause-word : goal.returns-clause-word
returns-clause-word c =
    let s = c.new-tokens.result in
    let t = c.next.new.self in
    let step : Step s (Some c.unwrap-mark.result) t = subst (λ (r : Option Token). Step s r t) c.unwrap-mark.ensures c.next.ensures.steps in
    c.slice.ensures ∙ (given s t c.unwrap-mark.result c.args.text.now c.requires c.new-tokens.ensures step).0

pub returns-clause-join : goal.returns-clause-join
returns-clause-join c =
    let s = c.new-tokens.result in
    let t = c.next.new.self in
    let step : Step s (Some c.unwrap-mark.result) t = subst (λ (r : Option Token). Step s r t) c.unwrap-mark.ensures c.next.ensures.steps in
    (λ i. c.slice.ensures i ++ c.rest.ensures i)
    ∙ sym (given s t c.unwrap-mark.result c.args.text.now c.requires c.new-tokens.ensures step).1
