-- What a walk over the tokens of a text knows at each step.
use Rattle.std.proofs.Common.{◌≡◌, ℕ, ◌-◌, ◌<◌, ◌≤◌, List, [], ◌∷◌, ◌++◌, length, IsUtf8, sym, refl, ap, ◌∙◌, subst, arith, length-append}
use Rattle.std.specs.Str.{IsCharBoundary}
use Rattle.std.proofs.lemmas.Str.{IsCharBoundary-at_seam}
use Rattle.usfm_token.specs.Tokens.{Lexeme, mark, words, slice_of, joined, BeginsMark, BeginsWithNoText, AreLexemes, tokens_of}
use Rattle.usfm_token.proofs.TokenLaws.{joined-tokens_of, are_tokens}

-- the tokens of a text are longest marks, and texts that are no neighbours
pub each-tokens_of : (s : List ℕ) → AreLexemes (tokens_of s)
each-tokens_of s = (are_tokens (tokens_of s) s refl).each

-- no token is empty
pub first_not_empty : (t : Lexeme) (ts : List Lexeme) → AreLexemes (t ∷ ts) → 0 < length (slice_of t)
first_not_empty (mark m) ts h = omega arith
first_not_empty (words w) ts h = h.0.0

-- the lexemes after the first are lexemes too
pub each_tail : (t : Lexeme) (ts : List Lexeme) → AreLexemes (t ∷ ts) → AreLexemes ts
each_tail (mark m) ts h = h.2
each_tail (words w) ts h = h.2

count_within : (ts : List Lexeme) → AreLexemes ts → length ts ≤ length (joined ts)
count_within [] h = omega arith
count_within (t ∷ ts) h =
    omega (arith, first_not_empty t ts h, count_within ts (each_tail t ts h), length-append (slice_of t) (joined ts))

-- there are no more tokens than bytes
pub length-tokens_of : (s : List ℕ) → length (tokens_of s) ≤ length s
length-tokens_of s = omega (arith, count_within (tokens_of s) (each-tokens_of s), ap length (joined-tokens_of s))

-- only the empty text has no tokens
pub no_tokens : (s : List ℕ) → tokens_of s ≡ [] → s ≡ []
no_tokens s h = sym (joined-tokens_of s) ∙ ap joined h

-- the first token's slice is at the front
pub token_front : (rest after : List ℕ) (t : Lexeme) → tokens_of rest ≡ t ∷ tokens_of after → rest ≡ slice_of t ++ after
token_front rest after t h = sym (joined-tokens_of rest) ∙ ap joined h ∙ ap (λ r. slice_of t ++ r) (joined-tokens_of after)

-- and what follows it is shorter
pub token_shorter : (rest after : List ℕ) (t : Lexeme) → tokens_of rest ≡ t ∷ tokens_of after → length after < length rest
token_shorter rest after t h =
    let each : AreLexemes (t ∷ tokens_of after) = subst AreLexemes h (each-tokens_of rest) in
    omega (arith, first_not_empty t (tokens_of after) each, ap length (token_front rest after t h), length-append (slice_of t) after)

-- what begins with no text is empty, or has a backslash at its front
pub begins_mark : (ts : List Lexeme) → BeginsWithNoText ts → BeginsMark (joined ts)
begins_mark [] h some = absurd (omega arith)
begins_mark (mark m ∷ ts) h some = refl
begins_mark (words w ∷ ts) h some = absurd h

-- a text may be cut where what is left begins
pub boundary_at_rest : (from sofar rest : List ℕ) → from ≡ sofar ++ rest → IsUtf8 rest → IsCharBoundary from (length from - length rest)
boundary_at_rest from sofar rest parts utf8 =
    let place : length sofar ≡ length from - length rest = omega (arith, ap length parts, length-append sofar rest) in
    subst (IsCharBoundary from) place (IsCharBoundary-at_seam from sofar rest parts utf8)
