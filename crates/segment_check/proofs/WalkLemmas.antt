-- What one token does to a walk over the marks of a text.
use Rattle.std.proofs.Common.{◌≡◌, ℕ, ◌-◌, ◌+◌, ◌≤◌, List, [], ◌∷◌, ◌++◌, length, Option, None}
use Rattle.std.proofs.Common.{Some, sym, refl, ap, ◌∙◌, subst, arith, append_assoc, append-nil}
use Rattle.std.proofs.Common.{length-append}
use Rattle.std.specs.Option.{MatchOption}
use Rattle.usfm_token.specs.Tokens.{MarkParts, Lexeme, mark, words, mark_bytes, slice_of, tokens_of}
use Rattle.usfm_token.specs.View.{lexeme}
use Rattle.usfm_token.specs.declared.token.Token.{Token}
use Rattle.usfm_token.proofs.Walk.{token_front}
use Rattle.verse_cut.specs.Keys.{text_after}
use Rattle.segment_check.specs.Loops.WalkViews.{before, IsFirst}
use Rattle.segment_check.specs.Reading.{State, state_after, held_at, findings_with, found_from, found_in}
use Rattle.segment_check.specs.Reading.{start_state}
use Rattle.segment_check.specs.declared.finding.Finding.{Finding}
use Rattle.segment_check.specs.declared.seen.Seen.{Seen}

-- where the token after the first begins
pub next_place : (n : ℕ) (at rest : List ℕ) (t : Lexeme) → tokens_of at ≡ t ∷ tokens_of rest → length at ≤ n
    → n - length at + length (slice_of t) ≡ n - length rest
next_place n at rest t front within =
    let len : length at ≡ length (slice_of t) + length rest = ap length (token_front at rest t front) ∙ length-append (slice_of t) rest in
    omega (arith, len)

-- what is left after a token is no longer than what was left before it
pub still_within : (n : ℕ) (at rest : List ℕ) (t : Lexeme) → tokens_of at ≡ t ∷ tokens_of rest → length at ≤ n → length rest ≤ n
still_within n at rest t front within =
    let len : length at ≡ length (slice_of t) + length rest = ap length (token_front at rest t front) ∙ length-append (slice_of t) rest in
    omega (arith, len)

-- the tokens ahead are the next one, if there is one, and those after it
pub ahead_is : (next : Option Token) (old new : List ℕ) → MatchOption next ((tokens_of old ≡ []) × (tokens_of new ≡ []))
    (λ t. tokens_of old ≡ lexeme t ∷ tokens_of new) → tokens_of old ≡ before next (tokens_of new)
ahead_is None old new h = h.0
ahead_is (Some t) old new h = h

first_before : (next : Option Token) (ts : List Lexeme) → IsFirst next (before next ts)
first_before None ts = refl
first_before (Some t) ts = refl

-- the next token is the first of those ahead
pub first_is : (next : Option Token) (ts us : List Lexeme) → ts ≡ before next us → IsFirst next ts
first_is next ts us e = subst (IsFirst next) (sym e) (first_before next us)

-- at a mark the walk finds what the reading finds there, and goes on in the state after it
pub mark_step : (st new : State) (n n' : ℕ) (m : MarkParts) (after : List ℕ) (ts all : List Lexeme) (found more whole : List Finding)
    → all ≡ mark m ∷ ts → after ≡ text_after ts → n + length (mark_bytes m) ≡ n' → new ≡ state_after st m after
    → more ≡ found ++ findings_with (held_at st m after) n (state_after st m after).key → found ++ found_from st n all ≡ whole
    → more ++ found_from new n' ts ≡ whole
mark_step st new n n' m after ts all found more whole front is place state add h =
    let on : List ℕ → List Finding = λ a. findings_with (held_at st m a) n (state_after st m a).key in
    ap (λ l. l ++ found_from new n' ts) add
    ∙ append_assoc found (on after) (found_from new n' ts)
    ∙ ap (λ s. found ++ (on after ++ found_from s n' ts)) state
    ∙ ap (λ k. found ++ (on after ++ found_from (state_after st m after) k ts)) (sym place)
    ∙ ap (λ a. found ++ (on a ++ found_from (state_after st m a) (n + length (mark_bytes m)) ts)) is
    ∙ ap (λ l. found ++ found_from st n l) (sym front)
    ∙ h

-- at a text the walk finds nothing
pub text_step : (st : State) (n n' : ℕ) (t : List ℕ) (ts all : List Lexeme) (found whole : List Finding) → all ≡ words t ∷ ts
    → n + length t ≡ n' → found ++ found_from st n all ≡ whole → found ++ found_from st n' ts ≡ whole
text_step st n n' t ts all found whole front place h =
    ap (λ k. found ++ found_from st k ts) (sym place) ∙ ap (λ l. found ++ found_from st n l) (sym front) ∙ h

-- at the end all was found
pub end_step : (st : State) (n : ℕ) (all : List Lexeme) (found whole : List Finding) → all ≡ [] → found ++ found_from st n all ≡ whole
    → found ≡ whole
end_step st n all found whole none h = sym (append-nil found) ∙ ap (λ l. found ++ found_from st n l) (sym none) ∙ h

-- the reading of a text is the reading from its start
pub found_in-from : (seen : List Seen) (s : List ℕ) → found_in seen s ≡ found_from (start_state seen) 0 (tokens_of s)
unfolding found_in
found_in-from seen s = refl
