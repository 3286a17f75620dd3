-- Where the tokens of a text lie in it, and what a mark's bytes say of its parts.
use Rattle.std.proofs.Common.{◌≡◌, ◌+◌, ◌-◌, [], ◌∷◌, ◌++◌, length, take, drop, sym, refl, ap, ◌∙◌, arith, length-append}
use Rattle.std.proofs.lemmas.List.{drop_at, take_at, append-nil}
use Rattle.usfm_token.specs.Tokens.{MarkParts, mark, mark_bytes, slice_of, joined, IsMark, tokens_of, TokensLie, OneSpelling}
use Rattle.usfm_token.proofs.TokenLaws.{joined-tokens_of, one_reading}
use Rattle.usfm_token.proofs.Seam.{joined-append}

-- each token is the bytes from the place on where the tokens before it end
pub tokens_lie : TokensLie
tokens_lie s before t after h =
    let place = length (joined before) in
    let parts : s ≡ joined before ++ (slice_of t ++ joined after) =
    sym (joined-tokens_of s) ∙ ap joined h ∙ joined-append before (t ∷ after) in
    let dropped : drop place s ≡ slice_of t ++ joined after = ap (drop place) parts
    ∙ drop_at (joined before) (slice_of t ++ joined after) _ refl in
    ap (λ l. take (place + length (slice_of t) - place) l) dropped ∙ take_at (slice_of t) (joined after) _ (omega arith)

-- a mark alone is what its bytes are cut into
alone : (m : MarkParts) → IsMark m → mark m ∷ [] ≡ tokens_of (mark_bytes m)
alone m is =
    one_reading (mark m ∷ [])
    (is, (λ other after _ same. omega (arith, ap length same, length-append (mark_bytes m) [], length-append (mark_bytes other) after)), tt)
    ∙ ap tokens_of (append-nil (mark_bytes m))

-- marks with the same bytes have the same parts
pub one_spelling : OneSpelling
one_spelling m other is other_is same =
    let cut : mark m ∷ [] ≡ mark other ∷ [] = alone m is ∙ ap tokens_of same ∙ sym (alone other other_is) in
    cc
