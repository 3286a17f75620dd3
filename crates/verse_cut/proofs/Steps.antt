-- What one token does to a walk over a text, and what a walk makes of a cut.
use Rattle.std.proofs.Common.{◌≡◌, ℕ, ◌+◌, ◌-◌, true, not, cond, ◌&&◌, List, [], ◌∷◌, ◌++◌, length, take, Some, sym, refl, ap, ◌∙◌, arith, append_assoc, length-append, add-zero}
use Rattle.std.proofs.lemmas.List.{append-nil, take_at}
use Rattle.usfm_ref.specs.Keys.{KeyParts, book_head}
use Rattle.usfm_token.specs.Tokens.{Lexeme, slice_of, tokens_of}
use Rattle.usfm_token.proofs.Walk.{no_tokens, token_front}
use Rattle.verse_cut.specs.Keys.{key_below}
use Rattle.verse_cut.specs.Pieces.{pieces_of}
use Rattle.verse_cut.specs.Reading.{key_of, Later, goes_on, opens_at, cut_from, pieces_with, cut_of, not_above, is_quiet}
use Rattle.verse_cut.specs.Loops.Walks.{read_of, pieces_at, GoesToEnd, OpensAt}
use Rattle.verse_cut.proofs.MarkLaws.{cut_is_read}
use Rattle.verse_cut.proofs.Quiet.{by_key, stays}

-- what was read is what lies before what is left
pub read_more : (from sofar rest : List ℕ) → from ≡ sofar ++ rest → read_of from rest ≡ sofar
read_more from sofar rest h =
    let n : length from - length rest ≡ length sofar = omega (arith, ap length h ∙ length-append sofar rest) in
    ap (take (length from - length rest)) h ∙ take_at sofar rest _ (sym n)

-- the tokens from text to here go to the open piece
pub record Goes (key : KeyParts) (text here : List ℕ) : Type 0 where
  pub join : read_of text here ++ here ≡ text
  pub quiet : is_quiet key (tokens_of text) ≡ is_quiet key (tokens_of here)
  pub cuts : (at : ℕ) → cut_from key at (tokens_of text)
      ≡ goes_on (read_of text here) (cut_from key (at + length (read_of text here)) (tokens_of here))

-- a walk begins at its text
pub goes_start : (key : KeyParts) (text : List ℕ) → Goes key text text
goes_start key text =
    let nothing : read_of text text ≡ [] = read_more text [] text refl in
    record {
      join = ap (λ r. r ++ text) nothing;
      quiet = refl;
      cuts = λ at. ap (λ a. cut_from key a (tokens_of text)) (sym (add-zero at))
          ∙ ap (λ r. goes_on r (cut_from key (at + length r) (tokens_of text))) (sym nothing);
    }

module _ (key : KeyParts) (text here after : List ℕ) (t : Lexeme) (on : Goes key text here)
    (front : tokens_of here ≡ t ∷ tokens_of after) where
  abbrev sofar : List ℕ
  sofar = read_of text here

  more : text ≡ (sofar ++ slice_of t) ++ after
  more = sym on.join ∙ ap (λ r. sofar ++ r) (token_front here after t front) ∙ sym (append_assoc sofar (slice_of t) after)

  sofar_more : read_of text after ≡ sofar ++ slice_of t
  sofar_more = read_more text (sofar ++ slice_of t) after more

  -- a token whose key is not above goes to the open piece
  pub goes_step : not_above key (key_of key.chapter t (tokens_of after)) ≡ true → Goes key text after
  goes_step low = record {
    join = ap (λ r. r ++ after) sofar_more ∙ sym more;
    quiet = on.quiet ∙ ap (is_quiet key) front ∙ ap (λ e. e && is_quiet key (tokens_of after)) low;
    cuts = λ at.
        let place : at + length sofar + length (slice_of t)
        ≡ at + length (sofar ++ slice_of t) = omega (arith, length-append sofar (slice_of t)) in
        let far : ℕ → Later = λ a. cut_from key a (tokens_of after) in
        on.cuts at
        ∙ ap (λ ts. goes_on sofar (cut_from key (at + length sofar) ts)) front
        ∙ ap (goes_on sofar) (stays key (at + length sofar) (slice_of t) (at + length sofar + length (slice_of t)) (tokens_of after)
        (key_of key.chapter t (tokens_of after)) low)
        ∙ (λ i. (sym (append_assoc sofar (slice_of t) (far (place i)).0) i, (far (place i)).1))
        ∙ ap (λ r. goes_on r (far (at + length r))) (sym sofar_more);
  }

-- at the end all of the text goes to the open piece
pub goes_end : (key : KeyParts) (text here : List ℕ) → Goes key text here → tokens_of here ≡ [] → GoesToEnd key text
goes_end key text here on none =
    let empty : here ≡ [] = no_tokens here none in
    let all : read_of text here ≡ text = sym (append-nil (read_of text here)) ∙ ap (λ r. read_of text here ++ r) (sym empty) ∙ on.join in
    record {
      is_quiet = on.quiet ∙ ap (is_quiet key) none;
      cuts = λ at.
          on.cuts at ∙ ap (λ ts. goes_on (read_of text here) (cut_from key (at + length (read_of text here)) ts)) none
          ∙ (λ i. ((append-nil (read_of text here) ∙ all) i, []));
    }

-- ---- a piece that opens

-- a mark whose key is above all before opens a piece
module _ (key found : KeyParts) (text here after : List ℕ) (t : Lexeme) (on : Goes key text here)
    (front : tokens_of here ≡ t ∷ tokens_of after) where
  here_is : here ≡ slice_of t ++ after
  here_is = token_front here after t front

  mine : read_of here after ≡ slice_of t
  mine = read_more here (slice_of t) after here_is

  opened : (a : ℕ) → key_of key.chapter t (tokens_of after) ≡ Some found → key_below key found ≡ true
      → cut_from key a (tokens_of here) ≡ ([], pieces_at found a here after)
  opened a is above =
      ap (cut_from key a) front
      ∙ ap (by_key key a (slice_of t) (a + length (slice_of t)) (tokens_of after)) is
      ∙ ap (λ e. cond e (opens_at found a (slice_of t) (cut_from found (a + length (slice_of t)) (tokens_of after)))
      (goes_on (slice_of t) (cut_from key (a + length (slice_of t)) (tokens_of after)))) above
      ∙ ap (λ r. ([], pieces_with found a r (cut_from found (a + length r) (tokens_of after)))) (sym mine)

  pub goes_open : key_of key.chapter t (tokens_of after) ≡ Some found → key_below key found ≡ true → OpensAt key text here after found
  goes_open is above = record {
    not_quiet = on.quiet ∙ ap (is_quiet key) front ∙ ap (λ o. not_above key o && is_quiet key (tokens_of after)) is
        ∙ ap (λ e. not e && is_quiet key (tokens_of after)) above;
    join = on.join;
    mark_join = ap (λ r. r ++ after) mine ∙ sym here_is;
    cuts = λ at.
        on.cuts at
        ∙ ap (goes_on (read_of text here)) (opened (at + length (read_of text here)) is above)
        ∙ (λ i. (append-nil (read_of text here) i, pieces_at found (at + length (read_of text here)) here after));
  }

-- ---- the pieces that are left

-- what stands before here, in two parts
pub read_both : (from rest here : List ℕ) → read_of from rest ++ rest ≡ from → read_of rest here ++ here ≡ rest
    → read_of from here ≡ read_of from rest ++ read_of rest here
read_both from rest here p q =
    read_more from (read_of from rest ++ read_of rest here) here
    (sym p ∙ ap (λ r. read_of from rest ++ r) (sym q) ∙ sym (append_assoc (read_of from rest) (read_of rest here) here))

-- what was read by two steps, one after the other
pub read_join : (from rest here : List ℕ) → read_of from rest ++ rest ≡ from → read_of rest here ++ here ≡ rest
    → read_of from here ++ here ≡ from
read_join from rest here p q =
    ap (λ r. r ++ here) (read_both from rest here p q)
    ∙ append_assoc (read_of from rest) (read_of rest here) here ∙ ap (λ r. read_of from rest ++ r) q ∙ p

-- at the start of a text all its pieces are ahead
pub pieces_start : (text : List ℕ) → pieces_at book_head 0 text text ≡ pieces_of text
unfolding cut_of
pieces_start text =
    ap (λ r. pieces_with book_head 0 r (cut_from book_head (0 + length r) (tokens_of text))) (read_more text [] text refl)
    ∙ cut_is_read text

-- where a mark opens a piece, the piece before it ends, and the others are ahead
pub pieces_open : (key found : KeyParts) (start : ℕ) (from rest here after text : List ℕ) → read_of from rest ++ rest ≡ from
    → OpensAt key rest here after found → text ≡ read_of from here
    → pieces_at key start from rest ≡ record { key = key; start = start; text = text } ∷ pieces_at found (start + length text) here after
pieces_open key found start from rest here after text parts opens is =
    let sofar = read_of from rest in
    let whole : read_of from rest ++ read_of rest here ≡ text = sym (is ∙ read_both from rest here parts opens.join) in
    let place : start + length (read_of from rest) + length (read_of rest here)
    ≡ start + length text = omega (arith, ap length whole, length-append (read_of from rest) (read_of rest here)) in
    ap (pieces_with key start sofar) (opens.cuts (start + length sofar))
    ∙ (λ i. record { key = key; start = start; text = whole i } ∷ pieces_at found (place i) here after)
