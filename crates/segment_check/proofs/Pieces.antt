-- The piece that holds a token, as the reading of the cut goes on.
use Rattle.std.proofs.Common.{◌≡◌, ℕ, ◌+◌, ◌<◌, ◌≤◌, Bool, true, false, cond, List, [], ◌∷◌, ◌++◌, length, Option, None, Some, sym, refl, ap, ◌∙◌, subst, arith, append_assoc, append-nil, length-append}
use Rattle.std.specs.Prelude.{nat_le, nat_lt, ◌&&◌, find}
use Rattle.std.specs.Option.{option_map_or}
use Rattle.std.proofs.lemmas.Bool.Decides.{nat_tests}
use Rattle.usfm_ref.specs.Keys.{KeyParts, book_head}
use Rattle.usfm_token.specs.Tokens.{Lexeme, slice_of, tokens_of}
use Rattle.verse_cut.specs.Keys.{key_below}
use Rattle.verse_cut.specs.Pieces.{PieceParts, pieces_of}
use Rattle.verse_cut.specs.Reading.{key_of, goes_on, opens_at, cut_from, pieces_with, cut_of}
use Rattle.verse_cut.proofs.MarkLaws.{cut_is_read}
use Rattle.verse_cut.proofs.Quiet.{by_key}
use Rattle.verse_cut.specs.Places.{holds, key_at}
use Rattle.segment_check.specs.Reading.{key_then}

-- From a place on all pieces are held like the open one and the later ones: at the next token, the open piece has a key, and
-- begins no later than the place.
pub record Cuts (all : List PieceParts) (key : KeyParts) (from next : ℕ) (ts : List Lexeme) : Type 0 where
  pub start : ℕ
  pub sofar : List ℕ
  pub begun : start ≤ from
  pub here : next ≡ start + length sofar
  pub finds : (p : ℕ) → from ≤ p → find (holds p) all ≡ find (holds p) (pieces_with key start sofar (cut_from key next ts))

-- at the start of a book all its pieces are ahead
pub cuts_start : (s : List ℕ) → Cuts (pieces_of s) book_head 0 0 (tokens_of s)
unfolding cut_of
cuts_start s = record {
  start = 0;
  sofar = [];
  begun = omega arith;
  here = refl;
  finds = λ p h. ap (find (holds p)) (sym (cut_is_read s));
}

-- what holds of the pieces from a place on holds from each later one on, before the next token
pub cuts_later : (all : List PieceParts) (key : KeyParts) (from to next : ℕ) (ts : List Lexeme) → from ≤ to → Cuts all key from next ts
    → Cuts all key to next ts
cuts_later all key from to next ts h c = record {
  start = c.start;
  sofar = c.sofar;
  begun = let b = c.begun in omega arith;
  here = c.here;
  finds = λ p q. c.finds p (omega arith);
}

-- a place after a piece is not held by it
not_held : (key : KeyParts) (start p : ℕ) (text : List ℕ) → start + length text ≤ p
    → holds p (record { key = key; start = start; text = text }) ≡ false
not_held key start p text h = by (nat_le start p)
  where
    far : nat_lt p (start + length text) ≡ false
    far = grind (arith, nat_tests)

    by : (x : Bool) → x && nat_lt p (start + length text) ≡ false
    by true = far
    by false = refl

module _ (all : List PieceParts) (g : KeyParts) (at : ℕ) (t : Lexeme) (ts : List Lexeme) (c : Cuts all g at at (t ∷ ts)) where
  abbrev next : ℕ
  next = at + length (slice_of t)

  abbrev FindsBy : Option KeyParts → Type 0
  FindsBy o = (p : ℕ) → at ≤ p → find (holds p) all ≡ find (holds p) (pieces_with g c.start c.sofar (by_key g at (slice_of t) next ts o))

  stays : ((p : ℕ) → at ≤ p → find (holds p) all ≡ find (holds p)
      (pieces_with g c.start c.sofar (goes_on (slice_of t) (cut_from g next ts)))) → Cuts all g at next ts
  stays f = record {
    start = c.start;
    sofar = c.sofar ++ slice_of t;
    begun = c.begun;
    here = let e = c.here in omega (arith, e, length-append c.sofar (slice_of t));
    finds =
        λ p h. f p h ∙ ap (λ (x : List ℕ). find (holds p) (record { key = g; start = c.start; text = x } ∷ (cut_from g next ts).1))
        (sym (append_assoc c.sofar (slice_of t) (cut_from g next ts).0));
  }

  begins : (q : KeyParts) → ((p : ℕ) → at ≤ p → find (holds p) all
      ≡ find (holds p) (pieces_with g c.start c.sofar (opens_at q at (slice_of t) (cut_from q next ts)))) → Cuts all q at next ts
  begins q f = record {
    start = at;
    sofar = slice_of t;
    begun = omega arith;
    here = refl;
    finds = λ p h.
        f p h
        ∙ ap (λ b. cond b (Some (record { key = g; start = c.start; text = c.sofar ++ [] }))
        (find (holds p) (pieces_with q at (slice_of t) (cut_from q next ts))))
        (not_held g c.start p (c.sofar ++ []) (let e = c.here in let l = ap length (append-nil c.sofar) in omega (arith, e, l)));
  }

  by_option : (o : Option KeyParts) → FindsBy o → Cuts all (key_then g o) at next ts
  by_option None f = stays f
  by_option (Some q) f = by (key_below g q) refl
    where
      by : (b : Bool) → key_below g q ≡ b → Cuts all (cond (key_below g q) q g) at next ts
      by true e =
          let F : Bool → Type 0 = λ b. Cuts all (cond b q g) at next ts in
          subst F (sym e) (begins q (λ p h. f p h ∙ ap (λ b. find (holds p)
          (pieces_with g c.start c.sofar (cond b (opens_at q at (slice_of t) (cut_from q next ts))
          (goes_on (slice_of t) (cut_from g next ts))))) e))
      by false e =
          let F : Bool → Type 0 = λ b. Cuts all (cond b q g) at next ts in
          subst F (sym e) (stays (λ p h. f p h ∙ ap (λ b. find (holds p)
          (pieces_with g c.start c.sofar (cond b (opens_at q at (slice_of t) (cut_from q next ts))
          (goes_on (slice_of t) (cut_from g next ts))))) e))

  -- one token
  pub cuts_then : Cuts all (key_then g (key_of g.chapter t ts)) at next ts
  cuts_then = by_option (key_of g.chapter t ts) c.finds

-- the open piece holds the token before the next
pub key_here : (all : List PieceParts) (key : KeyParts) (at next : ℕ) (ts : List Lexeme) → at < next → Cuts all key at next ts
    → key_at all at ≡ key
key_here all key at next ts h c =
    let rest = cut_from key next ts in
    let held_by : PieceParts = record { key = key; start = c.start; text = c.sofar ++ rest.0 } in
    let low : nat_le c.start at ≡ true = is_low c.start at c.begun in
    let high : nat_lt at (c.start + length (c.sofar ++ rest.0))
    ≡ true = is_high at (c.start + length (c.sofar ++ rest.0)) (let e = c.here in omega (arith, e, length-append c.sofar rest.0)) in
    let held : holds at held_by ≡ true = ap (λ b. b && nat_lt at (c.start + length (c.sofar ++ rest.0))) low ∙ high in
    ap (λ o. option_map_or (λ (p : PieceParts). p.key) o book_head)
    (c.finds at (omega arith) ∙ ap (λ b. cond b (Some held_by) (find (holds at) rest.1)) held)
  where
    is_low : (a b : ℕ) → a ≤ b → nat_le a b ≡ true
    is_low a b h = grind (arith, nat_tests)

    is_high : (a b : ℕ) → a < b → nat_lt a b ≡ true
    is_high a b h = grind (arith, nat_tests)
