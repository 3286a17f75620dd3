-- Each text is cut in exactly one way.
use Rattle.std.proofs.Common.{◌≡◌, ◌≢◌, ℕ, zero, suc, ◌+◌, ◌<◌, ◌≤◌, Bool, true, false, List, [], ◌∷◌, ◌++◌, length, take, drop, get_or, sym, refl, ap, ◌∙◌, subst, ⊎_elim, arith, eqb-true, eq-eqb, cond, ◌==◌, length-drop, length-append, append_assoc, take-append-drop, not, add-zero}
use Rattle.std.specs.List.{prefix_len, position_or_len, before_first}
use Rattle.std.specs.Prelude.{EachIndex}
use Rattle.std.proofs.str.Laws.{order}
use Rattle.std.proofs.lemmas.Bool.Decides.{nat_tests}
use Rattle.std.proofs.lemmas.List.{drop_at, take_at, get_or_append_left, get_or_at, get_or-take, get_or-drop}
use Rattle.std.proofs.lemmas.List.Folds.{length-prefix_len}
use Rattle.std.proofs.lemmas.List.Sums.{prefix_len_is, position_or_len_is, prefix_len_passes, prefix_len_stops, fails_before_first, passes_at_first}
use Rattle.usfm_token.specs.Tokens.{MarkParts, Lexeme, mark, words, is_name_byte, is_backslash, optional_byte, spelling, mark_bytes, slice_of, joined, IsMark, IsLongest, IsText, BeginsWithNoText, AreLexemes, after_plus, mark_after, first_lexeme, tokens_of, AreTokensOf, OneCut}
use Rattle.usfm_token.proofs.TokenLemmas.{not_true, after_plus_is, split_mark-join, split_mark-parts, tokens_of-nil, tokens_of-cons, tokens_of-mark, tokens_of-text, first_positive, text_positive, front_named}

-- A mark from its bytes.

optional_cons : (x : ℕ) (xs : List ℕ) (b : ℕ) (e : Bool) → (x == b) ≡ e → x ∷ xs ≡ optional_byte e b ++ cond e xs (x ∷ xs)
optional_cons x xs b true h = ap (λ y. y ∷ xs) (eqb-true x b h)
optional_cons x xs b false h = refl

optional_nil : (b : ℕ) (e : Bool) → 0 < b → (0 == b) ≡ e → ◌≡◌ {A = List ℕ} [] (optional_byte e b ++ cond e [] [])
optional_nil b true some h = absurd (let e : 0 ≡ b = eqb-true 0 b h in omega arith)
optional_nil b false some h = refl

-- a byte that may be at the front, and the rest
optional_front : (xs : List ℕ) (b : ℕ) → 0 < b → xs ≡ optional_byte (get_or xs 0 0 == b) b ++ cond (get_or xs 0 0 == b) (drop 1 xs) xs
optional_front [] b some = optional_nil b (0 == b) some refl
optional_front (x ∷ xs) b some = optional_cons x xs b (x == b) refl

abbrev after_name : List ℕ → List ℕ
after_name bs = drop (length (mark_after bs).name) (after_plus bs)

abbrev after_mark : List ℕ → List ℕ
after_mark bs = cond (get_or (after_name bs) 0 0 == 42) (drop 1 (after_name bs)) (after_name bs)

mark_front : (bs : List ℕ) → 92 ∷ bs ≡ mark_bytes (mark_after bs) ++ after_mark bs
mark_front bs = split_mark-join {text = 92 ∷ bs} {name_on = after_plus bs} {name = (mark_after bs).name} {after_name = after_name bs}
    {after = after_mark bs} {nested = (mark_after bs).nested} {closing = (mark_after bs).closing} (record {
      backslash = refl;
      nested_is = refl;
      plus = optional_front bs 43 (omega arith);
      name_is = refl;
      after_name_is = ap (λ n. drop n (after_plus bs)) (length-prefix_len is_name_byte (after_plus bs));
      closing_is = refl;
      star = optional_front (after_name bs) 42 (omega arith);
    })

rest_by_drop : (xs p q : List ℕ) → xs ≡ p ++ q → xs ≡ p ++ drop (length p) xs
rest_by_drop xs p q h = h ∙ ap (λ r. p ++ r) (sym (ap (drop (length p)) h ∙ drop_at p q _ refl))

-- the first token of some bytes is a front of them
pub first_front : (b : ℕ) (bs : List ℕ) (e : Bool) → (b == 92) ≡ e
    → b ∷ bs ≡ slice_of (cond e (mark (mark_after bs)) (words (before_first is_backslash (b ∷ bs))))
    ++ drop (length (slice_of (cond e (mark (mark_after bs)) (words (before_first is_backslash (b ∷ bs)))))) (b ∷ bs)
first_front b bs true h =
    rest_by_drop (b ∷ bs) (mark_bytes (mark_after bs)) (after_mark bs) (ap (λ x. x ∷ bs) (eqb-true b 92 h) ∙ mark_front bs)
first_front b bs false h = rest_by_drop (b ∷ bs) (before_first is_backslash (b ∷ bs))
    (drop (position_or_len is_backslash (b ∷ bs)) (b ∷ bs)) (sym (take-append-drop (position_or_len is_backslash (b ∷ bs)) (b ∷ bs)))

joined_in : (n : ℕ) (s : List ℕ) → length s ≤ n → joined (tokens_of s) ≡ s
joined_in n [] h = ap joined tokens_of-nil
joined_in zero (b ∷ bs) h = absurd (omega arith)
joined_in (suc n) (b ∷ bs) h =
    let k = length (slice_of (first_lexeme b bs)) in
    let some : 0 < length (slice_of (first_lexeme b bs)) = first_positive b bs (b == 92) refl in
    ap joined (tokens_of-cons b bs)
    ∙ ap (λ r. slice_of (first_lexeme b bs) ++ r) (joined_in n (drop k (b ∷ bs)) (omega (arith, length-drop k (b ∷ bs))))
    ∙ sym (first_front b bs (b == 92) refl)

-- the slices of the tokens join to the text
pub joined-tokens_of : (s : List ℕ) → joined (tokens_of s) ≡ s
joined-tokens_of s = joined_in (length s) s (omega arith)

-- A longest mark is the one that is read.

no_plus : (x : ℕ) → is_name_byte x ≡ true → (x == 43) ≡ false
no_plus x h = grind (arith, nat_tests)

-- what follows a longest mark's end begins with no byte that could go on with it
absurd_longer : (m other : MarkParts) (rest after : List ℕ) → IsLongest m rest → IsMark other
    → mark_bytes m ++ rest ≡ mark_bytes other ++ after → length (mark_bytes m) < length (mark_bytes other) → ⊥
absurd_longer m other rest after longest is same longer = omega (arith, longest other after is same)

no_names : (nested closing : Bool) → IsMark (record { nested = nested; name = []; closing = closing })
no_names nested closing k lt = absurd (omega arith)

-- without '+' and name, no '+' follows
no_plus_follows : (rest : List ℕ) → IsLongest (record { nested = false; name = []; closing = false }) rest → get_or rest 0 0 ≢ 43
no_plus_follows [] longest e = absurd (omega arith)
no_plus_follows (x ∷ rest) longest e =
    absurd_longer (record { nested = false; name = []; closing = false }) (record { nested = true; name = []; closing = false })
    (x ∷ rest) rest longest (no_names true false) (ap (λ y. 92 ∷ y ∷ rest) e) (omega arith)

-- without '*', none follows
no_star_follows : (n : Bool) (w rest : List ℕ) → IsMark (record { nested = n; name = w; closing = false })
    → IsLongest (record { nested = n; name = w; closing = false }) rest → get_or rest 0 0 ≢ 42
no_star_follows n w [] is longest e = absurd (omega arith)
no_star_follows n w (x ∷ rest) is longest e =
    absurd_longer (record { nested = n; name = w; closing = false }) (record { nested = n; name = w; closing = true })
    (x ∷ rest) rest longest is
    (ap (λ l. 92 ∷ l) (append_assoc (optional_byte n 43) (w ++ []) (x ∷ rest)
    ∙ ap (λ l. optional_byte n 43 ++ l)
    (append_assoc w [] (x ∷ rest) ∙ ap (λ y. w ++ y ∷ rest) e ∙ sym (append_assoc w (42 ∷ []) rest))
    ∙ sym (append_assoc (optional_byte n 43) (w ++ 42 ∷ []) rest)))
    (omega (
      arith,
      length-append (optional_byte n 43) (w ++ []),
      length-append (optional_byte n 43) (w ++ 42 ∷ []),
      length-append w
          (42 ∷ []),
      length-append w [],
    ))

name_more : (w : List ℕ) (x : ℕ) → EachIndex w (λ k. is_name_byte (get_or w k 0) ≡ true) → is_name_byte x ≡ true
    → EachIndex (w ++ x ∷ []) (λ k. is_name_byte (get_or (w ++ x ∷ []) k 0) ≡ true)
name_more w x is here k lt =
    ⊎_elim
    (λ below. ap is_name_byte (get_or_append_left w (x ∷ []) 0 k below) ∙ is k below)
    (λ above.
    let at : k ≡ length w = omega (arith, length-append w (x ∷ [])) in
    ap is_name_byte (get_or_at w x [] 0 k (sym at)) ∙ here)
    (order k (length w))

-- without '*', no name byte follows
no_name_follows : (n : Bool) (w : List ℕ) (x : ℕ) (rest : List ℕ) → IsMark (record { nested = n; name = w; closing = false })
    → IsLongest (record { nested = n; name = w; closing = false }) (x ∷ rest) → is_name_byte x ≢ true
no_name_follows n w x rest is longest e =
    absurd_longer (record { nested = n; name = w; closing = false }) (record { nested = n; name = w ++ x ∷ []; closing = false })
    (x ∷ rest) rest longest (name_more w x is e)
    (ap (λ l. 92 ∷ l) (append_assoc (optional_byte n 43) (w ++ []) (x ∷ rest)
    ∙ ap (λ l. optional_byte n 43 ++ l)
    (append_assoc w [] (x ∷ rest) ∙ sym (append_assoc w (x ∷ []) rest) ∙ sym (append_assoc (w ++ x ∷ []) [] rest))
    ∙ sym (append_assoc (optional_byte n 43) (w ++ x ∷ [] ++ []) rest)))
    (omega (
      arith,
      length-append (optional_byte n 43) (w ++ []),
      length-append (optional_byte n 43) (w ++ x ∷ [] ++ []),
      length-append w
          (x ∷ []),
      length-append (w ++ x ∷ []) [],
      length-append w [],
    ))

-- the parts that are read at the front of a longest mark and what follows it
nested_read : (n c : Bool) (w rest : List ℕ) → IsMark (record { nested = n; name = w; closing = c })
    → IsLongest (record { nested = n; name = w; closing = c }) rest
    → n ≡ (get_or (optional_byte n 43 ++ (w ++ (optional_byte c 42 ++ rest))) 0 0 == 43)
nested_read true c w rest is longest = refl
nested_read false c (x ∷ w) rest is longest = sym (no_plus x (is 0 (omega arith)))
nested_read false true [] rest is longest = refl
nested_read false false [] rest is longest = sym (not_true (get_or rest 0 0 == 43) (λ e. no_plus_follows rest longest (eqb-true _ _ e)))

name_stops : (n c : Bool) (w rest : List ℕ) → IsMark (record { nested = n; name = w; closing = c })
    → IsLongest (record { nested = n; name = w; closing = c }) rest → length w < length (w ++ (optional_byte c 42 ++ rest))
    → is_name_byte (get_or (w ++ (optional_byte c 42 ++ rest)) (length w) 0) ≡ false
name_stops n true w rest is longest lt = ap is_name_byte (get_or_at w 42 rest 0 (length w) refl)
name_stops n false w [] is longest lt = absurd (omega (arith, length-append w []))
name_stops n false w (x ∷ rest) is longest lt =
    ap is_name_byte (get_or_at w x rest 0 (length w) refl) ∙ not_true (is_name_byte x) (no_name_follows n w x rest is longest)

closing_read : (n c : Bool) (w rest : List ℕ) → IsMark (record { nested = n; name = w; closing = c })
    → IsLongest (record { nested = n; name = w; closing = c }) rest → c ≡ (get_or (optional_byte c 42 ++ rest) 0 0 == 42)
closing_read n true w rest is longest = refl
closing_read n false w rest is longest = sym (not_true (get_or rest 0 0 == 42) (λ e. no_star_follows n w rest is longest (eqb-true _ _ e)))

longest_read : (n c : Bool) (w rest : List ℕ) → IsMark (record { nested = n; name = w; closing = c })
    → IsLongest (record { nested = n; name = w; closing = c }) rest
    → mark_after (optional_byte n 43 ++ (w ++ (optional_byte c 42 ++ rest))) ≡ record { nested = n; name = w; closing = c }
longest_read n c w rest is longest =
    let on = w ++ (optional_byte c 42 ++ rest) in
    let all = optional_byte n 43 ++ on in
    let stops : prefix_len is_name_byte on ≡ length w =
    prefix_len_is is_name_byte on (length w) 0 (omega (arith, length-append w (optional_byte c 42 ++ rest)))
    (λ k lt. ap is_name_byte (get_or_append_left w (optional_byte c 42 ++ rest) 0 k lt) ∙ is k lt)
    (name_stops n c w rest is longest)
    in
    split_mark-parts {text = 92 ∷ all} {name_on = on} {name = w} {after_name = optional_byte c 42
    ++ rest} {after = rest} {nested = n} {closing = c} (record {
      backslash = refl;
      nested_is = nested_read n c w rest is longest;
      plus = refl;
      name_is = sym (ap (λ k. take k on) stops ∙ take_at w (optional_byte c 42 ++ rest) _ refl);
      after_name_is = sym (ap (λ k. drop k on) stops ∙ drop_at w (optional_byte c 42 ++ rest) _ refl);
      closing_is = closing_read n c w rest is longest;
      star = refl;
    })

-- Uniqueness.

-- a text, and what no text begins, is read up to its end
text_read : (t : List ℕ) (ts : List Lexeme) → EachIndex t (λ k. get_or t k 0 ≢ 92) → BeginsWithNoText ts
    → before_first is_backslash (t ++ joined ts) ≡ t
text_read t ts none begins =
    let stops : position_or_len is_backslash (t ++ joined ts) ≡ length t =
    position_or_len_is is_backslash (t ++ joined ts) (length t) 0 (omega (arith, length-append t (joined ts)))
    (λ k lt. ap is_backslash (get_or_append_left t (joined ts) 0 k lt) ∙ not_true _ (λ e. none k lt (eqb-true _ _ e)))
    (at_end ts begins)
    in
    ap (λ k. take k (t ++ joined ts)) stops ∙ take_at t (joined ts) _ refl
  where
    at_end : (ts : List Lexeme) → BeginsWithNoText ts → length t < length (t ++ joined ts)
        → is_backslash (get_or (t ++ joined ts) (length t) 0) ≡ true
    at_end [] b lt = absurd (omega (arith, length-append t []))
    at_end (mark m ∷ ts) b lt = ap is_backslash (get_or_at t 92 _ 0 (length t) refl)
    at_end (words u ∷ ts) b lt = absurd b

-- tokens are those of the text that they join to
pub one_reading : (ts : List Lexeme) → AreLexemes ts → ts ≡ tokens_of (joined ts)
one_reading [] each = sym tokens_of-nil
one_reading (mark m ∷ ts) each =
    ap (λ r. mark m ∷ r) (one_reading ts each.2)
    ∙ sym (tokens_of-mark (mark_bytes m ++ joined ts) (joined ts) m refl refl
    (sym (ap mark_after (append_assoc (optional_byte m.nested 43) (m.name ++ optional_byte m.closing 42) (joined ts)
    ∙ ap (λ l. optional_byte m.nested 43 ++ l) (append_assoc m.name (optional_byte m.closing 42) (joined ts)))
    ∙ longest_read m.nested m.closing m.name (joined ts) each.0 each.1)))
one_reading (words t ∷ ts) each =
    ap (λ r. words t ∷ r) (one_reading ts each.2)
    ∙ sym (tokens_of-text (t ++ joined ts) (joined ts) t refl (omega (arith, length-append t (joined ts), each.0.0))
    (λ e. each.0.1 0 each.0.0 (sym (get_or_append_left t (joined ts) 0 0 each.0.0) ∙ e))
    (sym (text_read t ts each.0.1 each.1)))

-- Existence.

-- the name of the mark that is read has name bytes alone
read_is_mark : (bs : List ℕ) → IsMark (mark_after bs)
read_is_mark bs = front_named (after_plus bs)

-- of what is read after a backslash and perhaps '+', a name and perhaps '*' take no more than the longest name and '*'
abbrev tail_len : List ℕ → ℕ
tail_len on = prefix_len is_name_byte on + length (optional_byte (get_or (drop (prefix_len is_name_byte on) on) 0 0 == 42) 42)

optional_le : (b : Bool) (x : ℕ) → length (optional_byte b x) ≤ 1
optional_le true x = omega arith
optional_le false x = omega arith

star_no_name : (x : ℕ) → x ≡ 42 → is_name_byte x ≡ true → ⊥
star_no_name x e h = grind (arith, nat_tests)

tail_longest : (w after : List ℕ) (c : Bool) (on : List ℕ) → on ≡ w ++ (optional_byte c 42 ++ after)
    → EachIndex w (λ k. is_name_byte (get_or w k 0) ≡ true) → length w + length (optional_byte c 42) ≤ tail_len on
tail_longest w after c on is names =
    let len = length-append w (optional_byte c 42 ++ after) in
    let P = prefix_len is_name_byte on in
    let reaches : length w ≤ prefix_len is_name_byte on =
    ⊎_elim
    (λ short.
    let stop : is_name_byte (get_or on (prefix_len is_name_byte on) 0)
    ≡ false = prefix_len_stops is_name_byte on 0 (omega (arith, ap length is)) in
    let name : is_name_byte (get_or on (prefix_len is_name_byte on) 0) ≡ true = ap (λ l. is_name_byte (get_or l P 0)) is
    ∙ ap is_name_byte (get_or_append_left w (optional_byte c 42 ++ after) 0 P short) ∙ names P short in
    absurd (cc))
    (λ enough. enough)
    (order (prefix_len is_name_byte on) (length w))
    in
    ⊎_elim
    (λ more.
    let name : is_name_byte (get_or on (length w) 0) ≡ true = prefix_len_passes is_name_byte on (length w) 0 more in
    omega (arith, shorter c is name more))
    (λ same.
    let at : prefix_len is_name_byte on ≡ length w = omega arith in
    let rest : drop (prefix_len is_name_byte on) on ≡ optional_byte c 42 ++ after = (λ i. drop (at i) (is i))
    ∙ drop_at w (optional_byte c 42 ++ after) _ refl in
    omega (arith, starred c rest))
    (order (length w) (prefix_len is_name_byte on))
  where
    shorter : (c : Bool) → on ≡ w ++ (optional_byte c 42 ++ after) → is_name_byte (get_or on (length w) 0) ≡ true
        → length w < prefix_len is_name_byte on → length w + length (optional_byte c 42) ≤ prefix_len is_name_byte on
    shorter false is name more = omega arith
    shorter true is name more = omega arith

    starred : (c : Bool) → drop (prefix_len is_name_byte on) on ≡ optional_byte c 42 ++ after
        → length (optional_byte c 42) ≤ length (optional_byte (get_or (drop (prefix_len is_name_byte on) on) 0 0 == 42) 42)
    starred false rest = omega arith
    starred true rest = omega (arith, ap (λ l. length (optional_byte (get_or l 0 0 == 42) 42)) rest)

-- the mark that is read is the longest
read_is_longest : (bs : List ℕ) → (rest : List ℕ) → 92 ∷ bs ≡ mark_bytes (mark_after bs) ++ rest → IsLongest (mark_after bs) rest
read_is_longest bs rest front other after is same =
    longest_by other.nested other.closing other.name (get_or bs 0 0 == 43) refl is (tail_of (front ∙ same))
  where
    tail_of : 92 ∷ bs ≡ mark_bytes other ++ after
        → bs ≡ optional_byte other.nested 43 ++ (other.name ++ (optional_byte other.closing 42 ++ after))
    tail_of e = ap (drop 1) e ∙ append_assoc (optional_byte other.nested 43) (other.name ++ optional_byte other.closing 42) after
        ∙ ap (λ l. optional_byte other.nested 43 ++ l) (append_assoc other.name (optional_byte other.closing 42) after)

    read_len : length (mark_bytes (mark_after bs)) ≡ 1 + length (optional_byte (get_or bs 0 0 == 43) 43) + tail_len (after_plus bs)
    read_len =
        let on = after_plus bs in
        let n = length-prefix_len is_name_byte on in
        omega (
          arith,
          n,
          length-append (optional_byte (get_or bs 0 0 == 43) 43)
              ((mark_after bs).name ++ optional_byte (mark_after bs).closing 42),
          length-append (mark_after bs).name
              (optional_byte (mark_after bs).closing 42),
          ap (λ k. length (optional_byte (get_or (drop k on) 0 0 == 42) 42)) n,
        )

    other_len : (n c : Bool) (w : List ℕ)
        → length (spelling n w c) ≡ 1 + length (optional_byte n 43) + (length w + length (optional_byte c 42))
    other_len n c w = omega (arith, length-append (optional_byte n 43) (w ++ optional_byte c 42), length-append w (optional_byte c 42))

    alone_len : (c : Bool) (w : List ℕ) → get_or (w ++ (optional_byte c 42 ++ after)) 0 0 ≡ 43
        → EachIndex w (λ k. is_name_byte (get_or w k 0) ≡ true) → length w + length (optional_byte c 42) ≡ 0
    alone_len c (x ∷ w) e names = absurd
        (let h : is_name_byte x ≡ true = names 0 (omega arith) in let k : (x == 43) ≡ false = no_plus x h in let t : (x == 43)
        ≡ true = eq-eqb x 43 e in cc)
    alone_len true [] e names = absurd (omega arith)
    alone_len false [] e names = refl

    longest_by : (n c : Bool) (w : List ℕ) (p : Bool) → (get_or bs 0 0 == 43) ≡ p → EachIndex w (λ k. is_name_byte (get_or w k 0) ≡ true)
        → bs ≡ optional_byte n 43 ++ (w ++ (optional_byte c 42 ++ after)) → length (spelling n w c) ≤ length (mark_bytes (mark_after bs))
    longest_by true c w p plus names e =
        let on : after_plus bs ≡ w
        ++ (optional_byte c 42 ++ after) = after_plus_is true bs (w ++ (optional_byte c 42 ++ after))
        (ap (λ l. true) e ∙ sym (ap (λ l. get_or l 0 0 == 43) e)) e in
        let starts : length (optional_byte (get_or bs 0 0 == 43) 43) ≡ 1 = ap (λ l. length (optional_byte (get_or l 0 0 == 43) 43)) e in
        omega (arith, read_len, other_len true c w, tail_longest w after c (after_plus bs) on names, starts)
    longest_by false c w true plus names e =
        let first : get_or (w ++ (optional_byte c 42 ++ after)) 0 0 ≡ 43 = ap (λ l. get_or l 0 0) (sym e) ∙ eqb-true _ _ plus in
        omega (arith, read_len, other_len false c w, alone_len c w first names)
    longest_by false c w false plus names e =
        let on : after_plus bs ≡ w
        ++ (optional_byte c 42 ++ after) = after_plus_is false bs (w ++ (optional_byte c 42 ++ after)) (sym plus) e in
        omega (arith, read_len, other_len false c w, tail_longest w after c (after_plus bs) on names)

text_is : (b : ℕ) (bs : List ℕ) → (b == 92) ≡ false → IsText (before_first is_backslash (b ∷ bs))
text_is b bs plain = (
  text_positive b bs plain,
  λ k lt e.
      let P = position_or_len is_backslash (b ∷ bs) in
      let below : k < position_or_len is_backslash (b ∷ bs) = omega (arith, length-prefix_len (λ x. not (is_backslash x)) (b ∷ bs)) in
      let fails : is_backslash (get_or (b ∷ bs) k 0) ≡ false = fails_before_first is_backslash (b ∷ bs) k 0 below in
      let passes : is_backslash (get_or (b ∷ bs) k 0) ≡ true = eq-eqb _ _ (sym (get_or-take P (b ∷ bs) k 0 below) ∙ e) in
      cc,
)

-- what follows a text is no text
pub after_text : (s : List ℕ) → (0 < length s → get_or s 0 0 ≡ 92) → BeginsWithNoText (tokens_of s)
after_text [] h = subst BeginsWithNoText (sym tokens_of-nil) tt
after_text (b ∷ bs) h =
    subst BeginsWithNoText (sym (tokens_of-cons b bs))
    (let is : (b == 92) ≡ true = eq-eqb _ _ (h (omega arith)) in
    subst (λ e. BeginsWithNoText
    (cond e (mark (mark_after bs)) (words (before_first is_backslash (b ∷ bs))) ∷ tokens_of
    (drop (length (slice_of (first_lexeme b bs))) (b ∷ bs)))) (sym is) tt)

-- what a text is cut into are tokens
pub each_in : (n : ℕ) (s : List ℕ) → length s ≤ n → AreLexemes (tokens_of s)
each_in n [] h = subst AreLexemes (sym tokens_of-nil) tt
each_in zero (b ∷ bs) h = absurd (omega arith)
each_in (suc n) (b ∷ bs) h =
    subst AreLexemes (sym (tokens_of-cons b bs)) (by_first (λ k fits. each_in n (drop k (b ∷ bs)) fits) (b == 92) refl)
  where
    by_first : ((k : ℕ) → length (drop k (b ∷ bs)) ≤ n → AreLexemes (tokens_of (drop k (b ∷ bs)))) → (e : Bool) → (b == 92) ≡ e
        → AreLexemes (cond e (mark (mark_after bs)) (words (before_first is_backslash (b ∷ bs))) ∷ tokens_of
        (drop (length (slice_of (cond e (mark (mark_after bs)) (words (before_first is_backslash (b ∷ bs)))))) (b ∷ bs)))
    by_first go true is =
        let k = length (mark_bytes (mark_after bs)) in
        let rest = drop k (b ∷ bs) in (
          read_is_mark bs,
          subst (IsLongest (mark_after bs)) (sym (joined-tokens_of rest))
              (read_is_longest bs rest (ap (λ x. x ∷ bs) (sym (eqb-true b 92 is)) ∙ first_front b bs true is)),
          go k (omega (arith, length-drop k (b ∷ bs))),
        )
    by_first go false is =
        let t = before_first is_backslash (b ∷ bs) in
        let k = length t in
        let some = text_positive b bs is in
        let at : length t ≡ position_or_len is_backslash (b ∷ bs) = length-prefix_len (λ x. not (is_backslash x)) (b ∷ bs) in (
          text_is b bs is,
          after_text (drop k (b ∷ bs)) (λ lt.
              let within : position_or_len is_backslash (b ∷ bs) < length (b ∷ bs) = omega (arith, length-drop k (b ∷ bs)) in
              get_or-drop k (b ∷ bs) 0 0 ∙ ap (λ i. get_or (b ∷ bs) i 0) (add-zero k ∙ at)
              ∙ eqb-true _ _ (passes_at_first is_backslash (b ∷ bs) 0 within)),
          go k (omega (arith, length-drop k (b ∷ bs))),
        )

-- each text is cut in exactly one way
pub one_cut : OneCut
one_cut ts s = (
  λ cut. one_reading ts cut.each ∙ ap tokens_of cut.join,
  λ is. record { join = ap joined is ∙ joined-tokens_of s; each = subst AreLexemes (sym is) (each_in (length s) s (omega arith)) },
)

-- the reading from the left gives what the text is cut into
pub are_tokens : (ts : List Lexeme) (s : List ℕ) → ts ≡ tokens_of s → AreTokensOf ts s
are_tokens ts s is = (one_cut ts s).1 is
