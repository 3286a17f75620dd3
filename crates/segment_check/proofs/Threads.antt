-- The marks of a tree, in the order of the tokens of its text.
use Rattle.std.proofs.Common.{◌≡◌, ℕ, ◌+◌, ◌<◌, Bool, false, List, [], ◌∷◌, ◌++◌}
use Rattle.std.proofs.Common.{length, map, Option, None, Some, sym, refl, ap}
use Rattle.std.proofs.Common.{◌∙◌, subst, arith, length-append}
use Rattle.std.specs.Prelude.{◌==◌, ◌&&◌, ◌||◌}
use Rattle.std.specs.List.{list_any}
use Rattle.std.specs.Option.{is_some, option_map_or}
use Rattle.std.proofs.lemmas.Bool.{eq-eqb}
use Rattle.std.proofs.lemmas.Bool.Decides.{nat_tests}
use Rattle.std.proofs.lemmas.List.Folds.{list_any-append}
use Rattle.std.proofs.Math.Bool.{or-false}
use Rattle.sty_sheet.specs.Records.{Record}
use Rattle.usfm_token.specs.Tokens.{MarkParts, Lexeme, mark, words, mark_bytes, joined, tokens_of}
use Rattle.usfm_tree.specs.Around.{Around}
use Rattle.usfm_tree.specs.Forest.{Forest, nothing, text, leaf, node, bytes_of, close_bytes}
use Rattle.usfm_tree.specs.Places.{Runs}
use Rattle.usfm_tree.specs.Reading.{tree_of}
use Rattle.usfm_tree.specs.SheetViews.{styles_in}
use Rattle.usfm_tree.proofs.LeavesLemmas.{lexemes_of, close_lexemes, tree_lexemes, bytes_joined}
use Rattle.usfm_tree.proofs.PlaceLemmas.{tree_runs}
use Rattle.segment_check.specs.Spots.{Spot, spots}
use Rattle.segment_check.specs.Sights.{sights, closing_sight, sights_of}
use Rattle.segment_check.specs.Findings.{stands_at}
use Rattle.segment_check.specs.Reading.{seen_first, seen_rest, unseen, seen_of, seen_at}
use Rattle.segment_check.specs.declared.seen.Seen.{Seen}

-- a mark of the tree begins at a place, where it is one
abbrev BeginsAt : ℕ → Option Spot → Type 0
BeginsAt n None = Unit {0}
BeginsAt n (Some x) = x.start ≡ n

-- there is one for each mark among tokens from a place on, where the mark begins
abbrev pub Thread : ℕ → List Lexeme → List (Option Spot) → Type 0
Thread n [] [] = Unit {0}
Thread n [] (x ∷ xs) = ⊥
Thread n (words t ∷ ts) xs = Thread (n + length t) ts xs
Thread n (mark m ∷ ts) [] = ⊥
Thread n (mark m ∷ ts) (x ∷ xs) = BeginsAt n x × Thread (n + length (mark_bytes m)) ts xs

thread_from : (n k : ℕ) (ts : List Lexeme) (xs : List (Option Spot)) → n ≡ k → Thread n ts xs → Thread k ts xs
thread_from n k ts xs e h = let F : ℕ → Type 0 = λ m. Thread m ts xs in subst F e h

thread-append : (n : ℕ) (ts us : List Lexeme) (xs ys : List (Option Spot)) → Thread n ts xs → Thread (n + length (joined ts)) us ys
    → Thread n (ts ++ us) (xs ++ ys)
thread-append n [] us [] ys h k = thread_from (n + 0) n us ys (omega arith) k
thread-append n [] us (x ∷ xs) ys h k = absurd h
thread-append n (words t ∷ ts) us xs ys h k =
    thread-append (n + length t) ts us xs ys h (thread_from _ _ us ys (omega (arith, length-append t (joined ts))) k)
thread-append n (mark m ∷ ts) us [] ys h k = absurd h
thread-append n (mark m ∷ ts) us (x ∷ xs) ys h k = (
  h.0,
  thread-append (n + length (mark_bytes m)) ts us xs ys h.1
      (thread_from _ _ us ys (omega (arith, length-append (mark_bytes m) (joined ts))) k),
)

close_thread : (n : ℕ) (c : Option MarkParts) (ts : List Lexeme) (xs : List (Option Spot)) → Thread (n + length (close_bytes c)) ts xs
    → Thread n (close_lexemes c ++ ts) (closing_sight c ++ xs)
close_thread n None ts xs h = thread_from (n + 0) n ts xs (omega arith) h
close_thread n (Some m) ts xs h = (tt, h)

forest_thread : (around : List Around) (n : ℕ) (f : Forest) → Runs n f → Thread n (lexemes_of f) (sights around f)
forest_thread around n nothing r = tt
forest_thread around n (text s t f) r = forest_thread around (n + length t) f r.1
forest_thread around n (leaf s m f) r = (r.0, forest_thread around (n + length (mark_bytes m)) f r.1)
forest_thread around n (node k s b m ks c f) r =
    let inner = record { kind = k; mark = m; is_closed = is_some c } ∷ around in
    let start = n + length (mark_bytes m) in
    let len : length b ≡ length (mark_bytes m) + (length (bytes_of ks) + length (close_bytes c)) = ap length r.1
    ∙ length-append (mark_bytes m) (bytes_of ks ++ close_bytes c)
    ∙ ap (λ x. length (mark_bytes m) + x) (length-append (bytes_of ks) (close_bytes c)) in
    let kids = ap length (bytes_joined ks) in (
      r.0,
      thread-append start (lexemes_of ks) (close_lexemes c ++ lexemes_of f) (sights inner ks) (closing_sight c ++ sights around f)
          (forest_thread inner start ks r.2)
          (close_thread (start + length (joined (lexemes_of ks))) c (lexemes_of f) (sights around f)
          (thread_from _ _ (lexemes_of f) (sights around f) (omega (arith, len, kids)) (forest_thread around (n + length b) f r.3))),
    )

-- the marks of a text are in the order of its tokens
pub tree_thread : (sheet : List Record) (s : List ℕ) → Thread 0 (tokens_of s) (sights_of sheet s)
unfolding sights_of
tree_thread sheet s =
    let F : List Lexeme → Type 0 = λ ts. Thread 0 ts (sights [] (tree_of (styles_in sheet) s)) in
    subst F (tree_lexemes (styles_in sheet) s) (forest_thread [] 0 (tree_of (styles_in sheet) s) (tree_runs (styles_in sheet) s))

-- ---- what is at a place

-- a mark of the tree begins at a place and passes a test
abbrev is_there : ℕ → (Spot → Bool) → Option Spot → Bool
is_there at test o = option_map_or (λ x. x.start == at && test x) o false

-- one of the marks does
abbrev pub stands_among : List (Option Spot) → ℕ → (Spot → Bool) → Bool
stands_among xs at test = list_any (is_there at test) xs

no_close : (c : Option MarkParts) (xs : List (Option Spot)) (at : ℕ) (test : Spot → Bool)
    → stands_among (closing_sight c ++ xs) at test ≡ stands_among xs at test
no_close None xs at test = refl
no_close (Some m) xs at test = refl

-- what stands among the marks of a text stands among those of its tree
pub among_is : (around : List Around) (f : Forest) (at : ℕ) (test : Spot → Bool)
    → stands_among (sights around f) at test ≡ stands_at (spots around f) at test
among_is around nothing at test = refl
among_is around (text s t f) at test = among_is around f at test
among_is around (leaf s m f) at test =
    let x : Spot = record { start = s; mark = m; node = None; is_closed = false; around = around } in
    ap (λ b. (s == at && test x) || b) (among_is around f at test)
among_is around (node k s b m ks c f) at test =
    let inner = record { kind = k; mark = m; is_closed = is_some c } ∷ around in
    let x : Spot = record { start = s; mark = m; node = Some k; is_closed = is_some c; around = around } in
    ap (λ b. (s == at && test x) || b)
    (list_any-append (is_there at test) (sights inner ks) (closing_sight c ++ sights around f)
    ∙ ap (λ b. stands_among (sights inner ks) at test || b) (no_close c (sights around f) at test)
    ∙ (λ i. among_is inner ks at test i || among_is around f at test i)
    ∙ sym (list_any-append (λ (x : Spot). x.start == at && test x) (spots inner ks) (spots around f)))

not_at : (a b : ℕ) → b < a → (a == b) ≡ false
not_at a b h = grind (arith, nat_tests)

not_before : (a b : ℕ) → a < b → (a == b) ≡ false
not_before a b h = grind (arith, nat_tests)

-- nothing stands before where the tokens begin
thread_beyond : (n p : ℕ) (ts : List Lexeme) (xs : List (Option Spot)) (test : Spot → Bool) → p < n → Thread n ts xs
    → stands_among xs p test ≡ false
thread_beyond n p [] [] test h t = refl
thread_beyond n p [] (x ∷ xs) test h t = absurd t
thread_beyond n p (words b ∷ ts) xs test h t = thread_beyond (n + length b) p ts xs test (omega arith) t
thread_beyond n p (mark m ∷ ts) [] test h t = absurd t
thread_beyond n p (mark m ∷ ts) (None ∷ xs) test h t = thread_beyond (n + length (mark_bytes m)) p ts xs test (omega arith) t.1
thread_beyond n p (mark m ∷ ts) (Some x ∷ xs) test h t =
    let is = t.0 in
    ap (λ e. (e && test x) || stands_among xs p test) (not_at x.start p (omega (arith, is)))
    ∙ thread_beyond (n + length (mark_bytes m)) p ts xs test (omega arith) t.1

-- the marks after the first
abbrev pub after_first : List (Option Spot) → List (Option Spot)
after_first [] = []
after_first (x ∷ xs) = xs

-- What a mark does: the marks after it come after it, those at later places are the same, and what is seen of the first is what is seen
-- of it.
pub record Passes (sheet : List Record) (at : ℕ) (m : MarkParts) (ts : List Lexeme) (xs : List (Option Spot)) : Type 0 where
  pub thread : Thread (at + length (mark_bytes m)) ts (after_first xs)
  pub later : (p : ℕ) (test : Spot → Bool) → at < p → stands_among xs p test ≡ stands_among (after_first xs) p test
  pub rest : seen_rest (map (seen_at sheet) xs) ≡ map (seen_at sheet) (after_first xs)
  pub first : (test : Spot → Bool) (field : Seen → Bool) → ((x : Spot) → field (seen_of sheet x) ≡ test x) → field unseen ≡ false
      → field (seen_first (map (seen_at sheet) xs)) ≡ stands_among xs at test

-- a mark is passed, with what the tree has there
pub passes : (sheet : List Record) (at : ℕ) (m : MarkParts) (ts : List Lexeme) (xs : List (Option Spot)) → 0 < length (mark_bytes m)
    → Thread at (mark m ∷ ts) xs → Passes sheet at m ts xs
passes sheet at m ts [] some t = absurd t
passes sheet at m ts (None ∷ xs) some t = record {
  thread = t.1;
  later = λ p test h. refl;
  rest = refl;
  first = λ test field is none. none ∙ sym (thread_beyond (at + length (mark_bytes m)) at ts xs test (omega (arith, some)) t.1);
}
passes sheet at m ts (Some x ∷ xs) some t =
    let here = t.0 in record {
      thread = t.1;
      later = λ p test h. ap (λ b. (b && test x) || stands_among xs p test) (not_before x.start p (omega (arith, here)));
      rest = refl;
      first = λ test field is none.
          is x ∙ sym (or-false (test x))
          ∙ ap (λ r. test x || r) (sym (thread_beyond (at + length (mark_bytes m)) at ts xs test (omega (arith, some)) t.1))
          ∙ ap (λ b. (b && test x) || stands_among xs at test) (sym (eq-eqb x.start at here));
    }
