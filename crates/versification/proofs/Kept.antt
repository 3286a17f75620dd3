-- What is kept of the lines that were read, and what the lines that are left still say.
use Rattle.std.proofs.Common.{◌≡◌, ℕ, ◌+◌, ◌<◌, ◌≤◌, Bool, true, false, cond, ◌||◌, List, [], ◌∷◌, ◌++◌, length, Option, None, Some, refl, sym, ap, ◌∙◌, arith, take, drop, length-drop}
use Rattle.std.specs.Prelude.{nat_lt}
use Rattle.std.specs.BTreeSet.{BTreeSet}
use Rattle.std.specs.List.{flat_map, position_or_len, slice_split}
use Rattle.std.specs.Option.{option_or, option_map, unwrap_or}
use Rattle.std.proofs.Math.Bool.{or-false}
use Rattle.std.proofs.lemmas.Bool.Decides.{nat_tests}
use Rattle.std.proofs.lemmas.Grind.{common_steps}
use Rattle.std.proofs.lemmas.List.{append_assoc, length-map}
use Rattle.std.proofs.lemmas.List.Splits.{length-slice_split}
use Rattle.std.proofs.lemmas.List.Sums.{count_by-le-length}
use Rattle.usfm_ref.specs.Books.{same_bytes}
use Rattle.usfm_ref.specs.declared.segment.Segment.{Segment}
use Rattle.versification.specs.Lines.{Said, line_of}
use Rattle.versification.specs.Loops.Tables.{Books, under, has, TakesBooks, TakesOut}
use Rattle.versification.specs.Versifications.{is_bad, bad_line, latest, leaves_out, book_said, verses_said, says_without, verses_by, said_in, said_of, after_feff}
use Rattle.versification.proofs.Splits.{is_feed}

-- the tables of the lines that were read, and how many they were, where others are left
pub record Keeps (all : List (Option Said)) (named : List (List ℕ)) (books : Books) (out : BTreeSet Segment) (number : ℕ)
    (left : List (Option Said)) : Type 0 where
  pub names : named ++ flat_map book_said left ≡ flat_map book_said all
  pub verses : (book : List ℕ) → option_or (latest left book) (under books book) ≡ latest all book
  pub without : (g : Segment) → (leaves_out left g || has out g) ≡ leaves_out all g
  pub bad : number + position_or_len is_bad left ≡ position_or_len is_bad all
  pub count : number + length left ≡ length all

or_assoc : {A : Type 0} (x y z : Option A) → option_or (option_or x y) z ≡ option_or x (option_or y z)
or_assoc None y z = refl
or_assoc (Some a) y z = refl

or_none : {A : Type 0} (x : Option A) → option_or x None ≡ x
or_none None = refl
or_none (Some a) = refl

append_none : {X : Type 0} (xs : List X) → xs ++ [] ≡ xs
append_none [] = refl
append_none {X} (x ∷ xs) = ap (λ (ys : List X). x ∷ ys) (append_none xs)

turn : (a b c : Bool) → (b || (a || c)) ≡ ((a || b) || c)
turn true true c = refl
turn true false c = refl
turn false true c = refl
turn false false c = refl

-- nothing is kept of no lines
pub keeps_none : (all : List (Option Said)) (named : List (List ℕ)) (books : Books) (out : BTreeSet Segment) → named ≡ []
    → books.entries ≡ [] → out.keys ≡ [] → Keeps all named books out 0 all
keeps_none all named books out no_names no_books no_out = record {
  names = ap (λ (xs : List (List ℕ)). xs ++ flat_map book_said all) no_names;
  verses = λ book.
      let none : under books book ≡ None = grind (arith, common_steps, no_books) in
      ap (option_or (latest all book)) none ∙ or_none (latest all book);
  without = λ g.
      let none : has out g ≡ false = grind (arith, common_steps, no_out) in
      ap (λ b. leaves_out all g || b) none ∙ or-false (leaves_out all g);
  bad = omega arith;
  count = omega arith;
}

-- bytes have one line more than line feeds
pub lines_within : (file : List ℕ) (n : ℕ) (b : List ℕ) → n + length (said_in b) ≡ length (said_of file) → n ≤ length file
unfolding said_of
lines_within file n b e =
    let all = length-map (slice_split is_feed (after_feff file)) line_of in
    let own = length-map (slice_split is_feed b) line_of in
    let feeds = length-slice_split is_feed (after_feff file) in
    let its = length-slice_split is_feed b in
    let few = count_by-le-length is_feed (after_feff file) in
    let front = feff_within file in
    omega (arith, e, all, own, feeds, its, few, front)
  where
    dropped : (b : Bool) → length (cond b (drop 3 file) file) ≤ length file
    dropped true = omega (arith, length-drop 3 file)
    dropped false = omega arith

    feff_within : (bytes : List ℕ) → length (after_feff file) ≤ length file
    feff_within bytes = dropped (same_bytes (take 3 file) (239 ∷ 187 ∷ 191 ∷ []))

module _ {all : List (Option Said)} {named : List (List ℕ)} {books : Books} {out : BTreeSet Segment} {number : ℕ} where
  -- a line more is kept
  pub keeps_line : (said : Said) (later : List (Option Said)) (named' : List (List ℕ)) (books' : Books) (out' : BTreeSet Segment)
      → Keeps all named books out number (Some said ∷ later) → named' ≡ named ++ book_said (Some said)
      → TakesBooks books (Some said) books' → TakesOut out (Some said) out' → Keeps all named' books' out' (number + 1) later
  keeps_line said later named' books' out' keeps more takes adds = record {
    names =
        ap (λ (xs : List (List ℕ)). xs ++ flat_map book_said later) more
        ∙ append_assoc named (book_said (Some said)) (flat_map book_said later)
        ∙ keeps.names;
    verses = λ book.
        ap (option_or (latest later book)) (takes book)
        ∙ sym (or_assoc (latest later book) (verses_said book (Some said)) (under books book))
        ∙ keeps.verses book;
    without = λ g.
        ap (λ b. leaves_out later g || b) (adds g)
        ∙ turn (says_without g (Some said)) (leaves_out later g) (has out g)
        ∙ keeps.without g;
    bad = let bad = keeps.bad in omega (arith, bad);
    count = let count = keeps.count in omega (arith, count);
  }

  -- the first line that has none of the forms
  pub stops_at : (later : List (Option Said)) → Keeps all named books out number (None ∷ later) → bad_line all ≡ Some (number + 1)
  stops_at later keeps =
      let bad = keeps.bad in
      let count = keeps.count in
      let at : position_or_len is_bad all ≡ number = omega (arith, bad) in
      let less : position_or_len is_bad all < length all = omega (arith, at, count) in
      by (position_or_len is_bad all) (length all) at less
    where
      by : (n m : ℕ) → n ≡ number → n < m → option_map (λ place. place + 1) (cond (nat_lt n m) (Some n) None) ≡ Some (number + 1)
      by n m at less = rw at (grind (arith, nat_tests, less, at))

  -- all lines have one of the forms
  pub ends : Keeps all named books out number [] → bad_line all ≡ None
  ends keeps =
      let bad = keeps.bad in
      let count = keeps.count in
      let at : position_or_len is_bad all ≡ length all = omega (arith, bad, count) in
      by (position_or_len is_bad all) (length all) at
    where
      by : (n m : ℕ) → n ≡ m → option_map (λ place. place + 1) (cond (nat_lt n m) (Some n) None) ≡ None
      by n m at = rw at (grind (arith, nat_tests))

  -- and what is kept of them is what they say together
  pub ends_with : Keeps all named books out number []
      → verses_by all ≡ record { books = named; last_verses = λ book. unwrap_or (under books book) []; leaves_out = has out }
  ends_with keeps i = record {
    books = sym (sym (append_none named) ∙ keeps.names) i;
    last_verses = λ book. unwrap_or (sym (keeps.verses book) i) [];
    leaves_out = λ g. sym (keeps.without g) i;
  }
