-- The place at the end of bytes never falls where more bytes follow, and rises where a character begins.
use Rattle.std.proofs.Common.{◌≡◌, ◌⊎◌, inl, inr, ℕ, ◌+◌, ◌-◌, ◌<◌, ◌≤◌, Bool, true, false, not, cond, List, [], ◌∷◌, ◌++◌, length, get_or, take, drop, refl, sym, ap, subst, ◌∙◌, arith, length-append, append_assoc, append-nil}
use Rattle.std.specs.Prelude.{filter}
use Rattle.std.specs.List.{prefix_len, suffix_len, after_last}
use Rattle.std.proofs.Math.ListN.{drop_of_length-le}
use Rattle.std.proofs.lemmas.Bool.{cond-true, cond-false}
use Rattle.std.proofs.lemmas.List.{reverse-append, drop-append-le, length_push, drop_more, length-take, get_or-take}
use Rattle.std.proofs.lemmas.List.Elements.{filter-append}
use Rattle.line_column.specs.Places.{is_line_feed, begins_character, end_of, before, place_at}
use Rattle.line_column.specs.Laws.{ComesBefore, PlacesRise}
use Rattle.line_column.specs.declared.walk.Place.{Place}
use Rattle.line_column.proofs.Ends.{before_later}

module _ (p : ℕ → Bool) (xs : List ℕ) (b : ℕ) where
  -- ---- what comes after the last that passes

  abbrev others : ℕ → Bool
  others x = not (p x)

  after_last_none : p b ≡ true → after_last p (xs ++ b ∷ []) ≡ []
  after_last_none is =
      let turned : suffix_len others (xs ++ b ∷ []) ≡ 0 =
      ap (prefix_len others) (reverse-append xs (b ∷ [])) ∙ cond-false (others b) _ 0 (ap not is) in
      drop_of_length-le (xs ++ b ∷ []) (omega (arith, turned))

  after_last_more : p b ≡ false → after_last p (xs ++ b ∷ []) ≡ after_last p xs ++ b ∷ []
  after_last_more is_not =
      let s = suffix_len others xs in
      let turned : suffix_len others (xs ++ b ∷ []) ≡ 1 + s =
      ap (prefix_len others) (reverse-append xs (b ∷ [])) ∙ cond-true (others b) _ 0 (ap not is_not) in
      let at : length (xs ++ b ∷ []) - suffix_len others (xs ++ b ∷ []) ≡ length xs - s = omega (arith, turned, length_push xs b) in
      ap (λ n. drop n (xs ++ b ∷ [])) at ∙ drop-append-le (length xs - s) xs (b ∷ []) (omega arith)

  -- ---- how many pass

  one_counted : (c : Bool) → length (cond c (b ∷ []) []) ≡ cond {A = ℕ} c 1 0
  one_counted true = refl
  one_counted false = refl

  counted : length (filter p (xs ++ b ∷ [])) ≡ length (filter p xs) + cond (p b) 1 0
  counted =
      ap length (filter-append p xs (b ∷ [])) ∙ length-append (filter p xs) (filter p (b ∷ []))
      ∙ ap (λ n. length (filter p xs) + n) (one_counted (p b))

  counted_as : (c : Bool) → p b ≡ c → length (filter p (xs ++ b ∷ [])) ≡ length (filter p xs) + cond c 1 0
  counted_as c e = counted ∙ ap (λ t. length (filter p xs) + cond t 1 0) e

-- ---- one byte more

abbrev AtMost : Place → Place → Type 0
AtMost a b = (a.line < b.line) ⊎ (a.line ≡ b.line) × (a.column ≤ b.column)

module _ (xs : List ℕ) (b : ℕ) where
  abbrev here : Place
  here = end_of xs

  abbrev next : Place
  next = end_of (xs ++ b ∷ [])

  column_is : (c : Bool) → is_line_feed b ≡ false → begins_character b ≡ c → next.column ≡ here.column + cond c 1 0
  column_is c is_not e =
      omega (
        arith,
        ap (λ cs. length (filter begins_character cs)) (after_last_more is_line_feed xs b is_not),
        counted_as begins_character (after_last is_line_feed xs) b c e,
      )

  rises : (feed begins : Bool) → is_line_feed b ≡ feed → begins_character b ≡ begins → begins ≡ true → ComesBefore here next
  rises true begins f e is = inl (omega (arith, counted_as is_line_feed xs b true f))
  rises false begins f e is = inr (omega (arith, counted_as is_line_feed xs b false f), omega (arith, column_is true f (e ∙ is)))

  stays : (feed begins : Bool) → is_line_feed b ≡ feed → begins_character b ≡ begins → AtMost here next
  stays true begins f e = inl (omega (arith, counted_as is_line_feed xs b true f))
  stays false true f e = inr (omega (arith, counted_as is_line_feed xs b false f), omega (arith, column_is true f e))
  stays false false f e = inr (omega (arith, counted_as is_line_feed xs b false f), omega (arith, column_is false f e))

-- ---- more bytes

at_most_then : (a b c : Place) → AtMost a b → AtMost b c → AtMost a c
at_most_then a b c (inl h) (inl k) = inl (omega arith)
at_most_then a b c (inl h) (inr k) = inl (omega (arith, k.0))
at_most_then a b c (inr h) (inl k) = inl (omega (arith, h.0))
at_most_then a b c (inr h) (inr k) = inr (omega (arith, h.0, k.0), omega (arith, h.1, k.1))

before_then : (a b c : Place) → ComesBefore a b → AtMost b c → ComesBefore a c
before_then a b c (inl h) (inl k) = inl (omega arith)
before_then a b c (inl h) (inr k) = inl (omega (arith, k.0))
before_then a b c (inr h) (inl k) = inl (omega (arith, h.0))
before_then a b c (inr h) (inr k) = inr (omega (arith, h.0, k.0), omega (arith, h.1, k.1))

goes_on : (xs ys : List ℕ) → AtMost (end_of xs) (end_of (xs ++ ys))
goes_on xs [] = inr (ap (λ t. (end_of t).line) (sym (append-nil xs)), omega (arith, ap (λ t. (end_of t).column) (append-nil xs)))
goes_on xs (b ∷ ys) =
    subst (λ t. AtMost (end_of xs) (end_of t)) (append_assoc xs (b ∷ []) ys)
    (at_most_then (end_of xs) (end_of (xs ++ b ∷ [])) (end_of ((xs ++ b ∷ []) ++ ys)) (stays xs b _ _ refl refl)
    (goes_on (xs ++ b ∷ []) ys))

pub places_rise : PlacesRise
places_rise text a b mark order within begins =
    let x = get_or text a 0 in
    let rest = drop (a + 1) (take b text) in
    let read : get_or (take b text) a 0 ≡ x = get_or-take b text a 0 order in
    let part : drop a (take b text) ≡ x ∷ rest =
    drop_more (take b text) a 0 (omega (arith, length-take b text)) ∙ ap (λ y. y ∷ rest) read in
    let later : before text b ≡ (before text a ++ x ∷ []) ++ rest =
    before_later text a b mark (omega arith) within ∙ ap (λ t. before text a ++ t) part
    ∙ sym (append_assoc (before text a) (x ∷ []) rest) in
    subst (λ t. ComesBefore (place_at text a) (end_of t)) (sym later)
    (before_then (place_at text a) (end_of (before text a ++ x ∷ [])) (end_of ((before text a ++ x ∷ []) ++ rest))
    (rises (before text a) x _ _ refl refl begins) (goes_on (before text a ++ x ∷ []) rest))
