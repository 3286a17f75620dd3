-- The operations that an edit of a book is made from stand for all that are held: the book is the same, and so is the greatest number.
use Rattle.std.proofs.Common.{◌≡◌, ℕ, ◌≤◌, Bool, true, false, cond, ◌==◌, ◌&&◌, ◌||◌, List, [], ◌∷◌, filter, Some, refl, sym, ap, ◌∙◌, arith}
use Rattle.std.proofs.lemmas.Bool.{and_parts, eqb-false, eqb-true, false≢true, or_left}
use Rattle.usfm_ref.specs.Books.{same_bytes}
use Rattle.usfm_ref.proofs.Orders.{same_segment-is}
use Rattle.op_core.specs.Export.{of_book}
use Rattle.op_core.specs.NextIds.{greatest_number}
use Rattle.op_core.specs.OneBook.{is_for_edit, ops_for_edit, ops_of_book}
use Rattle.op_core.specs.Ops.{Operation, IsOperation, in_segment, is_full, names}
use Rattle.op_core.specs.Sets.{IsOpSet, get}
use Rattle.op_core.specs.Thinned.{is_legal, is_past}
use Rattle.op_core.proofs.FilteredLists.{any_filter, any_weaker, filter_both, kept_each}
use Rattle.op_core.proofs.Sets.Filters.{rises-filter, filter_within, filter_passes}
use Rattle.op_core.proofs.Sets.Legal.{legal_at, legal_from}
use Rattle.op_core.proofs.Exports.Shows.{named_by_none}

absorbs : (a b : Bool) → ((a || b) && a) ≡ a
absorbs true b = refl
absorbs false true = refl
absorbs false false = refl

-- some operations have no greater number
no_greater : (p : Operation → Bool) (ops : List Operation) → greatest_number (filter p ops) ≤ greatest_number ops
no_greater p [] = omega arith
no_greater p (o ∷ ops) = by (no_greater p ops) (p o)
  where
    by : greatest_number (filter p ops) ≤ greatest_number ops → (b : Bool)
        → greatest_number (cond b (o ∷ filter p ops) (filter p ops)) ≤ greatest_number (o ∷ ops)
    by rest true = omega (arith, rest)
    by rest false = omega (arith, rest)

-- and the greatest one, where those pass that have it
has_greatest : (p : Operation → Bool) (n : ℕ) (ops : List Operation) → greatest_number ops ≤ n
    → ((o : Operation) → o.id.number ≡ n → p o ≡ true) → greatest_number ops ≡ n → greatest_number (filter p ops) ≡ n
has_greatest p n [] below passes is = is
has_greatest p n (o ∷ ops) below passes is =
    by (has_greatest p n ops (omega (arith, below)) passes) (no_greater p ops) (p o) refl
  where
    by : (greatest_number ops ≡ n → greatest_number (filter p ops) ≡ n) → greatest_number (filter p ops) ≤ greatest_number ops
        → (b : Bool) → p o ≡ b → greatest_number (cond b (o ∷ filter p ops) (filter p ops)) ≡ n
    by rest less true e = own (o.id.number == n) refl
      where
        own : (d : Bool) → (o.id.number == n) ≡ d → greatest_number (o ∷ filter p ops) ≡ n
        own true f = omega (arith, eqb-true o.id.number n f, less, below)
        own false f = let later = rest (omega (arith, eqb-false o.id.number n f, is, below)) in omega (arith, later, below)
    by rest less false e = rest (other (o.id.number == n) refl)
      where
        other : (d : Bool) → (o.id.number == n) ≡ d → greatest_number ops ≡ n
        other true f = absurd (false≢true (sym e ∙ passes o (eqb-true o.id.number n f)))
        other false f = omega (arith, eqb-false o.id.number n f, is, below)

module _ (held : List Operation) (book : List ℕ) where
  abbrev keep : Operation → Bool
  keep = is_for_edit held book

  -- of the book they are the same
  pub for_edit_of_book : ops_of_book (ops_for_edit held book) book ≡ ops_of_book held book
  for_edit_of_book =
      filter_both (of_book book) keep (of_book book) (λ o. absorbs (of_book book o) (o.id.number == greatest_number held)) held

  -- and the greatest number is
  pub for_edit_greatest : greatest_number (ops_for_edit held book) ≡ greatest_number held
  for_edit_greatest = has_greatest keep (greatest_number held) held (omega arith) passes refl
    where
      passes : (o : Operation) → o.id.number ≡ greatest_number held → keep o ≡ true
      passes o e = by (of_book book o) (o.id.number == greatest_number held) refl
        where
          by : (a b : Bool) → (o.id.number == greatest_number held) ≡ b → (a || b) ≡ true
          by true b f = refl
          by false true f = refl
          by false false f = absurd (eqb-false o.id.number (greatest_number held) f e)

  -- they are a set
  pub for_edit_set : IsOpSet held → IsOpSet (ops_for_edit held book)
  for_edit_set set = record {
    rising = rises-filter keep held set.rising;
    each = kept_each IsOperation keep held set.each;
  }

  -- and a legal one: what names an operation of the book is of the book, and none names one of the greatest number
  pub for_edit_legal : IsOpSet held → is_legal held ≡ true → is_legal (ops_for_edit held book) ≡ true
  for_edit_legal set legal = legal_from (ops_for_edit held book) (rises-filter keep held set.rising) one
    where
      one : (o : Operation) → get (ops_for_edit held book) o.id ≡ Some o → is_full o ≡ false → is_past (ops_for_edit held book) o ≡ true
      one o g n = by (of_book book o) refl (filter_passes keep held o.id o g)
        where
          past : is_past held o ≡ true
          past = legal_at held o.id o legal (filter_within keep held set.rising o.id o g) n

          beside : of_book book o ≡ true → (p : Operation) → (in_segment o.segment p && names p o.id) ≡ true
              → (keep p && (in_segment o.segment p && names p o.id)) ≡ true
          beside of p h =
              let own : of_book book p ≡ true =
              ap (λ s. same_bytes s.book book) (same_segment-is p.segment o.segment
              (and_parts (in_segment o.segment p) (names p o.id) h).0) ∙ of in
              (λ i. or_left (of_book book p) (p.id.number == greatest_number held) own i && h i)

          by : (b : Bool) → of_book book o ≡ b → (b || (o.id.number == greatest_number held)) ≡ true
              → is_past (ops_for_edit held book) o ≡ true
          by true of passes =
              any_filter (λ (p : Operation). in_segment o.segment p && names p o.id) keep held
              ∙ any_weaker (λ (p : Operation). in_segment o.segment p && names p o.id)
              (λ p. keep p && (in_segment o.segment p && names p o.id)) (beside of) held past
          by false of passes =
              let least : greatest_number held ≤ o.id.number = omega (arith, eqb-true o.id.number (greatest_number held) passes) in
              absurd (false≢true (sym (named_by_none o.segment o.id held set.each least) ∙ past))
