-- The ids of edits: the next one is new, and what an edit names has smaller numbers.
use Rattle.std.proofs.Common.{◌≡◌, ℕ, Bool, true, false, not, cond, ◌||◌, List, [], ◌∷◌}
use Rattle.std.proofs.Common.{Option, Some, None, option_map, Ok, filter, map, refl, sym, ap, ◌∙◌}
use Rattle.std.specs.declared.cmp.Ordering.{Ordering}
use Rattle.std.specs.declared.cmp.Ordering.TheVariants.{Less, Equal, Greater}
use Rattle.std.specs.FinMap.Entries.{by_order}
use Rattle.std.specs.Iterator.{YieldsFirst}
use Rattle.std.specs.Option.{is_some}
use Rattle.usfm_ref.specs.Keys.{KeyParts, key_cmp}
use Rattle.usfm_ref.specs.Rising.{rising, with_item}
use Rattle.usfm_ref.specs.declared.segment.Segment.{Segment}
use Rattle.verse_cut.specs.Fits.{Fits}
use Rattle.verse_cut.specs.Reading.{text_fits}
use Rattle.verse_cut.proofs.FitLaws.{fits_is_read}
use Rattle.op_core.specs.Ids.{Id}
use Rattle.op_core.specs.Ops.{Operation}
use Rattle.op_core.specs.Export.{of_book, has_book, keys_in}
use Rattle.op_core.specs.Lists.{shown_ids, keys_of}
use Rattle.op_core.specs.NextIds.{given_ids}
use Rattle.replica_state.proofs.ChangeRuns.{all_given}
use Rattle.replica_state.specs.States.{State}
use Rattle.replica_state.specs.Edits.{own_id, first_number, next_id, edit_with, edit_by, edit_fault, edit_op, unless}
use Rattle.replica_state.specs.declared.fault.EditFault.{EditFault}
use Rattle.replica_state.specs.declared.fault.EditFault.TheVariants.{BadSegment}

-- where no fault is found before an edit, its text fits
pub may_begin : (held : List Operation) (g : Segment) (text : List ℕ) → edit_fault held g text ≡ None → Fits g.book g.key text
may_begin held g text e = (fits_is_read g.book g.key text).0 (by (text_fits g.book g.key text) _ e)
  where
    by : (b : Bool) (later : Option EditFault) → cond (not b) (Some BadSegment) later ≡ None → b ≡ true
    by true later e = refl
    by false later e = cc e

-- the operation of an edit that names all that its segment shows
pub edit_is : (s : State) (g : Segment) (text : List ℕ) (ids : List Id) (number : ℕ) → edit_fault s.held g text ≡ None
    → Some number ≡ first_number s.held 1 → ids ≡ shown_ids s.held g
    → edit_op s g text ≡ Ok (edit_with (own_id s number) g (given_ids s.held g ids) text)
edit_is s g text ids number begins given shows =
    ap (λ (r : Option EditFault). unless r (edit_by (next_id s) g (shown_ids s.held g) text)) begins
    ∙ ap (λ (f : Option ℕ). edit_by (option_map (own_id s) f) g (shown_ids s.held g) text) (sym given)
    ∙ ap (λ (named : List Id). Ok (edit_with (own_id s number) g named text))
    (sym (ap (given_ids s.held g) shows ∙ all_given (shown_ids s.held g)))

-- ---- whether a book has an operation

abbrev pub is_none_left : List KeyParts → Bool
is_none_left [] = true
is_none_left (k ∷ ks) = false

one_is_there : (k : KeyParts) (ks : List KeyParts) → is_none_left (with_item key_cmp k ks) ≡ false
one_is_there k [] = refl
one_is_there k (x ∷ ks) = by (key_cmp k x)
  where
    by : (r : Ordering) → is_none_left (by_order r (k ∷ x ∷ ks) (x ∷ ks) (x ∷ with_item key_cmp k ks)) ≡ false
    by Less = refl
    by Equal = refl
    by Greater = refl

pub book_has_keys : (held : List Operation) (book : List ℕ) → has_book held book ≡ not (is_none_left (keys_of held book))
book_has_keys [] book = refl
book_has_keys (o ∷ held) book = by (book_has_keys held book) (of_book book o)
  where
    by : has_book held book ≡ not (is_none_left (keys_of held book)) → (b : Bool)
        → (b || has_book held book) ≡ not (is_none_left (rising key_cmp
        (map (λ p. p.segment.key) (cond b (o ∷ filter (of_book book) held) (filter (of_book book) held)))))
    by rest true = ap not (sym (one_is_there o.segment.key (rising key_cmp (keys_in held book))))
    by rest false = rest

-- what a walk's first call gives
pub first_is : (s : List KeyParts) (r : Option KeyParts) (t : List KeyParts) → YieldsFirst (λ (l : List KeyParts). l) s r t
    → is_some r ≡ not (is_none_left s)
first_is s None t h = ap (λ l. not (is_none_left l)) (sym h.0)
first_is s (Some k) t h = ap (λ l. not (is_none_left l)) (sym h)
