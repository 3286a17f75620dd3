-- What is written in a file is shown once the file was taken in.
use Rattle.std.proofs.Common.{◌≡◌, ◌<◌, ℕ, suc, Bool, true, false, ◌&&◌, ◌||◌, not, List, [], ◌∷◌, ◌++◌, Option, None, Some, refl, sym, ap, subst, ◌∙◌, arith}
use Rattle.std.specs.Cmp.{tied_itself}
use Rattle.std.specs.List.{flat_map, list_any}
use Rattle.std.specs.Ordering.{is_eq}
use Rattle.std.proofs.lemmas.Bool.{and_from, and_right, false_from_ne_true, false≢true, or_from, or_left, or_right}
use Rattle.std.proofs.lemmas.List.Folds.{list_any-append}
use Rattle.usfm_ref.specs.Books.{same_bytes}
use Rattle.usfm_ref.specs.Keys.{KeyParts, key_cmp, same_key}
use Rattle.usfm_ref.specs.Segments.{segment}
use Rattle.usfm_ref.specs.declared.segment.Segment.{Segment}
use Rattle.usfm_ref.proofs.Orders.{key_total, same_bytes-refl, same_key-is, same_key-refl}
use Rattle.verse_cut.specs.Pieces.{PieceParts}
use Rattle.op_core.specs.Ids.{Id}
use Rattle.op_core.specs.NextIds.{greatest_number, next_number}
use Rattle.op_core.specs.Ops.{Operation, in_segment, names, own_text}
use Rattle.op_core.specs.Sets.{IsOpSet}
use Rattle.op_core.specs.Shown.{is_replaced, is_shown}
use Rattle.op_core.proofs.Exports.Shows.{named_by_none}
use Rattle.op_core.proofs.FilteredLists.{any_filter}
use Rattle.replica_state.specs.Changes.{ChangeParts, changes_ops, edits_from}
use Rattle.replica_state.specs.Imports.{is_due, piece_at, walked_keys}
use Rattle.replica_state.specs.Since.{shows_text}
use Rattle.replica_state.specs.States.{State}
use Rattle.replica_state.specs.Steps.{edited_all, with_ops}
use Rattle.replica_state.proofs.Appended.{is_there, key_is, shown_after}
use Rattle.replica_state.proofs.Changes.{edit_at, edits_after, edits_name_none}
use Rattle.replica_state.proofs.SinceTwice.{due_received}
use Rattle.book_folder.specs.Asks.{emptied, undone}
use Rattle.book_folder.specs.CameIn.{WrittenIsShown}
use Rattle.book_folder.specs.Taking.{asked, change_at, file_changes, has_other, listed, stood_of, taken}
use Rattle.book_folder.specs.Wanted.{WantedParts}
use Rattle.book_folder.specs.declared.refusal.Place.TheVariants as places
use Rattle.book_folder.proofs.LostLaws.{change_is, changed_is, edits_are, shows_already, unasked}

module _ (s base : State) (set : IsOpSet s.held) (wanted : List WantedParts) (book : List ℕ) (pieces : List PieceParts)
    (key : KeyParts) where
  abbrev g : Segment
  g = segment book key

  abbrev text : List ℕ
  text = piece_at pieces key

  abbrev change : KeyParts → Option ChangeParts
  change k = change_at s.held base.held wanted book pieces k

  abbrev changes : List KeyParts → List ChangeParts
  changes keys = flat_map (λ k. listed (change k)) keys

  -- where a key is not changed, no edit is of its segment
  none_made : (n : ℕ) (keys : List KeyParts) → change key ≡ None
      → list_any (in_segment g) (edits_from n s book (changes keys)) ≡ false
  none_made n [] e = refl
  none_made n (k ∷ keys) e = by (change k) refl (none_made n keys e) (none_made (suc n) keys e)
    where
      other : (d : ChangeParts) → change k ≡ Some d → (b : Bool) → is_eq (key_cmp key k) ≡ b
          → in_segment g (edit_at s book n d) ≡ false
      other d f false h =
          and_right (same_bytes book book) (same_key d.key key) (false_from_ne_true _ (λ t.
          let same : k ≡ key = sym (change_is s base wanted book pieces key k d f).0 ∙ same_key-is d.key key t in
          false≢true (sym h ∙ ap (λ (j : KeyParts). is_eq (key_cmp key j)) same ∙ ap is_eq (tied_itself key_total key))))
      other d f true h = cc (sym f ∙ ap change (sym (key_is key k h)) ∙ e)

      by : (d : Option ChangeParts) → change k ≡ d → list_any (in_segment g) (edits_from n s book (changes keys)) ≡ false
          → list_any (in_segment g) (edits_from (suc n) s book (changes keys)) ≡ false
          → list_any (in_segment g) (edits_from n s book (listed d ++ changes keys)) ≡ false
      by None f same next = same
      by (Some d) f same next = or_from _ _ (other d f (is_eq (key_cmp key k)) refl) next

  module _ (all : List KeyParts) where
    abbrev new : List Operation
    new = edits_from (next_number s.held) s book (changes all)

    abbrev now : List Operation
    now = s.held ++ new

    abbrev is_it : Operation → Bool
    is_it o = is_shown now g o && same_bytes (own_text o) text

    -- none names the id of an edit
    pub unnamed : (id : Id) → greatest_number s.held < id.number → is_replaced now g id ≡ false
    unnamed id l =
        list_any-append (λ (p : Operation). in_segment g p && names p id) s.held new
        ∙ or_from _ _ (named_by_none g id s.held set.each (omega (arith, l)))
        (edits_name_none s book g id (next_number s.held) (changes all) set.rising l)

    -- where it is changed, its edit is shown with the file's text
    made_shown : (n : ℕ) (keys : List KeyParts) → greatest_number s.held < n → is_there key keys ≡ true → (c : ChangeParts)
        → change key ≡ Some c → list_any is_it (edits_from n s book (changes keys)) ≡ true
    made_shown n [] l there c e = cc there
    made_shown n (k ∷ keys) l there c e =
        by (change k) refl (is_eq (key_cmp key k)) refl there (λ h. made_shown n keys l h c e)
        (λ h. made_shown (suc n) keys (omega (arith, l)) h c e)
      where
        by : (d : Option ChangeParts) → change k ≡ d → (b : Bool) → is_eq (key_cmp key k) ≡ b → (b || is_there key keys) ≡ true
            → (is_there key keys ≡ true → list_any is_it (edits_from n s book (changes keys)) ≡ true)
            → (is_there key keys ≡ true → list_any is_it (edits_from (suc n) s book (changes keys)) ≡ true)
            → list_any is_it (edits_from n s book (listed d ++ changes keys)) ≡ true
        by None f false h t rest next = rest t
        by (Some d) f false h t rest next = or_right _ _ (next t)
        by None f true h t rest next = cc (sym f ∙ ap change (sym (key_is key k h)) ∙ e)
        by (Some d) f true h t rest next =
            let is = change_is s base wanted book pieces key key d (ap change (key_is key k h) ∙ f) in
            let of : in_segment g (edit_at s book n d) ≡ true =
            and_from _ _ (same_bytes-refl book) (ap (λ (j : KeyParts). same_key j key) is.0 ∙ same_key-refl key) in
            or_left _ _ (and_from _ _ (and_from _ _ of (ap not (unnamed (edit_at s book n d).id l)))
            (ap (λ (t : List ℕ). same_bytes t text) is.1 ∙ same_bytes-refl text))

    shown_now : is_there key all ≡ true → has_other base.held book pieces key ≡ true → shows_text now g text ≡ true
    shown_now there other = by (change key) refl
      where
        by : (d : Option ChangeParts) → change key ≡ d → shows_text now g text ≡ true
        by None e =
            ap (λ (ops : List Operation). list_any (λ o. same_bytes (own_text o) text) ops)
            (shown_after s.held new g (none_made (next_number s.held) all e))
            ∙ shows_already s base wanted book pieces key e other
        by (Some c) e =
            any_filter (λ o. same_bytes (own_text o) text) (is_shown now g) now
            ∙ list_any-append is_it s.held new
            ∙ or_right _ _ (made_shown (next_number s.held) all (omega arith) there c e)

pub written_is_shown : WrittenIsShown
written_is_shown s base older wishes stood f pieces key t state from none received is other =
    subst (λ (held : List Operation). shows_text held (segment f.book key) (piece_at pieces key) ≡ true) same
    (shown_now s base state.set wishes.settled f.book pieces key (walked_keys s.held f.book pieces) there other)
  where
    changes : List ChangeParts
    changes = file_changes s.held base.held wishes.settled f.book pieces

    done : (n : ℕ) × ((n ≡ next_number s.held) × (with_ops s (edits_from n s f.book changes) ≡ t.after))
    done =
        edits_are s f.book (places.File f.at) (stood ++ stood_of s.held base.held f.book pieces) changes t
        (unasked (places.File f.at)
        (asked wishes (undone older base.held s.name f.book pieces) (emptied base.held f.book pieces))
        (taken (places.File f.at) (stood ++ stood_of s.held base.held f.book pieces)
        (edited_all s s (changes_ops s f.book changes))) t (sym (changed_is s base older wishes stood f pieces) ∙ is))

    same : s.held ++ edits_from (next_number s.held) s f.book changes ≡ t.after.held
    same =
        sym (edits_after s f.book s.held (next_number s.held) changes state.set.rising (omega arith))
        ∙ ap (λ n. (with_ops s (edits_from n s f.book changes)).held) (sym done.1.0)
        ∙ ap (λ (x : State). x.held) done.1.1

    due : is_due base.held f.book pieces key ≡ true
    due = or_left _ _ other

    there : is_there key (walked_keys s.held f.book pieces) ≡ true
    there = subst (λ (held : List Operation). is_there key (walked_keys held f.book pieces) ≡ true) received
        (due_received s.held base.held f.book pieces state.set.rising from.set.rising none key due)
