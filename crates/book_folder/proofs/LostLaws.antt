-- Nothing that was written in a file is lost.
use Rattle.std.proofs.Common.{◌≡◌, ◌<◌, ℕ, suc, Bool, true, false, cond, ◌&&◌, ◌||◌, not, List, [], ◌∷◌, ◌++◌, Option, None, Some, Result, Ok, Err, length, refl, sym, ap, subst, ◌∙◌, arith}
use Rattle.std.specs.List.{Contains, flat_map, list_any}
use Rattle.std.specs.Ordering.{is_eq}
use Rattle.std.proofs.lemmas.Bool.{and_parts, or_left}
use Rattle.std.proofs.lemmas.List.Elements.{Contains-append_left, Contains-append_right}
use Rattle.usfm_ref.specs.Books.{same_bytes}
use Rattle.usfm_ref.specs.Keys.{KeyParts, key_cmp}
use Rattle.usfm_ref.specs.Segments.{segment}
use Rattle.usfm_ref.proofs.Orders.{same_bytes-is, same_segment-is}
use Rattle.verse_cut.specs.Pieces.{PieceParts}
use Rattle.op_core.specs.Ids.{is_none_left}
use Rattle.op_core.specs.Ops.{Operation, own_text, in_segment}
use Rattle.op_core.specs.Shown.{shown, is_shown, is_replaced}
use Rattle.op_core.specs.NextIds.{greatest_number, next_number}
use Rattle.replica_state.specs.Changes.{ChangeParts, changes_ops, edits_by, edits_from, first_fault}
use Rattle.replica_state.specs.Edits.{first_number, unless}
use Rattle.replica_state.specs.Imports.{piece_at, walked_keys, is_due}
use Rattle.replica_state.specs.Since.{is_changed, since_change, seen_ids, shows_text}
use Rattle.replica_state.specs.States.{State}
use Rattle.replica_state.specs.Steps.{with_ops, edited_all}
use Rattle.replica_state.specs.declared.fault.EditFault.{EditFault}
use Rattle.replica_state.specs.declared.fault.EditFault.TheVariants.{NumbersUsedUp}
use Rattle.replica_state.proofs.Appended.{is_there, key_is}
use Rattle.replica_state.proofs.Changes.{is_first, edit_at, edits_after}
use Rattle.replica_state.proofs.SinceLaws.{passed, is_later}
use Rattle.replica_state.proofs.SinceLaws as lists
use Rattle.replica_state.proofs.SinceTwice.{due_received}
use Rattle.book_folder.specs.Asks.{emptied, undone}
use Rattle.book_folder.specs.Files.{FileParts}
use Rattle.book_folder.proofs.ChangeAt.{change_at_is}
use Rattle.book_folder.specs.Laws.{HasText, NothingWrittenIsLost}
use Rattle.book_folder.specs.Taking.{AskedParts, StoodParts, Taken, taken_changed, settles, settling_change, change_at, listed, file_changes, has_other, stood_of, taken, unless_asked, asked}
use Rattle.book_folder.specs.Wanted.{WantedParts, WishParts}
use Rattle.book_folder.specs.declared.refusal.Place.{Place}
use Rattle.book_folder.specs.declared.refusal.Refusal.{Refusal}
use Rattle.book_folder.specs.declared.refusal.Place.TheVariants as places

-- one of several that pass
one_passing : {X : Type 0} (p : X → Bool) (xs : List X) → list_any p xs ≡ true → (x : X) × (Contains xs x × (p x ≡ true))
one_passing p [] h = cc h
one_passing p (x ∷ xs) h = by (p x) refl h (one_passing p xs)
  where
    by : (b : Bool) → p x ≡ b → (b || list_any p xs) ≡ true
        → (list_any p xs ≡ true → (y : _) × (Contains xs y × (p y ≡ true)))
        → (y : _) × (Contains (x ∷ xs) y × (p y ≡ true))
    by true e h rest = (x, (lists.is_first x xs x refl, e))
    by false e h rest = let r = rest h in (r.0, (is_later x xs r.0 r.1.0, r.1.1))

module _ (s base : State) (wanted : List WantedParts) (book : List ℕ) (pieces : List PieceParts) (key : KeyParts) where
  abbrev Has : List Operation → Type 0
  Has ops = HasText ops (segment book key) (piece_at pieces key)

  abbrev change : KeyParts → Option ChangeParts
  change k = change_at s.held base.held wanted book pieces k

  -- a change of a key is one of it, with the file's piece
  pub change_is : (k : KeyParts) (c : ChangeParts) → change k ≡ Some c → (c.key ≡ k) × (c.text ≡ piece_at pieces k)
  change_is k c e = by (settles s.held base.held wanted book k) (is_changed s.held base.held book pieces k)
      (sym (change_at_is s.held base.held wanted book pieces k) ∙ e)
    where
      by : (t u : Bool) → cond t (Some (settling_change s.held base.held book pieces k))
          (cond u (Some (since_change s.held base.held book pieces k)) None) ≡ Some c
          → (c.key ≡ k) × (c.text ≡ piece_at pieces k)
      by true u e =
          let is : settling_change s.held base.held book pieces k ≡ c = cc e in
          (sym (ap (λ (x : ChangeParts). x.key) is), sym (ap (λ (x : ChangeParts). x.text) is))
      by false true e =
          let is : since_change s.held base.held book pieces k ≡ c = cc e in
          (sym (ap (λ (x : ChangeParts). x.key) is), sym (ap (λ (x : ChangeParts). x.text) is))
      by false false e = cc e

  abbrev changes : List KeyParts → List ChangeParts
  changes keys = flat_map (λ k. listed (change k)) keys

  later_has : (o : Operation) (ops : List Operation) → Has ops → Has (o ∷ ops)
  later_has o ops h = record { op = h.op; held = is_later o ops h.op h.held; of = h.of; is = h.is }

  -- the edits of some keys have the file's piece for one of them that is changed
  made : (n : ℕ) (keys : List KeyParts) → is_there key keys ≡ true → (c : ChangeParts) → change key ≡ Some c
      → Has (edits_from n s book (changes keys))
  made n [] there c e = cc there
  made n (k ∷ keys) there c e =
      by (change k) refl (is_eq (key_cmp key k)) refl there (λ h. made n keys h c e) (λ h. made (suc n) keys h c e)
    where
      by : (d : Option ChangeParts) → change k ≡ d → (b : Bool) → is_eq (key_cmp key k) ≡ b → (b || is_there key keys) ≡ true
          → (is_there key keys ≡ true → Has (edits_from n s book (changes keys)))
          → (is_there key keys ≡ true → Has (edits_from (suc n) s book (changes keys)))
          → Has (edits_from n s book (listed d ++ changes keys))
      by None f false g h rest next = rest h
      by (Some d) f false g h rest next =
          later_has (edit_at s book n d) (edits_from (suc n) s book (changes keys)) (next h)
      by None f true g h rest next = cc (sym f ∙ ap change (sym (key_is key k g)) ∙ e)
      by (Some d) f true g h rest next =
          let is = change_is key d (ap change (key_is key k g) ∙ f) in
          record {
            op = edit_at s book n d;
            held = lists.is_first (edit_at s book n d) (edits_from (suc n) s book (changes keys)) (edit_at s book n d) refl;
            of = ap (segment book) is.0;
            is = is.1;
          }

  -- where a key is not changed and the file has another text than the base picks, the project shows that text
  pub shows_already : change key ≡ None → has_other base.held book pieces key ≡ true
      → shows_text s.held (segment book key) (piece_at pieces key) ≡ true
  shows_already e other = by (settles s.held base.held wanted book key) (is_changed s.held base.held book pieces key) refl
      (sym (change_at_is s.held base.held wanted book pieces key) ∙ e)
    where
      by : (t u : Bool) → is_changed s.held base.held book pieces key ≡ u
          → cond t (Some (settling_change s.held base.held book pieces key))
          (cond u (Some (since_change s.held base.held book pieces key)) None) ≡ None
          → shows_text s.held (segment book key) (piece_at pieces key) ≡ true
      by true u f e = cc e
      by false true f e = cc e
      by false false f e =
          let g = segment book key in
          let due : is_due base.held book pieces key ≡ true = or_left _ _ other in
          let both = due_false (is_due base.held book pieces key)
          (is_none_left (seen_ids s.held base.held g) && shows_text s.held g (piece_at pieces key)) due f in
          (and_parts (is_none_left (seen_ids s.held base.held g)) (shows_text s.held g (piece_at pieces key)) both).1
        where
          due_false : (a b : Bool) → a ≡ true → (a && not b) ≡ false → b ≡ true
          due_false true true e f = refl
          due_false true false e f = cc f
          due_false false b e f = cc e

  shown_already : change key ≡ None → has_other base.held book pieces key ≡ true → Has s.held
  shown_already e other =
      let g = segment book key in
      let one = one_passing (λ o. same_bytes (own_text o) (piece_at pieces key)) (shown s.held g) (shows_already e other) in
      let is = passed (is_shown s.held g) s.held one.0 one.1.0 in
      record {
        op = one.0;
        held = is.0;
        of = same_segment-is one.0.segment g
            (and_parts (in_segment g one.0) (not (is_replaced s.held g one.0.id)) is.1).0;
        is = same_bytes-is (own_text one.0) (piece_at pieces key) one.1.1;
      }

  left_has : (xs ys : List Operation) → Has xs → Has (xs ++ ys)
  left_has xs ys h = record {
    op = h.op;
    held = Contains-append_left xs ys h.op h.held;
    of = h.of;
    is = h.is;
  }

  right_has : (xs ys : List Operation) → Has ys → Has (xs ++ ys)
  right_has xs ys h = record {
    op = h.op;
    held = Contains-append_right xs ys h.op h.held;
    of = h.of;
    is = h.is;
  }

  -- so it is in what the project holds and the edits
  held_or_made : (n : ℕ) → is_there key (walked_keys s.held book pieces) ≡ true → has_other base.held book pieces key ≡ true
      → Has (s.held ++ edits_from n s book (file_changes s.held base.held wanted book pieces))
  held_or_made n there other = by (change key) refl
    where
      by : (d : Option ChangeParts) → change key ≡ d
          → Has (s.held ++ edits_from n s book (file_changes s.held base.held wanted book pieces))
      by None e = left_has s.held (edits_from n s book (file_changes s.held base.held wanted book pieces)) (shown_already e other)
      by (Some c) e =
          right_has s.held (edits_from n s book (file_changes s.held base.held wanted book pieces))
          (made n (walked_keys s.held book pieces) there c e)

-- the replica after what was taken in, or another one
abbrev after_or : State → Result Taken Refusal → State
after_or s (Ok t) = t.after
after_or s (Err refusal) = s

-- what is taken in by edits that are made is the replica with them
pub edits_are : (s : State) (book : List ℕ) (place : Place) (stood : List StoodParts) (changes : List ChangeParts) (t : Taken)
    → taken place stood (edited_all s s (changes_ops s book changes)) ≡ Ok t
    → (n : ℕ) × ((n ≡ next_number s.held) × (with_ops s (edits_from n s book changes) ≡ t.after))
edits_are s book place stood changes t e = by (first_fault s.held book changes) (first_number s.held (length changes)) refl e
  where
    by : (f : Option EditFault) (first : Option ℕ) → first_number s.held (length changes) ≡ first
        → taken place stood (edited_all s s (unless f (edits_by NumbersUsedUp first s book changes))) ≡ Ok t
        → (n : ℕ) × ((n ≡ next_number s.held) × (with_ops s (edits_from n s book changes) ≡ t.after))
    by None (Some n) h e = (n, ((is_first s.held (length changes) n (sym h)).is, ap (after_or s) e))
    by None None h e = cc e
    by (Some f) first h e = cc e

-- what is taken in where nothing is asked
pub unasked : (place : Place) (fault : Option AskedParts) (r : Result Taken Refusal) (t : Taken)
    → unless_asked place fault r ≡ Ok t → r ≡ Ok t
unasked place None r t e = e
unasked place (Some fault) r t e = cc e

-- what is taken in of a file that was written from a base
pub changed_is : (s base : State) (older : List State) (wishes : WishParts) (stood : List StoodParts) (f : FileParts)
    (pieces : List PieceParts)
    → taken_changed s base older wishes stood f pieces
    ≡ unless_asked (places.File f.at)
    (asked wishes (undone older base.held s.name f.book pieces) (emptied base.held f.book pieces))
    (taken (places.File f.at) (stood ++ stood_of s.held base.held f.book pieces)
    (edited_all s s (changes_ops s f.book (file_changes s.held base.held wishes.settled f.book pieces))))
unfolding taken_changed
changed_is s base older wishes stood f pieces = refl

pub nothing_written_is_lost : NothingWrittenIsLost
nothing_written_is_lost s base older wishes stood f pieces key t state from none received is other =
    subst (λ (held : List Operation). HasText held (segment f.book key) (piece_at pieces key)) same
    (held_or_made s base wishes.settled f.book pieces key n there other)
  where
    changes : List ChangeParts
    changes = file_changes s.held base.held wishes.settled f.book pieces

    done : (n : ℕ) × ((n ≡ next_number s.held) × (with_ops s (edits_from n s f.book changes) ≡ t.after))
    done =
        edits_are s f.book (places.File f.at) (stood ++ stood_of s.held base.held f.book pieces) changes t
        (unasked (places.File f.at)
        (asked wishes (undone older base.held s.name f.book pieces) (emptied base.held f.book pieces))
        (taken (places.File f.at) (stood ++ stood_of s.held base.held f.book pieces)
        (edited_all s s (changes_ops s f.book changes))) t (sym (changed_is s base older wishes stood f pieces) ∙ is))

    n : ℕ
    n = done.0

    beyond : greatest_number s.held < n
    beyond = omega (arith, done.1.0)

    same : s.held ++ edits_from n s f.book changes ≡ t.after.held
    same = sym (edits_after s f.book s.held n changes state.set.rising beyond) ∙ ap (λ (x : State). x.held) done.1.1

    due : is_due base.held f.book pieces key ≡ true
    due = or_left _ _ other

    there : is_there key (walked_keys s.held f.book pieces) ≡ true
    there = subst (λ (held : List Operation). is_there key (walked_keys held f.book pieces) ≡ true) received
        (due_received s.held base.held f.book pieces state.set.rising from.set.rising none key due)
