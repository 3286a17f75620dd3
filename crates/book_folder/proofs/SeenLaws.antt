-- Nothing unseen is replaced by what a file changes.
use Rattle.std.proofs.Common.{◌≡◌, ◌⊎◌, ℕ, suc, Bool, true, false, cond, ◌&&◌, not, List, [], ◌∷◌, ◌++◌, inl, inr, Option, None, Some, refl, sym, ap, subst, ◌∙◌}
use Rattle.std.specs.List.{Contains, flat_map}
use Rattle.std.proofs.lemmas.Bool.{and_parts}
use Rattle.usfm_ref.specs.Keys.{KeyParts}
use Rattle.usfm_ref.specs.Segments.{segment}
use Rattle.usfm_ref.specs.declared.segment.Segment.{Segment}
use Rattle.verse_cut.specs.Pieces.{PieceParts}
use Rattle.op_core.specs.Ids.{Id, is_none_left}
use Rattle.op_core.specs.Ops.{Operation}
use Rattle.op_core.specs.Shown.{shown}
use Rattle.op_core.specs.Lists.{shown_ids}
use Rattle.op_core.specs.NextIds.{is_among, next_number}
use Rattle.replica_state.specs.Changes.{ChangeParts, edits_from}
use Rattle.replica_state.specs.Imports.{walked_keys}
use Rattle.replica_state.specs.Since.{is_changed, since_change}
use Rattle.replica_state.specs.SinceLaws.{StoodInFile}
use Rattle.replica_state.specs.States.{State}
use Rattle.replica_state.proofs.ChangeRuns.{among_passing}
use Rattle.replica_state.proofs.Changes.{edit_at}
use Rattle.replica_state.proofs.SinceLaws.{first_or_later, none_there, passed, of_one, seen_stood}
use Rattle.book_folder.specs.Begun.{is_in_conflict}
use Rattle.book_folder.proofs.ChangeAt.{change_at_is}
use Rattle.book_folder.specs.Laws.{NothingUnseenIsReplaced, ShownByBase}
use Rattle.book_folder.specs.Taking.{is_wanted, still_shown, settles, settling_change, change_at, listed}
use Rattle.book_folder.specs.Wanted.{WantedParts}

module _ (s base : State) (wanted : List WantedParts) (book : List ℕ) (pieces : List PieceParts) where
  -- the base shows the id with the text of the file, or the segment is to be settled and the base shows the id
  abbrev pub Seen : KeyParts → Id → Type 0
  Seen key id =
      StoodInFile base.held (segment book key) id
      ⊎ ((is_wanted wanted book key ≡ true) × ShownByBase base.held (segment book key) id)

  -- an id that is still shown is one that the base shows
  still_seen : (key : KeyParts) (id : Id) → is_among (still_shown s.held base.held book key) id ≡ true
      → ShownByBase base.held (segment book key) id
  still_seen key id h =
      let g = segment book key in
      let both = sym (among_passing (is_among (shown_ids s.held g)) (shown_ids base.held g) id) ∙ h in
      let one = of_one (shown base.held g) id (and_parts (is_among (shown_ids base.held g) id) (is_among (shown_ids s.held g) id) both).0 in
      record { op = one.0; shown = one.1.0; of_id = one.1.1 }

  -- what the edit of a change names was seen
  named_seen : (key : KeyParts) (n : ℕ) (c : ChangeParts) (id : Id) → change_at s.held base.held wanted book pieces key ≡ Some c
      → Contains (edit_at s book n c).replaced id → (c.key ≡ key) × Seen key id
  named_seen key n c id e h = by (settles s.held base.held wanted book key) refl (is_changed s.held base.held book pieces key) refl
      (sym (change_at_is s.held base.held wanted book pieces key) ∙ e)
    where
      named : (d : ChangeParts) → d ≡ c → is_among d.ids id ≡ true
      named d is = subst (λ (x : ChangeParts). is_among x.ids id ≡ true) (sym is)
          (passed (is_among c.ids) (shown_ids s.held (segment book c.key)) id h).1

      by : (t : Bool) → settles s.held base.held wanted book key ≡ t → (u : Bool) → is_changed s.held base.held book pieces key ≡ u
          → cond t (Some (settling_change s.held base.held book pieces key))
          (cond u (Some (since_change s.held base.held book pieces key)) None) ≡ Some c → (c.key ≡ key) × Seen key id
      by true f u g e =
          let is : settling_change s.held base.held book pieces key ≡ c = cc e in
          let base_shows = is_in_conflict base.held (segment book key) in
          let shows = is_in_conflict s.held (segment book key) in
          let three = and_parts (is_wanted wanted book key && base_shows && shows)
          (not (is_none_left (still_shown s.held base.held book key))) f in
          let two = and_parts (is_wanted wanted book key && base_shows) shows three.0 in
          let tests = and_parts (is_wanted wanted book key) base_shows two.0 in (
            sym (ap (λ (x : ChangeParts). x.key) is),
            inr (tests.0, still_seen key id (named (settling_change s.held base.held book pieces key) is)),
          )
      by false f true g e =
          let is : since_change s.held base.held book pieces key ≡ c = cc e in (
            sym (ap (λ (x : ChangeParts). x.key) is),
            inl (seen_stood s.held base.held (segment book key) id (named (since_change s.held base.held book pieces key) is)),
          )
      by false f false g e = cc e

  abbrev changes : List KeyParts → List ChangeParts
  changes keys = flat_map (λ key. listed (change_at s.held base.held wanted book pieces key)) keys

  -- the same of the edits of several keys
  all_seen : (n : ℕ) (keys : List KeyParts) (edit : Operation) (id : Id) → Contains (edits_from n s book (changes keys)) edit
      → Contains edit.replaced id → (key : KeyParts) × ((edit.segment ≡ segment book key) × Seen key id)
  all_seen n [] edit id h i = absurd (none_there edit h)
  all_seen n (key ∷ keys) edit id h i =
      by (change_at s.held base.held wanted book pieces key) refl h (all_seen n keys edit id) (all_seen (suc n) keys edit id)
    where
      Found : Type 0
      Found = (k : KeyParts) × ((edit.segment ≡ segment book k) × Seen k id)

      by : (c : Option ChangeParts) → change_at s.held base.held wanted book pieces key ≡ c
          → Contains (edits_from n s book (listed c ++ changes keys)) edit
          → (Contains (edits_from n s book (changes keys)) edit → Contains edit.replaced id → Found)
          → (Contains (edits_from (suc n) s book (changes keys)) edit → Contains edit.replaced id → Found) → Found
      by None e h rest next = rest h i
      by (Some c) e h rest next =
          elim (first_or_later (edit_at s book n c) (edits_from (suc n) s book (changes keys)) edit h) [
            | inl here ↦
                let seen = named_seen key n c id e (subst (λ (o : Operation). Contains o.replaced id) (sym here) i) in (
                  key,
                  (sym (ap (λ (o : Operation). o.segment) here) ∙ ap (segment book) seen.0, seen.1),
                )
            | inr later ↦ next later i
          ]

pub nothing_unseen_is_replaced : NothingUnseenIsReplaced
nothing_unseen_is_replaced s base wanted book pieces edit id h i =
    let found = all_seen s base wanted book pieces (next_number s.held) (walked_keys s.held book pieces) edit id h i in
    subst (λ (g : Segment). StoodInFile base.held g id ⊎ ((is_wanted wanted g.book g.key ≡ true) × ShownByBase base.held g id))
    (sym found.1.0) found.1.1
