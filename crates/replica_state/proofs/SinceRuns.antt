-- The changes of an import since a base: they may be made, and they are made where the import is not refused.
use Rattle.std.proofs.Common.{◌≡◌, ℕ, ◌+◌, ◌≤◌, Bool, true, not, cond, List, [], ◌∷◌, ◌++◌, map, filter, length}
use Rattle.std.proofs.Common.{Option, Some, None, option_map, Result, Ok, refl, sym, ap, ◌∙◌}
use Rattle.std.specs.List.{list_any}
use Rattle.std.specs.Option.{option_or}
use Rattle.std.proofs.lemmas.Bool.{and_parts}
use Rattle.usfm_ref.specs.Keys.{KeyParts, key_cmp, head_of}
use Rattle.usfm_ref.specs.Rising.{rises_by}
use Rattle.usfm_ref.specs.Segments.{segment}
use Rattle.usfm_ref.specs.declared.segment.Segment.{Segment}
use Rattle.usfm_ref.proofs.Orders.{key_total}
use Rattle.usfm_ref.proofs.Sorted.{rises_filter, rises-rising}
use Rattle.verse_cut.specs.Pieces.{PieceParts, pieces_of}
use Rattle.verse_cut.specs.Reading.{book_in, text_fits}
use Rattle.verse_cut.specs.declared.fault.BookFault.{BookFault}
use Rattle.op_core.specs.Ids.{Id}
use Rattle.op_core.specs.Ops.{Operation}
use Rattle.op_core.specs.Sets.{rises, get, join, met, meet, clash}
use Rattle.op_core.specs.Lists.{keys_of, shown_ids}
use Rattle.op_core.specs.NextIds.{greatest_number, is_among}
use Rattle.op_core.proofs.Sets.Gets.{AnyHeld, any_held, any_from}
use Rattle.op_core.proofs.Sets.Union.{agree_from_no_clash, get-join}
use Rattle.replica_state.specs.States.{State}
use Rattle.replica_state.specs.Edits.{first_number}
use Rattle.replica_state.specs.Changes.{ChangeParts, edits_from, edits_by, first_fault}
use Rattle.replica_state.specs.Imports.{piece_at, walked_keys}
use Rattle.replica_state.specs.Steps.{with_ops, edited_all}
use Rattle.replica_state.specs.Since.{SinceStep, stood_ids, is_changed, changed_keys, since_change, since_changes}
use Rattle.replica_state.specs.Since.{changed_after, changed_in, imported_since}
use Rattle.replica_state.specs.SinceLaws.{changes_of}
use Rattle.replica_state.specs.declared.fault.EditFault.TheVariants.{BadSegment, NotShown}
use Rattle.replica_state.specs.declared.fault.SinceFault.TheVariants.{NumbersUsedUp}
use Rattle.replica_state.proofs.ChangeRuns.{among_passing, none_outside}
use Rattle.replica_state.proofs.Changes.{is_first}

-- the keys that were changed rise
pub changed_rise : (held base : List Operation) (book : List ℕ) (pieces : List PieceParts)
    → rises_by key_cmp (λ k. k) (changed_keys held base book pieces) ≡ true
changed_rise held base book pieces =
    rises_filter key_cmp key_total (λ k. k) (is_changed held base book pieces) (walked_keys held book pieces)
    (rises-rising key_cmp key_total (map head_of (keys_of held book) ++ (keys_of held book ++ map (λ p. p.key) pieces)))

module _ (held base : List Operation) (book : List ℕ) (pieces : List PieceParts) where
  -- the keys of the changes of some keys are these
  pub keys_back : (keys : List KeyParts) → map (λ c. c.key) (map (since_change held base book pieces) keys) ≡ keys
  keys_back [] = refl
  keys_back (key ∷ keys) = ap (λ (ks : List KeyParts). key ∷ ks) (keys_back keys)

  -- nothing is wrong with them
  pub none_wrong : ((key : KeyParts) → text_fits book key (piece_at pieces key) ≡ true) → (keys : List KeyParts)
      → first_fault held book (map (since_change held base book pieces) keys) ≡ None
  none_wrong fits [] = refl
  none_wrong fits (key ∷ keys) =
      let shown = shown_ids held (segment book key) in
      let stood = is_among (stood_ids base (segment book key)) in
      let among = none_outside shown (filter stood shown)
      (λ q h. (and_parts (is_among shown q) (stood q) (sym (among_passing stood shown q) ∙ h)).0) in
      (λ i. option_or (cond (not (fits key i)) (Some BadSegment) (option_map NotShown (among i))) (none_wrong fits keys i))

-- ---- what is received

-- what an operation of the base has of segments, the replica with it has too
pub any_received : (held base : List Operation) (test : Segment → Bool) → rises held ≡ true → rises base ≡ true → clash held base ≡ None
    → list_any (λ o. test o.segment) base ≡ true → list_any (λ o. test o.segment) (join held base) ≡ true
any_received held base test hh hb none h =
    let one = any_held (λ (o : Operation). test o.segment) base hb h in
    by one (get held one.one.id) refl
  where
    by : (one : AnyHeld (λ (o : Operation). test o.segment) base) (r : Option Operation) → get held one.one.id ≡ r
        → list_any (λ o. test o.segment) (join held base) ≡ true
    by one None g =
        any_from (λ (o : Operation). test o.segment) (join held base) one.one.id one.one
        (get-join held base one.one.id hh hb ∙ (λ i. met (g i) (one.held i))) one.passes
    by one (Some x) g =
        let like = agree_from_no_clash held base none one.one.id x one.one g one.held in
        any_from (λ (o : Operation). test o.segment) (join held base) one.one.id (meet x one.one)
        (get-join held base one.one.id hh hb ∙ (λ i. met (g i) (one.held i)))
        (ap (λ (o : Operation). test o.segment) like.bares ∙ one.passes)

-- an import since a base that is not refused
pub record Accepted (s : State) (base : List Operation) (file book : List ℕ) : Type 0 where
  pub none : clash s.held base ≡ None
  pub room : greatest_number (with_ops s base).held + length (since_changes (with_ops s base).held base book (pieces_of file))
      ≤ 1000000000000000
  pub is : (imported_since s base file).after ≡ with_ops (with_ops s base) (changes_of (with_ops s base) base book (pieces_of file))

-- what an import since a base makes where it answers a count
pub accepted : (s : State) (base : List Operation) (file book : List ℕ) (count : ℕ) → book_in file ≡ Ok book
    → (imported_since s base file).answer ≡ Ok count → Accepted s base file book
accepted s base file book count named answered =
    by (clash s.held base) refl (ap (λ (x : SinceStep). x.answer) (sym of_book_is) ∙ answered)
  where
    t : State
    t = with_ops s base

    changes : List ChangeParts
    changes = since_changes t.held base book (pieces_of file)

    of_book_is : imported_since s base file ≡ changed_after s base book (pieces_of file) (clash s.held base)
    of_book_is = ap (λ (r : Result (List ℕ) BookFault). changed_in s base (pieces_of file) r) named

    made : Option ℕ → SinceStep
    made first = edited_all s t (edits_by NumbersUsedUp first t book changes)

    numbered : clash s.held base ≡ None → (f : Option ℕ) → first_number t.held (length changes) ≡ f → (made f).answer ≡ Ok count
        → Accepted s base file book
    numbered none None g e = cc e
    numbered none (Some first) g e =
        let given = is_first t.held (length changes) first (sym g) in record {
          none = none;
          room = given.room;
          is = ap (λ (x : SinceStep). x.after) (of_book_is ∙ ap (changed_after s base book (pieces_of file)) none
              ∙ ap made g)
              ∙ ap (λ (n : ℕ). with_ops t (edits_from n t book changes)) given.is;
        }

    by : (c : Option Id) → clash s.held base ≡ c → (changed_after s base book (pieces_of file) c).answer ≡ Ok count
        → Accepted s base file book
    by (Some id) none e = cc e
    by None none e = numbered none (first_number t.held (length changes)) refl e
