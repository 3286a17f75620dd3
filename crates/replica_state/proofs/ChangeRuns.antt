-- Changes that are made, as edits over given ids.
use Rattle.std.proofs.Common.{◌≡◌, ℕ, suc, ◌+◌, ◌<◌, ◌≤◌, Bool, true, false, not, cond, ◌&&◌, ◌||◌, List, [], ◌∷◌, ◌++◌, map, filter, length}
use Rattle.std.proofs.Common.{Option, Some, None, Ok, option_map, refl, sym, ap, subst, ◌∙◌, arith, append_assoc}
use Rattle.std.specs.Cmp.{tied_itself}
use Rattle.std.specs.List.{list_all, list_any, find, AllByRecursion}
use Rattle.std.specs.Option.{option_or}
use Rattle.std.specs.Ordering.{is_eq, is_lt}
use Rattle.std.proofs.lemmas.Bool.{and_parts, and_from, and_right, or_left, or_right, cond-true, cond-false, le-leb}
use Rattle.std.proofs.lemmas.List.Folds.{list_any-append}
use Rattle.usfm_ref.specs.Books.{same_bytes}
use Rattle.usfm_ref.specs.Keys.{KeyParts, key_cmp, book_head, same_key}
use Rattle.usfm_ref.specs.Rising.{rises_by}
use Rattle.usfm_ref.specs.Segments.{segment}
use Rattle.usfm_ref.proofs.Orders.{key_total, same_bytes-refl}
use Rattle.verse_cut.specs.Fits.{Fits}
use Rattle.verse_cut.specs.Reading.{text_fits}
use Rattle.verse_cut.proofs.FitLaws.{fits_is_read}
use Rattle.op_core.specs.Equal.{id_from_same, same_id-refl}
use Rattle.op_core.specs.Ids.{Id, same_id}
use Rattle.op_core.specs.Ops.{Operation}
use Rattle.op_core.specs.Sets.{rises, join}
use Rattle.op_core.specs.Lists.{ids_of, shown_ids}
use Rattle.op_core.specs.NextIds.{greatest_number, next_number, is_among}
use Rattle.op_core.specs.Export.{of_book, has_book}
use Rattle.op_core.proofs.FilteredLists.{filter_all}
use Rattle.op_core.proofs.Sets.Union.{rises-join}
use Rattle.replica_state.specs.States.{State}
use Rattle.replica_state.specs.Edits.{has_numbers, edit_fault, first_not_shown, own_id, first_number, next_id, edit_by, unless}
use Rattle.replica_state.specs.Changes.{ChangeParts, edits_from, edits_by, first_fault}
use Rattle.replica_state.specs.ChangeLaws.{edits_over, begins, ChangesAreEdits}
use Rattle.replica_state.specs.Steps.{Command, EditOver, Edited, Step, edited, step, with_ops}
use Rattle.replica_state.specs.Runs.{after_all, NoneRefused, IsTaken}
use Rattle.replica_state.specs.declared.fault.EditFault.{EditFault}
use Rattle.replica_state.specs.declared.fault.EditFault.TheVariants.{BadSegment, NotShown, NumbersUsedUp}
use Rattle.replica_state.proofs.Appended.{is_there, key_is, keys_apart, not_there, shown_after}
use Rattle.replica_state.proofs.Changes.{is_first, edit_at, edits_after}

-- ---- ids of which some pass

-- an id is among those that pass where it is one of them all and passes
pub among_passing : (p : Id → Bool) (ids : List Id) (q : Id) → is_among (filter p ids) q ≡ (is_among ids q && p q)
among_passing p [] q = refl
among_passing p (x ∷ ids) q = by (among_passing p ids q) (same_id q x) refl (p x) refl
  where
    by : is_among (filter p ids) q ≡ (is_among ids q && p q) → (b : Bool) → same_id q x ≡ b → (c : Bool) → p x ≡ c
        → is_among (cond c (x ∷ filter p ids) (filter p ids)) q ≡ ((b || is_among ids q) && p q)
    by rest true e true f = ap (λ b. b || is_among (filter p ids) q) e ∙ sym (ap p (id_from_same q x e) ∙ f)
    by rest true e false f = let no = ap p (id_from_same q x e) ∙ f in rest ∙ and_right (is_among ids q) (p q) no ∙ sym no
    by rest false e true f = ap (λ b. b || is_among (filter p ids) q) e ∙ rest
    by rest false e false f = rest

-- of all ids all are given
pub all_given : (ids : List Id) → filter (is_among ids) ids ≡ ids
all_given ids = filter_all (is_among ids) ids (all_among ids ids (λ q a. a))
  where
    all_among : (given ids : List Id) → ((q : Id) → is_among ids q ≡ true → is_among given q ≡ true) → list_all (is_among given) ids ≡ true
    all_among given [] h = refl
    all_among given (x ∷ ids) h =
        and_from _ _ (h x (or_left _ _ (same_id-refl x))) (all_among given ids (λ q a. h q (or_right (same_id q x) _ a)))

-- of ids that are all among others none is outside
pub none_outside : (ids given : List Id) → ((q : Id) → is_among given q ≡ true → is_among ids q ≡ true)
    → find (λ id. not (is_among ids id)) given ≡ None
none_outside ids [] h = refl
none_outside ids (x ∷ given) h =
    cond-false _ _ _ (ap not (h x (ap (λ b. b || is_among given x) (same_id-refl x))))
    ∙ none_outside ids given (λ q a. h q (or_right (same_id q x) (is_among given q) a))

-- the number of one that stands after is the greatest
greatest_after : (held : List Operation) (o : Operation) → greatest_number held < o.id.number
    → greatest_number (held ++ o ∷ []) ≡ o.id.number
greatest_after [] o l = omega arith
greatest_after (p ∷ held) o l = let rest = greatest_after held o (omega (arith, l)) in omega (arith, l, rest)

-- a key that is not the first of rising ones stands apart from it
pub after_first : (key : KeyParts) (keys : List KeyParts) → list_all (λ k. is_lt (key_cmp key k)) keys ≡ true → (q : KeyParts)
    → is_there q keys ≡ true → is_eq (key_cmp q key) ≡ false
after_first key keys above q h = by (is_eq (key_cmp q key)) refl
  where
    by : (b : Bool) → is_eq (key_cmp q key) ≡ b → is_eq (key_cmp q key) ≡ false
    by true e = cc (sym (not_there key keys above) ∙ ap (λ (k : KeyParts). is_there k keys) (sym (key_is q key e)) ∙ h)
    by false e = e

-- changes begin any book that has an operation
pub begins_held : (held : List Operation) (book : List ℕ) (changes : List ChangeParts) → has_book held book ≡ true
    → begins held book changes ≡ true
begins_held held book [] h = refl
begins_held held book (c ∷ changes) h = or_left _ _ h

-- where nothing is wrong with changes, the first one's text fits, its ids are shown, and nothing is wrong with the others
none_wrong : (held : List Operation) (book : List ℕ) (c : ChangeParts) (later : List ChangeParts) → first_fault held book (c ∷ later) ≡ None
    → (text_fits book c.key c.text ≡ true)
    × ((first_not_shown held (segment book c.key) c.ids ≡ None) × (first_fault held book later ≡ None))
none_wrong held book c later e = by (text_fits book c.key c.text) refl (first_not_shown held (segment book c.key) c.ids) refl e
  where
    by : (b : Bool) → text_fits book c.key c.text ≡ b → (id : Option Id) → first_not_shown held (segment book c.key) c.ids ≡ id
        → option_or (cond (not b) (Some BadSegment) (option_map NotShown id)) (first_fault held book later) ≡ None
        → (text_fits book c.key c.text ≡ true)
        × ((first_not_shown held (segment book c.key) c.ids ≡ None) × (first_fault held book later ≡ None))
    by true f None i e = (f, (i, e))
    by true f (Some id) i e = cc e
    by false f id i e = cc e

-- changes without a fault fit their segments
pub all_fit : (held : List Operation) (book : List ℕ) (changes : List ChangeParts) → first_fault held book changes ≡ None
    → AllByRecursion (λ (c : ChangeParts). Fits book c.key c.text) changes
all_fit held book [] e = tt
all_fit held book (c ∷ changes) e =
    let none = none_wrong held book c changes e in
    ((fits_is_read book c.key c.text).0 none.0, all_fit held book changes none.1.1)

abbrev keys : List ChangeParts → List KeyParts
keys changes = map (λ c. c.key) changes

module _ (t : State) (book : List ℕ) where
  abbrev over : ChangeParts → Command
  over c = EditOver (segment book c.key) c.text c.ids

  -- the edit of a change, of a replica that shows there what was seen
  one : (s : State) (n : ℕ) (c : ChangeParts) → s.name ≡ t.name → n ≡ next_number s.held → has_numbers s.held 1 ≡ true
      → (has_book s.held book || same_key c.key book_head) ≡ true → text_fits book c.key c.text ≡ true
      → first_not_shown t.held (segment book c.key) c.ids ≡ None
      → shown_ids s.held (segment book c.key) ≡ shown_ids t.held (segment book c.key)
      → step s (over c)
      ≡ record { after = with_ops s (edit_at t book n c ∷ []); reply = Edited (Ok (own_id t n)) }
  one s n c named next room begun fits shown same =
      ap (edited s) (λ i. unless (fault i)
      (unless (option_map NotShown (all_shown i)) (edit_by (id i) (segment book c.key) (filter (is_among c.ids) (same i)) c.text)))
    where
      fault : edit_fault s.held (segment book c.key) c.text ≡ None
      fault = cond-false _ _ _ (ap not fits) ∙ cond-true _ _ _ begun

      all_shown : first_not_shown s.held (segment book c.key) c.ids ≡ None
      all_shown = ap (λ ids. find (λ id. not (is_among ids id)) c.ids) same ∙ shown

      id : next_id s ≡ Some (own_id t n)
      id = ap (option_map (own_id s)) (cond-true _ _ _ room) ∙ (λ i. Some (record { number = sym next i; name = named i }))

  -- the edits over ids one after the other
  pub run : (changes : List ChangeParts) (s : State) (n : ℕ) → s.name ≡ t.name → rises s.held ≡ true → n ≡ next_number s.held
      → greatest_number s.held + length changes ≤ 1000000000000000 → rises_by key_cmp (λ k. k) (keys changes) ≡ true
      → begins s.held book changes ≡ true → first_fault t.held book changes ≡ None
      → ((q : KeyParts) → is_there q (keys changes) ≡ true → shown_ids s.held (segment book q) ≡ shown_ids t.held (segment book q))
      → NoneRefused s (edits_over book changes) × (after_all s (edits_over book changes) ≡ with_ops s (edits_from n t book changes))
  run [] s n named rising next room rise begun right same = (tt, refl)
  run (c ∷ changes) s n named rising next room rise begun right same =
      let rest = run changes u (suc n) named (rises-join s.held (change ∷ []) rising) (ap suc (sym greatest))
      (omega (arith, room, greatest, next)) p.1 (begins_held u.held book changes still) none.1.1 others in (
        (
          subst (λ (x : Step). IsTaken x.reply) (sym done) refl,
          subst (λ (x : Step). NoneRefused x.after (edits_over book changes)) (sym done) rest.0,
        ),
        ap (λ (x : Step). after_all x.after (edits_over book changes)) done ∙ rest.1
            ∙ ap (λ (held : List Operation). record { name = s.name; held = held }) joined,
      )
    where
      none : (text_fits book c.key c.text ≡ true)
          × ((first_not_shown t.held (segment book c.key) c.ids ≡ None) × (first_fault t.held book changes ≡ None))
      none = none_wrong t.held book c changes right

      change : Operation
      change = edit_at t book n c

      u : State
      u = with_ops s (change ∷ [])

      p : (list_all (λ k. is_lt (key_cmp c.key k)) (keys changes) ≡ true) × (rises_by key_cmp (λ k. k) (keys changes) ≡ true)
      p = and_parts (list_all (λ k. is_lt (key_cmp c.key k)) (keys changes)) (rises_by key_cmp (λ k. k) (keys changes)) rise

      beyond : greatest_number s.held < n
      beyond = omega (arith, next)

      at : u.held ≡ s.held ++ change ∷ []
      at = edits_after t book s.held n (c ∷ []) rising beyond

      greatest : greatest_number u.held ≡ n
      greatest = ap greatest_number at ∙ greatest_after s.held change beyond

      still : has_book u.held book ≡ true
      still = ap (list_any (of_book book)) at ∙ list_any-append (of_book book) s.held (change ∷ [])
          ∙ or_right _ _ (or_left (same_bytes book book) false (same_bytes-refl book))

      done : step s (over c) ≡ record { after = u; reply = Edited (Ok (own_id t n)) }
      done = one s n c named next (le-leb (greatest_number s.held + 1) 1000000000000000 (omega (arith, room)))
          begun none.0 none.1.0 (same c.key (or_left _ _ (ap is_eq (tied_itself key_total c.key))))

      others : (q : KeyParts) → is_there q (keys changes) ≡ true → shown_ids u.held (segment book q) ≡ shown_ids t.held (segment book q)
      others q h =
          ap (λ (held : List Operation). shown_ids held (segment book q)) at
          ∙ ap ids_of (shown_after s.held (change ∷ []) (segment book q)
          (ap (λ b. b || false)
          (and_right (same_bytes book book) (same_key c.key q) (keys_apart q c.key (after_first c.key (keys changes) p.0 q h)))))
          ∙ same q (or_right (is_eq (key_cmp q c.key)) (is_there q (keys changes)) h)

      joined : join u.held (edits_from (suc n) t book changes) ≡ join s.held (change ∷ edits_from (suc n) t book changes)
      joined =
          let rest = edits_from (suc n) t book changes in
          edits_after t book u.held (suc n) changes (rises-join s.held (change ∷ []) rising) (omega (arith, greatest))
          ∙ ap (λ (held : List Operation). held ++ rest) at ∙ append_assoc s.held (change ∷ []) rest
          ∙ sym (edits_after t book s.held n (c ∷ changes) rising beyond)

pub changes_are_edits : ChangesAreEdits
changes_are_edits s book changes ops state rise begun made =
    by (first_fault s.held book changes) refl (first_number s.held (length changes)) refl made
  where
    by : (r : Option EditFault) → first_fault s.held book changes ≡ r → (f : Option ℕ) → first_number s.held (length changes) ≡ f
        → unless r (edits_by NumbersUsedUp f s book changes) ≡ Ok ops
        → NoneRefused s (edits_over book changes) × (after_all s (edits_over book changes) ≡ with_ops s ops)
    by (Some fault) e f g h = cc h
    by None e None g h = cc h
    by None e (Some first) g h =
        let given = is_first s.held (length changes) first (sym g) in
        let all = run s book changes s first refl state.set.rising given.is given.room rise begun
        e (λ q h. refl) in
        let same : edits_from first s book changes ≡ ops = cc h in
        (all.0, all.1 ∙ ap (with_ops s) same)
