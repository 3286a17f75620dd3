-- What an answer makes, and that it makes it once.
use Rattle.std.proofs.Common.{Bor, ◌≡◌, ◌≢◌, ◌≤◌, ℕ, zero, suc, Bool, true, false, not, cond, ◌&&◌, ◌||◌, List, [], ◌∷◌, length, filter, Option, Some, None, Result, Ok, Err, refl, sym, ap, subst, ◌∙◌, arith, if◌then◌else◌}
use Rattle.std.specs.Prelude.{option_map}
use Rattle.std.specs.List.{Contains, list_any, find}
use Rattle.std.proofs.lemmas.Bool.{or_left, or_right, cond-true, and_right}
use Rattle.std.proofs.lemmas.List.Elements.{Contains-append_right}
use Rattle.usfm_ref.specs.Segments.{same_segment}
use Rattle.usfm_ref.specs.declared.segment.Segment.{Segment}
use Rattle.usfm_ref.proofs.Orders.{same_segment-refl}
use Rattle.usfm_ref.specs.Keys.{book_head, same_key}
use Rattle.verse_cut.specs.Reading.{text_fits}
use Rattle.op_core.specs.Equal.{id_from_same, same_id-refl}
use Rattle.op_core.specs.Ids.{Id, same_id}
use Rattle.op_core.specs.Export.{has_book}
use Rattle.op_core.specs.Lists.{ids_of, shown_ids}
use Rattle.op_core.specs.NextIds.{is_among, given_ids, next_number}
use Rattle.op_core.specs.Ops.{Operation, in_segment, names}
use Rattle.op_core.specs.Shown.{shown, is_shown, is_replaced}
use Rattle.op_core.specs.Sets.{rises}
use Rattle.replica_state.specs.Changes.{ChangeParts}
use Rattle.replica_state.specs.States.{State, IsState}
use Rattle.replica_state.specs.Edits.{edit_fault, edit_by, edit_with, edit_over_op, has_numbers, next_id, own_id, unless, first_not_shown}
use Rattle.replica_state.specs.Steps.{edited, step, with_ops, EditOver, Edited, Step}
use Rattle.replica_state.specs.declared.fault.EditFault.{EditFault}
use Rattle.replica_state.specs.declared.fault.EditFault.TheVariants.{Memory, BadSegment, NoBook, NotShown, NumbersUsedUp}
use Rattle.replica_state.proofs.Changes.{edit_at, edits_after}
use Rattle.replica_state.proofs.ChangeRuns.{among_passing}
use Rattle.conflict_answers.specs.Answers.{AnswerParts, Chosen, taken, own, not_now, chosen, view}
use Rattle.conflict_answers.specs.declared.answer.Answer.{Answer}
use Rattle.conflict_answers.specs.declared.answer.Choice.TheVariants.{Own, Take}
use Rattle.conflict_answers.specs.Laws.{HoldsAllOf, IsMadeOf, MadeIsMadeOnce, OnlyWhatStoodOnThePage}
use Rattle.conflict_answers.specs.Settling.{chosen_text, refused, settled, settled_as, settled_by, settled_with, shown_text, told_of}
use Rattle.conflict_answers.specs.declared.settling.Settled.{Settled}
use Rattle.conflict_answers.specs.declared.settling.Settled.TheVariants.{Made, Left}

-- ---- what a call of `edit_over` says is what is to be said

pub of_edited : (s t : State) (e : Result Operation EditFault) (r : Result Id EditFault)
    → edited s e ≡ record { after = t; reply = Edited r } → settled_by s e ≡ record { after = t; told = told_of r }
of_edited s t (Ok o) r h =
    let reply : Edited (Ok o.id) ≡ Edited r = ap (λ (x : Step). x.reply) h in
    let same : Ok o.id ≡ r = cc in
    let after : with_ops s (o ∷ []) ≡ t = ap (λ (x : Step). x.after) h in
    λ i. record { after = after i; told = told_of (same i) }
of_edited s t (Err fault) r h =
    let reply : Edited (Err fault) ≡ Edited r = ap (λ (x : Step). x.reply) h in
    let same : Err fault ≡ r = cc in
    let after : s ≡ t = ap (λ (x : Step). x.after) h in
    λ i. record { after = after i; told = told_of (same i) }

module _ (s t : State) (a : Answer) (text : List ℕ) (r : Result Id EditFault) (told : Result Settled EditFault) (is : told ≡ told_of r)
    (made : r ≢ Err Memory → step s (EditOver a.segment text a.ids.items) ≡ record { after = t; reply = Edited r })
    (fine : told ≢ Err Memory) where
  -- of an answer with a text, by what a call of `edit_over` says
  settled_text : settled_with s a.segment a.ids.items (Some text) ≡ record { after = t; told = told }
  settled_text =
      let no_memory : r ≢ Err Memory = λ e. fine (is ∙ ap told_of e) in
      of_edited s t (edit_over_op s a.segment text a.ids.items) r (made no_memory) ∙ (λ i. record { after = t; told = sym is i })

  pub settled_own : (x : Bor (List ℕ)) → x.now ≡ text → a.choice ≡ Own x → settled s (view a) ≡ record { after = t; told = told }
  settled_own x now choice =
      ap (λ c. settled_as s a.segment a.ids.items (chosen c)) choice
      ∙ ap (λ (bs : List ℕ). settled_with s a.segment a.ids.items (Some bs)) now ∙ settled_text

  pub settled_taken : (id : Id) → a.choice ≡ Take id → Some text ≡ shown_text s.held a.segment id
      → settled s (view a) ≡ record { after = t; told = told }
  settled_taken id choice shown =
      ap (λ c. settled_as s a.segment a.ids.items (chosen c)) choice ∙ ap (settled_with s a.segment a.ids.items) (sym shown) ∙ settled_text

-- ---- an edit that is made

refused_is : (id : Id) (fault : EditFault) → refused fault ≡ Ok (Made id) → ⊥
refused_is id Memory e = cc
refused_is id BadSegment e = cc
refused_is id NoBook e = cc
refused_is id (NotShown q) e = cc
refused_is id NumbersUsedUp e = cc

-- ids of which none fails a test pass it
pub none_fails : (p : Id → Bool) (ids : List Id) → find (λ id. not (p id)) ids ≡ None → (q : Id) → is_among ids q ≡ true → p q ≡ true
none_fails p [] none q h = cc
none_fails p (id ∷ ids) none q h = by (p id) refl none (same_id q id) refl h (λ n m. none_fails p ids n q m)
  where
    by : (b : Bool) → p id ≡ b → cond (not b) (Some id) (find (λ x. not (p x)) ids) ≡ None → (c : Bool) → same_id q id ≡ c
        → (c || is_among ids q) ≡ true → (find (λ x. not (p x)) ids ≡ None → is_among ids q ≡ true → p q ≡ true) → p q ≡ true
    by true e n true f h on = ap p (id_from_same q id f) ∙ e
    by true e n false f h on = on n h
    by false e n c f h on = cc

-- an edit over ids is made: its operation, and that nothing refuses it
pub record IsEdit (s : State) (g : Segment) (text : List ℕ) (ids : List Id) (id : Id) : Type 0 where
  pub edit : edit_over_op s g text ids ≡ Ok (edit_with id g (given_ids s.held g ids) text)
  pub own : id ≡ own_id s (next_number s.held)
  pub room : has_numbers s.held 1 ≡ true
  pub all : first_not_shown s.held g ids ≡ None
  pub fits : text_fits g.book g.key text ≡ true

-- where nothing is wrong, the text fits
no_fault_fits : (held : List Operation) (g : Segment) (text : List ℕ) → edit_fault held g text ≡ None → text_fits g.book g.key text ≡ true
no_fault_fits held g text e = by (text_fits g.book g.key text) (has_book held g.book || same_key g.key book_head) e
  where
    by : (b c : Bool) → (if not b then Some BadSegment else (if c then None else Some NoBook)) ≡ None → b ≡ true
    by true c e = refl
    by false c e = cc

module _ (s : State) (g : Segment) (text : List ℕ) (ids : List Id) (id : Id) where
  abbrev given : List Id
  given = given_ids s.held g ids

  by_number : (b : Bool) → has_numbers s.held 1 ≡ b
      → (settled_by s (edit_by (option_map (own_id s) (if b then Some (next_number s.held) else None)) g given text)).told ≡ Ok (Made id)
      → (edit_by (next_id s) g given text ≡ Ok (edit_with id g given text))
      × ((id ≡ own_id s (next_number s.held)) × (has_numbers s.held 1 ≡ true))
  by_number true e h =
      let same : own_id s (next_number s.held) ≡ id = cc in (
        (λ i. edit_by (option_map (own_id s) (if e i then Some (next_number s.held) else None)) g given text)
            ∙ (λ i. Ok (edit_with (same i) g given text)),
        (sym same, e),
      )
  by_number false e h = cc

  by_ids : (r : Option Id) → first_not_shown s.held g ids ≡ r
      → (settled_by s (unless (option_map NotShown r) (edit_by (next_id s) g given text))).told ≡ Ok (Made id)
      → (first_not_shown s.held g ids ≡ None)
      × ((unless (option_map NotShown (first_not_shown s.held g ids)) (edit_by (next_id s) g given text) ≡ Ok (edit_with id g given text))
      × ((id ≡ own_id s (next_number s.held)) × (has_numbers s.held 1 ≡ true)))
  by_ids (Some q) e h = absurd (refused_is id (NotShown q) h)
  by_ids None e h =
      let made = by_number (has_numbers s.held 1) refl h in
      (e, ((λ i. unless (option_map NotShown (e i)) (edit_by (next_id s) g given text)) ∙ made.0, made.1))

  by_fault : (r : Option EditFault) → edit_fault s.held g text ≡ r
      → (settled_by s (unless r (unless (option_map NotShown (first_not_shown s.held g ids)) (edit_by (next_id s) g given text)))).told
      ≡ Ok (Made id)
      → IsEdit s g text ids id
  by_fault (Some fault) e h = absurd (refused_is id fault h)
  by_fault None e h =
      let made = by_ids (first_not_shown s.held g ids) refl h in
      record {
        edit =
            (λ i. unless (e i) (unless (option_map NotShown (first_not_shown s.held g ids)) (edit_by (next_id s) g given text)))
            ∙ made.1.0;
        own = made.1.1.0;
        room = made.1.1.1;
        all = made.0;
        fits = no_fault_fits s.held g text e;
      }

  pub is_edit : (settled_by s (edit_over_op s g text ids)).told ≡ Ok (Made id) → IsEdit s g text ids id
  is_edit h = by_fault (edit_fault s.held g text) refl h

  -- it names the ids, and no others
  pub given_are : first_not_shown s.held g ids ≡ None → (q : Id) → is_among given q ≡ is_among ids q
  given_are none q = among_passing (is_among ids) (shown_ids s.held g) q ∙ by (is_among ids q) refl
    where
      by : (b : Bool) → is_among ids q ≡ b → (is_among (shown_ids s.held g) q && is_among ids q) ≡ is_among ids q
      by true e =
          (λ i. none_fails (is_among (shown_ids s.held g)) ids none q e i && is_among ids q)
      by false e = and_right (is_among (shown_ids s.held g) q) (is_among ids q) e ∙ sym e

-- what was made of an answer with a text
made_with : (s : State) (a : AnswerParts) (id : Id) (text : Option (List ℕ))
    → (settled s a).after ≡ (settled_with s a.segment a.ids text).after
    → text ≡ chosen_text s.held a.segment a.chosen → (settled_with s a.segment a.ids text).told ≡ Ok (Made id) → IsMadeOf s a id
made_with s a id None after is h = cc
made_with s a id (Some t) after is h =
    let made = is_edit s a.segment t a.ids id h in
    record {
      op = edit_with id a.segment (given_ids s.held a.segment a.ids) t;
      after = after ∙ ap (λ e. (settled_by s e).after) made.edit;
      made = refl;
      segment = refl;
      text = is;
      named = given_are s a.segment t a.ids id made.all;
    }

pub only_what_stood_on_the_page : OnlyWhatStoodOnThePage
only_what_stood_on_the_page s a id h = by a.chosen refl h
  where
    by : (c : Chosen) → a.chosen ≡ c → (settled_as s a.segment a.ids c).told ≡ Ok (Made id) → IsMadeOf s a id
    by (taken q) e h =
        made_with s a id (shown_text s.held a.segment q) (ap (λ c. (settled_as s a.segment a.ids c).after) e)
        (sym (ap (chosen_text s.held a.segment) e)) h
    by (own text) e h =
        made_with s a id (Some text) (ap (λ c. (settled_as s a.segment a.ids c).after) e) (sym (ap (chosen_text s.held a.segment) e)) h
    by not_now e h = cc

-- ---- it is made once

-- what is in a list and passes a test is found by it
any_of : (p : Operation → Bool) (ops : List Operation) (o : Operation) → Contains ops o → p o ≡ true → list_any p ops ≡ true
any_of p [] o h e = absurd (omega (arith, h.1))
any_of p (x ∷ ops) o (zero, l, e) t = or_left (p x) (list_any p ops) (ap p e ∙ t)
any_of p (x ∷ ops) o (suc k, l, e) t = or_right (p x) (list_any p ops) (any_of p ops o (k, omega arith, e) t)

-- no operation of an id passes where none of the id does
none_among : (p : Operation → Bool) (ops : List Operation) (q : Id) → ((o : Operation) → same_id q o.id ≡ true → p o ≡ false)
    → is_among (ids_of (filter p ops)) q ≡ false
none_among p [] q h = refl
none_among p (o ∷ ops) q h = by (same_id q o.id) refl (p o) refl (none_among p ops q h)
  where
    by : (b : Bool) → same_id q o.id ≡ b → (c : Bool) → p o ≡ c → is_among (ids_of (filter p ops)) q ≡ false
        → is_among (ids_of (cond c (o ∷ filter p ops) (filter p ops))) q ≡ false
    by true e true f rest = let fails = h o e in cc
    by b e false f rest = rest
    by false e true f rest = ap (λ b. b || is_among (ids_of (filter p ops)) q) e ∙ rest

-- an id that an operation of the segment names is not shown
replaced_gone : (held : List Operation) (g : Segment) (q : Id) (op : Operation) → Contains held op → op.segment ≡ g → names op q ≡ true
    → is_among (shown_ids held g) q ≡ false
replaced_gone held g q op in_it of_it named =
    let here : in_segment g op ≡ true = ap (λ h. same_segment h g) of_it ∙ same_segment-refl g in
    let gone : is_replaced held g q ≡ true
    = any_of (λ p. in_segment g p && names p q) held op in_it ((λ i. here i && names op q) ∙ named) in
    none_among (is_shown held g) held q
    (λ o e. and_right (in_segment g o) (not (is_replaced held g o.id))
    (ap (λ x. not (is_replaced held g x)) (sym (id_from_same q o.id e)) ∙ ap not gone))

-- where the first of some ids is not shown, nothing is made with a text
left_with : (s : State) (g : Segment) (q : Id) (ids : List Id) (text : Option (List ℕ)) → is_among (shown_ids s.held g) q ≡ false
    → (settled_with s g (q ∷ ids) text).told ≡ Ok Left
left_with s g q ids None gone = refl
left_with s g q ids (Some t) gone =
    let first : first_not_shown s.held g (q ∷ ids) ≡ Some q = cond-true _ _ _ (ap not gone) in
    ap (λ r. (settled_by s (unless (edit_fault s.held g t)
    (unless (option_map NotShown r) (edit_by (next_id s) g (given_ids s.held g (q ∷ ids)) t)))).told)
    first
    ∙ by (text_fits g.book g.key t) (has_book s.held g.book || same_key g.key book_head)
  where
    by : (b c : Bool)
        → (settled_by s (unless (if not b then Some BadSegment else (if c then None else Some NoBook)) (Err (NotShown q)))).told ≡ Ok Left
    by false c = refl
    by true true = refl
    by true false = refl

-- what is made holds its operation
holds_op : (s : State) (id : Id) (g : Segment) (ids : List Id) (text : List ℕ) → rises s.held ≡ true → id ≡ own_id s (next_number s.held)
    → Contains (with_ops s (edit_with id g (given_ids s.held g ids) text ∷ [])).held (edit_with id g (given_ids s.held g ids) text)
holds_op s id g ids text rising is =
    let number = next_number s.held in
    let change : ChangeParts = record { key = g.key; text = text; ids = ids } in
    let new = edit_at s g.book number change in
    let there : Contains (with_ops s (new ∷ [])).held new
    = subst (λ (held : List Operation). Contains held new)
    (sym (edits_after s g.book s.held number (change ∷ []) rising (omega arith)))
    (Contains-append_right s.held (new ∷ []) new (0, omega arith, refl)) in
    subst
    (λ (i : Id). Contains (with_ops s (edit_with i g (given_ids s.held g ids) text ∷ [])).held
    (edit_with i g (given_ids s.held g ids) text))
    (sym is) there

-- the first id of an edit that was made is not shown any more
pub gone_with : (s later : State) (g : Segment) (q : Id) (ids : List Id) (id : Id) (text : Option (List ℕ)) → rises s.held ≡ true
    → (settled_with s g (q ∷ ids) text).told ≡ Ok (Made id) → HoldsAllOf later (settled_with s g (q ∷ ids) text).after
    → is_among (shown_ids later.held g) q ≡ false
gone_with s later g q ids id None rising h holds = cc
gone_with s later g q ids id (Some t) rising h holds =
    let made = is_edit s g t (q ∷ ids) id h in
    let op = edit_with id g (given_ids s.held g (q ∷ ids)) t in
    let after : Contains (settled_by s (edit_over_op s g t (q ∷ ids))).after.held op
    = subst (λ (e : Result Operation EditFault). Contains (settled_by s e).after.held op) (sym made.edit)
    (holds_op s id g (q ∷ ids) t rising made.own) in
    replaced_gone later.held g q op (holds op after) refl
    (given_are s g t (q ∷ ids) id made.all q ∙ or_left (same_id q q) (is_among ids q) (same_id-refl q))

once : (s later : State) (g : Segment) (ids : List Id) (c : Chosen) (id : Id) → IsState s → 1 ≤ length ids
    → (settled_as s g ids c).told ≡ Ok (Made id) → HoldsAllOf later (settled_as s g ids c).after → (settled_as later g ids c).told ≡ Ok Left
once s later g [] c id state some h holds = absurd (omega (arith, some))
once s later g (q ∷ ids) (taken x) id state some h holds =
    left_with later g q ids (shown_text later.held g x) (gone_with s later g q ids id (shown_text s.held g x) state.set.rising h holds)
once s later g (q ∷ ids) (own text) id state some h holds =
    left_with later g q ids (Some text) (gone_with s later g q ids id (Some text) state.set.rising h holds)
once s later g (q ∷ ids) not_now id state some h holds = cc

pub made_is_made_once : MadeIsMadeOnce
made_is_made_once s later a id state some h holds = once s later a.segment a.ids a.chosen id state some h holds
