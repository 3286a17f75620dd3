-- The same answers a second time make nothing.
use Rattle.std.proofs.Common.{◌≡◌, ◌≢◌, ◌≤◌, ◌⊎◌, ℕ, max, Bool, true, false, not, cond, ◌&&◌, ◌||◌, List, [], ◌∷◌, ◌++◌, length, filter, Option, Some, None, Result, Ok, Err, inl, inr, refl, sym, ap, subst, ◌∙◌, arith, if◌then◌else◌}
use Rattle.std.specs.Prelude.{option_map}
use Rattle.std.specs.List.{AllByRecursion, list_any, find}
use Rattle.std.specs.Option.{option_or, is_some}
use Rattle.std.proofs.lemmas.Bool.{and_parts, and_from, or_left, or_right}
use Rattle.std.proofs.lemmas.List.Folds.{list_any-append, find-append}
use Rattle.usfm_ref.specs.Books.{same_bytes}
use Rattle.usfm_ref.specs.Keys.{book_head, same_key}
use Rattle.usfm_ref.specs.declared.segment.Segment.{Segment}
use Rattle.usfm_ref.proofs.Orders.{same_bytes-is, same_bytes-refl}
use Rattle.verse_cut.specs.Reading.{text_fits}
use Rattle.op_core.specs.Equal.{id_from_same, same_id-refl}
use Rattle.op_core.specs.Export.{has_book, of_book}
use Rattle.op_core.specs.Ids.{Id, same_id}
use Rattle.op_core.specs.Lists.{ids_of, is_held, shown_ids}
use Rattle.op_core.specs.NextIds.{greatest_number, is_among, given_ids, next_number}
use Rattle.op_core.specs.Ops.{Operation, in_segment, names, own_text}
use Rattle.op_core.specs.Sets.{get, rises}
use Rattle.op_core.specs.Shown.{is_replaced, is_shown}
use Rattle.op_core.proofs.Sets.Families.{among_held}
use Rattle.op_core.proofs.Sets.Union.{rises-join}
use Rattle.replica_state.specs.Changes.{ChangeParts}
use Rattle.replica_state.specs.States.{State}
use Rattle.replica_state.specs.Edits.{edit_by, edit_with, edit_over_op, has_numbers, next_id, own_id, unless, first_not_shown}
use Rattle.replica_state.specs.declared.fault.EditFault.{EditFault}
use Rattle.replica_state.specs.declared.fault.EditFault.TheVariants.{BadSegment, NoBook, NotShown}
use Rattle.replica_state.proofs.Changes.{edits_after}
use Rattle.replica_state.proofs.World.Held.{among_is_held, filter_held}
use Rattle.conflict_answers.specs.Answers.{AnswerParts, AreAnswers, Chosen, taken, own, not_now, MayBeChosen}
use Rattle.conflict_answers.specs.Laws.{HoldsOwn, MakesNothing, TwiceIsOnce}
use Rattle.conflict_answers.specs.Settling.{chosen_text, settled, settled_all, settled_as, settled_by, settled_with, shown_text}
use Rattle.conflict_answers.specs.declared.settling.Settled.TheVariants.{Made}
use Rattle.conflict_answers.proofs.Idle.{idle_all}
use Rattle.conflict_answers.proofs.Making.{Makes, Told, makes, makes_by, told_as}
use Rattle.conflict_answers.proofs.Settlings.{gone_with, is_edit, none_fails}

-- ---- what an answer cannot make

-- an id that will not come: it is held, or is one of another replica
abbrev Never : State → Id → Type 0
Never s q = (is_held s.held q ≡ true) ⊎ (q.name ≢ s.name)

-- why an answer makes nothing, now and after further answers
data Blocked (s : State) (g : Segment) (ids : List Id) (c : Chosen) : Type 0 where
  unanswered : c ≡ not_now → Blocked s g ids c
  gone : (q : Id) → is_among ids q ≡ true → is_among (shown_ids s.held g) q ≡ false → Never s q → Blocked s g ids c
  unfit : (t : List ℕ) → c ≡ own t → text_fits g.book g.key t ≡ false → Blocked s g ids c
  taken_unfit : (x : Id) (o : Operation) → c ≡ taken x → get s.held x ≡ Some o → text_fits g.book g.key (own_text o) ≡ false
      → Blocked s g ids c
  used_up : has_numbers s.held 1 ≡ false → Blocked s g ids c

not_both : (b : Bool) → b ≡ true → b ≡ false → ⊥
not_both b t f = cc

-- the text that is taken is that of the held operation
taken_text : (s : State) (g : Segment) (x : Id) (o : Operation) (t : List ℕ) → get s.held x ≡ Some o → shown_text s.held g x ≡ Some t
    → own_text o ≡ t
taken_text s g x o t e h = by (is_among (shown_ids s.held g) x) h
  where
    by : (b : Bool) → (if b then option_map own_text (get s.held x) else None) ≡ Some t → own_text o ≡ t
    by true h = let f : Some (own_text o) ≡ Some t = sym (ap (option_map own_text) e) ∙ h in cc
    by false h = cc

makes_nothing : (s : State) (g : Segment) (ids : List Id) (c : Chosen) → Blocked s g ids c → (id : Id)
    → (settled_as s g ids c).told ≡ Ok (Made id) → ⊥
makes_nothing s g ids c blocked id h = by blocked (told_as s g ids c id h)
  where
    by : Blocked s g ids c → Told s g ids c id → ⊥
    by (unanswered e) told = let n : None ≡ Some told.text = sym (ap (chosen_text s.held g) e) ∙ told.chosen in cc
    by (gone q among fails never) told = not_both _ (none_fails (is_among (shown_ids s.held g)) ids told.edit.all q among) fails
    by (unfit t e fails) told =
        let n : Some t ≡ Some told.text = sym (ap (chosen_text s.held g) e) ∙ told.chosen in
        let m : t ≡ told.text = cc in
        not_both _ told.edit.fits (sym (ap (text_fits g.book g.key) m) ∙ fails)
    by (taken_unfit x o e held fails) told =
        let m = taken_text s g x o told.text held (sym (ap (chosen_text s.held g) e) ∙ told.chosen) in
        not_both _ told.edit.fits (sym (ap (text_fits g.book g.key) m) ∙ fails)
    by (used_up fails) told = not_both _ told.edit.room fails

-- ---- it stays so

number_held : (ops : List Operation) (q : Id) → is_held ops q ≡ true → q.number ≤ greatest_number ops
number_held [] q h = cc
number_held (o ∷ ops) q h = by (same_id q o.id) refl (λ m. number_held ops q m) h
  where
    by : (b : Bool) → same_id q o.id ≡ b → (is_held ops q ≡ true → q.number ≤ greatest_number ops) → (b || is_held ops q) ≡ true
        → q.number ≤ max o.id.number (greatest_number ops)
    by true e on h = let n = ap (λ (i : Id). i.number) (id_from_same q o.id e) in omega (arith, n)
    by false e on h = let l = on h in omega (arith, l)

-- with one more, no more are shown but that one
none_more : (p r : Operation → Bool) (ops : List Operation) (new : Operation) (q : Id) → ((o : Operation) → r o ≡ true → p o ≡ true)
    → is_among (ids_of (filter p ops)) q ≡ false → same_id q new.id ≡ false → is_among (ids_of (filter r (ops ++ new ∷ []))) q ≡ false
none_more p r [] new q w h n = by (r new)
  where
    by : (b : Bool) → is_among (ids_of (cond b (new ∷ []) [])) q ≡ false
    by true = ap (λ b. b || false) n
    by false = refl
none_more p r (o ∷ ops) new q w h n = by (r o) refl (p o) refl (λ m. none_more p r ops new q w m n) h
  where
    both_no : (a b : Bool) → (a || b) ≡ false → (a ≡ false) × (b ≡ false)
    both_no true b e = cc
    both_no false b e = (refl, e)

    by : (b : Bool) → r o ≡ b → (d : Bool) → p o ≡ d
        → (is_among (ids_of (filter p ops)) q ≡ false → is_among (ids_of (filter r (ops ++ new ∷ []))) q ≡ false)
        → is_among (ids_of (cond d (o ∷ filter p ops) (filter p ops))) q ≡ false
        → is_among (ids_of (cond b (o ∷ filter r (ops ++ new ∷ [])) (filter r (ops ++ new ∷ [])))) q ≡ false
    by true e true f on h =
        let apart = both_no (same_id q o.id) (is_among (ids_of (filter p ops)) q) h in
        ap (λ x. x || is_among (ids_of (filter r (ops ++ new ∷ []))) q) apart.0 ∙ on apart.1
    by true e false f on h = let passes = w o e in cc
    by false e true f on h = on (both_no (same_id q o.id) (is_among (ids_of (filter p ops)) q) h).1
    by false e false f on h = on h

shown_before : (held : List Operation) (new : Operation) (g : Segment) (o : Operation) → is_shown (held ++ new ∷ []) g o ≡ true
    → is_shown held g o ≡ true
shown_before held new g o h =
    let both = and_parts (in_segment g o) (not (is_replaced (held ++ new ∷ []) g o.id)) h in
    and_from (in_segment g o) (not (is_replaced held g o.id)) both.0
    (by (is_replaced held g o.id) (is_replaced (new ∷ []) g o.id)
    (sym (ap not (list_any-append (λ (p : Operation). in_segment g p && names p o.id) held (new ∷ []))) ∙ both.1))
  where
    by : (a b : Bool) → not (a || b) ≡ true → not a ≡ true
    by true b e = e
    by false b e = refl

module _ (s t : State) (rising : rises s.held ≡ true) (m : Makes s t) where
  abbrev new : Operation
  new = edit_with (own_id s (next_number s.held)) m.g (given_ids s.held m.g m.ids) m.text

  held_is : t.held ≡ s.held ++ new ∷ []
  held_is =
      let change : ChangeParts = record { key = m.g.key; text = m.text; ids = m.ids } in
      ap (λ (x : State). x.held) m.after ∙ edits_after s m.g.book s.held (next_number s.held) (change ∷ []) rising (omega arith)

  name_is : t.name ≡ s.name
  name_is = ap (λ (x : State). x.name) m.after

  still_rising : rises t.held ≡ true
  still_rising = ap (λ (x : State). rises x.held) m.after ∙ rises-join s.held (new ∷ []) rising

  still_held : (q : Id) → is_held s.held q ≡ true → is_held t.held q ≡ true
  still_held q h =
      ap (λ ops. is_held ops q) held_is ∙ list_any-append (λ (o : Operation). same_id q o.id) s.held (new ∷ [])
      ∙ or_left (is_held s.held q) (is_held (new ∷ []) q) h

  not_new : (q : Id) → Never s q → same_id q new.id ≡ false
  not_new q never = by (same_id q new.id) refl never
    where
      by : (b : Bool) → same_id q new.id ≡ b → Never s q → b ≡ false
      by false e n = refl
      by true e (inl h) =
          let l = number_held s.held q h in
          let n = ap (λ (i : Id). i.number) (id_from_same q new.id e) in
          absurd (omega (arith, l, n))
      by true e (inr n) = absurd (n (ap (λ (i : Id). i.name) (id_from_same q new.id e)))

  never_stays : (q : Id) → Never s q → Never t q
  never_stays q (inl h) = inl (still_held q h)
  never_stays q (inr n) = inr (λ e. n (e ∙ name_is))

  not_shown_stays : (g : Segment) (q : Id) → is_among (shown_ids s.held g) q ≡ false → Never s q → is_among (shown_ids t.held g) q ≡ false
  not_shown_stays g q fails never =
      ap (λ ops. is_among (shown_ids ops g) q) held_is
      ∙ none_more (is_shown s.held g) (is_shown (s.held ++ new ∷ []) g) s.held new q (shown_before s.held new g) fails (not_new q never)

  blocked_by : (g : Segment) (ids : List Id) (c : Chosen) → Blocked s g ids c → Blocked t g ids c
  blocked_by g ids c (unanswered e) = unanswered e
  blocked_by g ids c (gone q among fails never) = gone q among (not_shown_stays g q fails never) (never_stays q never)
  blocked_by g ids c (unfit text e fails) = unfit text e fails
  blocked_by g ids c (taken_unfit x o e h fails) =
      taken_unfit x o e
      (ap (λ ops. get ops x) held_is ∙ find-append (λ (p : Operation). same_id x p.id) s.held (new ∷ [])
      ∙ ap (λ r. option_or r (get (new ∷ []) x)) h)
      fails
  blocked_by g ids c (used_up fails) = absurd (not_both (has_numbers s.held 1) m.room fails)

-- ---- an answer is blocked once it was made, or was not

-- where an id is shown, its book has an operation
shown_has_book : (held : List Operation) (g : Segment) (q : Id) → has_book held g.book ≡ false → is_among (shown_ids held g) q ≡ false
shown_has_book held g q fails = by held fails
  where
    both_no : (a b : Bool) → (a || b) ≡ false → (a ≡ false) × (b ≡ false)
    both_no true b e = cc
    both_no false b e = (refl, e)

    by : (ops : List Operation) → list_any (of_book g.book) ops ≡ false → is_among (ids_of (filter (is_shown held g) ops)) q ≡ false
    by [] e = refl
    by (o ∷ ops) e =
        let fails = both_no (of_book g.book o) (list_any (of_book g.book) ops) e in
        let hidden : is_shown held g o
        ≡ false = ap (λ b. (b && same_key o.segment.key g.key) && not (is_replaced held g o.id)) fails.0 in
        ap (λ b. is_among (ids_of (cond b (o ∷ filter (is_shown held g) ops) (filter (is_shown held g) ops))) q) hidden ∙ by ops fails.1

-- the first id that fails is one of them
first_failing : (p : Id → Bool) (ids : List Id) (q : Id) → find (λ i. not (p i)) ids ≡ Some q → (is_among ids q ≡ true) × (p q ≡ false)
first_failing p [] q e = cc
first_failing p (i ∷ ids) q e = by (p i) refl (λ m. first_failing p ids q m) e
  where
    by : (b : Bool) → p i ≡ b → (find (λ x. not (p x)) ids ≡ Some q → (is_among ids q ≡ true) × (p q ≡ false))
        → cond (not b) (Some i) (find (λ x. not (p x)) ids) ≡ Some q → (is_among (i ∷ ids) q ≡ true) × (p q ≡ false)
    by true f on e = let rest = on e in (or_right (same_id q i) (is_among ids q) rest.0, rest.1)
    by false f on e =
        let same : i ≡ q = cc in
        (or_left (same_id q i) (is_among ids q) (ap (same_id q) same ∙ same_id-refl q), ap p (sym same) ∙ f)

-- why an edit over ids is refused
data Refusal (s : State) (g : Segment) (ids : List Id) (t : List ℕ) : Type 0 where
  bad : text_fits g.book g.key t ≡ false → Refusal s g ids t
  missing : (q : Id) → is_among ids q ≡ true → is_among (shown_ids s.held g) q ≡ false → Refusal s g ids t
  no_number : has_numbers s.held 1 ≡ false → Refusal s g ids t

module _ (s : State) (g : Segment) (t : List ℕ) (q : Id) (ids : List Id) (fault : EditFault) where
  abbrev given : List Id
  given = given_ids s.held g (q ∷ ids)

  by_number : (b : Bool) → has_numbers s.held 1 ≡ b
      → edit_by (option_map (own_id s) (if b then Some (next_number s.held) else None)) g given t ≡ Err fault → Refusal s g (q ∷ ids) t
  by_number true e h = cc
  by_number false e h = no_number e

  by_ids : (r : Option Id) → first_not_shown s.held g (q ∷ ids) ≡ r
      → unless (option_map NotShown r) (edit_by (next_id s) g given t) ≡ Err fault → Refusal s g (q ∷ ids) t
  by_ids (Some x) e h = let f = first_failing (is_among (shown_ids s.held g)) (q ∷ ids) x e in missing x f.0 f.1
  by_ids None e h = by_number (has_numbers s.held 1) refl h

  abbrev rest : Result Operation EditFault
  rest = unless (option_map NotShown (first_not_shown s.held g (q ∷ ids))) (edit_by (next_id s) g given t)

  by_book : (b : Bool) → has_book s.held g.book ≡ b → unless (if b || same_key g.key book_head then None else Some NoBook) rest ≡ Err fault
      → Refusal s g (q ∷ ids) t
  by_book true e h = by_ids (first_not_shown s.held g (q ∷ ids)) refl h
  by_book false e h = missing q (or_left (same_id q q) (is_among ids q) (same_id-refl q)) (shown_has_book s.held g q e)

  by_fits : (b : Bool) → text_fits g.book g.key t ≡ b
      → unless (if not b then Some BadSegment else (if has_book s.held g.book || same_key g.key book_head then None else Some NoBook)) rest
      ≡ Err fault → Refusal s g (q ∷ ids) t
  by_fits true e h = by_book (has_book s.held g.book) refl h
  by_fits false e h = bad e

  refusal : edit_over_op s g t (q ∷ ids) ≡ Err fault → Refusal s g (q ∷ ids) t
  refusal h = by_fits (text_fits g.book g.key t) refl h

-- what is shown is held
shown_held : (held : List Operation) (g : Segment) (id : Id) → is_among (shown_ids held g) id ≡ true → is_held held id ≡ true
shown_held held g id h = filter_held (is_shown held g) held id (sym (among_is_held (filter (is_shown held g) held) id) ∙ h)

abbrev Owns : State → List Id → Type 0
Owns s ids = (q : Id) → is_among ids q ≡ true → q.name ≡ s.name → is_held s.held q ≡ true

never_of : (s : State) (ids : List Id) → Owns s ids → (q : Id) → is_among ids q ≡ true → Never s q
never_of s ids owns q among = by (same_bytes q.name s.name) refl
  where
    by : (b : Bool) → same_bytes q.name s.name ≡ b → Never s q
    by true e = inl (owns q among (same_bytes-is q.name s.name e))
    by false e = inr (λ n. not_both (same_bytes q.name s.name) (ap (same_bytes q.name) (sym n) ∙ same_bytes-refl q.name) e)

module _ (s : State) (g : Segment) (q : Id) (ids : List Id) (rising : rises s.held ≡ true) (owns : Owns s (q ∷ ids)) where
  own_first : is_among (q ∷ ids) q ≡ true
  own_first = or_left (same_id q q) (is_among ids q) (same_id-refl q)

  module _ (c : Chosen) (t : List ℕ) (unfits : text_fits g.book g.key t ≡ false → Blocked s g (q ∷ ids) c) where
    abbrev edit : Result Operation EditFault
    edit = edit_over_op s g t (q ∷ ids)

    made_held : is_held s.held q ≡ true → is_held (settled_by s edit).after.held q ≡ true
    made_held h = elim (makes_by s g (q ∷ ids) t edit refl) [
      | inl same ↦ ap (λ (x : State). is_held x.held q) same ∙ h
      | inr m ↦ still_held s (settled_by s edit).after rising m q h
    ]

    by_made : (id : Id) → (settled_by s edit).told ≡ Ok (Made id) → Blocked (settled_by s edit).after g (q ∷ ids) c
    by_made id h =
        let made = is_edit s g t (q ∷ ids) id h in
        let was = none_fails (is_among (shown_ids s.held g)) (q ∷ ids) made.all q own_first in
        gone q own_first (gone_with s (settled_by s edit).after g q ids id (Some t) rising h (λ o i. i))
        (inl (made_held (shown_held s.held g q was)))

    by_refused : (fault : EditFault) → Refusal s g (q ∷ ids) t → Blocked s g (q ∷ ids) c
    by_refused fault (bad fails) = unfits fails
    by_refused fault (missing x among fails) = gone x among fails (never_of s (q ∷ ids) owns x among)
    by_refused fault (no_number fails) = used_up fails

    after_with : (e : Result Operation EditFault) → edit ≡ e → Blocked (settled_by s edit).after g (q ∷ ids) c
    after_with (Ok o) h = by_made o.id (ap (λ r. (settled_by s r).told) h)
    after_with (Err fault) h =
        subst (λ (x : State). Blocked x g (q ∷ ids) c) (sym (ap (λ r. (settled_by s r).after) h))
        (by_refused fault (refusal s g t q ids fault h))

  module _ (x : Id) (among : is_among (q ∷ ids) x ≡ true) where
    abbrev Taken : Option (List ℕ) → Type 0
    Taken text = Blocked (settled_with s g (q ∷ ids) text).after g (q ∷ ids) (taken x)

    by_get : (o : Option Operation) → get s.held x ≡ o → is_among (shown_ids s.held g) x ≡ true → Taken (option_map own_text o)
    by_get (Some o) e h =
        after_with (taken x) (own_text o) (λ fails. taken_unfit x o refl e fails) (edit_over_op s g (own_text o) (q ∷ ids)) refl
    by_get None e h =
        let yes = among_is_held s.held x ∙ shown_held s.held g x h in
        let fails = among_held s.held x ∙ ap is_some e in
        absurd (not_both (is_among (ids_of s.held) x) yes fails)

    by_shown : (b : Bool) → is_among (shown_ids s.held g) x ≡ b → Taken (if b then option_map own_text (get s.held x) else None)
    by_shown true e = by_get (get s.held x) refl e
    by_shown false e = gone x among e (never_of s (q ∷ ids) owns x among)

  after_as : (c : Chosen) → MayBeChosen (q ∷ ids) c → Blocked (settled_as s g (q ∷ ids) c).after g (q ∷ ids) c
  after_as (taken x) may = by_shown x may (is_among (shown_ids s.held g) x) refl
  after_as (own t) may = after_with (own t) t (λ fails. unfit t refl fails) (edit_over_op s g t (q ∷ ids)) refl
  after_as not_now may = unanswered refl

-- ---- all of them

after_ids : (s : State) (g : Segment) (ids : List Id) (c : Chosen) → rises s.held ≡ true → Owns s ids → 2 ≤ length ids → MayBeChosen ids c
    → Blocked (settled_as s g ids c).after g ids c
after_ids s g [] c rising owns two may = absurd (omega (arith, two))
after_ids s g (q ∷ ids) c rising owns two may = after_as s g q ids rising owns c may

rising_after : (s : State) (a : AnswerParts) → rises s.held ≡ true → rises (settled s a).after.held ≡ true
rising_after s a rising = elim (makes s a) [
  | inl same ↦ ap (λ (x : State). rises x.held) same ∙ rising
  | inr m ↦ still_rising s (settled s a).after rising m
]

blocked_after : (s : State) (a : AnswerParts) (g : Segment) (ids : List Id) (c : Chosen) → rises s.held ≡ true → Blocked s g ids c
    → Blocked (settled s a).after g ids c
blocked_after s a g ids c rising blocked = elim (makes s a) [
  | inl same ↦ subst (λ (x : State). Blocked x g ids c) (sym same) blocked
  | inr m ↦ blocked_by s (settled s a).after rising m g ids c blocked
]

blocked_all : (s : State) (answers : List AnswerParts) (g : Segment) (ids : List Id) (c : Chosen) → rises s.held ≡ true → Blocked s g ids c
    → Blocked (settled_all s answers) g ids c
blocked_all s [] g ids c rising blocked = blocked
blocked_all s (a ∷ answers) g ids c rising blocked =
    blocked_all (settled s a).after answers g ids c (rising_after s a rising) (blocked_after s a g ids c rising blocked)

owns_after : (s : State) (a : AnswerParts) (ids : List Id) → rises s.held ≡ true → Owns s ids → Owns (settled s a).after ids
owns_after s a ids rising owns = elim (makes s a) [
  | inl same ↦ subst (λ (x : State). Owns x ids) (sym same) owns
  | inr m ↦ λ q among n. still_held s (settled s a).after rising m q (owns q among (n ∙ name_is s (settled s a).after rising m))
]

all_own_after : (s : State) (a : AnswerParts) (answers : List AnswerParts) → rises s.held ≡ true → AllByRecursion (HoldsOwn s) answers
    → AllByRecursion (HoldsOwn (settled s a).after) answers
all_own_after s a [] rising owns = tt
all_own_after s a (b ∷ answers) rising owns = (owns_after s a b.ids rising owns.0, all_own_after s a answers rising owns.1)

all_blocked : (s : State) (answers : List AnswerParts) → rises s.held ≡ true → AreAnswers answers → AllByRecursion (HoldsOwn s) answers
    → AllByRecursion (λ a. Blocked (settled_all s answers) a.segment a.ids a.chosen) answers
all_blocked s [] rising are owns = tt
all_blocked s (a ∷ answers) rising are owns = (
  blocked_all (settled s a).after answers a.segment a.ids a.chosen (rising_after s a rising)
      (after_ids s a.segment a.ids a.chosen rising owns.0 are.0.conflict.two are.0.chosen),
  all_blocked (settled s a).after answers (rising_after s a rising) are.1 (all_own_after s a answers rising owns.1),
)

none_made : (t : State) (answers : List AnswerParts) → AllByRecursion (λ a. Blocked t a.segment a.ids a.chosen) answers
    → AllByRecursion (MakesNothing t) answers
none_made t [] all = tt
none_made t (a ∷ answers) all = (λ id h. makes_nothing t a.segment a.ids a.chosen all.0 id h, none_made t answers all.1)

pub twice_is_once : TwiceIsOnce
twice_is_once s answers state are owns =
    let t = settled_all s answers in
    let none = none_made t answers (all_blocked s answers state.set.rising are owns) in
    (none, idle_all t answers none)
