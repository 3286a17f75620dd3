-- What a replica makes next, and chains of replacements.
use Rattle.std.proofs.Common.{◌≡◌, ℕ, zero, suc, max, ◌+◌, ◌≤◌, ◌<◌, Bool, true, false, not, cond, ◌&&◌, ◌||◌, ◌==◌, nat_le, List}
use Rattle.std.proofs.Common.{[], ◌∷◌, length, filter, arith, refl, sym, ap, subst, ◌∙◌, Option, Some, None, option_map, Result, Ok, Err}
use Rattle.std.proofs.lemmas.Bool.{and_parts, and_from, false≢true}
use Rattle.std.proofs.lemmas.Bool.Decides.{nat_tests}
use Rattle.usfm_ref.specs.Segments.{segment}
use Rattle.usfm_ref.specs.declared.segment.Segment.{Segment}
use Rattle.verse_cut.specs.declared.fault.BookFault.{BookFault}
use Rattle.verse_cut.specs.Pieces.{PieceParts, pieces_of}
use Rattle.verse_cut.specs.Reading.{book_in}
use Rattle.op_core.specs.Ids.{Id, same_id, is_number, names_fall}
use Rattle.op_core.specs.Ops.{Operation, is_full, in_segment, names}
use Rattle.op_core.specs.Sets.{rises, get}
use Rattle.op_core.specs.Shown.{is_shown, is_replaced}
use Rattle.op_core.specs.Lists.{is_held, shown_ids}
use Rattle.op_core.specs.NextIds.{is_among, given_ids, greatest_number, next_number}
use Rattle.op_core.proofs.Sets.Clashes.{get_cases}
use Rattle.op_core.proofs.Sets.Gets.{AnyHeld, any_held}
use Rattle.op_core.proofs.IdOrders.NextIds.{beyond, shown_fall}
use Rattle.replica_state.specs.declared.fault.EditFault.{EditFault}
use Rattle.replica_state.specs.declared.fault.ImportFault.TheVariants.{NumbersUsedUp}
use Rattle.replica_state.specs.States.{State}
use Rattle.replica_state.specs.Edits.{has_numbers, own_id, first_number, next_id, edit_by, edit_fault, unless}
use Rattle.replica_state.specs.Changes.{ChangeParts, edits_from, edits_by, edits_or}
use Rattle.replica_state.specs.Imports.{due_changes, import_into}
use Rattle.replica_state.specs.World.{World, Event, Edits, EditsOver, Imports, Thins, Summarizes, Bundles, Receives}
use Rattle.replica_state.specs.World.{ReceivesCut, FindsNoMemory, world, made, edit_made, edits_made, replica, replica_name}
use Rattle.replica_state.specs.World.Schedules.{Makes, IsMade, IsChain}
use Rattle.replica_state.proofs.Changes.{is_first, given_fall, edit_at, edits_rise}
use Rattle.replica_state.proofs.World.Held.{among_is_held, filter_held}

-- an operation that a replica makes next
pub record IsNext (s : State) (o : Operation) : Type 0 where
  pub own_name : o.id.name ≡ s.name
  pub greater : greatest_number s.held < o.id.number
  pub in_range : is_number o.id.number ≡ true
  pub full : is_full o ≡ true
  pub seen : (id : Id) → names o id ≡ true → is_among (shown_ids s.held o.segment) id ≡ true
  pub falls : rises s.held ≡ true → names_fall o.id o.replaced ≡ true

-- operations that a replica makes next, rising
pub record AreNext (s : State) (ops : List Operation) : Type 0 where
  pub rising : rises ops ≡ true
  pub each : (q : Id) (o : Operation) → get ops q ≡ Some o → IsNext s o

none_next : (s : State) → AreNext s []
none_next s = record { rising = refl; each = λ q o g. cc g }

one_next : (s : State) (o : Operation) → IsNext s o → AreNext s (o ∷ [])
one_next s o h = record { rising = refl; each = λ q x g. get_cases q o [] x g (λ _ e. subst (IsNext s) e h) (λ n. cc n) }

number_fits : (greatest count : ℕ) → nat_le (greatest + suc count) 1000000000000000 ≡ true → is_number (suc greatest) ≡ true
number_fits greatest count h = grind (arith, nat_tests)

edit_next : (s : State) (g : Segment) (named : List Id) (text : List ℕ)
    → ((id : Id) → is_among named id ≡ true → is_among (shown_ids s.held g) id ≡ true)
    → ((id : Id) → rises s.held ≡ true → greatest_number s.held < id.number → names_fall id named ≡ true)
    → AreNext s (edit_made (edit_by (next_id s) g named text))
edit_next s g named text seen falls = by (has_numbers s.held 1) refl
  where
    by : (b : Bool) → has_numbers s.held 1 ≡ b
        → AreNext s (edit_made (edit_by (option_map (own_id s) (cond b (Some (next_number s.held)) None)) g named text))
    by true e = one_next s _ (record {
      own_name = refl;
      greater = omega arith;
      in_range = number_fits (greatest_number s.held) 0 e;
      full = refl;
      seen = seen;
      falls = λ h. falls (own_id s (next_number s.held)) h (omega arith);
    })
    by false e = none_next s

unless_next : (s : State) (fault : Option EditFault) (r : Result Operation EditFault) → AreNext s (edit_made r)
    → AreNext s (edit_made (unless fault r))
unless_next s None r h = h
unless_next s (Some fault) r h = none_next s

some_among : (p : Id → Bool) (ids : List Id) (q : Id) → is_among (filter p ids) q ≡ true → is_among ids q ≡ true
some_among p [] q h = h
some_among p (x ∷ ids) q h = by (some_among p ids q) (p x) (same_id q x) refl h
  where
    by : (is_among (filter p ids) q ≡ true → is_among ids q ≡ true) → (b d : Bool) → same_id q x ≡ d
        → is_among (cond b (x ∷ filter p ids) (filter p ids)) q ≡ true → (d || is_among ids q) ≡ true
    by rest b true e h = refl
    by rest true false e h = rest (ap (λ v. v || is_among (filter p ids) q) (sym e) ∙ h)
    by rest false false e h = rest h

-- ---- an import

module _ (s : State) (book : List ℕ) where
  each_next : (n : ℕ) (changes : List ChangeParts) → greatest_number s.held < n → n + length changes ≤ 1000000000000001
      → (q : Id) (o : Operation) → get (edits_from n s book changes) q ≡ Some o → IsNext s o
  each_next n [] l m q o g = cc g
  each_next n (c ∷ changes) l m q o g =
      get_cases q _ (edits_from (suc n) s book changes) o g (λ _ e. subst (IsNext s) e here)
      (λ rest. each_next (suc n) changes (omega arith) (omega arith) q o rest)
    where
      here : IsNext s (edit_at s book n c)
      here = record {
        own_name = refl;
        greater = l;
        in_range = within n (omega arith) (omega arith);
        full = refl;
        seen = some_among (is_among c.ids) (shown_ids s.held (segment book c.key));
        falls = λ h. given_fall s.held (segment book c.key) c.ids (own_id s n) h l;
      }
        where
          within : (n : ℕ) → 1 ≤ n → n ≤ 1000000000000000 → is_number n ≡ true
          within n h k = grind (arith, nat_tests)

  edits_next : {F : Type 0} (full : F) (changes : List ChangeParts) → AreNext s (edits_made (edits_or full s book changes))
  edits_next full changes = by (first_number s.held (length changes)) refl
    where
      by : (f : Option ℕ) → f ≡ first_number s.held (length changes) → AreNext s (edits_made (edits_by full f s book changes))
      by None e = none_next s
      by (Some first) e =
          let given = is_first s.held (length changes) first e in
          let next = given.is in
          let room = given.room in record {
            rising = edits_rise s book first changes;
            each = each_next first changes (omega (arith, next)) (omega (arith, next, room));
          }

import_next : (s : State) (pieces : List PieceParts) (r : Result (List ℕ) BookFault) → AreNext s (edits_made (import_into s pieces r))
import_next s pieces (Ok book) = edits_next s book NumbersUsedUp (due_changes s.held book pieces)
import_next s pieces (Err fault) = none_next s

-- ---- every event

pub made_next : (w : World) (e : Event) → AreNext (replica w (replica_name e)) (made w e)
made_next w (Edits name g text) =
    let s = replica w name in
    unless_next s (edit_fault s.held g text) _
    (edit_next s g (shown_ids s.held g) text (λ id h. h) (λ id h l. shown_fall s.held g id h l))
made_next w (EditsOver name g text given) =
    let s = replica w name in
    unless_next s (edit_fault s.held g text) _ (unless_next s _ _
    (edit_next s g (given_ids s.held g given) text (some_among (is_among given) (shown_ids s.held g))
    (given_fall s.held g given)))
made_next w (Imports name file) = import_next (replica w name) (pieces_of file) (book_in file)
made_next w (Thins name) = none_next (replica w name)
made_next w (Summarizes name) = none_next (replica w name)
made_next w (Bundles name kept) = none_next (replica w name)
made_next w (Receives name k) = none_next (replica w name)
made_next w (ReceivesCut name k length) = none_next (replica w name)
made_next w (FindsNoMemory name) = none_next (replica w name)

-- what an event makes its replica makes next
pub is_next : (w : World) (e : Event) (o : Operation) → Makes w e o → IsNext (replica w (replica_name e)) o
is_next w e o m = (made_next w e).each o.id o m

-- what an event makes names what its replica shows
pub names_shown : (past : List Event) (e : Event) (o : Operation) (id : Id) → Makes (world past) e o → names o id ≡ true
    → is_among (shown_ids ((world past).held (replica_name e)) o.segment) id ≡ true
names_shown past e o id m = (is_next (world past) e o m).seen id

pub shown_held : (held : List Operation) (g : Segment) (id : Id) → is_among (shown_ids held g) id ≡ true → is_held held id ≡ true
shown_held held g id h = filter_held (is_shown held g) held id (sym (among_is_held (filter (is_shown held g) held) id) ∙ h)

held_number : (ops : List Operation) (id : Id) → is_held ops id ≡ true → id.number ≤ greatest_number ops
held_number [] id h = absurd (false≢true h)
held_number (o ∷ ops) id h = by (held_number ops id) (same_id id o.id) refl h
  where
    number_is : (a b : ℕ) → (c : Bool) → ((a == b) && c) ≡ true → a ≡ b
    number_is a b c h = let p = and_parts (a == b) c h in grind (arith, nat_tests)

    by : (is_held ops id ≡ true → id.number ≤ greatest_number ops) → (b : Bool) → same_id id o.id ≡ b → (b || is_held ops id) ≡ true
        → id.number ≤ max o.id.number (greatest_number ops)
    by rest true e h = let n = number_is id.number o.id.number _ e in omega arith
    by rest false e h = let l = rest h in omega arith

pub falls : (events : List Event) (o : Operation) → IsMade events o → (id : Id) → names o id ≡ true → id.number < o.id.number
falls events o m id h =
    let n = is_next (world m.past) m.event o m.makes in
    let l = held_number _ id (shown_held _ o.segment id (n.seen id h)) in
    let g = n.greater in
    omega arith

-- ---- chains

module _ (held : List Operation) (rise : rises held ≡ true)
    (fall : (p : Operation) → get held p.id ≡ Some p → (id : Id) → names p id ≡ true → id.number < p.id.number) (g : Segment) where
  pub chain : (n : ℕ) (o : Operation) → greatest_number held < o.id.number + n → get held o.id ≡ Some o → in_segment g o ≡ true
      → (chain : List Operation) × IsChain held g o chain
  chain zero o l h s = let l2 : greatest_number held < o.id.number = omega arith in cc (sym (beyond held o.id l2) ∙ h)
  chain (suc n) o l h s = by (chain n) (is_replaced held g o.id) refl
    where
      next : ((p : Operation) → greatest_number held < p.id.number + n → get held p.id ≡ Some p → in_segment g p ≡ true
          → (chain : List Operation) × IsChain held g p chain)
          → AnyHeld (λ p. in_segment g p && names p o.id) held → (chain : List Operation) × IsChain held g o chain
      next rest m =
          let parts = and_parts (in_segment g m.one) (names m.one o.id) m.passes in
          let less : o.id.number < m.one.id.number = fall m.one m.held o.id parts.1 in
          let c = rest m.one (omega arith) m.held parts.0 in
          (m.one ∷ c.0, (m.held, parts.0, parts.1, c.1))

      by : ((p : Operation) → greatest_number held < p.id.number + n → get held p.id ≡ Some p → in_segment g p ≡ true
          → (chain : List Operation) × IsChain held g p chain)
          → (b : Bool) → is_replaced held g o.id ≡ b → (chain : List Operation) × IsChain held g o chain
      by rest false e = ([], and_from (in_segment g o) (not (is_replaced held g o.id)) s (ap not e))
      by rest true e = next rest (any_held (λ p. in_segment g p && names p o.id) held rise e)
