-- The same base and file taken in again add nothing.
use Rattle.std.proofs.Common.{◌≡◌, ℕ, suc, max, ◌+◌, ◌<◌, ◌≤◌, Bool, true, false, not, ◌&&◌, ◌||◌, List, [], ◌∷◌, ◌++◌, map}
use Rattle.std.proofs.Common.{filter, length, Option, Some, None, Result, Ok, Err, refl, sym, ap, subst, ◌∙◌, arith}
use Rattle.std.specs.List.{list_any}
use Rattle.std.specs.Ordering.{is_eq}
use Rattle.std.proofs.lemmas.Bool.{and_parts, and_from, and_right, or_parts, or_from, or_left, or_right, not-true, cond-true}
use Rattle.std.proofs.lemmas.Bool.{false_from_ne_true, le-leb}
use Rattle.std.proofs.lemmas.List.Folds.{list_any-append}
use Rattle.usfm_ref.specs.Books.{same_bytes}
use Rattle.usfm_ref.specs.Keys.{KeyParts, key_cmp, head_of}
use Rattle.usfm_ref.specs.Segments.{segment}
use Rattle.usfm_ref.specs.declared.segment.Segment.{Segment}
use Rattle.usfm_ref.proofs.Orders.{same_bytes-refl}
use Rattle.verse_cut.specs.Pieces.{PieceParts, pieces_of}
use Rattle.verse_cut.specs.Reading.{book_in}
use Rattle.verse_cut.specs.declared.fault.BookFault.{BookFault}
use Rattle.op_core.specs.Ids.{Id, is_none_left}
use Rattle.op_core.specs.Ops.{Operation, own_text, in_segment, names}
use Rattle.op_core.specs.Sets.{IsOpSet, rises, get, join, met, clash}
use Rattle.op_core.specs.Shown.{shown, is_shown, is_replaced}
use Rattle.op_core.specs.Export.{of_book, keys_in}
use Rattle.op_core.specs.Lists.{ids_of, shown_ids, keys_of}
use Rattle.op_core.specs.NextIds.{greatest_number, next_number, is_among, given_ids}
use Rattle.op_core.proofs.Sets.Agreement.{Agree, agree_itself}
use Rattle.op_core.proofs.Indexed.Enrolled.{apart_at}
use Rattle.op_core.proofs.Exports.Exported.{any-rising}
use Rattle.op_core.proofs.Exports.Shows.{named_by_none}
use Rattle.op_core.proofs.FilteredLists.{any_filter, any_map, filter_none}
use Rattle.op_core.proofs.Sets.Filters.{filter_kept}
use Rattle.op_core.proofs.Sets.Gets.{AnyHeld, any_held}
use Rattle.op_core.proofs.Sets.Groupings.{join_agrees}
use Rattle.op_core.proofs.IdOrders.NextIds.{beyond}
use Rattle.op_core.proofs.Sets.NoClash.{no_clash}
use Rattle.op_core.proofs.Sets.Union.{AgreeAtAll, IsOpSet-join, agree_from_no_clash, get-join, join_assoc, join_comm, join_itself}
use Rattle.replica_state.specs.States.{State, IsState}
use Rattle.replica_state.specs.Edits.{has_numbers}
use Rattle.replica_state.specs.Changes.{ChangeParts, edits_from, edits_by}
use Rattle.replica_state.specs.Imports.{piece_at, is_due, walked_keys}
use Rattle.replica_state.specs.Steps.{with_ops, edited_all}
use Rattle.replica_state.specs.Since.{has_greatest_text, stood_ids, seen_ids, shows_text, is_changed, changed_keys, since_change, since_changes}
use Rattle.replica_state.specs.Since.{changed, changed_after, changed_in, imported_since}
use Rattle.replica_state.specs.declared.fault.SinceFault.TheVariants.{NumbersUsedUp}
use Rattle.replica_state.specs.SinceLaws.{TwiceIsOnce}
use Rattle.replica_state.proofs.Appended as appended
use Rattle.replica_state.proofs.Appended.{is_there, key_is, shown_after}
use Rattle.replica_state.proofs.ChangeRuns.{among_passing}
use Rattle.replica_state.proofs.Changes.{edit_at, edits_after, edits_beyond, edits_rise, edits_name_none}
use Rattle.replica_state.proofs.DueKeys.{due_among, walked, heads_map, there_kept}
use Rattle.replica_state.proofs.OwnExports.{none_pass}
use Rattle.replica_state.proofs.SinceRuns.{Accepted, accepted, any_received}
use Rattle.replica_state.proofs.World.Held.{at_held, among_is_held, filter_held, not_held}

-- ---- operations of which some are shown

no_id_left : (p : Id → Bool) (test : Operation → Bool) (ops : List Operation) → list_any (λ o. test o && p o.id) ops ≡ false
    → filter p (ids_of (filter test ops)) ≡ []
no_id_left p test ops h =
    filter_none p (ids_of (filter test ops)) (any_map p (λ (o : Operation). o.id) (filter test ops) ∙ any_filter (λ o. p o.id) test ops ∙ h)

-- ---- keys of a set

any_key : (test : KeyParts → Bool) (ops : List Operation) (book : List ℕ)
    → list_any test (keys_in ops book) ≡ list_any (λ o. same_bytes o.segment.book book && test o.segment.key) ops
any_key test ops book =
    any_map test (λ (o : Operation). o.segment.key) (filter (of_book book) ops) ∙ any_filter (λ o. test o.segment.key) (of_book book) ops

module _ (held base : List Operation) (book : List ℕ) (pieces : List PieceParts) (hh : rises held ≡ true) (hb : rises base ≡ true)
    (none : clash held base ≡ None) where
  key_received : (test : KeyParts → Bool) → list_any test (keys_of base book) ≡ true → list_any test (keys_of (join held base) book) ≡ true
  key_received test h =
      any-rising test (keys_in (join held base) book) ∙ any_key test (join held base) book
      ∙ any_received held base (λ g. same_bytes g.book book && test g.key) hh hb none
      (sym (any-rising test (keys_in base book) ∙ any_key test base book) ∙ h)

  -- what is due in the base is walked where the base is received
  pub due_received : (q : KeyParts) → is_due base book pieces q ≡ true → is_there q (walked_keys (join held base) book pieces) ≡ true
  due_received q h =
      walked (join held base) book pieces q
      (three _ _ _ _ _ heads (key_received (λ k. is_eq (key_cmp q k))) (due_among base book pieces q h))
    where
      heads : is_there q (map head_of (keys_of base book)) ≡ true → is_there q (map head_of (keys_of (join held base) book)) ≡ true
      heads e =
          heads_map (join held base) book pieces q (keys_of (join held base) book)
          ∙ key_received (λ k. is_eq (key_cmp q (head_of k))) (sym (heads_map base book pieces q (keys_of base book)) ∙ e)

      three : (a b c d e : Bool) → (a ≡ true → d ≡ true) → (b ≡ true → e ≡ true) → ((a || b) || c) ≡ true → ((d || e) || c) ≡ true
      three true b c d e f g h = ap (λ x. (x || e) || c) (f refl)
      three false true c d e f g h = ap (λ x. x || c) (or_right d e (g refl))
      three false false c d e f g h = or_right (d || e) c h

  -- what is not among the changed keys was not changed
  pub not_changed : (q : KeyParts) → is_there q (changed_keys (join held base) base book pieces) ≡ false
      → is_changed (join held base) base book pieces q ≡ false
  not_changed q h = by (is_changed (join held base) base book pieces q) refl
    where
      by : (b : Bool) → is_changed (join held base) base book pieces q ≡ b → is_changed (join held base) base book pieces q ≡ false
      by true e =
          cc (sym h ∙ there_kept (is_changed (join held base) base book pieces) q (walked_keys (join held base) book pieces) e
          (due_received q (and_parts (is_due base book pieces q) _ e).0))
      by false e = e

-- ---- what a replica shows once its edits are made

module _ (t : State) (set : IsOpSet t.held) (base : List Operation) (book : List ℕ) (pieces : List PieceParts) where
  abbrev change : KeyParts → ChangeParts
  change key = since_change t.held base book pieces key

  abbrev new : ℕ → List KeyParts → List Operation
  new n keys = edits_from n t book (map change keys)

  here : (q k : KeyParts) (n : ℕ) → is_eq (key_cmp q k) ≡ true → in_segment (segment book q) (edit_at t book n (change k)) ≡ true
  here q k n e = appended.here t set book (piece_at pieces) (λ key. seen_ids t.held base (segment book key)) q k n e

  -- what was seen is named
  seen_named : (q : KeyParts) (id : Id) (n : ℕ) (keys : List KeyParts) → is_there q keys ≡ true
      → is_among (seen_ids t.held base (segment book q)) id ≡ true → is_replaced (new n keys) (segment book q) id ≡ true
  seen_named q id n [] h s = cc h
  seen_named q id n (k ∷ keys) h s = by (λ e. seen_named q id (suc n) keys e s) (is_eq (key_cmp q k)) refl h
    where
      edit : Operation
      edit = edit_at t book n (change k)

      named : is_among (given_ids t.held (segment book q) (seen_ids t.held base (segment book q))) id ≡ true
      named =
          let shown = shown_ids t.held (segment book q) in
          let seen = is_among (seen_ids t.held base (segment book q)) in
          let stood = is_among (stood_ids base (segment book q)) in
          among_passing seen shown id
          ∙ and_from (is_among shown id) (seen id) (and_parts (is_among shown id) (stood id) (sym (among_passing stood shown id) ∙ s)).0 s

      by : (is_there q keys ≡ true → is_replaced (new (suc n) keys) (segment book q) id ≡ true) → (b : Bool) → is_eq (key_cmp q k) ≡ b
          → (b || is_there q keys) ≡ true
          → ((in_segment (segment book q) edit && names edit id) || is_replaced (new (suc n) keys) (segment book q) id) ≡ true
      by rest true e h =
          or_left _ _ (and_from _ _ (here q k n e)
          (ap (λ (j : KeyParts). names (edit_at t book n (change j)) id) (sym (key_is q k e)) ∙ named))
      by rest false e h = or_right _ _ (rest h)

  module _ (q : KeyParts) (keys : List KeyParts) (there : is_there q keys ≡ true)
      (stood_held : (id : Id) → is_among (stood_ids base (segment book q)) id ≡ true → get t.held id ≡ None → ⊥) where
    abbrev g : Segment
    g = segment book q

    abbrev now : List Operation
    now = t.held ++ new (next_number t.held) keys

    named_in : (id : Id) → is_replaced now g id ≡ (is_replaced t.held g id || is_replaced (new (next_number t.held) keys) g id)
    named_in id = list_any-append (λ (p : Operation). in_segment g p && names p id) t.held (new (next_number t.held) keys)

    abbrev is_left : Operation → Bool
    is_left o = is_shown now g o && is_among (stood_ids base g) o.id

    -- none of the held ones that stood in the file is shown
    held_left : list_any is_left t.held ≡ false
    held_left = false_from_ne_true _ (λ h. left (any_held is_left t.held set.rising h))
      where
        left : AnyHeld is_left t.held → ⊥
        left one =
            let o = one.one in
            let a = and_parts (is_shown now g o) (is_among (stood_ids base g) o.id) one.passes in
            let b = and_parts (in_segment g o) (not (is_replaced now g o.id)) a.0 in
            let c = or_parts (is_replaced t.held g o.id) (is_replaced (new (next_number t.held) keys) g o.id)
            (sym (named_in o.id) ∙ not-true (is_replaced now g o.id) b.1) in
            let was : is_shown t.held g o ≡ true = and_from _ _ b.0 (ap not c.0) in
            let among : is_among (shown_ids t.held g) o.id ≡ true =
            among_is_held (shown t.held g) o.id
            ∙ at_held (shown t.held g) o.id o (filter_kept (is_shown t.held g) t.held o.id o one.held was) in
            let seen : is_among (seen_ids t.held base g) o.id ≡ true =
            among_passing (is_among (stood_ids base g)) (shown_ids t.held g) o.id ∙ and_from _ _ among a.1 in
            cc (sym c.1 ∙ seen_named q o.id (next_number t.held) keys there seen)

    new_left : (n : ℕ) (ks : List KeyParts) → greatest_number t.held < n → list_any is_left (new n ks) ≡ false
    new_left n [] l = refl
    new_left n (k ∷ ks) l =
        let id : Id = (edit_at t book n (change k)).id in
        or_from _ _ (and_right (is_shown now g (edit_at t book n (change k))) (is_among (stood_ids base g) id)
        (false_from_ne_true _ (λ h. stood_held id h (beyond t.held id l)))) (new_left (suc n) ks (omega (arith, l)))

    none_seen : seen_ids now base g ≡ []
    none_seen =
        no_id_left (is_among (stood_ids base g)) (is_shown now g) now
        (list_any-append is_left t.held (new (next_number t.held) keys)
        ∙ or_from _ _ held_left (new_left (next_number t.held) keys (omega arith)))

    -- the edit is shown
    edit_shown : (n : ℕ) (ks : List KeyParts) → greatest_number t.held < n → is_there q ks ≡ true
        → list_any (λ o. is_shown now g o && same_bytes (own_text o) (piece_at pieces q)) (new n ks) ≡ true
    edit_shown n [] l h = cc h
    edit_shown n (k ∷ ks) l h = by (λ e. edit_shown (suc n) ks (omega (arith, l)) e) (is_eq (key_cmp q k)) refl h
      where
        edit : Operation
        edit = edit_at t book n (change k)

        later : Bool
        later = list_any (λ o. is_shown now g o && same_bytes (own_text o) (piece_at pieces q)) (new (suc n) ks)

        unnamed : is_replaced now g edit.id ≡ false
        unnamed =
            named_in edit.id
            ∙ or_from _ _ (named_by_none g edit.id t.held set.each (omega (arith, l)))
            (edits_name_none t book g edit.id (next_number t.held) (map change keys) set.rising l)

        by : (is_there q ks ≡ true → later ≡ true) → (b : Bool) → is_eq (key_cmp q k) ≡ b → (b || is_there q ks) ≡ true
            → ((is_shown now g edit && same_bytes (own_text edit) (piece_at pieces q)) || later) ≡ true
        by rest true e h =
            or_left _ _ (and_from _ _ (and_from _ _ (here q k n e) (ap not unnamed))
            (ap (λ (j : KeyParts). same_bytes (piece_at pieces k) (piece_at pieces j)) (key_is q k e)
            ∙ same_bytes-refl (piece_at pieces k)))
        by rest false e h = or_right _ _ (rest h)

    text_shown : shows_text now g (piece_at pieces q) ≡ true
    text_shown =
        any_filter (λ o. same_bytes (own_text o) (piece_at pieces q)) (is_shown now g) now
        ∙ list_any-append (λ o. is_shown now g o && same_bytes (own_text o) (piece_at pieces q)) t.held (new (next_number t.held) keys)
        ∙ or_right _ _ (edit_shown (next_number t.held) keys (omega arith) there)

    pub not_again : is_changed now base book pieces q ≡ false
    not_again = and_right (is_due base book pieces q) _ (λ i. not (is_none_left (none_seen i) && text_shown i))

-- ---- the numbers that were given

greatest_new : (t : State) (book : List ℕ) (m : ℕ) (changes : List ChangeParts)
    → greatest_number (edits_from (suc m) t book changes) ≤ m + length changes
greatest_new t book m [] = omega arith
greatest_new t book m (c ∷ changes) = let rest = greatest_new t book (suc m) changes in omega (arith, rest)

greatest_of_both : (xs ys : List Operation) → greatest_number (xs ++ ys) ≡ max (greatest_number xs) (greatest_number ys)
greatest_of_both [] ys = omega arith
greatest_of_both (o ∷ xs) ys = let rest = greatest_of_both xs ys in omega (arith, rest)

-- ---- an import since a base that is not refused, and the same again

module _ (s : State) (base : List Operation) (file book : List ℕ) (count : ℕ) (state : IsState s) (set : IsOpSet base)
    (named : book_in file ≡ Ok book) (answered : (imported_since s base file).answer ≡ Ok count) where
  abbrev pieces : List PieceParts
  pieces = pieces_of file

  abbrev t : State
  t = with_ops s base

  abbrev keys : List KeyParts
  keys = changed_keys t.held base book pieces

  abbrev changes : List ChangeParts
  changes = since_changes t.held base book pieces

  abbrev edits : List Operation
  edits = edits_from (next_number t.held) t book changes

  abbrev u : State
  u = with_ops t edits

  taken : Accepted s base file book
  taken = accepted s base file book count named answered

  t_set : IsOpSet t.held
  t_set = IsOpSet-join s.held base state.set set

  at : u.held ≡ t.held ++ edits
  at = edits_after t book t.held (next_number t.held) changes t_set.rising (omega arith)

  rise : rises edits ≡ true
  rise = edits_rise t book (next_number t.held) changes

  base_lacks : (id : Id) → get t.held id ≡ None → get base id ≡ None
  base_lacks id g = second (get s.held id) (get base id) (sym (get-join s.held base id state.set.rising set.rising) ∙ g)
    where
      second : (x y : Option Operation) → met x y ≡ None → y ≡ None
      second None y h = h
      second (Some x) None h = refl
      second (Some x) (Some y) h = cc h

  stood_held : (q : KeyParts) (id : Id) → is_among (stood_ids base (segment book q)) id ≡ true → get t.held id ≡ None → ⊥
  stood_held q id h g =
      let at = segment book q in
      let stood = filter (has_greatest_text base at) (shown base at) in
      let among = filter_held (has_greatest_text base at) (shown base at) id (sym (among_is_held stood id) ∙ h) in
      cc (sym (not_held base id (base_lacks id g)) ∙ filter_held (is_shown base at) base id among)

  unchanged : (q : KeyParts) → is_changed u.held base book pieces q ≡ false
  unchanged q = ap (λ (held : List Operation). is_changed held base book pieces q) at ∙ by (is_there q keys) refl
    where
      by : (b : Bool) → is_there q keys ≡ b → is_changed (t.held ++ edits) base book pieces q ≡ false
      by true e = not_again t t_set base book pieces q keys e (stood_held q)
      by false e =
          ap (λ (ops : List Operation). is_due base book pieces q
          && not (is_none_left (filter (is_among (stood_ids base (segment book q))) (ids_of ops))
          && list_any (λ o. same_bytes (own_text o) (piece_at pieces q)) ops))
          (shown_after t.held edits (segment book q) (appended.none_of t t_set book (piece_at pieces)
          (λ key. seen_ids t.held base (segment book key)) q (next_number t.held) keys e))
          ∙ not_changed s.held base book pieces state.set.rising set.rising taken.none q e

  edits_apart : AgreeAtAll edits base
  edits_apart id x y gx gy =
      let none = apart_at t.held edits id x (edits_beyond t book t.held (next_number t.held) changes (omega arith)) gx in
      cc (sym (base_lacks id none) ∙ gy)

  base_stays : join u.held base ≡ u.held
  base_stays =
      join_assoc t.held edits base t_set.rising rise set.rising
      ∙ ap (join t.held) (join_comm edits base rise set.rising edits_apart)
      ∙ sym (join_assoc t.held base edits t_set.rising set.rising rise)
      ∙ ap (λ (held : List Operation). join held edits)
      (join_assoc s.held base base state.set.rising set.rising set.rising ∙ ap (join s.held) (join_itself base set.rising))

  still_agrees : clash u.held base ≡ None
  still_agrees =
      no_clash u.held base set.rising (join_agrees t.held edits base t_set.rising rise
      (join_agrees s.held base base state.set.rising set.rising (agree_from_no_clash s.held base taken.none)
      (λ id x y gx gy. subst (Agree x) (cc (sym gx ∙ gy)) (agree_itself x))) edits_apart)

  room : has_numbers u.held 0 ≡ true
  room =
      let m = greatest_new t book (greatest_number t.held) changes in
      let g : greatest_number u.held ≡ max (greatest_number t.held) (greatest_number edits) = ap greatest_number at
      ∙ greatest_of_both t.held edits in
      le-leb (greatest_number u.held + 0) 1000000000000000 (omega (arith, m, g, taken.room))

  again : imported_since u base file ≡ record { after = u; answer = Ok 0 }
  again =
      ap (λ (r : Result (List ℕ) BookFault). changed_in u base pieces r) named
      ∙ ap (λ (c : Option Id). changed_after u base book pieces c) still_agrees
      ∙ ap (λ (held : List Operation).
      changed u (record { name = u.name; held = held }) book (since_changes held base book pieces)) base_stays
      ∙ ap (λ (ks : List KeyParts). changed u u book (map (since_change u.held base book pieces) ks))
      (none_pass (is_changed u.held base book pieces) (walked_keys u.held book pieces) unchanged)
      ∙ ap (λ (f : Option ℕ). edited_all u u (edits_by NumbersUsedUp f u book [])) (cond-true _ _ _ room)

  twice : imported_since (imported_since s base file).after base file ≡ record { after = (imported_since s base file).after; answer = Ok 0 }
  twice = subst (λ (x : State). imported_since x base file ≡ record { after = x; answer = Ok 0 })
      (sym taken.is) again

pub twice_is_once : TwiceIsOnce
twice_is_once s base file count state set answered = by (book_in file) refl
  where
    by : (r : Result (List ℕ) BookFault) → book_in file ≡ r
        → imported_since (imported_since s base file).after base file ≡ record { after = (imported_since s base file).after; answer = Ok 0 }
    by (Err fault) e = cc (ap (λ (r : Result (List ℕ) BookFault). (changed_in s base (pieces_of file) r).answer) (sym e) ∙ answered)
    by (Ok book) e = twice s base file book count state set e answered
