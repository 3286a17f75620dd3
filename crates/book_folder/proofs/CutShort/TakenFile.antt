-- What a project holds, and what is written down, once a file was taken in that was written from a base.
use Rattle.std.proofs.Common.{◌≡◌, ◌⊎◌, ◌<◌, inl, inr, ℕ, suc, Bool, true, false, cond, ◌&&◌, ◌||◌, not, List, [], ◌∷◌, ◌++◌, map, filter, length}
use Rattle.std.proofs.Common.{Option, None, Some, Result, Ok, Err, refl, sym, ap, subst, ◌∙◌, append-nil, arith}
use Rattle.std.specs.List.{AllByRecursion, flat_map, list_any}
use Rattle.std.specs.Option.{option_or}
use Rattle.std.proofs.lemmas.Bool.{and_from, and_parts, false≢true, or_from, or_left}
use Rattle.std.proofs.lemmas.List.Elements.{filter-append}
use Rattle.std.proofs.lemmas.List.Folds.{find-append}
use Rattle.usfm_ref.specs.Books.{same_bytes}
use Rattle.usfm_ref.specs.Keys.{KeyParts}
use Rattle.usfm_ref.specs.Segments.{segment}
use Rattle.usfm_ref.specs.declared.segment.Segment.{Segment}
use Rattle.usfm_ref.proofs.Orders.{same_bytes-refl}
use Rattle.verse_cut.specs.Pieces.{PieceParts}
use Rattle.op_core.specs.Export.{of_book}
use Rattle.op_core.specs.Ids.{Id, same_id}
use Rattle.op_core.specs.NextIds.{greatest_number, is_among, next_number}
use Rattle.op_core.specs.OneBook.{ops_of_book}
use Rattle.op_core.specs.Ops.{Operation, own_text}
use Rattle.op_core.specs.Sets.{clash, get, met}
use Rattle.op_core.specs.Shown.{is_replaced, is_shown, shown}
use Rattle.op_core.proofs.FilteredLists.{filter_none}
use Rattle.op_core.proofs.Indexed.Enrolled.{apart_at}
use Rattle.op_core.proofs.Sets.Clashes.{get_cases, get_id}
use Rattle.op_core.proofs.Sets.NoClash.{no_clash}
use Rattle.op_core.proofs.Sets.Union.{AgreeAtAll}
use Rattle.replica_state.specs.Changes.{ChangeParts, changes_ops, edits_by, edits_from, first_fault}
use Rattle.replica_state.specs.Edits.{first_number, unless}
use Rattle.replica_state.specs.Imports.{is_due, loses_line, piece_at, walked_keys}
use Rattle.replica_state.specs.Since.{changed_keys, has_greatest_text, is_changed, seen_ids, shows_text, since_change, stood_ids}
use Rattle.replica_state.specs.States.{State, IsState}
use Rattle.replica_state.specs.Steps.{edited_all, with_ops}
use Rattle.replica_state.specs.declared.fault.EditFault.{EditFault}
use Rattle.replica_state.specs.declared.fault.EditFault.TheVariants.{NumbersUsedUp}
use Rattle.replica_state.proofs.Appended.{is_there, none_of, shown_after}
use Rattle.replica_state.proofs.Changes.{edits_after, edits_beyond, edits_rise}
use Rattle.replica_state.proofs.SinceTwice.{due_received, not_again, not_changed}
use Rattle.replica_state.proofs.World.Held.{among_is_held, filter_held, held_at}
use Rattle.book_folder.specs.Asks.{emptied, undone}
use Rattle.book_folder.specs.Bases.{is_text, shows, stood_text}
use Rattle.book_folder.specs.Coming.{AllTaken, added_by, all_taken, taken_all}
use Rattle.book_folder.specs.DoneAgain.{IsReadAlike}
use Rattle.book_folder.specs.Files.{FileParts}
use Rattle.book_folder.specs.ReadAgain.{other_text, pieces_by}
use Rattle.book_folder.specs.Refusals.{◌>>=◌}
use Rattle.book_folder.specs.Taking.{AskedParts, StoodParts, Taken, asked, change_at, file_changes, has_other, listed, stood_of, taken, taken_changed, taken_in, unless_asked}
use Rattle.book_folder.specs.Wanted.{WantedParts, WishParts}
use Rattle.book_folder.specs.declared.refusal.Place.{Place}
use Rattle.book_folder.specs.declared.refusal.Place.TheVariants as places
use Rattle.book_folder.specs.declared.refusal.Refusal.{Refusal}
use Rattle.book_folder.proofs.ChangeAt.{change_at_is}
use Rattle.book_folder.proofs.CutShort.FileEnds.{EndOf, Unstood, changed_by, changes_are, finds}
use Rattle.book_folder.proofs.CutShort.HasAll.{HasAll, all_of_left, met_is}
use Rattle.book_folder.proofs.CutShort.WrittenDown.{in_both, of_other_book, of_own_book, text_in}
use Rattle.book_folder.proofs.LineLaws.{text_taken}
use Rattle.book_folder.proofs.LostLaws.{change_is, changed_is, edits_are, unasked}
use Rattle.book_folder.proofs.Schedules.Along.{Along}
use Rattle.book_folder.proofs.Schedules.FilesReach.{all_along}
use Rattle.book_folder.proofs.ShownLaws.{unnamed, written_is_shown}
use Rattle.book_folder.proofs.Twice.ShownBase.{shows_is}

-- what holds of each operation of a list holds of the one of an id
at_each : (P : Operation → Type 0) (ops : List Operation) (q : Id) (o : Operation) → AllByRecursion P ops → get ops q ≡ Some o → P o
at_each P [] q o h g = cc g
at_each P (x ∷ ops) q o h g = get_cases q x ops o g (λ e f. subst P f h.0) (λ k. at_each P ops q o h.1 k)

-- what was written down before, after edits that were made
abbrev stood_or : List StoodParts → Result Taken Refusal → List StoodParts
stood_or stood (Ok t) = t.stood
stood_or stood (Err refusal) = stood

stood_is : (s : State) (book : List ℕ) (place : Place) (stood : List StoodParts) (changes : List ChangeParts) (t : Taken)
    → taken place stood (edited_all s s (changes_ops s book changes)) ≡ Ok t → stood ≡ t.stood
stood_is s book place stood changes t e = by (first_fault s.held book changes) (first_number s.held (length changes)) e
  where
    by : (f : Option EditFault) (first : Option ℕ)
        → taken place stood (edited_all s s (unless f (edits_by NumbersUsedUp first s book changes))) ≡ Ok t → stood ≡ t.stood
    by None (Some n) e = ap (stood_or stood) e
    by None None e = cc e
    by (Some f) first e = cc e

-- ---- a file that was written from the base

-- an edit of a file: its text is the file's piece for a key, which is another one than the base picks
record IsEdit (base t : State) (f : FileParts) (o : Operation) : Type 0 where
  pub key : KeyParts
  pub of : o.segment ≡ segment f.book key
  pub text : own_text o ≡ piece_at (pieces_by base f) key
  pub other : has_other base.held f.book (pieces_by base f) key ≡ true
  pub beyond : greatest_number t.held < o.id.number

-- what there is after one more file was taken in: it has what there was, the file's edits are found, and other books are as they were
pub record StepOf (s base : State) (older : List State) (wishes : WishParts) (t : AllTaken) (f : FileParts) (next : AllTaken)
    : Type 0 where
  pub along : Along s base.held next.after
  pub name : next.after.name ≡ t.after.name
  pub has : HasAll next.after.held t.after.held
  pub here : EndOf base older wishes f next
  pub found : (q : Id) (o : Operation) → get next.after.held q ≡ Some o →
      (get t.after.held q ≡ Some o) ⊎ (o.segment.book ≡ f.book) × (finds next o ≡ true)
  pub ops : (book : List ℕ) → same_bytes f.book book ≡ false →
      ops_of_book next.after.held book ≡ ops_of_book t.after.held book
  pub stood : (o : Operation) → same_bytes f.book o.segment.book ≡ false → stood_text next.stood o ≡ stood_text t.stood o

module _ (s base again : State) (from : IsState base) (older : List State) (wishes : WishParts) (unsettled : wishes.settled ≡ []) where
  module _ (t : AllTaken) (f : FileParts) (n : Taken) (known : IsReadAlike base again f) (a : Along s base.held t.after)
      (has : HasAll t.after.held base.held) (fresh : Unstood t.stood f)
      (is : taken_in t.after base older wishes t.stood f ≡ Ok n) where
    abbrev held : List Operation
    held = t.after.held

    abbrev pieces : List PieceParts
    pieces = pieces_by base f

    abbrev place : Place
    place = places.File f.at

    abbrev changes : List ChangeParts
    changes = file_changes held base.held [] f.book pieces

    abbrev new : List Operation
    new = edits_from (next_number held) t.after f.book changes

    abbrev stood : List StoodParts
    stood = t.stood ++ stood_of held base.held f.book pieces

    by_base : taken_changed t.after base older wishes t.stood f pieces ≡ Ok n
    by_base = sym (text_taken t.after base older wishes t.stood f known.text known.known) ∙ is

    made : taken place stood (edited_all t.after t.after (changes_ops t.after f.book changes)) ≡ Ok n
    made =
        ap (λ (w : List WantedParts). taken place stood
        (edited_all t.after t.after (changes_ops t.after f.book (file_changes held base.held w f.book pieces)))) (sym unsettled)
        ∙ unasked place (asked wishes (undone older base.held t.after.name f.book pieces) (emptied base.held f.book pieces))
        (taken place stood
        (edited_all t.after t.after (changes_ops t.after f.book (file_changes held base.held wishes.settled f.book pieces)))) n
        (sym (changed_is t.after base older wishes t.stood f pieces) ∙ by_base)

    after : with_ops t.after new ≡ n.after
    after =
        let done = edits_are t.after f.book place stood changes n made in
        ap (λ (m : ℕ). with_ops t.after (edits_from m t.after f.book changes)) (sym done.1.0) ∙ done.1.1

    now_held : held ++ new ≡ n.after.held
    now_held =
        sym (edits_after t.after f.book held (next_number held) changes a.state.set.rising (omega arith))
        ∙ ap (λ (x : State). x.held) after

    written : stood ≡ n.stood
    written = stood_is t.after f.book place stood changes n made

    one : taken_all base older wishes t (f ∷ []) ≡ Ok (all_taken n.after n.stood (t.added ++ added_by f.book n.count))
    one = ap (λ r. r >>= λ next. taken_all base older wishes
        (all_taken next.after next.stood (t.added ++ added_by f.book next.count)) []) is

    next_along : Along s base.held n.after
    next_along =
        all_along s base from.set older wishes t (f ∷ []) (all_taken n.after n.stood (t.added ++ added_by f.book n.count)) a one

    no_clash_base : clash held base.held ≡ None
    no_clash_base = no_clash held base.held from.set.rising has.agrees

    -- ---- its edits

    apart : (q : Id) (o : Operation) → get new q ≡ Some o → get held q ≡ None
    apart q o g = apart_at held new q o (edits_beyond t.after f.book held (next_number held) changes (omega arith)) g

    has_before : HasAll n.after.held held
    has_before =
        subst (λ (ops : List Operation). HasAll ops held) (ap (λ (x : State). x.held) after)
        (all_of_left held new a.state.set.rising (edits_rise t.after f.book (next_number held) changes) agree)
      where
        agree : AgreeAtAll held new
        agree q x y gx gy = let none : get held q ≡ None = apart q y gy in cc (sym gx ∙ none)

    abbrev change : KeyParts → Option ChangeParts
    change k = change_at held base.held [] f.book pieces k

    -- what is changed has another text than the base picks
    changed_other : (k : KeyParts) (d : ChangeParts) → change k ≡ Some d → has_other base.held f.book pieces k ≡ true
    changed_other k d e = by (is_changed held base.held f.book pieces k) refl
        (sym (change_at_is held base.held [] f.book pieces k) ∙ e)
      where
        due : (b c : Bool) → c ≡ false → (b || c) ≡ true → b ≡ true
        due true c none h = refl
        due false c none h = absurd (false≢true (sym none ∙ h))

        by : (b : Bool) → is_changed held base.held f.book pieces k ≡ b
            → cond b (Some (since_change held base.held f.book pieces k)) None ≡ Some d → has_other base.held f.book pieces k ≡ true
        by true c e =
            due (has_other base.held f.book pieces k) (loses_line base.held f.book pieces k) (known.lines k)
            (and_parts (is_due base.held f.book pieces k) _ c).0
        by false c e = cc e

    each_edit : (m : ℕ) (keys : List KeyParts) → greatest_number held < m
        → AllByRecursion (IsEdit base t.after f) (edits_from m t.after f.book (flat_map (λ k. listed (change k)) keys))
    each_edit m [] l = tt
    each_edit m (k ∷ keys) l = by (change k) refl (each_edit m keys l) (each_edit (suc m) keys (omega (arith, l)))
      where
        by : (d : Option ChangeParts) → change k ≡ d
            → AllByRecursion (IsEdit base t.after f) (edits_from m t.after f.book (flat_map (λ k. listed (change k)) keys))
            → AllByRecursion (IsEdit base t.after f) (edits_from (suc m) t.after f.book (flat_map (λ k. listed (change k)) keys))
            → AllByRecursion (IsEdit base t.after f) (edits_from m t.after f.book (listed d ++ flat_map (λ k. listed (change k)) keys))
        by None e same more = same
        by (Some d) e same more =
            let is = change_is t.after base [] f.book pieces k k d e in (
              record {
                key = k;
                of = ap (segment f.book) is.0;
                text = is.1;
                other = changed_other k d e;
                beyond = l;
              },
              more,
            )

    -- ---- what is written down

    there : (key : KeyParts) → has_other base.held f.book pieces key ≡ true → is_there key (walked_keys held f.book pieces) ≡ true
    there key e =
        subst (λ (ops : List Operation). is_there key (walked_keys ops f.book pieces) ≡ true) has.held
        (due_received held base.held f.book pieces a.state.set.rising from.set.rising no_clash_base key (or_left _ _ e))

    end_written : (o : Operation) (key : KeyParts) → o.segment ≡ segment f.book key → stood_text n.stood o ≡ other_text base f key
    end_written o key e =
        ap (λ (st : List StoodParts). stood_text st o) (sym written)
        ∙ in_both t.stood (stood_of held base.held f.book pieces) o.segment
        ∙ ap (λ r. option_or r (stood_text (stood_of held base.held f.book pieces) o)) (fresh o (ap (λ (g : Segment). g.book) e))
        ∙ ap (text_in (stood_of held base.held f.book pieces)) e
        ∙ of_own_book f.book pieces base.held key (walked_keys held f.book pieces)
        ∙ by (has_other base.held f.book pieces key) refl
      where
        by : (b : Bool) → has_other base.held f.book pieces key ≡ b
            → cond (b && is_there key (walked_keys held f.book pieces)) (Some (piece_at pieces key)) None
            ≡ cond b (Some (piece_at pieces key)) None
        by true h = ap (λ c. cond c (Some (piece_at pieces key)) None) (there key h)
        by false h = refl

    end_shown : (key : KeyParts) → has_other base.held f.book pieces key ≡ true
        → shows_text n.after.held (segment f.book key) (piece_at pieces key) ≡ true
    end_shown key e =
        written_is_shown t.after base older wishes t.stood f pieces key n a.state from no_clash_base has.held by_base e

    -- ---- nothing is changed in it since

    abbrev keys : List KeyParts
    keys = changed_keys held base.held f.book pieces

    abbrev since : List Operation
    since = edits_from (next_number held) t.after f.book (map (since_change held base.held f.book pieces) keys)

    now_since : held ++ since ≡ n.after.held
    now_since =
        ap (λ (cs : List ChangeParts). held ++ edits_from (next_number held) t.after f.book cs)
        (sym (changes_are held base.held f.book pieces (walked_keys held f.book pieces))) ∙ now_held

    stood_held : (key : KeyParts) (id : Id) → is_among (stood_ids base.held (segment f.book key)) id ≡ true → get held id ≡ None → ⊥
    stood_held key id h g =
        let at = segment f.book key in
        let stood = filter (has_greatest_text base.held at) (shown base.held at) in
        let among = filter_held (has_greatest_text base.held at) (shown base.held at) id (sym (among_is_held stood id) ∙ h) in
        let there = held_at base.held id (filter_held (is_shown base.held at) base.held id among) in
        let lacks : get base.held id ≡ None =
        ap (λ (m : Option Operation). met m (get base.held id)) (sym g)
        ∙ sym (met_is held base.held a.state.set.rising from.set.rising has id) ∙ g in
        cc (sym lacks ∙ there.1)

    unchanged_before : (key : KeyParts) → is_there key keys ≡ false → is_changed held base.held f.book pieces key ≡ false
    unchanged_before key =
        subst (λ (ops : List Operation). is_there key (changed_keys ops base.held f.book pieces) ≡ false
        → is_changed ops base.held f.book pieces key ≡ false) has.held
        (not_changed held base.held f.book pieces a.state.set.rising from.set.rising no_clash_base key)

    end_unchanged : (key : KeyParts) → is_changed n.after.held base.held f.book pieces key ≡ false
    end_unchanged key =
        ap (λ (ops : List Operation). is_changed ops base.held f.book pieces key) (sym now_since) ∙ by (is_there key keys) refl
      where
        by : (b : Bool) → is_there key keys ≡ b → is_changed (held ++ since) base.held f.book pieces key ≡ false
        by true e = not_again t.after a.state.set base.held f.book pieces key keys e (stood_held key)
        by false e =
            ap (changed_by base f key)
            (shown_after held since (segment f.book key) (none_of t.after a.state.set f.book (piece_at pieces)
            (λ k. seen_ids held base.held (segment f.book k)) key (next_number held) keys e))
            ∙ unchanged_before key e

    end_unasked : asked wishes (undone older base.held n.after.name f.book pieces) (emptied base.held f.book pieces) ≡ None
    end_unasked =
        ap (λ (x : State). asked wishes (undone older base.held x.name f.book pieces) (emptied base.held f.book pieces)) (sym after)
        ∙ none (asked wishes (undone older base.held t.after.name f.book pieces) (emptied base.held f.book pieces)) _
        (sym (changed_is t.after base older wishes t.stood f pieces) ∙ by_base)
      where
        none : (fault : Option AskedParts) (r : Result Taken Refusal) → unless_asked place fault r ≡ Ok n → fault ≡ None
        none None r e = refl
        none (Some fault) r e = cc e

    abbrev next : AllTaken
    next = all_taken n.after n.stood (t.added ++ added_by f.book n.count)

    end_here : EndOf base older wishes f next
    end_here = record { shown = end_shown; written = end_written; unchanged = end_unchanged; unasked = end_unasked }

    -- an edit is shown with the text that is written down
    edit_found : (q : Id) (o : Operation) → get new q ≡ Some o → (o.segment.book ≡ f.book) × (finds next o ≡ true)
    edit_found q o g = (ap (λ (x : Segment). x.book) edit.of, and_from _ _ shown text)
      where
        edit : IsEdit base t.after f o
        edit = at_each (IsEdit base t.after f) new q o (each_edit (next_number held) (walked_keys held f.book pieces) (omega arith)) g

        own : get new o.id ≡ Some o
        own = ap (get new) (get_id new q o g) ∙ g

        here : get n.after.held o.id ≡ Some o
        here =
            ap (λ (ops : List Operation). get ops o.id) (sym now_held)
            ∙ find-append (λ (p : Operation). same_id o.id p.id) held new ∙ (λ i. option_or (apart o.id o own i) (own i))

        free : is_replaced n.after.held o.segment o.id ≡ false
        free =
            (λ i. is_replaced (sym now_held i) (edit.of i) o.id)
            ∙ unnamed t.after base a.state.set [] f.book pieces edit.key (walked_keys held f.book pieces) o.id edit.beyond

        shown : shows n.after.held o ≡ true
        shown = shows_is n.after.held next_along.state.set [] o here ∙ ap not free

        text : is_text (stood_text n.stood o) o ≡ true
        text =
            ap (λ r. is_text r o)
            (end_written o edit.key edit.of ∙ ap (λ b. cond b (Some (piece_at pieces edit.key)) None) edit.other)
            ∙ ap (same_bytes (piece_at pieces edit.key)) edit.text ∙ same_bytes-refl (piece_at pieces edit.key)

    held_or_found : (q : Id) (o : Operation) → get n.after.held q ≡ Some o
        → (get held q ≡ Some o) ⊎ (o.segment.book ≡ f.book) × (finds next o ≡ true)
    held_or_found q o g = by (get held q) refl
        (sym (find-append (λ (p : Operation). same_id q p.id) held new) ∙ ap (λ (ops : List Operation). get ops q) now_held ∙ g)
      where
        by : (r : Option Operation) → get held q ≡ r → option_or r (get new q) ≡ Some o
            → (get held q ≡ Some o) ⊎ (o.segment.book ≡ f.book) × (finds next o ≡ true)
        by (Some x) e h = inl (e ∙ h)
        by None e h = inr (edit_found q o h)

    -- ---- other books

    none_of_other : (book : List ℕ) → same_bytes f.book book ≡ false → (m : ℕ) (cs : List ChangeParts)
        → list_any (of_book book) (edits_from m t.after f.book cs) ≡ false
    none_of_other book h m [] = refl
    none_of_other book h m (c ∷ cs) = or_from _ _ h (none_of_other book h (suc m) cs)

    other_ops : (book : List ℕ) → same_bytes f.book book ≡ false → ops_of_book n.after.held book ≡ ops_of_book held book
    other_ops book h =
        ap (λ (ops : List Operation). ops_of_book ops book) (sym now_held) ∙ filter-append (of_book book) held new
        ∙ ap (λ (ops : List Operation). ops_of_book held book ++ ops)
        (filter_none (of_book book) new (none_of_other book h (next_number held) changes))
        ∙ append-nil (ops_of_book held book)

    other_stood : (o : Operation) → same_bytes f.book o.segment.book ≡ false → stood_text n.stood o ≡ stood_text t.stood o
    other_stood o h =
        ap (λ (st : List StoodParts). stood_text st o) (sym written)
        ∙ in_both t.stood (stood_of held base.held f.book pieces) o.segment
        ∙ ap (option_or (stood_text t.stood o))
        (of_other_book f.book pieces o.segment h
        (filter (has_other base.held f.book pieces) (walked_keys held f.book pieces)))
        ∙ by (stood_text t.stood o)
      where
        by : (r : Option (List ℕ)) → option_or r None ≡ r
        by None = refl
        by (Some x) = refl

    -- ---- all of it

    step : StepOf s base older wishes t f next
    step = record {
      along = next_along;
      name = sym (ap (λ (x : State). x.name) after);
      has = has_before;
      here = end_here;
      found = held_or_found;
      ops = other_ops;
      stood = other_stood;
    }

-- what there is after one more file was taken in
pub step_of : (s base again : State) → IsState base → (older : List State) (wishes : WishParts) → wishes.settled ≡ []
    → (t : AllTaken) (f : FileParts) (n : Taken) → IsReadAlike base again f → Along s base.held t.after → HasAll t.after.held base.held
    → Unstood t.stood f → taken_in t.after base older wishes t.stood f ≡ Ok n
    → StepOf s base older wishes t f (all_taken n.after n.stood (t.added ++ added_by f.book n.count))
step_of s base again from older wishes unsettled t f n known a has fresh is =
    step s base again from older wishes unsettled t f n known a has fresh is
