-- Laws of imports since a base.
use Rattle.std.proofs.Common.{◌≡◌, ◌⊎◌, ℕ, zero, suc, Bool, true, false, not, cond, ◌&&◌, ◌||◌, List, [], ◌∷◌, ◌++◌, inl, inr, map, filter}
use Rattle.std.proofs.Common.{Result, Option, refl, sym, ap, subst, ◌∙◌, arith}
use Rattle.std.specs.List.{Contains}
use Rattle.std.proofs.lemmas.Bool.{and_parts, and_from, cond-true, not-true}
use Rattle.std.proofs.lemmas.List.Elements.{Contains-append_left}
use Rattle.std.proofs.lemmas.List.Folds.{list_any-append}
use Rattle.usfm_ref.specs.Keys.{KeyParts}
use Rattle.usfm_ref.specs.Segments.{segment}
use Rattle.usfm_ref.specs.declared.segment.Segment.{Segment}
use Rattle.usfm_ref.proofs.Orders.{same_bytes-is, same_segment-is}
use Rattle.verse_cut.specs.Pieces.{PieceParts, pieces_of}
use Rattle.verse_cut.specs.declared.fault.BookFault.{BookFault}
use Rattle.op_core.specs.Ids.{Id, same_id}
use Rattle.op_core.specs.Ops.{Operation, own_text, in_segment, names}
use Rattle.op_core.specs.Shown.{shown, text_of, is_shown, is_replaced}
use Rattle.op_core.specs.Lists.{ids_of, shown_ids}
use Rattle.op_core.specs.NextIds.{next_number, is_among}
use Rattle.op_core.specs.Export.{export}
use Rattle.op_core.specs.Equal.{id_from_same}
use Rattle.op_core.proofs.Sets.Union.{IsOpSet-join}
use Rattle.replica_state.specs.States.{State, IsState}
use Rattle.replica_state.specs.Changes.{ChangeParts, edits_from, edits_by}
use Rattle.replica_state.specs.Steps.{with_ops, edited_all}
use Rattle.replica_state.specs.Imports.{is_due, walked_keys}
use Rattle.replica_state.specs.Since.{has_greatest_text, stood_ids, seen_ids, is_changed, changed_keys, since_change, since_changes}
use Rattle.replica_state.specs.Since.{changed, changed_after, changed_in}
use Rattle.replica_state.specs.SinceLaws.{changes_of, StoodInFile, ReplacesNothingUnseen, UnseenStays, UnchangedFilesAddNothing}
use Rattle.replica_state.proofs.OwnExports.{named, none_due, none_pass, left_for_none}
use Rattle.replica_state.specs.declared.fault.SinceFault.TheVariants.{NumbersUsedUp}
use Rattle.replica_state.proofs.ChangeRuns.{among_passing}
use Rattle.replica_state.proofs.Changes.{edit_at, edits_after}

-- what a list has is its first or in the rest
pub first_or_later : {X : Type 0} (y : X) (ys : List X) (x : X) → Contains (y ∷ ys) x → (y ≡ x) ⊎ Contains ys x
first_or_later y ys x (zero, l, e) = inl e
first_or_later y ys x (suc k, l, e) = inr (k, omega arith, e)

-- what the rest has, the list has
pub is_later : {X : Type 0} (y : X) (ys : List X) (x : X) → Contains ys x → Contains (y ∷ ys) x
is_later y ys x h = (suc h.0, omega (arith, h.1), h.2)

-- the list has its first
pub is_first : {X : Type 0} (y : X) (ys : List X) (x : X) → y ≡ x → Contains (y ∷ ys) x
is_first y ys x e = (0, omega arith, e)

-- an empty list has nothing
pub none_there : {X : Type 0} (x : X) → Contains [] x → ⊥
none_there x h = absurd (omega (arith, h.1))

-- what passes is in the list, and passes
pub passed : {X : Type 0} (p : X → Bool) (xs : List X) (x : X) → Contains (filter p xs) x → Contains xs x × (p x ≡ true)
passed p [] x h = absurd (none_there x h)
passed p (y ∷ ys) x h = by (λ g. passed p ys x g) (p y) refl h
  where
    by : (Contains (filter p ys) x → Contains ys x × (p x ≡ true)) → (b : Bool) → p y ≡ b
        → Contains (cond b (y ∷ filter p ys) (filter p ys)) x
        → Contains (y ∷ ys) x × (p x ≡ true)
    by rest true e h = elim (first_or_later y (filter p ys) x h) [
      | inl here ↦ (is_first y ys x here, ap p (sym here) ∙ e)
      | inr later ↦ (is_later y ys x (rest later).0, (rest later).1)
    ]
    by rest false e h = (is_later y ys x (rest h).0, (rest h).1)

-- what is in the list and passes is kept
pub passes : {X : Type 0} (p : X → Bool) (xs : List X) (x : X) → Contains xs x → p x ≡ true → Contains (filter p xs) x
passes p [] x h e = absurd (none_there x h)
passes p (y ∷ ys) x h e = elim (first_or_later y ys x h) [
  | inl here ↦ subst (λ (zs : List _). Contains zs x) (sym (cond-true _ _ _ (ap p here ∙ e))) (is_first y (filter p ys) x here)
  | inr later ↦ by (p y) (passes p ys x later e)
]
  where
    by : (b : Bool) → Contains (filter p ys) x → Contains (cond b (y ∷ filter p ys) (filter p ys)) x
    by true h = is_later y (filter p ys) x h
    by false h = h

-- an id of operations is that of one of them
pub of_one : (ops : List Operation) (id : Id) → is_among (ids_of ops) id ≡ true → (o : Operation) × (Contains ops o × (o.id ≡ id))
of_one [] id h = cc h
of_one (o ∷ ops) id h = by (λ g. of_one ops id g) (same_id id o.id) refl h
  where
    by : (is_among (ids_of ops) id ≡ true → (p : Operation) × (Contains ops p × (p.id ≡ id))) → (b : Bool) → same_id id o.id ≡ b
        → (b || is_among (ids_of ops) id) ≡ true → (p : Operation) × (Contains (o ∷ ops) p × (p.id ≡ id))
    by rest true e h = (o, (is_first o ops o refl, sym (id_from_same id o.id e)))
    by rest false e h = let r = rest h in (r.0, (is_later o ops r.0 r.1.0, r.1.1))

-- an id that is seen stood in the file
pub seen_stood : (held base : List Operation) (g : Segment) (id : Id) → is_among (seen_ids held base g) id ≡ true → StoodInFile base g id
seen_stood held base g id h =
    let stood = is_among (stood_ids base g) in
    let among = (and_parts (is_among (shown_ids held g) id) (stood id) (sym (among_passing stood (shown_ids held g) id) ∙ h)).1 in
    let one = of_one (filter (has_greatest_text base g) (shown base g)) id among in
    let is = passed (has_greatest_text base g) (shown base g) one.0 one.1.0 in
    record { op = one.0; shown = is.0; of_id = one.1.1; text = same_bytes-is (own_text one.0) (text_of base g) is.1 }

names_stood : (n : ℕ) (s : State) (base : List Operation) (book : List ℕ) (pieces : List PieceParts) (keys : List KeyParts)
    (edit : Operation)
    (id : Id)
    → Contains (edits_from n s book (map (since_change s.held base book pieces) keys)) edit → Contains edit.replaced id
    → StoodInFile base edit.segment id
names_stood n s base book pieces [] edit id h i = absurd (none_there edit h)
names_stood n s base book pieces (key ∷ keys) edit id h i =
    let change : KeyParts → ChangeParts = since_change s.held base book pieces in
    let g = segment book key in
    elim (first_or_later (edit_at s book n (change key)) (edits_from (suc n) s book (map change keys)) edit h) [
      | inl here ↦ subst (λ (o : Operation). StoodInFile base o.segment id) here
          (seen_stood s.held base g id
          (passed (is_among (seen_ids s.held base g)) (shown_ids s.held g) id
          (subst (λ (o : Operation). Contains o.replaced id) (sym here) i)).1)
      | inr later ↦ names_stood (suc n) s base book pieces keys edit id later i
    ]

pub replaces_nothing_unseen : ReplacesNothingUnseen
replaces_nothing_unseen s base book pieces edit id h i = names_stood _ s base book pieces _ edit id h i

-- ---- what did not stand in the file stays

module _ (s : State) (state : IsState s) (base : List Operation) (book : List ℕ) (pieces : List PieceParts) where
  abbrev edits : ℕ → List KeyParts → List Operation
  edits n keys = edits_from n s book (map (since_change s.held base book pieces) keys)

  -- an id that did not stand in the file is named by no edit
  unnamed : (g : Segment) (id : Id) (n : ℕ) (keys : List KeyParts) → (StoodInFile base g id → ⊥) → is_replaced (edits n keys) g id ≡ false
  unnamed g id n [] unseen = refl
  unnamed g id n (key ∷ keys) unseen =
      by (in_segment g edit) refl (names edit id) refl (unnamed g id (suc n) keys unseen)
    where
      edit : Operation
      edit = edit_at s book n (since_change s.held base book pieces key)

      by : (b : Bool) → in_segment g edit ≡ b → (c : Bool) → names edit id ≡ c → is_replaced (edits (suc n) keys) g id ≡ false
          → ((b && c) || is_replaced (edits (suc n) keys) g id) ≡ false
      by true e true f rest =
          let at = segment book key in
          let seen = is_among (seen_ids s.held base at) in
          absurd (unseen (subst (λ (h : Segment). StoodInFile base h id) (same_segment-is at g e)
          (seen_stood s.held base at id
          (and_parts (is_among (shown_ids s.held at) id) (seen id) (sym (among_passing seen (shown_ids s.held at) id) ∙ f)).1)))
      by true e false f rest = rest
      by false e c f rest = rest

  pub stays : (g : Segment) (o : Operation) → Contains (shown s.held g) o → (StoodInFile base g o.id → ⊥)
      → Contains (shown (with_ops s (changes_of s base book pieces)).held g) o
  stays g o h unseen =
      let keys = changed_keys s.held base book pieces in
      let new = edits (next_number s.held) keys in
      let was = passed (is_shown s.held g) s.held o h in
      let parts = and_parts (in_segment g o) (not (is_replaced s.held g o.id)) was.1 in
      let still : is_replaced (s.held ++ new) g o.id ≡ false =
      list_any-append (λ (p : Operation). in_segment g p && names p o.id) s.held new
      ∙ (λ i. not-true (is_replaced s.held g o.id) parts.1 i || unnamed g o.id (next_number s.held) keys unseen i) in
      subst (λ (held : List Operation). Contains (shown held g) o)
      (sym (edits_after s book s.held (next_number s.held) (since_changes s.held base book pieces) state.set.rising (omega arith)))
      (passes (is_shown (s.held ++ new) g) (s.held ++ new) o (Contains-append_left s.held new o was.0)
      (and_from _ _ parts.0 (ap not still)))

pub unseen_stays : UnseenStays
unseen_stays s base book pieces g o state h unseen = stays s state base book pieces g o h unseen

none_changed : (b : Bool) → b ≡ false → (c : Bool) → (b && c) ≡ false
none_changed true e c = cc e
none_changed false e c = refl

pub unchanged_files_add_nothing : UnchangedFilesAddNothing
unchanged_files_add_nothing s b book state base none begun =
    ap (λ (r : Result (List ℕ) BookFault). changed_in s b.held (pieces_of file) r) (named b base book begun)
    ∙ ap (λ (c : Option Id). changed_after s b.held book (pieces_of file) c) none
    ∙ ap (λ (ks : List KeyParts). changed s t book (map (since_change t.held b.held book (pieces_of file)) ks))
    (none_pass (is_changed t.held b.held book (pieces_of file)) (walked_keys t.held book (pieces_of file))
    (λ q. none_changed (is_due b.held book (pieces_of file) q) (none_due b base book begun q) _))
    ∙ ap (λ (f : Option ℕ). edited_all s t (edits_by NumbersUsedUp f t book []))
    (left_for_none t.held (IsOpSet-join s.held b.held state.set base.set).each)
  where
    file : List ℕ
    file = export b.held book

    t : State
    t = with_ops s b.held
