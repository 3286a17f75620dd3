-- What is held in a world is a set of operations, each within its ranges.
use Rattle.std.proofs.Common.{◌≡◌, ℕ, suc, ◌⊎◌, inl, inr, nat_le, Bool, true, false, not, cond, ◌||◌, List, [], ◌∷◌, ◌++◌}
use Rattle.std.proofs.Common.{map, filter, length, IsUtf8, Option, Some, None, Result, Ok, Err, refl, sym, ap, subst, ◌∙◌}
use Rattle.std.specs.Prelude.{slice_get}
use Rattle.std.specs.declared.cmp.Ordering.{Ordering}
use Rattle.std.specs.declared.cmp.Ordering.TheVariants.{Less, Equal, Greater}
use Rattle.std.specs.FinMap.Entries.{by_order}
use Rattle.std.specs.List.{list_all, AllByRecursion}
use Rattle.std.specs.Ordering.{is_eq}
use Rattle.std.proofs.lemmas.Bool.{and_parts, and_from}
use Rattle.std.proofs.lemmas.Str.{IsUtf8-nil}
use Rattle.usfm_ref.specs.Books.{is_book_code}
use Rattle.usfm_ref.specs.Keys.{KeyParts, is_key, key_cmp, head_of, book_head, same_key}
use Rattle.usfm_ref.specs.Rising.{rising, with_item}
use Rattle.usfm_ref.specs.Segments.{segment}
use Rattle.usfm_ref.specs.declared.segment.Segment.{Segment}
use Rattle.verse_cut.specs.declared.fault.BookFault.{BookFault}
use Rattle.verse_cut.specs.Fits.{IsHeaded}
use Rattle.verse_cut.specs.Pieces.{PieceParts, pieces_of}
use Rattle.verse_cut.proofs.FitLaws.{fits_is_read}
use Rattle.verse_cut.specs.Reading.{book_in, text_fits}
use Rattle.replica_state.proofs.World.PieceRanges.{IsKey, pieces_are_text, pieces_have_keys}
use Rattle.op_core.specs.Names.{is_name}
use Rattle.op_core.specs.Ids.{Id, same_id, is_id, is_number}
use Rattle.op_core.specs.Ops.{Operation, IsOperation, IsTextFor, MayBeText, is_segment, names}
use Rattle.op_core.specs.Sets.{rises, get}
use Rattle.op_core.specs.Lists.{keys_of}
use Rattle.op_core.specs.NextIds.{is_among}
use Rattle.op_core.specs.Equal.{same_id-refl}
use Rattle.op_core.specs.Export.{of_book, has_book, keys_in}
use Rattle.op_core.specs.Thinned.{StandsFor}
use Rattle.op_core.proofs.Sets.Clashes.{get_cases, get_id}
use Rattle.op_core.proofs.Sets.Gets.{all_held}
use Rattle.replica_state.specs.declared.fault.EditFault.{EditFault}
use Rattle.replica_state.specs.declared.fault.EditFault.TheVariants.{BadSegment, NoBook}
use Rattle.replica_state.specs.declared.fault.ImportFault.TheVariants.{NumbersUsedUp}
use Rattle.replica_state.specs.States.{State}
use Rattle.replica_state.specs.Edits.{edit_with, first_number, next_id, edit_by, edit_fault, unless}
use Rattle.replica_state.specs.Changes.{ChangeParts, edits_from, edits_by, edits_or}
use Rattle.replica_state.specs.Imports.{piece_own_text, piece_of, piece_at, is_due, walked_keys, due_keys, due_change, import_into}
use Rattle.replica_state.specs.World.{World, Event, Edits, EditsOver, Imports, Thins, Summarizes, Bundles, Receives, ReceivesCut}
use Rattle.replica_state.specs.World.{FindsNoMemory, IsWithin, world, made, edit_made, edits_made, replica, replica_name}
use Rattle.replica_state.specs.Since.{is_changed, changed_keys, since_change, since_changes}
use Rattle.replica_state.specs.World.Calls.{edits_of}
use Rattle.replica_state.specs.World.Schedules.{Within, in_bundle, IsOrThinned, AreSets}
use Rattle.replica_state.proofs.FilePieces.{book_is_code, book_is_headed, piece_fits}
use Rattle.replica_state.proofs.World.Held.{held_at}
use Rattle.replica_state.proofs.World.Moments.{the_twin, whole, stands, whole_of, found_whole}
use Rattle.replica_state.proofs.World.Next.{IsNext, made_next, shown_held}
use Rattle.replica_state.proofs.World.Runs.{at_maker}
use Rattle.replica_state.proofs.World.Twins.{BothAt, each_at, twins}

-- ---- lists of which each item has something

module _ {A : Type 0} (P : A → Type 0) where
  all_filter : (p : A → Bool) (xs : List A) → AllByRecursion P xs → AllByRecursion P (filter p xs)
  all_filter p [] h = tt
  all_filter p (x ∷ xs) h =
      let rest = all_filter p xs h.1 in
      elim (p x) as (λ b. AllByRecursion P (cond b (x ∷ filter p xs) (filter p xs))) [ true ↦ (h.0, rest) | false ↦ rest ]

  all_append : (xs ys : List A) → AllByRecursion P xs → AllByRecursion P ys → AllByRecursion P (xs ++ ys)
  all_append [] ys h k = k
  all_append (x ∷ xs) ys h k = (h.0, all_append xs ys h.1 k)

-- what follows of each item from what it was made of
all_map : {A B : Type 0} (P : A → Type 0) (Q : B → Type 0) (f : A → B) → ((x : A) → P x → Q (f x)) → (xs : List A)
    → AllByRecursion P xs → AllByRecursion Q (map f xs)
all_map P Q f on [] h = tt
all_map P Q f on (x ∷ xs) h = (on x h.0, all_map P Q f on xs h.1)

-- each is within its ranges
abbrev pub AreKeys : List KeyParts → Type 0
AreKeys ks = AllByRecursion IsKey ks

key_item : (k : KeyParts) (ks : List KeyParts) → IsKey k → AreKeys ks → AreKeys (with_item key_cmp k ks)
key_item k [] g h = (g, tt)
key_item k (x ∷ ks) g h = by (key_cmp k x) (key_item k ks g h.1)
  where
    by : (o : Ordering) → AreKeys (with_item key_cmp k ks) → AreKeys (by_order o (k ∷ x ∷ ks) (x ∷ ks) (x ∷ with_item key_cmp k ks))
    by Less rest = (g, h)
    by Equal rest = h
    by Greater rest = (h.0, rest)

keys_rising : (ks : List KeyParts) → AreKeys ks → AreKeys (rising key_cmp ks)
keys_rising [] h = tt
keys_rising (k ∷ ks) h = key_item k (rising key_cmp ks) h.0 (keys_rising ks h.1)

-- ---- the keys of an import

op_key : (o : Operation) → IsOperation o → IsKey o.segment.key
op_key o h = (and_parts (is_book_code o.segment.book) (is_key o.segment.key.chapter o.segment.key.place) h.segment).1

held_keys : (held : List Operation) (book : List ℕ) → AllByRecursion IsOperation held → AreKeys (keys_of held book)
held_keys held book h =
    keys_rising (keys_in held book)
    (all_map IsOperation IsKey (λ o. o.segment.key) op_key (filter (of_book book) held) (all_filter IsOperation (of_book book) held h))

head_key : (k : KeyParts) → IsKey k → IsKey (head_of k)
head_key k h = and_from (nat_le k.chapter 999) true (and_parts (nat_le k.chapter 999) _ h).0 refl

-- the keys that are walked are within their ranges, where those of the pieces are
pub walked_are_keys : (held : List Operation) (book : List ℕ) (pieces : List PieceParts) → AllByRecursion IsOperation held
    → AllByRecursion (λ (p : PieceParts). IsKey p.key) pieces → AreKeys (walked_keys held book pieces)
walked_are_keys held book pieces h g =
    let keys = held_keys held book h in
    keys_rising _ (all_append IsKey (map head_of (keys_of held book)) _ (all_map IsKey IsKey head_of head_key (keys_of held book) keys)
    (all_append IsKey (keys_of held book) _ keys
    (all_map (λ (p : PieceParts). IsKey p.key) IsKey (λ p. p.key) (λ p is. is) pieces g)))

due_are_keys : (held : List Operation) (book file : List ℕ) → AllByRecursion IsOperation held →
    AreKeys (due_keys held book (pieces_of file))
due_are_keys held book file h =
    all_filter IsKey (is_due held book (pieces_of file)) (walked_keys held book (pieces_of file))
    (walked_are_keys held book (pieces_of file) h (pieces_have_keys file))

-- of pieces that are UTF-8, what is at a key is, perhaps nothing
pub text_at : (ps : List PieceParts) (key : KeyParts) → AllByRecursion (λ (p : PieceParts). IsUtf8 p.text) ps → IsUtf8 (piece_at ps key)
text_at [] key h = IsUtf8-nil
text_at (p ∷ ps) key h = by (is_eq (key_cmp key p.key)) (text_at ps key h.1)
  where
    by : (b : Bool) → IsUtf8 (piece_own_text (piece_of ps key)) → IsUtf8 (piece_own_text (cond b (Some p) (piece_of ps key)))
    by true rest = h.0
    by false rest = rest

-- ---- what an event makes

-- the operation's segment is within its ranges, and its text is one for it
record Fits (o : Operation) : Type 0 where
  segment : is_segment o.segment ≡ true
  text : MayBeText o.segment o.text

edit_fits : (s : State) (g : Segment) (text : List ℕ) (r : Result Operation EditFault) → is_segment g ≡ true → IsUtf8 text
    → ((q : Id) (o : Operation) → get (edit_made r) q ≡ Some o → text_fits g.book g.key text ≡ true → Fits o)
    → (q : Id) (o : Operation) → get (edit_made (unless (edit_fault s.held g text) r)) q ≡ Some o → Fits o
edit_fits s g text r seg u made q o = by (text_fits g.book g.key text) refl (has_book s.held g.book || same_key g.key book_head)
  where
    by : (b : Bool) → text_fits g.book g.key text ≡ b → (d : Bool)
        → get (edit_made (unless (cond (not b) (Some BadSegment) (cond d None (Some NoBook))) r)) q ≡ Some o → Fits o
    by true e true m = made q o m e
    by true e false m = cc m
    by false e d m = cc m

by_fits : (s : State) (g : Segment) (named : List Id) (text : List ℕ) → is_segment g ≡ true → IsUtf8 text
    → (q : Id) (o : Operation) → get (edit_made (edit_by (next_id s) g named text)) q ≡ Some o → text_fits g.book g.key text ≡ true → Fits o
by_fits s g named text seg u q o m fits = by (next_id s) m
  where
    by : (r : Option Id) → get (edit_made (edit_by r g named text)) q ≡ Some o → Fits o
    by None m = cc m
    by (Some id) m = get_cases q (edit_with id g named text) [] o m
        (λ _ e. subst Fits e (record { segment = seg; text = record { utf8 = u; fits = (fits_is_read g.book g.key text).0 fits } }))
        (λ n. cc n)

unless_fits : (fault : Option EditFault) (r : Result Operation EditFault) (q : Id) (o : Operation)
    → get (edit_made (unless fault r)) q ≡ Some o → get (edit_made r) q ≡ Some o
unless_fits None r q o m = m
unless_fits (Some fault) r q o m = cc m

module _ (s : State) (book file : List ℕ) (code : is_book_code book ≡ true) (headed : IsHeaded book file) (u : IsUtf8 file) where
  piece_for : (key : KeyParts) → IsTextFor (segment book key) (piece_at (pieces_of file) key)
  piece_for key = record {
    utf8 = text_at (pieces_of file) key (pieces_are_text book file code headed u);
    fits = piece_fits book file key code headed;
  }

  from_fits : (n : ℕ) (keys : List KeyParts) → AreKeys keys → (q : Id) (o : Operation)
      → get (edits_from n s book (map (due_change s.held book (pieces_of file)) keys)) q ≡ Some o → Fits o
  from_fits n [] h q o m = cc m
  from_fits n (key ∷ keys) h q o m =
      get_cases q _ (edits_from (suc n) s book (map (due_change s.held book (pieces_of file)) keys)) o m
      (λ _ e.
      subst Fits e (record { segment = and_from (is_book_code book) (is_key key.chapter key.place) code h.0; text = piece_for key }))
      (λ rest. from_fits (suc n) keys h.1 q o rest)

  edits_fit : (keys : List KeyParts) → AreKeys keys → (q : Id) (o : Operation)
      → get (edits_made (edits_or NumbersUsedUp s book (map (due_change s.held book (pieces_of file)) keys))) q ≡ Some o → Fits o
  edits_fit keys h q o = by (first_number s.held (length changes))
    where
      changes : List ChangeParts
      changes = map (due_change s.held book (pieces_of file)) keys

      by : (f : Option ℕ) → get (edits_made (edits_by NumbersUsedUp f s book changes)) q ≡ Some o → Fits o
      by None m = cc m
      by (Some first) m = from_fits first keys h q o m

import_fits : (s : State) (file : List ℕ) → AllByRecursion IsOperation s.held → IsUtf8 file →
    (r : Result (List ℕ) BookFault) → book_in file ≡ r
    → (q : Id) (o : Operation) → get (edits_made (import_into s (pieces_of file) r)) q ≡ Some o → Fits o
import_fits s file h u (Err fault) e q o m = cc m
import_fits s file h u (Ok book) e q o m =
    edits_fit s book file (book_is_code file book e) (book_is_headed file book e) u (due_keys s.held book (pieces_of file))
    (due_are_keys s.held book file h) q o m

made_fits : (w : World) (e : Event) → IsWithin e → AllByRecursion IsOperation (w.held (replica_name e))
    → (q : Id) (o : Operation) → get (made w e) q ≡ Some o → Fits o
made_fits w (Edits name g text) h held q o m =
    edit_fits (replica w name) g text _ h.segment h.text (by_fits (replica w name) g _ text h.segment h.text) q o m
made_fits w (EditsOver name g text given) h held q o m =
    edit_fits (replica w name) g text _ h.segment h.text
    (λ q o m fits. by_fits (replica w name) g _ text h.segment h.text q o (unless_fits _ _ q o m) fits) q o m
made_fits w (Imports name file) h held q o m = import_fits (replica w name) file held h.1 (book_in file) refl q o m
made_fits w (Thins name) h held q o m = cc m
made_fits w (Summarizes name) h held q o m = cc m
made_fits w (Bundles name kept) h held q o m = cc m
made_fits w (Receives name k) h held q o m = cc m
made_fits w (ReceivesCut name k length) h held q o m = cc m
made_fits w (FindsNoMemory name) h held q o m = cc m

-- the name of a replica that makes something is right
name_within : (w : World) (e : Event) → IsWithin e → (q : Id) (o : Operation) → get (made w e) q ≡ Some o → is_name (replica_name e) ≡ true
name_within w (Edits name g text) h q o m = h.name
name_within w (EditsOver name g text given) h q o m = h.name
name_within w (Imports name file) h q o m = h.0
name_within w (Thins name) h q o m = cc m
name_within w (Summarizes name) h q o m = cc m
name_within w (Bundles name kept) h q o m = cc m
name_within w (Receives name k) h q o m = cc m
name_within w (ReceivesCut name k length) h q o m = cc m
name_within w (FindsNoMemory name) h q o m = cc m

all_among : (P : Id → Bool) (ids : List Id) → ((id : Id) → is_among ids id ≡ true → P id ≡ true) → list_all P ids ≡ true
all_among P [] h = refl
all_among P (x ∷ ids) h =
    and_from _ _ (h x (ap (λ b. b || is_among ids x) (same_id-refl x))) (all_among P ids (λ id a. h id (or_second (same_id id x) _ a)))
  where
    or_second : (a b : Bool) → b ≡ true → (a || b) ≡ true
    or_second true b h = refl
    or_second false b h = h

op_at : (ops : List Operation) → AllByRecursion IsOperation ops → (q : Id) (o : Operation) → get ops q ≡ Some o → IsOperation o
op_at [] h q o g = cc g
op_at (x ∷ ops) h q o g = get_cases q x ops o g (λ _ e. subst IsOperation e h.0) (λ rest. op_at ops h.1 q o rest)

next_legal : (s : State) (o : Operation) → is_name s.name ≡ true → rises s.held ≡ true →
    AllByRecursion IsOperation s.held → IsNext s o → Fits o
    → IsOperation o
next_legal s o name rise held n f = record {
  id = and_from (is_number o.id.number) (is_name o.id.name) n.in_range (ap is_name n.own_name ∙ name);
  segment = f.segment;
  ids = all_among is_id o.replaced known;
  falls = n.falls rise;
  text = f.text;
}
  where
    known : (id : Id) → names o id ≡ true → is_id id ≡ true
    known id a =
        let x = held_at s.held id (shown_held s.held o.segment id (n.seen id a)) in
        ap is_id (sym (get_id s.held id x.0 x.1)) ∙ (op_at s.held held id x.0 x.1).id

-- ---- every moment

thinned_legal : (x o : Operation) → IsOrThinned x o → IsOperation o → IsOperation x
thinned_legal x o (inl e) h = subst IsOperation (sym e) h
thinned_legal x o (inr e) h = subst IsOperation (sym e) (record { id = h.id; segment = h.segment; ids = h.ids; falls = h.falls; text = tt })

abbrev AreLegal : List Event → Type 0
AreLegal events = (name : List ℕ) (q : Id) (o : Operation) → get ((whole events).held name) q ≡ Some o → IsOperation o

-- what is held here, if the twin's is within its ranges
each_here : (events : List Event) → AreLegal events → (name : List ℕ) → AllByRecursion IsOperation ((world events).held name)
each_here events h name =
    let s = stands events name in
    all_held IsOperation ((world events).held name) s.rising
    (λ o g. let r = whole_of _ _ s o.id o g in thinned_legal o r.0 r.2 (h name o.id r.0 r.1))

are_legal : (events : List Event) → AllByRecursion IsWithin events → AreLegal events
are_legal [] h name q o g = cc g
are_legal (e ∷ past) h name q o g = by (are_legal past h.1) ((the_twin.moves e past).comes name q o g)
  where
    by : AreLegal past → (get ((whole past).held q.name) q ≡ Some o) ⊎ (get (made (world past) e) q ≡ Some o) → IsOperation o
    by rest (inl g) = rest q.name q o g
    by rest (inr m) =
        let held = each_here past rest (replica_name e) in
        next_legal (replica (world past) (replica_name e)) o (name_within (world past) e h.0 q o m)
        (stands past (replica_name e)).rising held
        ((made_next (world past) e).each q o m) (made_fits (world past) e h.0 held q o m)

module _ (events : List Event) (h : AllByRecursion IsWithin events) where
  legal : AreLegal events
  legal = are_legal events h

  bundle_stands : (k : ℕ) (bundle : List Operation) → slice_get (world events).bundles k ≡ Some bundle
      → (u : List Operation) × StandsFor bundle u
  bundle_stands k bundle e = by (slice_get (whole events).bundles k)
      (subst (λ r. BothAt r (slice_get (whole events).bundles k)) e
      (each_at (world events).bundles (whole events).bundles (twins events).stands.bundles k))
    where
      by : (r : Option (List Operation)) → BothAt (Some bundle) r → (u : List Operation) × StandsFor bundle u
      by None both = absurd both
      by (Some u) both = (u, both)

  bundle_each : (k : ℕ) (bundle : List Operation) → slice_get (world events).bundles k ≡ Some bundle → AllByRecursion IsOperation bundle
  bundle_each k bundle e = all_held IsOperation bundle (bundle_stands k bundle e).1.rising (λ o g.
      let r = found_whole events (Within k) o.id o (ap (λ b. in_bundle b o.id) e ∙ g) in
      thinned_legal o r.0 r.2 (legal o.id.name o.id r.0 (at_maker (whole events) (twins events).sound (Within k) o.id r.0 r.1)))

  pub hold_sets : AreSets (world events)
  hold_sets = record {
    held = λ name. record { rising = (stands events name).rising; each = each_here events legal name };
    held_legal = λ name. (stands events name).legal;
    bundles = λ k bundle e. record { rising = (bundle_stands k bundle e).1.rising; each = bundle_each k bundle e };
    bundles_legal = λ k bundle e. (bundle_stands k bundle e).1.legal;
  }

-- ---- the edits of an import since a base

-- the edits that an import of a book's file since a base is are within their ranges
module _ (name book file : List ℕ) (named : is_name name ≡ true) (begins : book_in file ≡ Ok book) (u : IsUtf8 file)
    (held base : List Operation) where
  keys_within : (keys : List KeyParts) → AreKeys keys
      → AllByRecursion IsWithin (edits_of name book (map (since_change held base book (pieces_of file)) keys))
  keys_within [] h = tt
  keys_within (key ∷ keys) h =
      let code = book_is_code file book begins in (
        record {
          name = named;
          segment = and_from (is_book_code book) (is_key key.chapter key.place) code h.0;
          text = text_at (pieces_of file) key (pieces_are_text book file code (book_is_headed file book begins) u);
        },
        keys_within keys h.1,
      )

  pub since_within : AllByRecursion IsOperation held
      → AllByRecursion IsWithin (edits_of name book (since_changes held base book (pieces_of file)))
  since_within h = keys_within (changed_keys held base book (pieces_of file))
      (all_filter IsKey (is_changed held base book (pieces_of file)) (walked_keys held book (pieces_of file))
      (walked_are_keys held book (pieces_of file) h (pieces_have_keys file)))
