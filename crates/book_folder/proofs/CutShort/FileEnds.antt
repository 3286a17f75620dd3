-- What there is of a file once it was taken in, and that nothing comes in of it again by the base that it was written from.
use Rattle.std.proofs.Common.{◌≡◌, ℕ, Bool, true, false, cond, ◌&&◌, not, List, [], ◌∷◌, ◌++◌, map, filter}
use Rattle.std.proofs.Common.{Option, None, Some, Result, Ok, refl, sym, ap, ◌∙◌}
use Rattle.std.specs.List.{flat_map, list_any}
use Rattle.std.specs.Str.{is_utf8}
use Rattle.usfm_ref.specs.Books.{same_bytes}
use Rattle.usfm_ref.specs.Keys.{KeyParts}
use Rattle.usfm_ref.specs.Segments.{segment}
use Rattle.verse_cut.specs.Pieces.{PieceParts}
use Rattle.op_core.specs.Export.{has_book}
use Rattle.op_core.specs.Ids.{is_none_left}
use Rattle.op_core.specs.NextIds.{is_among}
use Rattle.op_core.specs.Lists.{ids_of}
use Rattle.op_core.specs.Ops.{Operation, own_text}
use Rattle.replica_state.specs.Changes.{ChangeParts, changes_ops, edits_by}
use Rattle.replica_state.specs.Imports.{is_due, piece_at, walked_keys}
use Rattle.replica_state.specs.Since.{is_changed, shows_text, since_change, stood_ids}
use Rattle.replica_state.specs.States.{State, IsState}
use Rattle.replica_state.specs.Steps.{edited_all}
use Rattle.replica_state.specs.declared.fault.EditFault.TheVariants.{NumbersUsedUp}
use Rattle.replica_state.proofs.OwnExports.{left_for_none, none_pass}
use Rattle.book_folder.specs.Asks.{emptied, undone}
use Rattle.book_folder.specs.Bases.{is_text, shows, stood_text}
use Rattle.book_folder.specs.Coming.{AllTaken}
use Rattle.book_folder.specs.Files.{FileParts}
use Rattle.book_folder.specs.ReadAgain.{other_text, pieces_by}
use Rattle.book_folder.specs.Taking.{StoodParts, Taken, asked, change_at, file_changes, has_other, listed, stood_of, taken, taken_in, unless_asked}
use Rattle.book_folder.specs.Wanted.{WantedParts, WishParts}
use Rattle.book_folder.specs.declared.refusal.Place.{Place}
use Rattle.book_folder.specs.declared.refusal.Place.TheVariants as places
use Rattle.book_folder.specs.declared.refusal.Refusal.{Refusal}
use Rattle.book_folder.proofs.ChangeAt.{change_at_is}
use Rattle.book_folder.proofs.LineLaws.{text_taken}
use Rattle.book_folder.proofs.LostLaws.{changed_is}

-- whether a key of a file is changed, by what its segment shows
abbrev pub changed_by : State → FileParts → KeyParts → List Operation → Bool
changed_by base f key ops =
    is_due base.held f.book (pieces_by base f) key
    && not (is_none_left (filter (is_among (stood_ids base.held (segment f.book key))) (ids_of ops))
    && list_any (λ o. same_bytes (own_text o) (piece_at (pieces_by base f) key)) ops)

-- whether a project shows an operation with the text that is written down for its segment
abbrev pub finds : AllTaken → Operation → Bool
finds t o = shows t.after.held o && is_text (stood_text t.stood o) o

-- nothing is written down of a book
abbrev pub Unstood : List StoodParts → FileParts → Type 0
Unstood stood f = (o : Operation) → o.segment.book ≡ f.book → stood_text stood o ≡ None

-- what is changed in a file, where none of its segments is to be settled
pub changes_are : (held base : List Operation) (book : List ℕ) (pieces : List PieceParts) (keys : List KeyParts)
    → flat_map (λ k. listed (change_at held base [] book pieces k)) keys
    ≡ map (since_change held base book pieces) (filter (is_changed held base book pieces) keys)
changes_are held base book pieces [] = refl
changes_are held base book pieces (k ∷ keys) =
    ap (λ (d : Option ChangeParts). listed d ++ flat_map (λ k. listed (change_at held base [] book pieces k)) keys)
    (change_at_is held base [] book pieces k)
    ∙ by (is_changed held base book pieces k) (changes_are held base book pieces keys)
  where
    by : (b : Bool) → flat_map (λ k. listed (change_at held base [] book pieces k)) keys
        ≡ map (since_change held base book pieces) (filter (is_changed held base book pieces) keys)
        → listed (cond b (Some (since_change held base book pieces k)) None)
        ++ flat_map (λ k. listed (change_at held base [] book pieces k)) keys
        ≡ map (since_change held base book pieces)
        (cond b (k ∷ filter (is_changed held base book pieces) keys) (filter (is_changed held base book pieces) keys))
    by true rest = ap (λ (cs : List ChangeParts). since_change held base book pieces k ∷ cs) rest
    by false rest = rest

-- A file that was taken in: where it has another text than the base picks, the project shows that, and it is written down; and nothing
-- is changed in it since, nor asked.
pub record EndOf (base : State) (older : List State) (wishes : WishParts) (f : FileParts) (all : AllTaken) : Type 0 where
  pub shown : (key : KeyParts) → has_other base.held f.book (pieces_by base f) key ≡ true →
      shows_text all.after.held (segment f.book key) (piece_at (pieces_by base f) key) ≡ true
  pub written : (o : Operation) (key : KeyParts) → o.segment ≡ segment f.book key →
      stood_text all.stood o ≡ other_text base f key
  pub unchanged : (key : KeyParts) → is_changed all.after.held base.held f.book (pieces_by base f) key ≡ false
  pub unasked : asked wishes (undone older base.held all.after.name f.book (pieces_by base f))
      (emptied base.held f.book (pieces_by base f)) ≡ None

-- read again by the base that it was written from, nothing comes in of a file that was taken in
pub own_stays : (s base : State) (older : List State) (wishes : WishParts) (f : FileParts) (all : AllTaken) → IsState s → all.after ≡ s
    → wishes.settled ≡ [] → has_book base.held f.book ≡ true → is_utf8 f.bytes ≡ true → EndOf base older wishes f all
    → (stood : List StoodParts)
    → taken_in s base older wishes stood f
    ≡ Ok (record { after = s; stood = stood ++ stood_of s.held base.held f.book (pieces_by base f); count = 0 })
own_stays s base older wishes f all state is unsettled has utf8 e stood =
    text_taken s base older wishes stood f utf8 has
    ∙ changed_is s base older wishes stood f pieces
    ∙ ap (λ a. unless_asked place a (edits wishes.settled))
    (ap (λ (x : State). asked wishes (undone older base.held x.name f.book pieces) (emptied base.held f.book pieces)) (sym is) ∙ e.unasked)
    ∙ ap edits unsettled ∙ ap by_changes none_changed
    ∙ ap (λ (n : Option ℕ). taken place more (edited_all s s (edits_by NumbersUsedUp n s f.book []))) (left_for_none s.held state.set.each)
  where
    pieces : List PieceParts
    pieces = pieces_by base f

    place : Place
    place = places.File f.at

    more : List StoodParts
    more = stood ++ stood_of s.held base.held f.book pieces

    by_changes : List ChangeParts → Result Taken Refusal
    by_changes cs = taken place more (edited_all s s (changes_ops s f.book cs))

    edits : List WantedParts → Result Taken Refusal
    edits wanted = by_changes (file_changes s.held base.held wanted f.book pieces)

    none_changed : file_changes s.held base.held [] f.book pieces ≡ []
    none_changed =
        changes_are s.held base.held f.book pieces (walked_keys s.held f.book pieces)
        ∙ ap (map (since_change s.held base.held f.book pieces))
        (none_pass (is_changed s.held base.held f.book pieces) (walked_keys s.held f.book pieces)
        (λ key. ap (λ (x : State). is_changed x.held base.held f.book pieces key) (sym is) ∙ e.unchanged key))
