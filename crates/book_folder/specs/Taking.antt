-- Files of a folder, taken into a project (this project's own rule): what was changed in a file
-- since it was written.
use Rattle.std.specs.Prelude.{◌≡◌, ℕ, Bool, true, not, ◌&&◌, ◌||◌, List, [], ◌∷◌, ◌++◌, length, map, filter, Option, None, Some, Result, Ok, Err, option_map, if◌then◌else◌, string_bytes}
use Rattle.std.specs.List.{list_any, flat_map}
use Rattle.std.specs.Option.{option_or}
use Rattle.std.specs.Str.{is_utf8}
use Rattle.std.specs.Str.Lossy.{utf8_valid_len}
use Rattle.usfm_ref.specs.Books.{same_bytes}
use Rattle.usfm_ref.specs.Keys.{KeyParts, same_key}
use Rattle.usfm_ref.specs.Segments.{segment}
use Rattle.verse_cut.specs.Pieces.{PieceParts, pieces_of}
use Rattle.op_core.specs.Ids.{Id, is_none_left}
use Rattle.op_core.specs.Ops.{Operation}
use Rattle.op_core.specs.CutsBack.{picked_at}
use Rattle.op_core.specs.Export.{has_book, export}
use Rattle.op_core.specs.Lists.{shown_ids}
use Rattle.op_core.specs.NextIds.{is_among}
use Rattle.replica_state.specs.Changes.{ChangeParts, changes_ops}
use Rattle.replica_state.specs.Imports.{piece_at, walked_keys, import_ops}
use Rattle.replica_state.specs.Since.{is_changed, since_change}
use Rattle.replica_state.specs.States.{State}
use Rattle.replica_state.specs.Steps.{EditsStep, edited_all}
use Rattle.replica_state.specs.declared.fault.EditFault.{EditFault}
use Rattle.replica_state.specs.declared.fault.ImportFault.{ImportFault}
use Rattle.book_folder.specs.Asks.{emptied, undone}
use Rattle.book_folder.specs.declared.asks.AskedKeys.{AskedKeys}
use Rattle.book_folder.specs.Begun.{is_in_conflict}
use Rattle.book_folder.specs.Files.{FileParts}
use Rattle.book_folder.specs.Likes.{like}
use Rattle.book_folder.specs.Refusals.{◌>>=◌, of_edit, of_import}
use Rattle.book_folder.specs.Restored.{coming_pieces}
use Rattle.book_folder.specs.Wanted.{WantedParts, WishParts}
use Rattle.book_folder.specs.declared.refusal.FolderFault.{FolderFault}
use Rattle.book_folder.specs.declared.refusal.FolderFault.TheVariants as faults
use Rattle.book_folder.specs.declared.refusal.Place.{Place}
use Rattle.book_folder.specs.declared.refusal.Place.TheVariants as places
use Rattle.book_folder.specs.declared.refusal.Refusal.{Refusal}
use Rattle.book_folder.specs.declared.refusal.Refusal.TheVariants.{Memory, Of}
use Rattle.book_folder.specs.declared.taking.Stood.{Stood}

-- ---- what a file changes

-- whether a key is the one that is wanted, or any is
abbrev pub is_key : Option KeyParts → KeyParts → Bool
is_key None key = true
is_key (Some wanted) key = same_key wanted key

-- whether a segment is among those that are wanted
abbrev pub is_wanted : List WantedParts → List ℕ → KeyParts → Bool
is_wanted wanted book key = list_any (λ w. same_bytes w.book book && is_key w.key key) wanted

-- the ids that a base shows in a segment, and the project still does
abbrev pub still_shown : List Operation → List Operation → List ℕ → KeyParts → List Id
still_shown held base book key =
    filter (is_among (shown_ids held (segment book key))) (shown_ids base (segment book key))

-- Whether a file settles the conflict of a key: that is wanted, the base shows one there and the
-- project too, and the project shows something of what the base does.
abbrev pub settles : List Operation → List Operation → List WantedParts → List ℕ → KeyParts → Bool
settles held base wanted book key =
    is_wanted wanted book key
    && is_in_conflict base (segment book key)
    && is_in_conflict held (segment book key)
    && not (is_none_left (still_shown held base book key))

-- the change of a key by which a file's piece replaces all that the base shows there and the
-- project still does
abbrev pub settling_change : List Operation → List Operation → List ℕ → List PieceParts → KeyParts
    → ChangeParts
settling_change held base book pieces key = record {
  key = key;
  text = piece_at pieces key;
  ids = still_shown held base book key;
}

-- the ids that a file replaces where it settles the conflict of a key
abbrev pub settling_ids : List Operation → List Operation → List WantedParts → List ℕ → KeyParts
    → Option (List Id)
settling_ids held base wanted book key =
    if settles held base wanted book key then Some (still_shown held base book key) else None

-- the change of a key by which a file settles its conflict, or what was changed in the file, if
-- anything was
abbrev pub change_by : Option (List Id) → List Operation → List Operation → List ℕ
    → List PieceParts → KeyParts → Option ChangeParts
change_by (Some ids) held base book pieces key =
    Some (record { key = key; text = piece_at pieces key; ids = ids })
change_by None held base book pieces key =
    if is_changed held base book pieces key
    then Some (since_change held base book pieces key) else None

-- the change of a key, if there is one
unfoldable pub change_at : List Operation → List Operation → List WantedParts → List ℕ
    → List PieceParts → KeyParts → Option ChangeParts
change_at held base wanted book pieces key =
    change_by (settling_ids held base wanted book key) held base book pieces key

-- what there is, as a list
abbrev pub listed : {A : Type 0} → Option A → List A
listed None = []
listed (Some x) = x ∷ []

-- the changes of a book's file, of rising keys
abbrev pub file_changes : List Operation → List Operation → List WantedParts → List ℕ
    → List PieceParts → List ChangeParts
file_changes held base wanted book pieces =
    flat_map (λ key. listed (change_at held base wanted book pieces key))
    (walked_keys held book pieces)

-- ---- what a file has beside its base

-- a segment for which a file has another text than its base picks, and that text
pub record StoodParts : Type 0 where
  pub book : List ℕ
  pub key : KeyParts
  pub text : List ℕ

-- a segment with the text that a file has for it, as a contract sees it
abbrev pub stood_view : Stood → StoodParts
stood_view s = record { book = s.book; key = s.key; text = string_bytes s.text }

-- whether a file has another text for a key than its base picks
abbrev pub has_other : List Operation → List ℕ → List PieceParts → KeyParts → Bool
has_other base book pieces key = not (same_bytes (picked_at base book key) (piece_at pieces key))

-- a key of a book, with the text that a file has for it
abbrev pub stood_at : List ℕ → List PieceParts → KeyParts → StoodParts
stood_at book pieces key = record { book = book; key = key; text = piece_at pieces key }

-- the segments of a book for which a file has other texts than its base picks
abbrev pub stood_of : List Operation → List Operation → List ℕ → List PieceParts → List StoodParts
stood_of held base book pieces =
    map (stood_at book pieces) (filter (has_other base book pieces) (walked_keys held book pieces))

-- ---- a file is taken in

-- a project after files were taken in, what they have beside their base, and how many edits the
-- last one made
pub record Taken : Type 0 where
  pub after : State
  pub stood : List StoodParts
  pub count : ℕ

-- the project after so many edits, or their refusal
abbrev pub taken_if : Place → List StoodParts → State → Result ℕ EditFault → Result Taken Refusal
taken_if place stood after (Ok count) = Ok (record { after = after; stood = stood; count = count })
taken_if place stood after (Err fault) = Err (of_edit place fault)

-- the project after the edits of a file, or their refusal
abbrev pub taken : Place → List StoodParts → EditsStep EditFault → Result Taken Refusal
taken place stood step = taken_if place stood step.after step.answer

-- the project after a book was imported, or the refusal
abbrev pub imported_if : Place → List StoodParts → State → Result ℕ ImportFault
    → Result Taken Refusal
imported_if place stood after (Ok count) =
    Ok (record { after = after; stood = stood; count = count })
imported_if place stood after (Err fault) = Err (of_import place fault)

-- the project after the import of a file, or the refusal
abbrev pub imported : Place → List StoodParts → EditsStep ImportFault → Result Taken Refusal
imported place stood step = imported_if place stood step.after step.answer

-- what is asked about a file: the fault, and the keys for which it is asked, rising
pub record AskedParts : Type 0 where
  pub fault : FolderFault
  pub keys : List KeyParts

-- what is asked, as a contract sees it
abbrev pub asked_view : AskedKeys → AskedParts
asked_view a = record { fault = a.fault; keys = a.keys.items }

-- the fault of so many keys, where there are any, unless a word says that they are meant
abbrev pub asked_by : (ℕ → FolderFault) → Bool → Option (List KeyParts) → Option AskedParts
asked_by fault meant keys =
    if meant then None
    else option_map (λ ks. record { fault = fault (length ks); keys = ks }) keys

-- What a file is asked about first: texts that came in and that it undoes, unless that is meant, or
-- the base is an older one by then; then texts that are gone from it, unless that is meant.
abbrev pub asked : WishParts → Option (List KeyParts) → Option (List KeyParts) → Option AskedParts
asked wishes came gone =
    option_or (asked_by faults.Undone (wishes.undone || wishes.stale) came)
    (asked_by faults.Emptied wishes.emptied gone)

-- what there is, unless something is asked about
abbrev pub unless_asked : Place → Option AskedParts → Result Taken Refusal → Result Taken Refusal
unless_asked place None taken = taken
unless_asked place (Some a) taken = Err (Of place a.fault)

-- A file that was written from a base, by its pieces: it is refused if something is to be asked
-- first; else its changes are made, and the segments are written down for which it has other texts
-- than its base picks.
unfoldable pub taken_changed : State → State → List State → WishParts → List StoodParts
    → FileParts → List PieceParts → Result Taken Refusal
taken_changed s base older wishes stood f pieces =
    unless_asked (places.File f.at)
    (asked wishes (undone older base.held s.name f.book pieces) (emptied base.held f.book pieces))
    (taken (places.File f.at) (stood ++ stood_of s.held base.held f.book pieces)
    (edited_all s s
    (changes_ops s f.book (file_changes s.held base.held wishes.settled f.book pieces))))

-- A file of which it is not known what it was written from: nothing comes in where it is like the
-- book's export, and all of it where the project has no operation of the book; else it is refused.
unfoldable pub taken_strange : State → List StoodParts → FileParts → Result Taken Refusal
taken_strange s stood f =
    if has_book s.held f.book then
    (if like (export s.held f.book) f.bytes
    then Ok (record {
      after = s;
      stood = stood ++ stood_of s.held [] f.book (coming_pieces s.held f.book f.bytes);
      count = 0;
    })
    else Err (Of (places.File f.at) faults.FileChanged))
    else imported (places.File f.at) (stood ++ stood_of s.held [] f.book (pieces_of f.bytes))
    (edited_all s s (import_ops s f.bytes))

-- the bytes of a text, or the refusal of what is none
abbrev pub text_or : Place → List ℕ → Result (List ℕ) Refusal
text_or place bytes =
    if is_utf8 bytes then Ok bytes else Err (Of place (faults.NotText (utf8_valid_len bytes)))

-- A file is taken in, unless it is no text: what was changed in it since it was written, where that
-- is known; else as one of which it is not known.
unfoldable pub taken_in : State → State → List State → WishParts → List StoodParts → FileParts
    → Result Taken Refusal
taken_in s base older wishes stood f =
    text_or (places.File f.at) f.bytes >>= λ text.
    (if has_book base.held f.book
    then taken_changed s base older wishes stood f (coming_pieces base.held f.book text)
    else taken_strange s stood f)

-- What is answered of a file that is taken in, where the project and what files have beside their
-- base are then so: how many edits it made; or the refusal; or out of memory.
abbrev pub AnswersTaken : Result Taken Refusal → State → List StoodParts → Result ℕ Refusal → Type 0
AnswersTaken wanted after stood (Ok count) =
    wanted ≡ Ok (record { after = after; stood = stood; count = count })
AnswersTaken wanted after stood (Err Memory) = Unit {0}
AnswersTaken wanted after stood (Err (Of place fault)) = wanted ≡ Err (Of place fault)
