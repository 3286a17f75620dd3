-- Files that an editor saved as it had read them before something came in (this project's own
-- rule): each is taken as written from an older base.
use Rattle.std.specs.Prelude.{ℕ, suc, nat_le, Bool, true, false, not, ◌&&◌, List, [], ◌∷◌, filter, get_or, Option, None, Some, option_map, Result, Ok, Err, if◌then◌else◌}
use Rattle.usfm_ref.specs.Books.{same_bytes}
use Rattle.verse_cut.specs.Pieces.{PieceParts}
use Rattle.op_core.specs.Ops.{Operation}
use Rattle.op_core.specs.Export.{has_book}
use Rattle.bundle_codec.specs.Spelling.{bundle}
use Rattle.replica_state.specs.States.{State}
use Rattle.book_folder.specs.Asks.{has_text_of, lacks_any, unlikeness}
use Rattle.book_folder.specs.Begun.{BegunParts, judged, received, joined_at, replica_at}
use Rattle.book_folder.specs.Files.{FileParts, text_if}
use Rattle.book_folder.specs.Refusals.{◌>>=◌}
use Rattle.book_folder.specs.Restored.{coming_pieces}
use Rattle.book_folder.specs.Wanted.{WantedParts, is_none_wanted}
use Rattle.book_folder.specs.declared.refusal.FolderFault.TheVariants as faults
use Rattle.book_folder.specs.declared.refusal.Place.{Place}
use Rattle.book_folder.specs.declared.refusal.Place.TheVariants as places
use Rattle.book_folder.specs.declared.refusal.Refusal.{Refusal}
use Rattle.book_folder.specs.declared.refusal.Refusal.TheVariants.{Of}
use Rattle.book_folder.specs.declared.stale.Choice.{Choice}
use Rattle.book_folder.specs.declared.stale.OlderBase.{OlderBase}

-- an older base, by its place among them, and of how many keys a file has another text than it
-- picks
pub record Candidate : Type 0 where
  pub at : ℕ
  pub unlike : ℕ

-- an older base that may be chosen, as a contract sees it
abbrev pub choice_view : Choice → Candidate
choice_view c = record { at = c.at; unlike = c.unlike }

-- the one of two that a file is less unlike; of two alike the later one, which is older
abbrev pub less_unlike : Option Candidate → Candidate → Candidate
less_unlike None later = later
less_unlike (Some c) later = if nat_le later.unlike c.unlike then later else c

-- whether a file may have been written from an older base: it lacks a text of another's that came
-- in since that
unfoldable pub is_candidate : List Operation → List Operation → List ℕ → List ℕ → List PieceParts
    → Bool
is_candidate older base own book pieces =
    has_book older book && lacks_any older base own book pieces

-- what is found after one more older base, which has this place
unfoldable pub found_with : Option Candidate → ℕ → List Operation → List Operation → List ℕ
    → List ℕ → List PieceParts → Option Candidate
found_with found at older base own book pieces =
    if is_candidate older base own book pieces
    then Some (less_unlike found (record { at = at; unlike = unlikeness older book pieces }))
    else found

-- Of the older bases from which a file may have been written, and of one before them, the one that
-- it is least unlike; of several the oldest. The first of them has this place.
abbrev pub oldest_of : Option Candidate → ℕ → List State → List Operation → List ℕ → List ℕ
    → List PieceParts → Option Candidate
oldest_of found at [] base own book pieces = found
oldest_of found at (older ∷ rest) base own book pieces =
    oldest_of (found_with found at older.held base own book pieces)
    (suc at) rest base own book pieces

-- the place of an older base
abbrev pub place_of : Candidate → ℕ
place_of c = c.at

-- of the older bases from which a file may have been written, the one that it is least unlike; of
-- several the oldest
abbrev pub oldest_alike : ℕ → List State → List Operation → List ℕ → List ℕ → List PieceParts
    → Option Candidate
oldest_alike at older base own book pieces = oldest_of None at older base own book pieces

-- whether an operation is of a segment of a book in which a file has another text than a base picks
abbrev pub is_of_unlike : List Operation → List ℕ → List PieceParts → Operation → Bool
is_of_unlike base book pieces o =
    same_bytes o.segment.book book && not (has_text_of base book pieces o.segment.key)

-- the same, or whether it is not
abbrev pub is_by_unlike : Bool → List Operation → List ℕ → List PieceParts → Operation → Bool
is_by_unlike true base book pieces o = is_of_unlike base book pieces o
is_by_unlike false base book pieces o = not (is_of_unlike base book pieces o)

-- the operations of such segments, or all others
abbrev pub ops_by_unlike : Bool → List Operation → List ℕ → List PieceParts → List Operation
    → List Operation
ops_by_unlike is_unlike base book pieces ops =
    filter (is_by_unlike is_unlike base book pieces) ops

-- What a base has, but of the segments of a book in which a file has another text what an older
-- base has: so in a segment in which the file is like its base nothing is changed, whatever the
-- older one has there.
abbrev pub with_older : Place → List Operation → List Operation → List ℕ → List PieceParts
    → Result (List ℕ) Refusal
with_older place base was book pieces =
    joined_at place (ops_by_unlike false base book pieces base)
    (ops_by_unlike true base book pieces was)

-- an older base from which a file was written, by its place among them, and the bundle of what the
-- base is then
pub record OlderParts : Type 0 where
  pub at : ℕ
  pub bytes : List ℕ

-- an older base from which a file was written, as a contract sees it
abbrev pub older_view : OlderBase → OlderParts
older_view o = record { at = o.at; bytes = o.bytes.items }

-- such an older base, by its parts
abbrev pub older_found : ℕ → List ℕ → Result (Option OlderParts) Refusal
older_found at bytes = Ok (Some (record { at = at; bytes = bytes }))

-- the older base from which a file was written, by its pieces, where one was chosen
abbrev pub older_base_if : State → List State → List ℕ → List PieceParts → Option ℕ
    → Result (Option OlderParts) Refusal
older_base_if base older book pieces None = Ok None
older_base_if base older book pieces (Some at) =
    with_older (places.Older at) base.held (get_or older at base).held book pieces
    >>= older_found at

-- the older base from which a file was written, by its pieces, if it is an older one
abbrev pub older_base_in : State → List State → List ℕ → List PieceParts
    → Result (Option OlderParts) Refusal
older_base_in base older book pieces =
    older_base_if base older book pieces
    (option_map place_of (oldest_alike 0 older base.held base.name book pieces))

-- the same by its text, if it is one
abbrev pub older_base_by : State → List State → List ℕ → Option (List ℕ)
    → Result (Option OlderParts) Refusal
older_base_by base older book None = Ok None
older_base_by base older book (Some text) =
    if has_book base.held book
    then older_base_in base older book (coming_pieces base.held book text) else Ok None

-- the older base from which a file was written, if it is an older one, and what the base is then
abbrev pub older_base : State → List State → FileParts → Result (Option OlderParts) Refusal
older_base base older f = older_base_by base older f.book (text_if f.bytes)

-- what a folder begins with where the base is another one, and an older one was received
abbrev pub rebased_to : BegunParts → Place → State → List ℕ → Result BegunParts Refusal
rebased_to b place was bytes =
    judged place (bundle was.held) >>= λ ops.
    received place b.replica ops >>= λ r.
    replica_at b.base.name place bytes >>= λ base.
    Ok (record { replica = r.after; base = base; held = b.held })

-- the same where there is such an older base of a file that has this place: but where conflicts are
-- to be settled it is refused, since nobody has seen what the file shows then
abbrev pub rebased_if : List WantedParts → BegunParts → List State → ℕ → Option OlderParts
    → Result BegunParts Refusal
rebased_if settled b older at None = Ok b
rebased_if settled b older at (Some o) =
    if is_none_wanted settled
    then rebased_to b (places.Older o.at) (get_or older o.at b.base) o.bytes
    else Err (Of (places.File at) faults.SettledEarly)

-- what a folder begins with where the base of a file that may be an older one is the older base
abbrev pub rebased_by : List WantedParts → BegunParts → List State → FileParts
    → Result BegunParts Refusal
rebased_by settled b older f = older_base b.base older f >>= rebased_if settled b older f.at

-- The base of each file that may be an older one is the older base that it is least unlike, in the
-- segments in which the file is unlike its base.
abbrev pub rebased : List WantedParts → BegunParts → List State → List FileParts
    → Result BegunParts Refusal
rebased settled b older [] = Ok b
rebased settled b older (f ∷ later) =
    rebased_by settled b older f >>= λ next. rebased settled next older later
