-- Which bundles of a box come in (this project's own rule): each is received after those before it,
-- and one that would be refused, or that is of another project, is passed over.
use Rattle.std.specs.Prelude.{ℕ, Bool, List, [], ◌∷◌, Result, Ok, Err, IsOk}
use Rattle.op_core.specs.Ops.{Operation}
use Rattle.replica_state.specs.States.{State}
use Rattle.book_folder.specs.Begun.{Received, begun_with, judged, received_if_alike}
use Rattle.book_folder.specs.Coming.{bundles_begun}
use Rattle.book_folder.specs.Refusals.{◌>>=◌, Stepped, stepped}
use Rattle.book_folder.specs.Wanted.{SeenParts, WishParts}
use Rattle.book_folder.specs.declared.refusal.FolderFault.TheVariants as faults
use Rattle.book_folder.specs.declared.refusal.Place.{Place}
use Rattle.book_folder.specs.declared.refusal.Place.TheVariants as places
use Rattle.book_folder.specs.declared.refusal.Refusal.{Refusal}
use Rattle.book_folder.specs.declared.refusal.Refusal.TheVariants.{Memory, Of}
use Rattle.book_folder.specs.declared.sifting.Sifted.{Sifted}
use Rattle.book_folder.specs.declared.sifting.Sifted.TheVariants.{Comes, Refused}

-- a place for refusals of which the place is not told
abbrev pub any_place : Place
any_place = places.Bundle 0

-- what becomes of a bundle that would be refused: it is passed over. (Out of memory is no refusal of
-- a definition.)
abbrev pub passed_over : Refusal → Sifted
passed_over Memory = Refused faults.FileChanged
passed_over (Of place fault) = Refused fault

-- the same as it is answered: out of memory stays what it is
abbrev pub answered : Refusal → Result Sifted Refusal
answered Memory = Err Memory
answered (Of place fault) = Ok (Refused fault)

-- what becomes of a bundle that was to be received, and of the replica: where it is refused, the
-- replica stays
abbrev pub sift_received : State → Result Received Refusal → Stepped State Sifted
sift_received s (Ok r) = stepped r.after Comes
sift_received s (Err refusal) = stepped s (passed_over refusal)

-- what becomes of a bundle, and of the replica
abbrev pub sift_ops : Bool → State → List Operation → Stepped State Sifted
sift_ops asked s ops = sift_received s (received_if_alike asked any_place s ops)

-- what becomes of bytes that are to be a bundle, and of the replica
abbrev pub sift_judged : Bool → State → Result (List Operation) Refusal → Stepped State Sifted
sift_judged asked s (Ok ops) = sift_ops asked s ops
sift_judged asked s (Err refusal) = stepped s (passed_over refusal)

-- what becomes of the bytes of a bundle, and of the replica
abbrev pub sift_bytes : Bool → State → List ℕ → Stepped State Sifted
sift_bytes asked s bytes = sift_judged asked s (judged any_place bytes)

-- what became of a bundle, before what became of others
abbrev pub before_others : Sifted → Stepped State (List Sifted) → Stepped State (List Sifted)
before_others first rest = stepped rest.after (first ∷ rest.made)

-- what becomes of bundles, each after those before it, and of the replica
abbrev pub sifted : Bool → State → List (List ℕ) → Stepped State (List Sifted)
sifted asked s [] = stepped s []
sifted asked s (bytes ∷ later) =
    let first = sift_bytes asked s bytes in
    before_others first.made (sifted asked first.after later)

-- What becomes of the bundles of a box, once what the folder's files were written from came in, and
-- the bundles that the line names.
abbrev pub sifted_box : SeenParts → WishParts → List (List ℕ) → Result (List Sifted) Refusal
sifted_box seen wishes bundles =
    begun_with seen wishes >>= λ b.
    bundles_begun wishes.joined b.replica seen.bundles >>= λ r.
    Ok (sifted wishes.joined r.after bundles).made

-- ---- those that come in

-- the bundles that come in
abbrev pub that_come : List Sifted → List (List ℕ) → List (List ℕ)
that_come [] bundles = []
that_come (x ∷ xs) [] = []
that_come (Comes ∷ xs) (bytes ∷ later) = bytes ∷ that_come xs later
that_come (Refused fault ∷ xs) (bytes ∷ later) = that_come xs later

-- The bundles of a box that come in are received one after another, and none of them is refused, as
-- that of another project or for any other reason.
abbrev pub SiftedBundlesComeIn : Type 0
SiftedBundlesComeIn = (asked : Bool) (s : State) (bundles : List (List ℕ)) →
    IsOk (bundles_begun asked s (that_come (sifted asked s bundles).made bundles))
