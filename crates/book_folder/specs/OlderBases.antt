-- How older bases move on once books' files were written anew (this project's own rule): each book's
-- by themselves, so that syncs of other books use up none of them.
use Rattle.std.specs.Prelude.{ℕ, suc, nat_lt, not, List, [], ◌∷◌, ◌++◌, map, filter, length, ◌==◌, Option, None, Some, Result, Ok, Err, if◌then◌else◌}
use Rattle.usfm_ref.specs.Books.{same_bytes}
use Rattle.op_core.specs.Ops.{Operation}
use Rattle.op_core.specs.Sets.{get, is_like}
use Rattle.bundle_codec.specs.Spelling.{bundle}
use Rattle.book_folder.specs.Begun.{judged, ops_of, settled_base}
use Rattle.book_folder.specs.declared.refusal.Place.TheVariants as places
use Rattle.book_folder.specs.declared.refusal.Refusal.{Refusal}

-- the books of those operations that a set does not hold, by operations that agree with them
abbrev pub lacked_books : List Operation → List Operation → List (List ℕ)
lacked_books held ops =
    map (λ o. o.segment.book) (filter (λ o. not (is_like (get held o.id) o)) ops)

-- the books of which one of two bases has what the other one has not
abbrev pub changed_books : List Operation → List Operation → List (List ℕ)
changed_books base made = lacked_books made base ++ lacked_books base made

-- the operations of the bundle that bytes are, or none where they are no bundle
abbrev pub or_none : Result (List Operation) Refusal → List Operation
or_none (Ok ops) = ops
or_none (Err refusal) = []

-- the operations of an older base; a damaged one is as one that has nothing
abbrev pub ops_or_none : List ℕ → List Operation
ops_or_none bytes = or_none (judged places.Next bytes)

-- bytes that were made, or others where they could not be
abbrev pub or_else : List ℕ → Result (List ℕ) Refusal → List ℕ
or_else other (Ok bytes) = bytes
or_else other (Err refusal) = other

-- An older base once some books' files were written anew: of these it has what the next newer base
-- had, of all others what it had; but of all others nothing, where the two clash.
abbrev pub moved_base : List (List ℕ) → List Operation → List Operation → List ℕ
moved_base books newer older =
    or_else (bundle (ops_of books newer)) (settled_base books newer older)

-- bytes, with their place among the older bases, if they are other than those that stand there
abbrev pub moved_if : ℕ → Option (List ℕ) → List ℕ → List (ℕ × List ℕ)
moved_if at None bytes = (at, bytes) ∷ []
moved_if at (Some there) bytes = if same_bytes there bytes then [] else (at, bytes) ∷ []

-- how many older bases are kept
abbrev pub most_older : ℕ
most_older = 3

-- the older bases that become other ones once some books' files were written anew, with their
-- places, of which the first has this one: one more than there were, but no more than are kept
abbrev pub moved_from : ℕ → List (List ℕ) → List Operation → List (List ℕ) → List (ℕ × List ℕ)
moved_from at books newer [] =
    if nat_lt at most_older then moved_if at None (moved_base books newer []) else []
moved_from at books newer (there ∷ later) =
    moved_if at (Some there) (moved_base books newer (ops_or_none there))
    ++ moved_from (suc at) books (ops_or_none there) later

-- the same, unless no book's file was written anew
abbrev pub moved_by : List (List ℕ) → List Operation → List (List ℕ) → List (ℕ × List ℕ)
moved_by books base older = if length books == 0 then [] else moved_from 0 books base older

-- The older bases that become other ones where a base takes the place of another one, with their
-- places: of each book of which the two have not the same, they move on.
abbrev pub moved_older : List ℕ → List ℕ → List (List ℕ) → List (ℕ × List ℕ)
moved_older base made older =
    moved_by (changed_books (ops_or_none base) (ops_or_none made)) (ops_or_none base) older
