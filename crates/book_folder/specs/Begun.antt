-- What a folder begins with (this project's own rule): the project with what its files were written
-- from.
use Rattle.std.specs.Prelude.{ℕ, suc, ◌-◌, Bool, true, false, not, ◌&&◌, ◌||◌, List, [], ◌∷◌, length, map, filter, Option, None, Some, is_some, Result, Ok, Err, if◌then◌else◌, codes}
use Rattle.std.specs.List.{list_any, flat_map}
use Rattle.usfm_ref.specs.Books.{same_bytes}
use Rattle.usfm_ref.specs.Keys.{KeyParts}
use Rattle.usfm_ref.specs.Segments.{segment}
use Rattle.usfm_ref.specs.declared.segment.Segment.{Segment}
use Rattle.op_core.specs.Ids.{Id}
use Rattle.op_core.specs.Ops.{Operation, own_text}
use Rattle.op_core.specs.Sets.{get, clash}
use Rattle.op_core.specs.Shown.{shown}
use Rattle.op_core.specs.Lists.{books_of, keys_of}
use Rattle.bundle_codec.specs.Spelling.{bundle}
use Rattle.bundle_codec.specs.Joining.{whole_at, bundles_joined}
use Rattle.bundle_codec.specs.declared.fault.JoinFault.{JoinFault}
use Rattle.bundle_codec.specs.declared.fault.WholeFault.{WholeFault}
use Rattle.project_file.specs.Projects.{project_at}
use Rattle.project_file.specs.declared.fault.LoadFault.{LoadFault}
use Rattle.replica_state.specs.Receives.{lacked}
use Rattle.replica_state.specs.States.{State, begun}
use Rattle.replica_state.specs.Steps.{with_ops}
pub use Rattle.book_folder.specs.Files.{is_one_of}
use Rattle.book_folder.specs.Refusals.{◌>>=◌, Stepped, of_bundle, of_joining, of_loading}
use Rattle.book_folder.specs.Wanted.{SeenParts, WishParts}
use Rattle.book_folder.specs.declared.begun.Begun.{Begun}
use Rattle.book_folder.specs.declared.refusal.FolderFault.TheVariants as faults
use Rattle.book_folder.specs.declared.refusal.Place.{Place}
use Rattle.book_folder.specs.declared.refusal.Place.TheVariants as places
use Rattle.book_folder.specs.declared.refusal.Refusal.{Refusal}
use Rattle.book_folder.specs.declared.refusal.Refusal.TheVariants.{Of}

-- ---- bundles that are received

-- the set of the bundle that bytes are, or the refusal
abbrev pub set_or : Place → Result (List Operation) WholeFault → Result (List Operation) Refusal
set_or place (Ok ops) = Ok ops
set_or place (Err fault) = Err (of_bundle place fault)

-- the set of the one whole bundle that the bytes are, or the refusal of what they are instead
abbrev pub judged : Place → List ℕ → Result (List Operation) Refusal
judged place bytes = set_or place (whole_at bytes)

-- a replica after a bundle was received, and how many operations were new
abbrev pub Received : Type 0
Received = Stepped State ℕ

-- a replica that takes in a set, unless the two have a clash: it holds the union, and so many
-- operations were new
abbrev pub received_or : Place → State → List Operation → Option Id → Result Received Refusal
received_or place s ops None =
    Ok (record { after = with_ops s ops; made = length (lacked s.held ops) })
received_or place s ops (Some id) = Err (Of place (faults.Clash id))

-- a replica takes in a set, unless the two clash
abbrev pub received : Place → State → List Operation → Result Received Refusal
received place s ops = received_or place s ops (clash s.held ops)

-- ---- conflicts

-- whether an operation has another text
abbrev pub has_other_text : List ℕ → Operation → Bool
has_other_text text o = not (same_bytes (own_text o) text)

-- whether operations have different texts: one of them has another one than the first
abbrev pub differ : List Operation → Bool
differ [] = false
differ (o ∷ later) = list_any (has_other_text (own_text o)) later

-- whether a segment shows different texts
abbrev pub is_in_conflict : List Operation → Segment → Bool
is_in_conflict held g = differ (shown held g)

-- the segments of a book that are in conflict, by rising keys
abbrev pub conflicts_in : List Operation → List ℕ → List (List ℕ × KeyParts)
conflicts_in held book =
    map (λ key. (book, key))
    (filter (λ key. is_in_conflict held (segment book key)) (keys_of held book))

-- the segments that are in conflict, in the order of books and keys
abbrev pub conflicts : List Operation → List (List ℕ × KeyParts)
conflicts held = flat_map (conflicts_in held) (books_of held)

-- ---- a bundle that has nothing in common with a project

-- whether an operation is held, by its id
abbrev pub is_held : List Operation → Id → Bool
is_held held id = is_some (get held id)

-- whether one is held that an operation replaces
abbrev pub replaces_held : List Operation → Operation → Bool
replaces_held held o = list_any (is_held held) o.replaced

-- whether an operation is held, or one that it replaces
abbrev pub is_of : List Operation → Operation → Bool
is_of held o = is_held held o.id || replaces_held held o

-- whether it is so of some operation of a set, or one is held that replaces one of the set
abbrev pub shares_an_id : List Operation → List Operation → Bool
shares_an_id held ops = list_any (is_of held) ops || list_any (replaces_held ops) held

-- whether there is none
abbrev pub is_none_held : List Operation → Bool
is_none_held [] = true
is_none_held (o ∷ rest) = false

-- how many segments more are in conflict after a bundle was received
abbrev pub more_conflicts : State → Received → ℕ
more_conflicts s r = length (conflicts r.after.held) - length (conflicts s.held)

-- whether a set has something and a replica too, and the two have nothing in common
abbrev pub is_strange : List Operation → List Operation → Bool
is_strange held ops =
    not (is_none_held held) && not (is_none_held ops) && not (shares_an_id held ops)

-- the refusal of a set that has nothing in common with a replica, with how many segments more it
-- would put in conflict
abbrev pub refused_strange : Place → State → Received → Result Received Refusal
refused_strange place s r = Err (Of place (faults.Unlike (more_conflicts s r)))

-- A replica takes in a set; but one that has something, and nothing in common with a replica that
-- has something, only where that is asked for.
abbrev pub received_if_alike : Bool → Place → State → List Operation → Result Received Refusal
received_if_alike asked place s ops =
    if asked || not (is_strange s.held ops) then received place s ops
    else received place s ops >>= refused_strange place s

-- ---- the base

-- a project with what its files were written from, what that is, and how many operations the
-- project held without it
pub record BegunParts : Type 0 where
  pub replica : State
  pub base : State
  pub held : ℕ

-- what a folder begins with, as a contract sees it
abbrev pub begun_view : Begun → BegunParts
begun_view b = record { replica = b.replica; base = b.base; held = b.held }

-- what a folder begins with after one more bundle of the base
abbrev pub with_base : WishParts → Place → BegunParts → List Operation → Result BegunParts Refusal
with_base wishes place b ops =
    received_if_alike wishes.joined place b.replica ops >>= λ r.
    received place b.base ops >>= λ base.
    Ok (record { replica = r.after; base = base.after; held = b.held })

-- the same by the bytes of one more bundle of the base
abbrev pub with_base_at : WishParts → Place → BegunParts → List ℕ → Result BegunParts Refusal
with_base_at wishes place b bytes = judged place bytes >>= with_base wishes place b

-- the same of all bundles of the base, of which the first has this place
abbrev pub with_bases : WishParts → ℕ → BegunParts → List (List ℕ) → Result BegunParts Refusal
with_bases wishes at b [] = Ok b
with_bases wishes at b (bytes ∷ later) =
    with_base_at wishes (places.Base at) b bytes >>= λ next. with_bases wishes (suc at) next later

-- the operations of some books
abbrev pub ops_of : List (List ℕ) → List Operation → List Operation
ops_of books ops = filter (λ o. is_one_of books o.segment.book) ops

-- the operations of all other books
abbrev pub ops_not_of : List (List ℕ) → List Operation → List Operation
ops_not_of books ops = filter (λ o. not (is_one_of books o.segment.book)) ops

-- the operations of some books, or those of all others
abbrev pub ops_by : Bool → List (List ℕ) → List Operation → List Operation
ops_by true books ops = ops_of books ops
ops_by false books ops = ops_not_of books ops

-- the bytes of joined bundles, or the refusal
abbrev pub joined_or : Place → Result (List ℕ) JoinFault → Result (List ℕ) Refusal
joined_or place (Ok bytes) = Ok bytes
joined_or place (Err fault) = Err (of_joining place fault)

-- the bundle of what two lists of operations have together, or the refusal
abbrev pub joined_at : Place → List Operation → List Operation → Result (List ℕ) Refusal
joined_at place left right = joined_or place (bundles_joined (bundle left) (bundle right))

-- The base after the files were put in their places: of the books whose files were not, what the
-- base has; of all others what the next one has.
abbrev pub settled_base : List (List ℕ) → List Operation → List Operation → Result (List ℕ) Refusal
settled_base unplaced base next =
    joined_at places.Next (ops_of unplaced base) (ops_not_of unplaced next)

-- a replica of a name that holds what a bundle has
abbrev pub holding : List ℕ → Place → List Operation → Result State Refusal
holding name place ops = received place (begun name) ops >>= λ r. Ok r.after

-- a replica of a name that holds what the bundle has that the bytes are, or the refusal
abbrev pub replica_at : List ℕ → Place → List ℕ → Result State Refusal
replica_at name place bytes = judged place bytes >>= holding name place

-- what a folder begins with after the base was settled, where a next one stands
abbrev pub with_next : List (List ℕ) → BegunParts → Option (List ℕ) → Result BegunParts Refusal
with_next unplaced b None = Ok b
with_next unplaced b (Some bytes) =
    judged places.Next bytes >>= λ next.
    settled_base unplaced b.base.held next >>= λ base.
    received places.Next b.replica next >>= λ r.
    replica_at b.base.name places.Next base >>= λ settled.
    Ok (record { replica = r.after; base = settled; held = b.held })

-- the project that a file has, or the refusal
abbrev pub project_or : Result State LoadFault → Result State Refusal
project_or (Ok s) = Ok s
project_or (Err fault) = Err (of_loading fault)

-- a project with nothing of a folder
abbrev pub begun_alone : State → BegunParts
begun_alone s = record { replica = s; base = begun s.name; held = length s.held }

-- What a folder begins with: the project in which what its files were written from was received.
abbrev pub begun_with : SeenParts → WishParts → Result BegunParts Refusal
begun_with seen wishes =
    project_or (project_at seen.project) >>= λ s.
    with_bases wishes 0 (begun_alone s) seen.bases >>= λ based.
    with_next seen.unplaced based seen.next

-- the union of the bundles of the base, of which the first has this place, with what was received
-- before
abbrev pub bases_from : ℕ → State → List (List ℕ) → Result State Refusal
bases_from at base [] = Ok base
bases_from at base (bytes ∷ later) =
    judged (places.Base at) bytes >>= λ ops.
    received (places.Base at) base ops >>= λ r. bases_from (suc at) r.after later

-- the union of the bundles of the base, held by a replica that makes no operation
abbrev pub union_of : List (List ℕ) → Result State Refusal
union_of bases = bases_from 0 (begun (codes "base")) bases

-- the base after the files were put in their places, by its bytes and those of the next one
abbrev pub settled : List (List ℕ) → List ℕ → List (List ℕ) → Result (List ℕ) Refusal
settled bases next unplaced =
    union_of bases >>= λ base.
    judged places.Next next >>= settled_base unplaced base.held

-- a base after it was settled, where a next one stands
abbrev pub settled_if : List (List ℕ) → State → Option (List ℕ) → Result State Refusal
settled_if unplaced base None = Ok base
settled_if unplaced base (Some next) =
    judged places.Next next >>= λ ops.
    settled_base unplaced base.held ops >>= replica_at base.name places.Next

-- what the files of a folder were written from
abbrev pub base_of : SeenParts → Result State Refusal
base_of seen = union_of seen.bases >>= λ base. settled_if seen.unplaced base seen.next
