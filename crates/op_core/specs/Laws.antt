-- Laws of sets of operations: of a join semilattice, and of what a multi-value register shows
-- (INRIA RR-7506).
use Rattle.std.specs.Prelude.{◌≡◌, ◌≢◌, ℕ, true, false, List, [], ◌∷◌, None, Some, Result, Ok, Err, Option, ◌⊎◌, IsTrue, is_ok}
use Rattle.std.specs.List.{list_any, Contains}
use Rattle.usfm_ref.specs.declared.segment.Segment.{Segment}
use Rattle.op_core.specs.Ids.{Id, id_below}
use Rattle.op_core.specs.Ops.{Operation, is_full, in_segment, agree}
use Rattle.op_core.specs.Sets.{IsOpSet, get, met, join, clash}
use Rattle.op_core.specs.Shown.{shown}
use Rattle.op_core.specs.Export.{export}

-- each grouping of three sets has the same union
abbrev pub JoinIsAssociative : Type 0
JoinIsAssociative = (a b c : List Operation) → IsOpSet a → IsOpSet b → IsOpSet c
    → join (join a b) c ≡ join a (join b c)

-- sets without a clash have the same union either way
abbrev pub JoinCommutes : Type 0
JoinCommutes =
    (a b : List Operation) → IsOpSet a → IsOpSet b → clash a b ≡ None → join a b ≡ join b a

-- two sets clash at one id, whichever comes first
abbrev pub ClashCommutes : Type 0
ClashCommutes = (a b : List Operation) → IsOpSet a → IsOpSet b → clash a b ≡ clash b a

-- two sets agree at an id if what they hold under it agrees, where both hold something
abbrev pub AgreeAt : List Operation → List Operation → Id → Type 0
AgreeAt a b id = (o p : Operation) → get a id ≡ Some o → get b id ≡ Some p → agree o p ≡ true

-- two sets clash at an id: each holds an operation under it, the two do not agree, and below it the
-- sets agree
pub record ClashAt (a b : List Operation) (id : Id) : Type 0 where
  pub one : Operation
  pub other : Operation
  pub one_held : get a id ≡ Some one
  pub other_held : get b id ≡ Some other
  pub differ : agree one other ≡ false
  pub below : (q : Id) → IsTrue (id_below q id) → AgreeAt a b q

-- what is found as a clash is one, and the least
abbrev pub ClashIsLeast : Type 0
ClashIsLeast =
    (a b : List Operation) (id : Id) → IsOpSet a → IsOpSet b → clash a b ≡ Some id → ClashAt a b id

-- sets without a clash agree at every id
abbrev pub NoClashAgrees : Type 0
NoClashAgrees =
    (a b : List Operation) → IsOpSet a → IsOpSet b → clash a b ≡ None → (id : Id) → AgreeAt a b id

-- a set joined with itself is the set, and does not clash with itself
abbrev pub JoinWithItself : Type 0
JoinWithItself = (a : List Operation) → IsOpSet a → (join a a ≡ a) × (clash a a ≡ None)

-- the union is a set that holds at each id what one of the two holds there, or what the two meet
-- in, and nothing else
abbrev pub JoinHoldsBoth : Type 0
JoinHoldsBoth =
    (a b : List Operation) → IsOpSet a → IsOpSet b
    → IsOpSet (join a b) × ((id : Id) → get (join a b) id ≡ met (get a id) (get b id))

-- sets that hold the same operation at each id are equal
abbrev pub SameHeldSameSet : Type 0
SameHeldSameSet =
    (a b : List Operation) → IsOpSet a → IsOpSet b → ((id : Id) → get a id ≡ get b id) → a ≡ b

-- a segment with an operation shows at least one
abbrev pub SegmentShowsOne : Type 0
SegmentShowsOne = (held : List Operation) (g : Segment) → IsOpSet held
    → list_any (in_segment g) held ≡ true → shown held g ≢ []

-- ---- sets joined in some order, grouping and repetition

-- a way to join sets: one set, or two ways joined
pub data Joining : Type 0 where
  Part : (set : List Operation) → Joining
  Joined : (left right : Joining) → Joining

-- each part of a way to join is a set
abbrev pub AreSets : Joining → Type 0
AreSets (Part set) = IsOpSet set
AreSets (Joined left right) = AreSets left × AreSets right

-- the operation is in one of the sets that are joined
abbrev pub IsInOne : Joining → Operation → Type 0
IsInOne (Part set) o = Contains set o
IsInOne (Joined left right) o = IsInOne left o ⊎ IsInOne right o

-- the sets of both ways have the same operations together
pub record SameOperations (one other : Joining) : Type 0 where
  pub there : (o : Operation) → IsInOne one o → IsInOne other o
  pub back : (o : Operation) → IsInOne other o → IsInOne one o

-- the union of two sets, refused with their clash
abbrev pub joined_or_clash : List Operation → List Operation → Option Id
    → Result (List Operation) Id
joined_or_clash a b None = Ok (join a b)
joined_or_clash a b (Some id) = Err id

-- the first refusal of two results, or what is made of both
abbrev pub with_both : Result (List Operation) Id → Result (List Operation) Id
    → (List Operation → List Operation → Result (List Operation) Id) → Result (List Operation) Id
with_both (Ok a) (Ok b) f = f a b
with_both (Ok a) (Err id) f = Err id
with_both (Err id) b f = Err id

-- what a way of joining makes: the union, or the clash that refuses it
abbrev pub union_by : Joining → Result (List Operation) Id
union_by (Part set) = Ok set
union_by (Joined left right) =
    with_both (union_by left) (union_by right) (λ a b. joined_or_clash a b (clash a b))

-- Sets that have the same operations together, thinned ones as thinned, joined in whatever order,
-- grouping and repetition, have one union, and so one export of every book.
abbrev pub EqualUnionsExportAlike : Type 0
EqualUnionsExportAlike =
    (one other : Joining) (a b : List Operation) → AreSets one → AreSets other
    → SameOperations one other →
    union_by one ≡ Ok a → union_by other ≡ Ok b →
    (a ≡ b) × ((book : List ℕ) → export a book ≡ export b book)

-- Where one of the sets has a thinned operation of an id, any two of their operations of that id
-- agree. So it is where none is thinned.
abbrev pub ThinnedAgree : Joining → Type 0
ThinnedAgree way =
    (thinned o p : Operation) → IsInOne way thinned → IsInOne way o → IsInOne way p
    → is_full thinned ≡ false →
    o.id ≡ thinned.id → p.id ≡ thinned.id → agree o p ≡ true

-- Sets that have the same operations together, and in which no id of a thinned operation has two
-- operations, are joined either way, or refused either way. An id of full operations may have two:
-- then they are refused.
abbrev pub RefusedAlike : Type 0
RefusedAlike =
    (one other : Joining) → AreSets one → AreSets other → SameOperations one other
    → ThinnedAgree one →
    is_ok (union_by one) ≡ is_ok (union_by other)

-- ---- sets joined one after another

-- the operation is in one of the sets
abbrev pub IsAmong : List (List Operation) → Operation → Type 0
IsAmong [] o = ⊥
IsAmong (set ∷ rest) o = Contains set o ⊎ IsAmong rest o

-- the sets have the same operations together
pub record SameTogether (sets others : List (List Operation)) : Type 0 where
  pub there : (o : Operation) → IsAmong sets o → IsAmong others o
  pub back : (o : Operation) → IsAmong others o → IsAmong sets o
