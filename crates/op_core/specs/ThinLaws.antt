-- Laws of sets of which some operations may be thinned (this project's own rule).
use Rattle.std.specs.Prelude.{◌≡◌, ◌⊎◌, ℕ, Bool, true, false, not, List, Some, None, ◌||◌, Result, Ok, filter, is_none}
use Rattle.std.specs.Option.{is_some}
use Rattle.usfm_ref.specs.declared.segment.Segment.{Segment}
use Rattle.op_core.specs.Ids.{Id}
use Rattle.op_core.specs.Ops.{Operation, is_full, bare, agree}
use Rattle.op_core.specs.Sets.{rises, get, put, join, clash}
use Rattle.op_core.specs.Shown.{shown, text_of, pick}
use Rattle.op_core.specs.Shown.Pick.{Greatest}
use Rattle.op_core.specs.Lists.{ids_of, shown_ids, awaited, keys_of, books_of}
use Rattle.op_core.specs.NextIds.{is_among, greatest_number}
use Rattle.op_core.specs.Export.{export}
use Rattle.op_core.specs.Thinned.{is_past, is_legal, all_full, thin, thin_where, is_thinned_in, ArePast, skeleton, StandsFor, IsOf, is_lacked, is_sent, delta, of_ids}
use Rattle.op_core.specs.Laws.{Joining, union_by}
use Rattle.op_core.specs.Laws.Joining.{Part, Joined}

-- ---- agreement, and the union

-- two operations agree if they are equal, or if at least one is thinned and they are equal but for
-- their texts
pub record AgreesAs (a b : Operation) : Type 0 where
  pub says : agree a b ≡ true → (a ≡ b) ⊎
      (((is_full a ≡ false) ⊎ (is_full b ≡ false)) × (bare a ≡ bare b))
  pub equal : a ≡ b → agree a b ≡ true
  pub thinned : (is_full a ≡ false) ⊎ (is_full b ≡ false) → bare a ≡ bare b → agree a b ≡ true

-- the law: `agree` is what agreeing means
abbrev pub AgreeMeans : Type 0
AgreeMeans = (a b : Operation) → AgreesAs a b

-- there is no clash exactly where what the two hold at each id agrees
pub record NoClashAs (a b : List Operation) : Type 0 where
  pub says : clash a b ≡ None → (id : Id) (x y : Operation) → get a id ≡ Some x → get b id ≡ Some y
      → agree x y ≡ true
  pub back : ((id : Id) (x y : Operation) → get a id ≡ Some x → get b id ≡ Some y
      → agree x y ≡ true) → clash a b ≡ None

-- the law: where there is no clash, and only there, all that two sets hold agrees
abbrev pub NoClashMeans : Type 0
NoClashMeans = (a b : List Operation) → rises b ≡ true → NoClashAs a b

-- the union of legal sets that do not clash is legal
abbrev pub JoinIsLegal : Type 0
JoinIsLegal =
    (a b : List Operation) → rises a ≡ true → rises b ≡ true → is_legal a ≡ true → is_legal b ≡ true
    → clash a b ≡ None → is_legal (join a b) ≡ true

-- ---- thinning is invisible: the first set stands for the second

-- what is joined stands for what is joined in full, and is not refused
abbrev pub JoinStands : Type 0
JoinStands =
    (s u t v : List Operation) → StandsFor s u → StandsFor t v → clash u v ≡ None
    → (clash s t ≡ None) × StandsFor (join s t) (join u v)

-- a set that is thinned stands for what it stood for
abbrev pub ThinStands : Type 0
ThinStands = (s u : List Operation) → StandsFor s u → StandsFor (thin s) u

-- thinning a second time leaves out nothing more
abbrev pub ThinOnce : Type 0
ThinOnce = (s : List Operation) → thin (thin s) ≡ thin s

-- a set without thinned operations stands for itself
abbrev pub FullStands : Type 0
FullStands = (u : List Operation) → rises u ≡ true → all_full u ≡ true → StandsFor u u

-- a subset by ids, if it is legal, stands for the same subset
abbrev pub SubsetStands : Type 0
SubsetStands =
    (s u : List Operation) (kept : Id → Bool) → StandsFor s u → is_legal (of_ids kept s) ≡ true
    → StandsFor (of_ids kept s) (of_ids kept u)

-- a subset by anything but the texts, if it is legal, stands for the same subset
abbrev pub FilterStands : Type 0
FilterStands =
    (s u : List Operation) (kept : Operation → Bool) → StandsFor s u
    → is_legal (filter (λ o. kept (bare o)) s) ≡ true
    → StandsFor (filter (λ o. kept (bare o)) s) (filter (λ o. kept (bare o)) u)

-- a delta is legal
abbrev pub DeltaIsLegal : Type 0
DeltaIsLegal = (s : List Operation) (knows : Id → Bool) → rises s ≡ true → is_legal s ≡ true
    → is_legal (delta s knows) ≡ true

-- a delta stands for the same operations of the full set
abbrev pub DeltaStands : Type 0
DeltaStands = (s u : List Operation) (knows : Id → Bool) → StandsFor s u
    → StandsFor (delta s knows) (filter (is_sent s knows) u)

-- of a set without thinned operations, what is sent is what is lacked alone
abbrev pub FullDelta : Type 0
FullDelta = (s : List Operation) (knows : Id → Bool) → all_full s ≡ true
    → delta s knows ≡ filter (is_lacked knows) s

-- both show the same operations, with their texts
abbrev pub ShowsSame : Type 0
ShowsSame = (s u : List Operation) (g : Segment) → StandsFor s u → shown s g ≡ shown u g

-- both pick the same operation, or line, for each segment
abbrev pub PicksSame : Type 0
PicksSame = (s u : List Operation) (g : Segment) → StandsFor s u → pick s g ≡ pick u g

-- what else is asked of a set is the same
pub record AnswersSame (s u : List Operation) : Type 0 where
  pub texts : (g : Segment) → text_of s g ≡ text_of u g
  pub shown_ids : (g : Segment) → shown_ids s g ≡ shown_ids u g
  pub ids : ids_of s ≡ ids_of u
  pub number : greatest_number s ≡ greatest_number u
  pub awaited : awaited s ≡ awaited u
  pub keys : (book : List ℕ) → keys_of s book ≡ keys_of u book
  pub books : books_of s ≡ books_of u
  pub export : (book : List ℕ) → export s book ≡ export u book

-- a set that stands for another answers the same as that one, whatever is asked but an operation's
-- text
abbrev pub SaysSame : Type 0
SaysSame = (s u : List Operation) → StandsFor s u → AnswersSame s u

-- a new full operation is put into both
abbrev pub PutStands : Type 0
PutStands = (s u : List Operation) (o : Operation) → StandsFor s u → is_full o ≡ true
    → get u o.id ≡ None → StandsFor (put o s) (put o u)

-- ---- what is shown has its texts

-- the operations that a legal set shows for a segment are full
abbrev pub ShownAreFull : Type 0
ShownAreFull = (s : List Operation) (g : Segment) → is_legal s ≡ true → all_full (shown s g) ≡ true

-- an operation that a legal set picks for a segment is full
abbrev pub PickIsFull : Type 0
PickIsFull = (s : List Operation) (g : Segment) (o : Operation) → is_legal s ≡ true
    → pick s g ≡ Greatest o → is_full o ≡ true

-- ---- what does not hang on texts

-- ids, numbers, segments and what is named are the same
pub record SameButTexts (s t : List Operation) : Type 0 where
  pub ids : ids_of s ≡ ids_of t
  pub shown_ids : (g : Segment) → shown_ids s g ≡ shown_ids t g
  pub number : greatest_number s ≡ greatest_number t
  pub awaited : awaited s ≡ awaited t
  pub keys : (book : List ℕ) → keys_of s book ≡ keys_of t book
  pub books : books_of s ≡ books_of t

-- sets that are equal but for texts left out, legal or not, answer alike whatever does not hang on
-- texts
abbrev pub SkeletonAnswers : Type 0
SkeletonAnswers = (s t : List Operation) → skeleton s ≡ skeleton t → SameButTexts s t

-- ---- three sets, of which each stands for a full one

-- Where the full ones do not clash, no grouping is refused, and all have one union.
pub record JoinsInAnyOrder (s t r : List Operation) : Type 0 where
  pub left_first : clash s t ≡ None
  pub left_then : clash (join s t) r ≡ None
  pub right_first : clash t r ≡ None
  pub right_then : clash s (join t r) ≡ None
  pub associative : join (join s t) r ≡ join s (join t r)
  pub commutes : join s t ≡ join t s
  pub idempotent : join s s ≡ s

-- sets that stand for full ones, of which no two clash, join in any order, grouping and repetition
abbrev pub StandInsJoin : Type 0
StandInsJoin =
    (s u t v r w : List Operation) → StandsFor s u → StandsFor t v → StandsFor r w
    → clash u v ≡ None → clash v w ≡ None → clash u w ≡ None → JoinsInAnyOrder s t r

-- of three full sets one grouping is refused where the other is
abbrev pub FullGroupingsAlike : Type 0
FullGroupingsAlike = (a b c : List Operation) → rises a ≡ true → rises b ≡ true → rises c ≡ true
    → all_full a ≡ true → all_full b ≡ true →
    clash a b ≡ None → clash (join a b) c ≡ None → (clash b c ≡ None) × (clash a (join b c) ≡ None)

-- Legal sets that are equal but for texts left out, and in which no id has two operations, show the
-- same. So a full set, if there is one, need not be known.
abbrev pub SkeletonShows : Type 0
SkeletonShows =
    (s t : List Operation) (g : Segment) → rises s ≡ true → rises t ≡ true → is_legal s ≡ true
    → is_legal t ≡ true → clash s t ≡ None → skeleton s ≡ skeleton t → shown s g ≡ shown t g

-- legal sets that are equal but for texts left out, and do not clash, pick the same operation, or
-- line, for each segment
abbrev pub SkeletonPicks : Type 0
SkeletonPicks =
    (s t : List Operation) (g : Segment) → rises s ≡ true → rises t ≡ true → is_legal s ≡ true
    → is_legal t ≡ true → clash s t ≡ None → skeleton s ≡ skeleton t → pick s g ≡ pick t g

-- legal sets that are equal but for texts left out, and do not clash, have the same export of each
-- book
abbrev pub SkeletonExports : Type 0
SkeletonExports =
    (s t : List Operation) (book : List ℕ) → rises s ≡ true → rises t ≡ true → is_legal s ≡ true
    → is_legal t ≡ true → clash s t ≡ None → skeleton s ≡ skeleton t
    → export s book ≡ export t book

-- sets that are equal but for texts left out, and stand for full sets that do not clash, stand for
-- one set
abbrev pub SameSkeletonOneWhole : Type 0
SameSkeletonOneWhole = (s u t v : List Operation) → StandsFor s u → StandsFor t v → clash u v ≡ None
    → skeleton s ≡ skeleton t → u ≡ v

-- sets that are equal but for texts left out, and stand for full sets that do not clash, show the
-- same
abbrev pub SameSkeletonShowsSame : Type 0
SameSkeletonShowsSame =
    (s u t v : List Operation) (g : Segment) → StandsFor s u → StandsFor t v → clash u v ≡ None
    → skeleton s ≡ skeleton t → shown s g ≡ shown t g

-- ---- deltas between sets that stand for full ones

-- no id is known that the set lacks
abbrev pub KnowsNoMore : (Id → Bool) → List Operation → Type 0
KnowsNoMore knows held = (id : Id) → knows id ≡ true → is_some (get held id) ≡ true

-- What is sent to a set that may know less than it holds is not refused there, and adds what the
-- whole adds, but for texts.
abbrev pub DeltaJoins : Type 0
DeltaJoins = (s t : List Operation) (knows : Id → Bool) → rises s ≡ true → rises t ≡ true
    → clash s t ≡ None → KnowsNoMore knows s →
    (clash s (delta t knows) ≡ None) × (skeleton (join s (delta t knows)) ≡ skeleton (join s t))

-- What is sent adds to the full sets what the whole adds, and to the others the same but for texts.
abbrev pub DeltasAdd : Type 0
DeltasAdd = (s u t v : List Operation) (knows : Id → Bool) → StandsFor s u → StandsFor t v
    → clash u v ≡ None → KnowsNoMore knows s →
    (join u (filter (is_sent t knows) v) ≡ join u v)
    × (skeleton (join s (delta t knows)) ≡ skeleton (join s t))

-- ---- sets of one family

-- two sets of one family do not clash, and their union is of the family
abbrev pub FamilyJoins : Type 0
FamilyJoins = (family : Id → Operation) (s t : List Operation) → IsOf family s → IsOf family t
    → (clash s t ≡ None) × IsOf family (join s t)

-- a set that stands for a full one is of each family that has its operations
abbrev pub FamilyOfWhole : Type 0
FamilyOfWhole =
    (family : Id → Operation) (s u : List Operation) → StandsFor s u
    → ((id : Id) (o : Operation) → get u id ≡ Some o → family id ≡ o)
    → IsOf family s

-- a set of a family is of it still when it is thinned
abbrev pub FamilyThins : Type 0
FamilyThins = (family : Id → Operation) (s : List Operation) → IsOf family s → IsOf family (thin s)

-- all sets that are joined so are of the family
abbrev pub AreOf : (Id → Operation) → Joining → Type 0
AreOf family (Part set) = IsOf family set
AreOf family (Joined left right) = AreOf family left × AreOf family right

-- whether one of the sets holds the id
abbrev pub one_holds : Joining → Id → Bool
one_holds (Part set) id = is_among (ids_of set) id
one_holds (Joined left right) id = one_holds left id || one_holds right id

-- what two ways of joining make
pub record Alike (one other : Result (List Operation) Id) : Type 0 where
  pub a : List Operation
  pub b : List Operation
  pub one_is : one ≡ Ok a
  pub other_is : other ≡ Ok b
  pub skeletons : skeleton a ≡ skeleton b
  pub shows : (g : Segment) → shown a g ≡ shown b g
  pub picks : (g : Segment) → pick a g ≡ pick b g
  pub exports : (book : List ℕ) → export a book ≡ export b book

-- Sets of one family, which together hold the same ids, joined in whatever order, grouping and
-- repetition: none is refused, and the unions are equal but for texts left out, and show and pick
-- the same.
abbrev pub UnionsAlike : Type 0
UnionsAlike =
    (family : Id → Operation) (one other : Joining) → AreOf family one → AreOf family other →
    ((id : Id) → one_holds one id ≡ one_holds other id) → Alike (union_by one) (union_by other)

-- ---- for the code: a set that changes in place

-- a full operation of a held id that agrees with what is held changes nothing
abbrev pub PutHeld : Type 0
PutHeld =
    (held : List Operation) (p o : Operation) → rises held ≡ true → get held o.id ≡ Some p
    → agree p o ≡ true → is_full o ≡ true
    → put o held ≡ held

-- a legal set, of which each operation whose id passes is past, is legal still without their texts
abbrev pub ThinWhereIsLegal : Type 0
ThinWhereIsLegal =
    (s : List Operation) (p : Id → Bool) → rises s ≡ true → is_legal s ≡ true → ArePast p s
    → is_legal (thin_where p s) ≡ true

-- What is held is joined in two steps: first what is new, then the texts of those are left out that
-- the other has thinned. In between the set is legal too.
pub record TwoSteps (a b : List Operation) : Type 0 where
  pub joins : join a b ≡ thin_where (is_thinned_in b)
      (join a (filter (λ o. is_none (get a o.id)) b))
  pub legal : is_legal a ≡ true → is_legal b ≡ true
      → is_legal (join a (filter (λ o. is_none (get a o.id)) b)) ≡ true

-- the law: sets that do not clash are joined in these two steps
abbrev pub JoinInTwoSteps : Type 0
JoinInTwoSteps =
    (a b : List Operation) → rises a ≡ true → rises b ≡ true → clash a b ≡ None → TwoSteps a b

-- a held operation of its segment names an operation exactly where the segment does not show it
abbrev pub PastIsNotShown : Type 0
PastIsNotShown =
    (s : List Operation) (o : Operation) → rises s ≡ true → get s o.id ≡ Some o
    → is_past s o ≡ not (is_among (shown_ids s o.segment) o.id)
