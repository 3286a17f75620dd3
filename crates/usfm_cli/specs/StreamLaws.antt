-- Laws of streams of bundles (this project's own rule).
use Rattle.std.specs.Prelude.{◌≡◌, ℕ, Bool, List, [], Ok}
use Rattle.std.specs.List.{list_any, AllByRecursion}
use Rattle.op_core.specs.Ids.{Id}
use Rattle.op_core.specs.Ops.{Operation}
use Rattle.op_core.specs.Lists.{is_held}
use Rattle.op_core.specs.Thinned.{IsOf}
use Rattle.op_core.specs.Laws.{SameTogether}
use Rattle.bundle_codec.specs.Reading.{AreBytes}
use Rattle.usfm_cli.specs.Streams.{union_in, union_with, AreSpelled, book_of_stream}

-- bundles one after another give the union of their sets, taken one after another, or the first
-- clash
abbrev pub StreamsGiveUnions : Type 0
StreamsGiveUnions = (sets : List (List Operation)) (input : List ℕ) → AreSpelled sets input →
    union_in [] input ≡ union_with [] sets

-- the bytes are bundles one after another, whose sets have this union
pub record IsStreamOf (input : List ℕ) (union : List Operation) : Type 0 where
  pub sets : List (List Operation)
  pub spelled : AreSpelled sets input
  pub union_is : union_with [] sets ≡ Ok union

-- bytes that give a union are bundles one after another, whose sets have that union
abbrev pub UnionsAreOfStreams : Type 0
UnionsAreOfStreams = (input : List ℕ) (union : List Operation) → AreBytes input →
    union_in [] input ≡ Ok union → IsStreamOf input union

-- Streams whose bundles have the same operations together, thinned ones as thinned, in whatever
-- order, grouping and repetition, give the same bytes of every book, if neither is refused.
abbrev pub SameOperationsSameBooks : Type 0
SameOperationsSameBooks =
    (sets others : List (List Operation)) (input other : List ℕ) (a b : List Operation) →
    AreSpelled sets input → AreSpelled others other → SameTogether sets others →
    union_in [] input ≡ Ok a → union_in [] other ≡ Ok b →
    (book : List ℕ) → book_of_stream book input ≡ book_of_stream book other

-- ---- bundles of one family, in which no id has two operations

-- whether one of the sets holds the id
abbrev pub one_holds : List (List Operation) → Id → Bool
one_holds sets id = list_any (λ set. is_held set id) sets

-- two streams are not refused, and give the same bytes of every book
pub record FoldAlike (input other : List ℕ) : Type 0 where
  pub union : List Operation
  pub other_union : List Operation
  pub union_is : union_in [] input ≡ Ok union
  pub other_is : union_in [] other ≡ Ok other_union
  pub books : (book : List ℕ) → book_of_stream book input ≡ book_of_stream book other

-- Streams of bundles of one family, which have the same ids together, in whatever order, grouping
-- and repetition, and whatever texts are left out, give the same bytes of every book. Neither is
-- refused.
abbrev pub SameIdsSameBooks : Type 0
SameIdsSameBooks =
    (family : Id → Operation) (sets others : List (List Operation)) (input other : List ℕ) →
    AreSpelled sets input → AreSpelled others other →
    AllByRecursion (IsOf family) sets → AllByRecursion (IsOf family) others →
    ((id : Id) → one_holds sets id ≡ one_holds others id) → FoldAlike input other
