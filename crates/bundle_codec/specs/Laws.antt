-- Laws of bundles (this project's own format). Joining them is associative, commutative and
-- idempotent, as joining is in a join semilattice (INRIA RR-7506).
use Rattle.std.specs.Prelude.{◌≡◌, ◌≢◌, ◌<◌, ◌^◌, ℕ, List, [], ◌++◌, length, Result, Ok, Err, IsTrue}
use Rattle.op_core.specs.Ids.{Id}
use Rattle.op_core.specs.Ops.{Operation}
use Rattle.op_core.specs.Sets.{IsOpSet}
use Rattle.op_core.specs.Thinned.{IsOf}
use Rattle.op_core.specs.Laws.{ThinnedAgree}
use Rattle.op_core.specs.Laws.Joining.{Part, Joined}
use Rattle.bundle_codec.specs.declared.fault.BundleFault.TheVariants.{Truncated}
use Rattle.bundle_codec.specs.declared.fault.JoinFault.{JoinFault}
use Rattle.bundle_codec.specs.declared.fault.JoinFault.TheVariants.{Clash}
use Rattle.bundle_codec.specs.Spelling.{bundle, AreCounted}
use Rattle.bundle_codec.specs.Reading.{bundle_at}
use Rattle.bundle_codec.specs.Joining.{bundles_joined, IsBundle}

-- one set has one spelling, and one spelling has one set, whatever follows it
abbrev pub OneSpelling : Type 0
OneSpelling =
    (a b : List Operation) (rest others : List ℕ) →
    IsOpSet a → IsOpSet b → AreCounted a → AreCounted b →
    bundle a ++ rest ≡ bundle b ++ others → (a ≡ b) × (rest ≡ others)

-- no proper front of a bundle is a bundle
abbrev pub FrontsAreNoBundles : Type 0
FrontsAreNoBundles =
    (a b : List Operation) (more : List ℕ) → IsOpSet a → IsOpSet b → AreCounted a → AreCounted b →
    bundle a ≡ bundle b ++ more → more ≡ []

-- a proper front of a bundle is read as cut
abbrev pub FrontsAreCut : Type 0
FrontsAreCut =
    (a : List Operation) (front more : List ℕ) → IsOpSet a → AreCounted a →
    bundle a ≡ front ++ more → more ≢ [] → bundle_at front ≡ Err Truncated

-- ---- bundles joined

-- Two bundles joined are the same bytes, or clash at the same id, whichever comes first.
abbrev pub BundlesCommute : Type 0
BundlesCommute = (x y : List ℕ) → IsBundle x → IsBundle y → bundles_joined x y ≡ bundles_joined y x

-- a bundle joined with itself is that bundle
abbrev pub BundleWithItself : Type 0
BundleWithItself = (x : List ℕ) → IsBundle x → bundles_joined x x ≡ Ok x

-- a joining that goes on with what another one made
abbrev pub then_joined : Result (List ℕ) JoinFault → (List ℕ → Result (List ℕ) JoinFault)
    → Result (List ℕ) JoinFault
then_joined (Ok made) others = others made
then_joined (Err fault) others = Err fault

-- two joinings give the same bytes, or two clashes, at whatever ids
abbrev pub AnswerAlike : Result (List ℕ) JoinFault → Result (List ℕ) JoinFault → Type 0
AnswerAlike (Ok one) (Ok other) = one ≡ other
AnswerAlike (Err (Clash id)) (Err (Clash other)) = Unit {0}
AnswerAlike one other = ⊥

-- two joinings, where both are answered, give the same bytes
abbrev pub GiveTheSame : Result (List ℕ) JoinFault → Result (List ℕ) JoinFault → Type 0
GiveTheSame (Ok one) (Ok other) = one ≡ other
GiveTheSame one other = Unit {0}

-- two joinings are answered, and give the same bytes
abbrev pub BothGive : Result (List ℕ) JoinFault → Result (List ℕ) JoinFault → Type 0
BothGive (Ok one) (Ok other) = one ≡ other
BothGive one other = ⊥

-- the bytes are a bundle, and its operations are of a family, in which no id has two operations
pub record IsBundleOf (family : Id → Operation) (bytes : List ℕ) : Type 0 where
  pub is : IsBundle bytes
  pub of : IsOf family is.ops

-- what is made, if it is, is no more bytes than a slice can have
abbrev pub IsHeld : Result (List ℕ) JoinFault → Type 0
IsHeld (Ok made) = length made < 2 ^ 64
IsHeld (Err fault) = Unit {0}

-- Both groupings of three bundles in which no id of a thinned operation has two operations, as
-- where none is thinned, give the same bytes, and one is refused with a clash exactly where the
-- other is.
abbrev pub BundlesAssociate : Type 0
BundlesAssociate =
    (x y z : List ℕ) (a : IsBundle x) (b : IsBundle y) (c : IsBundle z) →
    ThinnedAgree (Joined (Joined (Part a.ops) (Part b.ops)) (Part c.ops)) →
    IsHeld (bundles_joined x y) → IsHeld (bundles_joined y z) →
    AnswerAlike
    (then_joined (bundles_joined x y) (λ made. bundles_joined made z))
    (then_joined (bundles_joined y z) (λ made. bundles_joined x made))

-- Where both groupings of three bundles give bytes, thinned or not, these are the same.
abbrev pub GroupingsGiveTheSame : Type 0
GroupingsGiveTheSame =
    (x y z : List ℕ) → IsBundle x → IsBundle y → IsBundle z →
    IsHeld (bundles_joined x y) → IsHeld (bundles_joined y z) →
    GiveTheSame
    (then_joined (bundles_joined x y) (λ made. bundles_joined made z))
    (then_joined (bundles_joined y z) (λ made. bundles_joined x made))

-- Both groupings of three bundles of one family, thinned or not, give the same bytes, and none is
-- refused.
abbrev pub BundlesOfOneFamily : Type 0
BundlesOfOneFamily =
    (family : Id → Operation) (x y z : List ℕ) →
    IsBundleOf family x → IsBundleOf family y → IsBundleOf family z →
    IsHeld (bundles_joined x y) → IsHeld (bundles_joined y z) →
    BothGive
    (then_joined (bundles_joined x y) (λ made. bundles_joined made z))
    (then_joined (bundles_joined y z) (λ made. bundles_joined x made))
