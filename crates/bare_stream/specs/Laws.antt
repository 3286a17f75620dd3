-- Laws of streams of bundles, sealed or not (this project's own rule).
use Rattle.std.specs.Prelude.{◌≡◌, ◌<◌, ◌^◌, ℕ, Bool, false, IsTrue, List, [], ◌∷◌, length, Ok, if◌then◌else◌}
use Rattle.std.specs.List.{flat_map, AllByRecursion}
use Rattle.op_core.specs.Ops.{Operation}
use Rattle.op_core.specs.Sets.{IsOpSet}
use Rattle.op_core.specs.Thinned.{is_legal}
use Rattle.bundle_codec.specs.Reading.{AreBytes}
use Rattle.bundle_codec.specs.Spelling.{bundle, AreCounted}
use Rattle.sealed_bundle.specs.Seals.{sealed}
use Rattle.bare_stream.specs.Streams.{has_seal, unsealed_stream}

-- a bundle of a stream: whether it is sealed, and its set
pub record Part : Type 0 where
  pub is_sealed : Bool
  pub set : List Operation

-- a set that has a bundle, of which a sealed one can state the length
pub record HasBundle (part : Part) : Type 0 where
  pub rising : IsOpSet part.set
  pub legal : IsTrue (is_legal part.set)
  pub counted : AreCounted part.set
  pub short : length (bundle part.set) < 2 ^ 64

-- its bundle
abbrev pub bundle_of : Part → List ℕ
bundle_of part = bundle part.set

-- its bundle, sealed if it is
abbrev pub spelled : Part → List ℕ
spelled part = if part.is_sealed then sealed (bundle part.set) else bundle part.set

-- A stream of bundles, some of them sealed, is without its seals the same bundles, none of them
-- sealed, in the same order.
abbrev pub StreamsLoseTheirSeals : Type 0
StreamsLoseTheirSeals = (parts : List Part) → AllByRecursion HasBundle parts
    → unsealed_stream (flat_map spelled parts) ≡ Ok (flat_map bundle_of parts)

-- bytes in which the magic of a sealed bundle stands nowhere are what they are
abbrev pub BareStreamsStay : Type 0
BareStreamsStay = (bytes : List ℕ) → AreBytes bytes → has_seal bytes ≡ false
    → unsealed_stream bytes ≡ Ok bytes
