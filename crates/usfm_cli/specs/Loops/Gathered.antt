-- What was gathered of a stream.
use Rattle.std.specs.Prelude.{◌≡◌, ◌<◌, ℕ, List, [], Some}
use Rattle.op_core.specs.Ops.{Operation}
use Rattle.op_core.specs.Sets.{clash}
use Rattle.replica_state.specs.declared.fault.ReceiveFault.{ReceiveFault}
use Rattle.replica_state.specs.declared.fault.ReceiveFault.TheVariants.{Memory, Clash}
use Rattle.usfm_cli.specs.Streams.{TakesRoom}
use Rattle.usfm_cli.specs.declared.gathered.Gathered.{Gathered}
use Rattle.usfm_cli.specs.declared.gathered.Gathered.TheVariants.{Nothing, One, Many}

-- the operations of the bundles that were read so far
abbrev pub held_in : Gathered → List Operation
held_in Nothing = []
held_in (One bundle) = bundle
held_in (Many gathered) = gathered

-- so many bundles were read so far
abbrev pub AreSoMany : ℕ → Gathered → Type 0
AreSoMany count Nothing = count ≡ 0
AreSoMany count (One bundle) = count ≡ 1
AreSoMany count (Many gathered) = 1 < count

-- A set after so many others is refused with the clash that there is, or as out of memory where
-- memory may be taken for it.
abbrev pub RefusesNext : ℕ → List Operation → List Operation → ReceiveFault → Type 0
RefusesNext before held set Memory = TakesRoom before held set
RefusesNext before held set (Clash id) = clash held set ≡ Some id
