-- The one bundle of several (this project's own rule): of the union of what they have.
use Rattle.std.specs.Prelude.{◌≡◌, ◌⊎◌, ℕ, suc, List, [], ◌∷◌, ◌++◌, length, map, Vec}
use Rattle.std.specs.Prelude.{Option, Some, None, Result, Ok, Err, IsOk}
use Rattle.std.specs.declared.alloc.Global.{Global}
use Rattle.op_core.specs.Ids.{Id}
use Rattle.op_core.specs.Ops.{Operation}
use Rattle.op_core.specs.Sets.{clash, join}
use Rattle.bundle_codec.specs.Joining.{whole_at}
use Rattle.bundle_codec.specs.Reading.{TakesMemory}
use Rattle.bundle_codec.specs.Spelling.{bundle}
use Rattle.bundle_codec.specs.declared.fault.WholeFault.{WholeFault}
use Rattle.command_faults.specs.Faults.{of_whole}
use Rattle.command_faults.specs.declared.fault.Fault.{Fault}
use Rattle.command_faults.specs.declared.fault.Fault.TheVariants.{Memory, Clash}
use Rattle.usfm_cli.specs.Streams.{union_in, TakesRoom, GatheringTakesMemory}
use Rattle.usfm_cli.specs.declared.turns.TurnFault.{TurnFault}
use Rattle.usfm_cli.specs.declared.turns.TurnFault.TheVariants.{Project, Turn}

-- ---- bundles by themselves

-- the bytes of bundles
abbrev pub bytes_of : List (Vec ℕ Global) → List (List ℕ)
bytes_of = map (λ bundle. bundle.items)

-- what follows where the set of the bundle after so many does not clash, or that it does
abbrev pub unless_clash : ℕ → Option Id → Result (List Operation) TurnFault
    → Result (List Operation) TurnFault
unless_clash at None next = next
unless_clash at (Some id) next = Err (Turn at (Clash id))

-- what follows a set, that of the bundle after so many, or why that is refused
abbrev pub with_set : ℕ → Result (List Operation) WholeFault
    → (List Operation → Result (List Operation) TurnFault) → Result (List Operation) TurnFault
with_set at (Ok set) next = next set
with_set at (Err fault) next = Err (Turn at (of_whole fault))

-- the union of a set, of so many bundles, and of the bundles that come after, each joined before
-- the next is read; or the first that is refused
unfoldable pub union_of : ℕ → List Operation → List (List ℕ) → Result (List Operation) TurnFault
union_of at held [] = Ok held
union_of at held (bytes ∷ later) =
    with_set at (whole_at bytes)
    (λ set. unless_clash at (clash held set) (union_of (suc at) (join held set) later))

-- the bundle of a union, or why there is none
abbrev pub bundle_or : {F : Type 0} → Result (List Operation) F → Result (List ℕ) F
bundle_or (Ok union) = Ok (bundle union)
bundle_or (Err fault) = Err fault

-- the bundle of the union of bundles, or the first that is refused
abbrev pub combined : List (List ℕ) → Result (List ℕ) TurnFault
combined bundles = bundle_or (union_of 0 [] bundles)

-- memory may be taken for a bundle after so many others, which are joined: to judge it, or for its
-- set
abbrev pub NextTakesMemory : ℕ → List Operation → List ℕ → Type 0
NextTakesMemory before held bytes =
    TakesMemory bytes
    ⊎ ((set : List Operation) × (whole_at bytes ≡ Ok set) × TakesRoom before held set)

-- memory may be taken for that one of the bundles which has so many before it, none of them refused
pub record TurnTakesMemory (bundles : List (List ℕ)) (at : ℕ) : Type 0 where
  pub before : List (List ℕ)
  pub bytes : List ℕ
  pub later : List (List ℕ)
  pub stand : bundles ≡ before ++ bytes ∷ later
  pub place : length before ≡ at
  pub held : List Operation
  pub joined : union_of 0 [] before ≡ Ok held
  pub takes : NextTakesMemory at held bytes

-- Why bundles are not combined: the first that is refused; or out of memory, where memory may be
-- taken for one of them, or, of all, to write the bundle of their union.
abbrev pub RefusesBundles : List (List ℕ) → TurnFault → Type 0
RefusesBundles bundles (Turn at Memory) = TurnTakesMemory bundles at
RefusesBundles bundles (Project Memory) = IsOk (union_of 0 [] bundles)
RefusesBundles bundles fault = combined bundles ≡ Err fault

-- ---- a stream of bundles

-- the bundle of the union of the bundles that bytes spell, or the first refusal
abbrev pub combined_stream : List ℕ → Result (List ℕ) Fault
combined_stream input = bundle_or (union_in [] input)

-- why a stream is not combined: the first refusal; or out of memory, where memory may be taken to
-- gather its bundles, or to write the bundle of their union
abbrev pub RefusesCombining : List ℕ → Fault → Type 0
RefusesCombining input Memory = GatheringTakesMemory 0 [] input ⊎ IsOk (union_in [] input)
RefusesCombining input fault = combined_stream input ≡ Err fault
