-- Streams of bundles without their seals (this project's own rule): bundles one after another, each
-- sealed or not, and then the same without the seals.
use Rattle.std.specs.Prelude.{◌≡◌, ◌-◌, ℕ, zero, suc, Bool, true, List, [], ◌∷◌, ◌++◌, length, take, Result, Ok, Err, is_some, IsTrue, if◌then◌else◌}
use Rattle.memchr.specs.Find.{first_of, matches}
use Rattle.op_core.specs.Ops.{Operation}
use Rattle.bundle_codec.specs.Reading.{bundle_at, TakesMemory}
use Rattle.bundle_codec.specs.declared.fault.BundleFault.{BundleFault}
use Rattle.sealed_bundle.specs.Seals.{magic, begins_sealed, first_opened}
use Rattle.sealed_bundle.specs.declared.fault.SealFault.{SealFault}
use Rattle.bare_stream.specs.declared.stream.StreamFault.{StreamFault}
use Rattle.bare_stream.specs.declared.stream.StreamFault.TheVariants.{Memory, Seal}

-- the bundle at the front of bytes, and what follows it; or all of them, where none begins there
abbrev pub first_bare : List ℕ → Result (List Operation × List ℕ) BundleFault → List ℕ × List ℕ
first_bare bytes (Ok read) = (take (length bytes - length read.1) bytes, read.1)
first_bare bytes (Err fault) = (bytes, [])

-- the first bundle of a stream, without its seal where it has one, and what follows it; or why a
-- sealed one is refused
abbrev pub first : List ℕ → Result (List ℕ × List ℕ) SealFault
first bytes =
    if begins_sealed bytes then first_opened bytes else Ok (first_bare bytes (bundle_at bytes))

-- bytes before others that are not refused
abbrev pub before : List ℕ → Result (List ℕ) SealFault → Result (List ℕ) SealFault
before front (Ok rest) = Ok (front ++ rest)
before front (Err fault) = Err fault

-- what follows a first bundle that is not refused
abbrev pub after_first : Result (List ℕ × List ℕ) SealFault → (List ℕ → Result (List ℕ) SealFault)
    → Result (List ℕ) SealFault
after_first (Ok parts) on = before parts.0 (on parts.1)
after_first (Err fault) on = Err fault

-- The bundles of a stream without their seals, or the first refusal. A first bundle is not empty, or
-- has a seal, so the length of the bytes bounds how many there are.
unfoldable pub bare_within : ℕ → List ℕ → Result (List ℕ) SealFault
bare_within bound [] = Ok []
bare_within zero (b ∷ bytes) = Ok (b ∷ bytes)
bare_within (suc bound) (b ∷ bytes) =
    after_first (first (b ∷ bytes)) (λ rest. bare_within bound rest)

-- the bytes of a stream without its seals, or the first refusal
abbrev pub unsealed_stream : List ℕ → Result (List ℕ) SealFault
unsealed_stream bytes = bare_within (length bytes) bytes

-- whether the magic of a sealed bundle stands somewhere in bytes
abbrev pub has_seal : List ℕ → Bool
has_seal bytes = is_some (first_of (matches bytes magic 0))

-- ---- refusals

-- a refusal of a sealed bundle is its fault; memory is not taken
abbrev pub RefusesSealed : List ℕ → StreamFault → Type 0
RefusesSealed bytes Memory = ⊥
RefusesSealed bytes (Seal fault) = first_opened bytes ≡ Err fault

-- a refusal of a first bundle is its fault; memory is taken to judge a bundle with texts left out
abbrev pub RefusesFirst : List ℕ → StreamFault → Type 0
RefusesFirst bytes Memory = TakesMemory bytes
RefusesFirst bytes (Seal fault) = first bytes ≡ Err fault

-- a refusal of a stream is the first fault
abbrev pub RefusesBared : List ℕ → StreamFault → Type 0
RefusesBared bytes Memory = Unit {0}
RefusesBared bytes (Seal fault) = unsealed_stream bytes ≡ Err fault

-- a refusal of a stream is the first fault; memory may be taken only where the magic of a sealed
-- bundle stands in the stream
abbrev pub Refuses : List ℕ → StreamFault → Type 0
Refuses bytes Memory = IsTrue (has_seal bytes)
Refuses bytes (Seal fault) = unsealed_stream bytes ≡ Err fault
