-- Laws of what a source gave, for those who read it to its end.
use Rattle.std.proofs.Common.{◌≡◌, ◌≤◌, ◌<◌, ℕ, List, [], ◌++◌, length, refl, ap, sym, ◌∙◌}
use Rattle.std.proofs.Common.{arith, Ok, Err, Some, None, IfSome, Vec, length-append, append-nil}
use Rattle.std.specs.declared.option.Option.{Option}
use Rattle.std.specs.Io.KnownBytes.{Consumes, IsAtEnd}
use Rattle.byte_source.specs.declared.reading.ReadFault.{ReadFault}
use Rattle.byte_source.specs.declared.reading.ReadFault.TheVariants.{Memory, ReadFailed, TooLong}
use Rattle.byte_source.specs.Reading.{ReadsUpTo}

-- a source at its end gave all that was to come
pub all_given : (before after : Option (List ℕ)) (given : List ℕ) → Consumes before after given → IsAtEnd after →
    IfSome before (λ input. input ≡ given)
all_given None after given consumed end = tt
all_given (Some input) None given consumed end = absurd consumed
all_given (Some input) (Some left) given consumed end =
    consumed ∙ (ap (λ (bytes : List ℕ). given ++ bytes) end ∙ append-nil given)

-- an input is at least as long as what was given of it
pub long_given : (before after : Option (List ℕ)) (given : List ℕ) (limit : ℕ) → Consumes before after given → limit < length given →
    (input : List ℕ) × IfSome before (λ bytes. bytes ≡ input) × (limit < length input)
long_given None after given limit consumed long = (given, tt, long)
long_given (Some bytes) None given limit consumed long = absurd consumed
long_given (Some bytes) (Some left) given limit consumed long =
    (bytes, refl, omega (arith, ap length consumed, length-append given left))

-- there is always an input that a source may have to give
pub some_input : (before : Option (List ℕ)) → (input : List ℕ) × IfSome before (λ bytes. bytes ≡ input)
some_input None = ([], tt)
some_input (Some bytes) = (bytes, refl)

IfSome-along : (before : Option (List ℕ)) (x y : List ℕ) → x ≡ y → IfSome before (λ input. input ≡ x) → IfSome before (λ input. input ≡ y)
IfSome-along None x y same h = tt
IfSome-along (Some bytes) x y same h = h ∙ same

-- what was read to the end is the input, of which there is no more than the limit
pub input_read : {A : Type 0} (limit : ℕ) (before after : Option (List ℕ)) (reads_before reads_after : ℕ) (bytes : Vec ℕ A) →
    ReadsUpTo limit before after reads_before reads_after (Ok bytes)
    → IfSome before (λ input. input ≡ bytes.items) × (length bytes.items ≤ limit) × IsAtEnd after
input_read limit before after reads_before reads_after bytes h = (
  IfSome-along before h.given bytes.items (sym h.answered.0) (all_given before after h.given h.consumed h.answered.2),
  omega (arith, ap length h.answered.0, h.answered.1),
  h.answered.2,
)

-- what was not read to the end has an input too, and one that was found too long is longer than the limit
pub input_refused : {A : Type 0} (limit : ℕ) (before after : Option (List ℕ)) (reads_before reads_after : ℕ) (fault : ReadFault) →
    ReadsUpTo {A = A} limit before after reads_before reads_after (Err fault)
    → (input : List ℕ) × IfSome before (λ bytes. bytes ≡ input) × (fault ≡ TooLong → limit < length input)
input_refused limit before after reads_before reads_after Memory h =
    let any = some_input before in (any.0, any.1, λ same. cc)
input_refused limit before after reads_before reads_after ReadFailed h =
    let any = some_input before in (any.0, any.1, λ same. cc)
input_refused limit before after reads_before reads_after TooLong h =
    let long = long_given before after h.given limit h.consumed (omega (arith, h.answered)) in
    (long.0, long.1, λ same. long.2)
