-- Streams of bundles, some of them sealed.
use Rattle.std.proofs.Common.{◌≡◌, ℕ, zero, suc, ◌-◌, ◌<◌, ◌≤◌, ◌^◌, Bool, true, false, IsTrue, List, [], ◌∷◌, ◌++◌, length, take, Ok, if◌then◌else◌, refl, ap, ◌∙◌, arith}
use Rattle.std.specs.List.{flat_map, AllByRecursion}
use Rattle.std.proofs.lemmas.List.{take_at, length-append}
use Rattle.bundle_codec.specs.Spelling.{bundle, magic_of, counted_operations, AreCounted}
use Rattle.bundle_codec.proofs.Spelled.{bundle_reads}
use Rattle.op_core.specs.Ops.{Operation}
use Rattle.op_core.specs.Sets.{IsOpSet}
use Rattle.op_core.specs.Thinned.{all_full, is_legal}
use Rattle.sealed_bundle.specs.Seals.{magic, sealed, begins_sealed}
use Rattle.sealed_bundle.proofs.Openings.{sealed_begins_before, first_again, length-sealed}
use Rattle.bare_stream.specs.Laws.{Part, HasBundle, bundle_of, spelled}
use Rattle.bare_stream.specs.Streams.{first, first_bare, before, bare_within, unsealed_stream}
use Rattle.bare_stream.proofs.Parts.{one_part, some_bundle}

-- a bundle does not begin as a sealed one does
bare_begins : (full : Bool) (more rest : List ℕ) → begins_sealed ((magic_of full ++ more) ++ rest) ≡ false
unfolding magic_of magic
bare_begins full more rest = refl

bundle_begins : (set : List Operation) (rest : List ℕ) → begins_sealed (bundle set ++ rest) ≡ false
unfolding bundle
bundle_begins set rest = bare_begins (all_full set) (counted_operations set) rest

-- ---- the first bundle of a stream

first_sealed : (found rest : List ℕ) → length found < 2 ^ 64 → first (sealed found ++ rest) ≡ Ok (found, rest)
first_sealed found rest short =
    rw (sealed_begins_before found rest) (first_again found rest short)

first_plain : (set : List Operation) (rest : List ℕ) → IsOpSet set → AreCounted set → IsTrue (is_legal set)
    → first (bundle set ++ rest) ≡ Ok (bundle set, rest)
first_plain set rest rising counted legal =
    let bytes = bundle set ++ rest in
    let read = bundle_reads.again set rest ((rising, counted), legal) in
    let count : length bytes - length rest ≡ length (bundle set) = omega (arith, length-append (bundle set) rest) in
    let front : take (length bytes - length rest) bytes ≡ bundle set =
    ap (λ j. take j bytes) count ∙ take_at (bundle set) rest (length (bundle set)) refl in
    rw (bundle_begins set rest) (ap (λ r. Ok (first_bare bytes r)) read ∙ ap (λ (f : List ℕ). Ok (f, rest)) front)

first_spelled : (part : Part) (rest : List ℕ) → HasBundle part → first (spelled part ++ rest) ≡ Ok (bundle_of part, rest)
first_spelled part rest h = by part.is_sealed
  where
    by : (b : Bool) → first ((if b then sealed (bundle part.set) else bundle part.set) ++ rest) ≡ Ok (bundle part.set, rest)
    by true = first_sealed (bundle part.set) rest h.short
    by false = first_plain part.set rest h.rising h.counted h.legal

some_spelled : (part : Part) → 0 < length (spelled part)
some_spelled part = by part.is_sealed
  where
    by : (b : Bool) → 0 < length (if b then sealed (bundle part.set) else bundle part.set)
    by true = omega (arith, length-sealed (bundle part.set))
    by false = some_bundle part.set

-- ---- all of them

to_bare : (bound : ℕ) (parts : List Part) → AllByRecursion HasBundle parts → length (flat_map spelled parts) ≤ bound
    → bare_within bound (flat_map spelled parts) ≡ Ok (flat_map bundle_of parts)
unfolding bare_within
to_bare bound [] each w = refl
to_bare bound (part ∷ parts) each w =
    let rest = flat_map spelled parts in
    let long = length-append (spelled part) rest in
    let step = one_part bound (spelled part ++ rest) (bundle_of part, rest) (omega (arith, long, some_spelled part)) w
    (first_spelled part rest each.0) in
    step.2 ∙ ap (before (bundle_of part)) (to_bare step.0 parts each.1 (omega (arith, long, some_spelled part, step.1, w)))

pub loses_seals : (parts : List Part) → AllByRecursion HasBundle parts
    → unsealed_stream (flat_map spelled parts) ≡ Ok (flat_map bundle_of parts)
loses_seals parts each = to_bare (length (flat_map spelled parts)) parts each (omega arith)
