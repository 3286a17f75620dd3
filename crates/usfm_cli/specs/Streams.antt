-- What a stream of bundles folds into (this project's own rule): bundles one after another, whose
-- union is taken in their order, and then the export of one book.
use Rattle.std.specs.Prelude.{◌≡◌, ◌≢◌, ◌⊎◌, ℕ, zero, suc, IsTrue, List, [], ◌∷◌, length}
use Rattle.std.specs.Prelude.{Option, Some, None, Result, Ok, Err, if◌then◌else◌}
use Rattle.std.specs.List.{flat_map, AllByRecursion}
use Rattle.op_core.specs.Ids.{Id}
use Rattle.op_core.specs.Ops.{Operation}
use Rattle.op_core.specs.Sets.{IsOpSet, clash, join}
use Rattle.op_core.specs.Thinned.{is_legal}
use Rattle.op_core.specs.Export.{has_book, export}
use Rattle.bundle_codec.specs.declared.fault.BundleFault.{BundleFault}
use Rattle.bundle_codec.specs.Spelling.{bundle, AreCounted}
use Rattle.bundle_codec.specs.Reading.{bundle_at, TakesMemory}
use Rattle.replica_state.specs.Receives.{lacked, before_clash}
use Rattle.command_faults.specs.declared.fault.Fault.{Fault}
use Rattle.command_faults.specs.declared.fault.Fault.TheVariants.{Memory, Clash, Bundle, NoBook}

-- what follows a set that was read, and the bytes after it, or the bundle's fault
abbrev pub with_set : {X : Type 0} → Result (List Operation × List ℕ) BundleFault →
    (List Operation → List ℕ → Result X Fault) → Result X Fault
with_set (Ok x) next = next x.0 x.1
with_set (Err f) next = Err (Bundle f)

-- what follows where two sets do not clash, or the clash
abbrev pub unless_clash : {X : Type 0} → Option Id → Result X Fault → Result X Fault
unless_clash None next = next
unless_clash (Some id) next = Err (Clash id)

-- The union of a set and of the bundles that the bytes spell, each joined before the next is read;
-- or the first refusal. A bundle is not empty, so the length of the bytes bounds how many there
-- are.
unfoldable pub union_within : ℕ → List Operation → List ℕ → Result (List Operation) Fault
union_within bound held [] = Ok held
union_within zero held (b ∷ bytes) = Ok held
union_within (suc bound) held (b ∷ bytes) =
    with_set (bundle_at (b ∷ bytes))
    (λ set rest. unless_clash (clash held set) (union_within bound (join held set) rest))

-- the union of a set and of all bundles that the bytes spell, each joined before the next is read;
-- or the first refusal
abbrev pub union_in : List Operation → List ℕ → Result (List Operation) Fault
union_in held bytes = union_within (length bytes) held bytes

-- the export of a book of the union, refused where the union has no operation on the book
abbrev pub book_from : List ℕ → Result (List Operation) Fault → Result (List ℕ) Fault
book_from book (Err fault) = Err fault
book_from book (Ok union) = if has_book union book then Ok (export union book) else Err NoBook

-- what a stream gives for a book: the book's bytes, or the first refusal
abbrev pub book_of_stream : List ℕ → List ℕ → Result (List ℕ) Fault
book_of_stream book input = book_from book (union_in [] input)

-- ---- the same in terms of sets

-- a set that has a bundle: it is legal, and has no more than a bundle's fields can count
pub record HasBundle (ops : List Operation) : Type 0 where
  pub set : IsOpSet ops
  pub legal : IsTrue (is_legal ops)
  pub counted : AreCounted ops

-- the input is the spellings of these sets, one after another
pub record AreSpelled (sets : List (List Operation)) (input : List ℕ) : Type 0 where
  pub each : AllByRecursion HasBundle sets
  pub bytes : input ≡ flat_map bundle sets

-- the union of a set and others, taken one after another, or the first clash
abbrev pub union_with : List Operation → List (List Operation) → Result (List Operation) Fault
union_with held [] = Ok held
union_with held (set ∷ rest) = unless_clash (clash held set) (union_with (join held set) rest)

-- ---- out of memory

-- a set has an operation of an id that is not held, and before it none that clashes
abbrev pub BringsNew : List Operation → List Operation → Type 0
BringsNew held set = lacked held (before_clash held set) ≢ []

-- Memory may be taken for a set after so many others, which are joined: not for the first, which is
-- kept as it is; for the second where the first has an operation, since the two are then put into
-- one map; and from the second on where one brings an operation of a new id.
abbrev pub TakesRoom : ℕ → List Operation → List Operation → Type 0
TakesRoom zero held set = ⊥
TakesRoom (suc zero) held set = (held ≢ []) ⊎ BringsNew held set
TakesRoom (suc (suc more)) held set = BringsNew held set

-- Memory may be taken for the bundles that bytes spell, after so many others, which are joined: to
-- judge the first of them; for its set; or for those that come after it.
pub data GatheringTakesMemory : ℕ → List Operation → List ℕ → Type 0 where
  Judged : (before : ℕ) (held : List Operation) (bytes : List ℕ) → TakesMemory bytes →
      GatheringTakesMemory before held bytes
  Received : (before : ℕ) (held : List Operation) (bytes : List ℕ) (set : List Operation)
      (rest : List ℕ) → bundle_at bytes ≡ Ok (set, rest) → TakesRoom before held set →
      GatheringTakesMemory before held bytes
  After : (before : ℕ) (held : List Operation) (bytes : List ℕ) (set : List Operation)
      (rest : List ℕ) → bundle_at bytes ≡ Ok (set, rest) → clash held set ≡ None →
      GatheringTakesMemory (suc before) (join held set) rest →
      GatheringTakesMemory before held bytes

-- what a call that makes the union answers: the union, a bundle's fault, a clash, or out of memory,
-- where memory may be taken for the bundles
abbrev pub UnionAnswers : List ℕ → Result (List Operation) Fault → Type 0
UnionAnswers input (Ok union) = union_in [] input ≡ Ok union
UnionAnswers input (Err Memory) = GatheringTakesMemory 0 [] input
UnionAnswers input (Err (Clash id)) = union_in [] input ≡ Err (Clash id)
UnionAnswers input (Err (Bundle fault)) = union_in [] input ≡ Err (Bundle fault)
UnionAnswers input (Err other) = ⊥
