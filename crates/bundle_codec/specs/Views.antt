-- What is lent from the bytes of a bundle that was judged, without where it lies in memory.
use Rattle.std.specs.Prelude.{◌≡◌, ℕ, Bool, false, List, [], length, Option, None, option_map, Result, Ok, Err, IsOk, IsTrue}
use Rattle.std.specs.Borrow.{Bor}
use Rattle.std.specs.Int.{w64}
use Rattle.usfm_ref.specs.Segments.{segment}
use Rattle.op_core.specs.Ids.{Id}
use Rattle.op_core.specs.Ops.{Operation, IsOperation}
use Rattle.op_core.specs.Sets.{IsOpSet}
use Rattle.op_core.specs.Thinned.{is_legal, all_full}
use Rattle.bundle_codec.specs.declared.fault.BundleFault.{BundleFault}
use Rattle.bundle_codec.specs.declared.fault.BundleFault.TheVariants.{Truncated}
use Rattle.bundle_codec.specs.declared.judging.ids.IdView.{IdView}
use Rattle.bundle_codec.specs.declared.judging.ids.IdList.{IdList}
use Rattle.bundle_codec.specs.declared.judging.keys.KeyView.{KeyView}
use Rattle.bundle_codec.specs.declared.judging.operation.OpFields.{OpFields}
use Rattle.usfm_ref.specs.Keys.{KeyParts}
use Rattle.bundle_codec.specs.Spelling.{operation}
use Rattle.bundle_codec.specs.Reading.{◌>>=◌, any, number_at, many_at, id_at, operation_at}

-- n values one after the other, each as if it stood alone
abbrev pub each_at : {A : Type 0} → (List ℕ → Result (A × List ℕ) BundleFault) → ℕ → List ℕ
    → Result (List A × List ℕ) BundleFault
each_at one n bytes = many_at {S = Unit {0}} (λ _. one) (λ s _. s) n tt bytes

-- what was read, where reading did not fail
abbrev pub found : {A : Type 0} → Result (List A × List ℕ) BundleFault → List A
found (Ok x) = x.0
found (Err f) = []

-- ---- ids and operations

-- the bytes of what is lent, if something is
abbrev pub lent : Option (Bor (List ℕ)) → Option (List ℕ)
lent text = option_map (λ t. t.now) text

-- an id with the bytes of its name
abbrev pub id_view : IdView → Id
id_view i = record { number = i.number; name = i.name.now }

-- a key, as its chapter and its place
abbrev pub key_view : KeyView → KeyParts
key_view k = record { chapter = k.chapter; place = k.place }

-- this many ids, whatever their order
abbrev pub each_id_at : ℕ → List ℕ → Result (List Id × List ℕ) BundleFault
each_id_at n bytes = each_at (id_at Truncated) n bytes

-- how many ids, and each of them
unfoldable pub ids_at : List ℕ → Result (List Id × List ℕ) BundleFault
ids_at bytes = do
  count ← number_at w64 any Truncated bytes
  each_id_at count.0 count.1

-- the ids that the bytes of a list spell
abbrev pub ids_view : IdList → List Id
ids_view l = found (each_id_at l.count l.bytes.now)

-- an operation by the fields that were found in its bytes
abbrev pub op_view : OpFields → Operation
op_view f = record {
  id = id_view f.id;
  segment = segment f.code.now (key_view f.key);
  replaced = ids_view f.replaced;
  text = lent f.text;
}

-- this many operations, of either format, whatever their order and their places
abbrev pub each_operation_at : ℕ → List ℕ → Result (List Operation × List ℕ) BundleFault
each_operation_at n bytes = each_at (operation_at false 0 None) n bytes

-- the operations that the bytes spell, this many
abbrev pub operations_in : ℕ → List ℕ → List Operation
operations_in n bytes = found (each_operation_at n bytes)

-- the bytes after the count spell a set of this many operations, and no more
pub record SpellsSet (n : ℕ) (bytes : List ℕ) : Type 0 where
  pub read : each_operation_at n bytes ≡ Ok (operations_in n bytes, [])
  pub count : n ≡ length (operations_in n bytes)
  pub set : IsOpSet (operations_in n bytes)

-- the bytes after the count spell a legal set of this many operations, and no more, and the format
-- is the set's
pub record Spells (full : Bool) (n : ℕ) (bytes : List ℕ) : Type 0 where
  pub spells : SpellsSet n bytes
  pub legal : IsTrue (is_legal (operations_in n bytes))
  pub format : full ≡ all_full (operations_in n bytes)

-- the fields are those of an operation, which the bytes spell
pub record SpellsOne (f : OpFields) (bytes : List ℕ) : Type 0 where
  pub fits : IsOperation (op_view f)
  pub ids : IsOk (each_id_at f.replaced.count f.replaced.bytes.now)
  pub bytes_are : bytes ≡ operation (op_view f)
