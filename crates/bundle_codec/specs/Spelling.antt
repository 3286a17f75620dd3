-- The one spelling of a set of operations: a bundle, of format 1 where each operation has its text,
-- and else of format 2 (this project's own format). Numbers are big-endian and unsigned, in two or
-- eight bytes.
use Rattle.std.specs.Prelude.{ℕ, ◌<◌, ◌^◌, Bool, true, false, List, [], ◌∷◌, ◌++◌, length, Option, Some, None, codes}
use Rattle.std.specs.List.{flat_map, AllByRecursion}
use Rattle.std.specs.Int.{w16, w64, to_be_bytes}
use Rattle.usfm_ref.specs.declared.key.Place.{Place}
use Rattle.usfm_ref.specs.declared.key.Place.TheVariants.{Head, Verse}
use Rattle.usfm_ref.specs.Keys.{KeyParts}
use Rattle.op_core.specs.Ids.{Id}
use Rattle.op_core.specs.Ops.{Operation, own_text}
use Rattle.op_core.specs.Thinned.{all_full}

-- the digit of a format: 1 where each operation has its text, and 2 where one is thinned
abbrev pub digit : Bool → ℕ
digit true = 49
digit false = 50

-- the first eight bytes: `USFMSR`, the digit of the format and a line feed
unfoldable pub magic_of : Bool → List ℕ
magic_of full = codes "USFMSR" ++ digit full ∷ 10 ∷ []

-- the number in eight bytes, the name's length in one, and the name
abbrev pub id : Id → List ℕ
id i = to_be_bytes w64 i.number ++ (length i.name ∷ i.name)

-- a letter's byte, and 0 for none
abbrev pub letter : Option ℕ → ℕ
letter None = 0
letter (Some c) = c

-- 0 for a head and 1 for a verse; the verse's number in two bytes, and its letter in one, which are
-- 0 for a head
abbrev pub place : Place → List ℕ
place Head = 0 ∷ (to_be_bytes w16 0 ++ (0 ∷ []))
place (Verse n l) = 1 ∷ (to_be_bytes w16 n ++ (letter l ∷ []))

-- the chapter in two bytes, and the place
abbrev pub key : KeyParts → List ℕ
key k = to_be_bytes w16 k.chapter ++ place k.place

-- how many ids, in eight bytes, and each of them
abbrev pub ids : List Id → List ℕ
ids named = to_be_bytes w64 (length named) ++ flat_map id named

-- the text's length in eight bytes, and the text
abbrev pub counted_text : List ℕ → List ℕ
counted_text text = to_be_bytes w64 (length text) ++ text

-- the tag 1, and the text after its length; or the tag 0 alone, for a text that is left out
abbrev pub body : Option (List ℕ) → List ℕ
body None = 0 ∷ []
body (Some text) = 1 ∷ counted_text text

-- the id, the book's code, the key, and the ids that are named as replaced
abbrev pub head : Operation → List ℕ
head o = id o.id ++ (o.segment.book ++ (key o.segment.key ++ ids o.replaced))

-- the id, the book's code, the key, the ids that are named as replaced, and the text
abbrev pub operation : Operation → List ℕ
operation o = id o.id ++ (o.segment.book ++ (key o.segment.key ++ (ids o.replaced ++ body o.text)))

-- how many operations in eight bytes, and each of them, in the order of the list
abbrev pub counted_operations : List Operation → List ℕ
counted_operations ops = to_be_bytes w64 (length ops) ++ flat_map operation ops

-- the magic of the format, and the operations after their count
unfoldable pub bundle : List Operation → List ℕ
bundle ops = magic_of (all_full ops) ++ counted_operations ops

-- ---- what the fields of eight bytes can count

-- an operation whose named ids and text, if it has one, can be counted
pub record IsCounted (o : Operation) : Type 0 where
  pub replaced : length o.replaced < 2 ^ 64
  pub text : length (own_text o) < 2 ^ 64

-- operations that can be counted, each of them too
pub record AreCounted (ops : List Operation) : Type 0 where
  pub count : length ops < 2 ^ 64
  pub each : AllByRecursion IsCounted ops
