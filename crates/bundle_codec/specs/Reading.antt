-- Reading a bundle from left to right (this project's own format). A field is read whole and then
-- judged, before the next one is looked at, so a refusal is the fault of the first field that is
-- cut or breaks its rule. Last of all it is judged whether each thinned operation may be one. What
-- follows the last operation is not read.
use Rattle.std.specs.Prelude.{ℕ, zero, suc, ◌+◌, ◌<◌, slice_index, ◌&&◌, ◌||◌, ◌≡◌, Bool, true, false, not, List, [], ◌∷◌, length, take, drop, codes, Option, Some, None, Result, Ok, Err, nat_le, nat_lt, ◌==◌, if◌then◌else◌}
use Rattle.std.specs.Int.{Width, w16, w64, byte_len, from_be_bytes}
use Rattle.std.specs.Str.{is_utf8}
use Rattle.usfm_ref.specs.declared.key.Place.{Place}
use Rattle.usfm_ref.specs.declared.key.Place.TheVariants.{Head, Verse}
use Rattle.usfm_ref.specs.Books.{is_book_code}
use Rattle.usfm_ref.specs.Keys.{KeyParts, is_key, is_place, is_letter}
use Rattle.usfm_ref.specs.Segments.{segment}
use Rattle.verse_cut.specs.Reading.{text_fits}
use Rattle.op_core.specs.Names.{is_name}
use Rattle.op_core.specs.Ids.{Id, is_number, id_below}
use Rattle.op_core.specs.Ops.{Operation, is_full}
use Rattle.op_core.specs.Thinned.{is_past, all_full}
use Rattle.bundle_codec.specs.declared.fault.BundleFault.{BundleFault}
use Rattle.bundle_codec.specs.declared.fault.BundleFault.TheVariants.{Memory, Magic, Truncated, NotRising, BadId, BadKey, BadReplaced, BadTag, NotUtf8, BadText, Unsupported}

infixl 10 ◌>>=◌
-- the next step of a reading, if the ones before it did not fail
abbrev pub ◌>>=◌ : {A B : Type 0} → Result A BundleFault → (A → Result B BundleFault)
    → Result B BundleFault
(Ok x) >>= f = f x
(Err e) >>= f = Err e

-- each is a byte
abbrev pub AreBytes : List ℕ → Type 0
AreBytes bytes = (i : ℕ) → slice_index bytes i < 256

-- what a function returned, as `view` sees it, is what reading gives
abbrev pub Gives : {X Y : Type 0} → (X → Y) → Result X BundleFault → Result Y BundleFault → Type 0
Gives view (Ok x) read = read ≡ Ok (view x)
Gives view (Err e) read = read ≡ Err e

-- ---- fields: a value, and the bytes after it. Each takes the rule of its value and the fault of breaking it.

-- a test of what was read so far
abbrev pub check : Bool → BundleFault → Result (Unit {0}) BundleFault
check holds bad = if holds then Ok tt else Err bad

-- one byte
abbrev pub byte_at : (ℕ → Bool) → BundleFault → List ℕ → Result (ℕ × List ℕ) BundleFault
byte_at rule bad [] = Err Truncated
byte_at rule bad (b ∷ rest) = if rule b then Ok (b, rest) else Err bad

-- this many bytes
abbrev pub block_at : ℕ → (List ℕ → Bool) → BundleFault → List ℕ
    → Result (List ℕ × List ℕ) BundleFault
block_at n rule bad bytes =
    if nat_lt (length bytes) n then Err Truncated
    else if rule (take n bytes) then Ok (take n bytes, drop n bytes) else Err bad

-- a number of a width, big-endian and unsigned
abbrev pub number_at : Width → (ℕ → Bool) → BundleFault → List ℕ → Result (ℕ × List ℕ) BundleFault
number_at w rule bad bytes =
    if nat_lt (length bytes) (byte_len w) then Err Truncated
    else if rule (from_be_bytes w (take (byte_len w) bytes))
    then Ok (from_be_bytes w (take (byte_len w) bytes), drop (byte_len w) bytes)
    else Err bad

-- these bytes, one by one
abbrev pub exactly_at : List ℕ → BundleFault → List ℕ → Result (Unit {0} × List ℕ) BundleFault
exactly_at [] bad bytes = Ok (tt, bytes)
exactly_at (m ∷ ms) bad [] = Err Truncated
exactly_at (m ∷ ms) bad (b ∷ bytes) = if b == m then exactly_at ms bad bytes else Err bad

-- n values one after the other; what may come next depends on those before
unfoldable pub many_at : {A S : Type 0} → (S → List ℕ → Result (A × List ℕ) BundleFault)
    → (S → A → S) → ℕ → S → List ℕ → Result (List A × List ℕ) BundleFault
many_at one next zero s bytes = Ok ([], bytes)
many_at one next (suc n) s bytes = do
  first ← one s bytes
  others ← many_at one next n (next s first.0) first.1
  Ok (first.0 ∷ others.0, others.1)

-- a value without a rule
abbrev pub any : {A : Type 0} → A → Bool
any x = true

-- ---- an operation

-- the length of a name: 1 to 32
abbrev pub is_name_length : ℕ → Bool
is_name_length n = nat_le 1 n && nat_le n 32

-- an id: its number, its name's length and its name
unfoldable pub id_at : BundleFault → List ℕ → Result (Id × List ℕ) BundleFault
id_at bad bytes = do
  number ← number_at w64 is_number bad bytes
  len ← byte_at is_name_length bad number.1
  name ← block_at len.0 is_name bad len.1
  Ok (record { number = number.0; name = name.0 }, name.1)

-- the verse number of a place that is a head (0) or a verse (1)
abbrev pub is_verse : ℕ → ℕ → Bool
is_verse kind n = if kind == 0 then n == 0 else is_place (Verse n None)

-- the letter's byte of a place that is a head (0) or a verse (1)
abbrev pub is_letter_byte : ℕ → ℕ → Bool
is_letter_byte kind b = b == 0 || (kind == 1 && is_letter (Some b))

-- the place of these three numbers: a head where the first is 0, and else a verse, whose letter is
-- absent where the last is 0
abbrev pub place_of : ℕ → ℕ → ℕ → Place
place_of zero verse letter = Head
place_of (suc kind) verse zero = Verse verse None
place_of (suc kind) verse (suc letter) = Verse verse (Some (suc letter))

-- a place: whether it is a verse, the verse's number and its letter
unfoldable pub place_at : BundleFault → List ℕ → Result (Place × List ℕ) BundleFault
place_at bad bytes = do
  kind ← byte_at (λ b. nat_le b 1) bad bytes
  verse ← number_at w16 (is_verse kind.0) bad kind.1
  letter ← byte_at (is_letter_byte kind.0) bad verse.1
  Ok (place_of kind.0 verse.0 letter.0, letter.1)

-- a key: its chapter and its place
unfoldable pub key_at : BundleFault → List ℕ → Result (KeyParts × List ℕ) BundleFault
key_at bad bytes = do
  chapter ← number_at w16 (λ n. is_key n Head) bad bytes
  place ← place_at bad chapter.1
  Ok (record { chapter = chapter.0; place = place.0 }, place.1)

-- an id comes after the one before it, if there is one
abbrev pub comes_after : Option Id → Id → Bool
comes_after None i = true
comes_after (Some before) i = id_below before i

-- an id that comes after the one before it, and has a smaller number than the operation's own id
unfoldable pub named_at : BundleFault → Id → Option Id → List ℕ → Result (Id × List ℕ) BundleFault
named_at bad own before bytes = do
  id ← id_at bad bytes
  _ ← check (comes_after before id.0 && nat_lt id.0.number own.number) bad
  Ok id

-- the id that comes before the next one
abbrev pub after_id : Option Id → Id → Option Id
after_id before i = Some i

-- the ids that an operation names as replaced: how many, and each of them
unfoldable pub replaced_at : BundleFault → Id → List ℕ → Result (List Id × List ℕ) BundleFault
replaced_at bad own bytes = do
  count ← number_at w64 any Truncated bytes
  many_at (named_at bad own) after_id count.0 None count.1

-- the bytes of a text, after their count
unfoldable pub counted_text_at : List ℕ → Result (List ℕ × List ℕ) BundleFault
counted_text_at bytes = do
  len ← number_at w64 any Truncated bytes
  block_at len.0 any Truncated len.1

-- the tags of a format: 1 before a text, and in format 2 also 0, for a text that is left out
abbrev pub is_tag : Bool → ℕ → Bool
is_tag full b = b == 1 || (not full && b == 0)

-- what follows a tag: nothing after 0, and else the bytes of a text after their count
abbrev pub text_after : ℕ → List ℕ → Result (Option (List ℕ) × List ℕ) BundleFault
text_after zero bytes = Ok (None, bytes)
text_after (suc tag) bytes = counted_text_at bytes >>= λ text. Ok (Some text.0, text.1)

-- the tag, and the bytes of the text, if it has one; k is the place of the operation, from 1
unfoldable pub body_at : Bool → ℕ → List ℕ → Result (Option (List ℕ) × List ℕ) BundleFault
body_at full k bytes = do
  tag ← byte_at (is_tag full) (BadTag k) bytes
  text_after tag.0 tag.1

-- a text that is not left out is UTF-8
abbrev pub may_be_utf8 : Option (List ℕ) → Bool
may_be_utf8 None = true
may_be_utf8 (Some text) = is_utf8 text

-- a text that is not left out fits its book and key
abbrev pub may_fit : List ℕ → KeyParts → Option (List ℕ) → Bool
may_fit book key None = true
may_fit book key (Some text) = text_fits book key text

-- the rules of the text of the k-th operation, once it is whole: it is UTF-8
abbrev pub judge_text : ℕ → Option (List ℕ) → Result (Unit {0}) BundleFault
judge_text k text = check (may_be_utf8 text) (NotUtf8 k)

-- the k-th operation of a bundle of a format, after one of the id `before`; its text is judged
-- last, by its rule and then by its segment
unfoldable pub operation_at : Bool → ℕ → Option Id → List ℕ
    → Result (Operation × List ℕ) BundleFault
operation_at full k before bytes = do
  id ← id_at (BadId k) bytes
  _ ← check (comes_after before id.0) (NotRising k)
  book ← block_at 3 is_book_code (BadKey k) id.1
  key ← key_at (BadKey k) book.1
  replaced ← replaced_at (BadReplaced k) id.0 key.1
  text ← body_at full k replaced.1
  _ ← judge_text k text.0
  _ ← check (may_fit book.0 key.0 text.0) (BadText k)
  Ok (
    record {
      id = id.0;
      segment = segment book.0 key.0;
      replaced = replaced.0;
      text = text.0;
    },
    text.1,
  )

-- the place of the operation that comes next, and the id before it
abbrev pub after_operation : ℕ × Option Id → Operation → ℕ × Option Id
after_operation s o = (s.0 + 1, Some o.id)

-- this many operations, from a place and the id before it on
abbrev pub operations_at : Bool → ℕ → ℕ × Option Id → List ℕ
    → Result (List Operation × List ℕ) BundleFault
operations_at full n s bytes = many_at (λ t. operation_at full t.0 t.1) after_operation n s bytes

-- how many operations, and each of them, rising by id
unfoldable pub counted_operations_at : Bool → List ℕ → Result (List Operation × List ℕ) BundleFault
counted_operations_at full bytes = do
  count ← number_at w64 any Truncated bytes
  operations_at full count.0 (1, None) count.1

-- ---- a bundle

-- the digit of format 1 or 2
abbrev pub is_digit : ℕ → Bool
is_digit b = b == 49 || b == 50

-- the magic of either format: whether it is that of format 1
unfoldable pub magic_at : List ℕ → Result (Bool × List ℕ) BundleFault
magic_at bytes = do
  start ← exactly_at (codes "USFMSR") Magic bytes
  digit ← byte_at is_digit Magic start.1
  last ← exactly_at (10 ∷ []) Magic digit.1
  Ok (digit.0 == 49, last.1)

-- whether a bundle is of format 1, and its operations, each right by itself
unfoldable pub fields_at : List ℕ → Result ((Bool × List Operation) × List ℕ) BundleFault
fields_at bytes = do
  full ← magic_at bytes
  ops ← counted_operations_at full.0 full.1
  Ok ((full.0, ops.0), ops.1)

-- of operations that are held, the place of the first that is thinned and that no held one of its
-- segment names; k is the place of the first of them
abbrev pub unnamed_from : List Operation → ℕ → List Operation → Option ℕ
unnamed_from held k [] = None
unnamed_from held k (o ∷ rest) =
    if is_full o || is_past held o then unnamed_from held (k + 1) rest else Some k

-- the place, from 1, of the first operation that is thinned and that none of its segment names
abbrev pub unnamed_place : List Operation → Option ℕ
unnamed_place ops = unnamed_from ops 1 ops

-- each thinned operation is named
abbrev pub judge_named : Option ℕ → Result (Unit {0}) BundleFault
judge_named None = Ok tt
judge_named (Some k) = Err (Unsupported k)

-- of format 2, at least one operation is thinned, and each that is thinned is named by one of its
-- segment
abbrev pub judge_thinned : Bool → List Operation → Result (Unit {0}) BundleFault
judge_thinned true ops = Ok tt
judge_thinned false ops =
    if all_full ops then Err (Unsupported 0) else judge_named (unnamed_place ops)

-- the set of the bundle at the front of the bytes, and the bytes after it; or the first fault by
-- place
unfoldable pub bundle_at : List ℕ → Result (List Operation × List ℕ) BundleFault
bundle_at bytes = do
  fields ← fields_at bytes
  _ ← judge_thinned fields.0.0 fields.0.1
  Ok (fields.0.1, fields.1)

-- Each field is right, and an operation is thinned. Memory is taken then, to find out whether each
-- such one is named.
pub record TakesMemory (bytes : List ℕ) : Type 0 where
  pub ops : List Operation
  pub rest : List ℕ
  pub read : fields_at bytes ≡ Ok ((false, ops), rest)
  pub thinned : all_full ops ≡ false

-- A refusal is the first fault by place. Out of memory is answered only where all fields are right
-- and an operation is thinned.
abbrev pub RefusesBundle : List ℕ → BundleFault → Type 0
RefusesBundle bytes Memory = TakesMemory bytes
RefusesBundle bytes fault = bundle_at bytes ≡ Err fault

-- the bytes after what was read
abbrev pub ahead : {A : Type 0} → Result (A × List ℕ) BundleFault → Result (List ℕ) BundleFault
ahead read = read >>= λ x. Ok x.1
