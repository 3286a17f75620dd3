-- To read fields takes no memory: none of their faults is that some was refused.
use Rattle.std.proofs.Common.{◌≡◌, ℕ, zero, suc, ◌&&◌, Bool, true, false, cond, List, [], ◌∷◌, length, take, drop, codes, Option, None, Result, Ok, Err, nat_lt, nat_le, subst, ap}
use Rattle.std.specs.Prelude.{◌==◌}
use Rattle.std.specs.Int.{Width, w16, w64, byte_len, from_be_bytes}
use Rattle.usfm_ref.specs.declared.key.Place.TheVariants.{Head}
use Rattle.usfm_ref.specs.Books.{is_book_code}
use Rattle.usfm_ref.specs.Keys.{is_key}
use Rattle.op_core.specs.Names.{is_name}
use Rattle.op_core.specs.Ids.{Id, is_number}
use Rattle.bundle_codec.specs.declared.fault.BundleFault.{BundleFault}
use Rattle.bundle_codec.specs.declared.fault.BundleFault.TheVariants.{Memory, Magic, Truncated, NotRising, BadId, BadKey, BadReplaced, BadTag, NotUtf8, BadText, Unsupported}
use Rattle.bundle_codec.specs.Reading.{◌>>=◌, any, check, byte_at, block_at, number_at, exactly_at, many_at, is_name_length, is_verse, is_letter_byte, id_at, place_at, key_at, comes_after, named_at, after_id, replaced_at, counted_text_at, is_tag, text_after, body_at, may_be_utf8, may_fit, operation_at, after_operation, counted_operations_at, is_digit, magic_at, fields_at, judge_thinned, bundle_at, RefusesBundle}

-- a fault other than that memory was refused
abbrev pub IsOfBytes : BundleFault → Type 0
IsOfBytes Memory = ⊥
IsOfBytes fault = Unit {0}

-- what is read, or such a fault
unfoldable TakesNone : {A : Type 0} → Result A BundleFault → Type 0
TakesNone (Ok x) = Unit {0}
TakesNone (Err fault) = IsOfBytes fault

read : {A : Type 0} (x : A) → TakesNone (Ok x)
unfolding TakesNone
read x = tt

fails : (A : Type 0) (bad : BundleFault) → IsOfBytes bad → TakesNone {A = A} (Err bad)
unfolding TakesNone
fails A bad k = k

fault_is : (A : Type 0) (f : BundleFault) → TakesNone {A = A} (Err f) → IsOfBytes f
unfolding TakesNone
fault_is A f n = n

then : {A B : Type 0} (r : Result A BundleFault) (f : A → Result B BundleFault) → TakesNone r → ((x : A) → TakesNone (f x))
    → TakesNone (r >>= f)
then (Ok x) f n on = on x
then (Err bad) f n on = fails _ bad (fault_is _ bad n)

either : {A : Type 0} (b : Bool) (x y : Result A BundleFault) → TakesNone x → TakesNone y → TakesNone (cond b x y)
either true x y m n = m
either false x y m n = n

module _ (bad : BundleFault) (k : IsOfBytes bad) where
  checked : (b : Bool) → TakesNone (check b bad)
  checked b = either b _ _ (read tt) (fails _ bad k)

  byte : (rule : ℕ → Bool) (bytes : List ℕ) → TakesNone (byte_at rule bad bytes)
  byte rule [] = fails _ Truncated tt
  byte rule (b ∷ rest) = either (rule b) _ _ (read (b, rest)) (fails _ bad k)

  block : (n : ℕ) (rule : List ℕ → Bool) (bytes : List ℕ) → TakesNone (block_at n rule bad bytes)
  block n rule bytes =
      either (nat_lt (length bytes) n) _ _ (fails _ Truncated tt)
      (either (rule (take n bytes)) _ _ (read (take n bytes, drop n bytes)) (fails _ bad k))

  number : (w : Width) (rule : ℕ → Bool) (bytes : List ℕ) → TakesNone (number_at w rule bad bytes)
  number w rule bytes =
      either (nat_lt (length bytes) (byte_len w)) _ _ (fails _ Truncated tt)
      (either (rule (from_be_bytes w (take (byte_len w) bytes))) _ _
      (read (from_be_bytes w (take (byte_len w) bytes), drop (byte_len w) bytes)) (fails _ bad k))

  exactly : (text bytes : List ℕ) → TakesNone (exactly_at text bad bytes)
  exactly [] bytes = read (tt, bytes)
  exactly (m ∷ text) [] = fails _ Truncated tt
  exactly (m ∷ text) (b ∷ bytes) = either (b == m) _ _ (exactly text bytes) (fails _ bad k)

many : {A S : Type 0} (one : S → List ℕ → Result (A × List ℕ) BundleFault) (next : S → A → S)
    → ((s : S) (bytes : List ℕ) → TakesNone (one s bytes)) → (n : ℕ) (s : S) (bytes : List ℕ) → TakesNone (many_at one next n s bytes)
unfolding many_at
many one next h zero s bytes = read ([], bytes)
many one next h (suc n) s bytes =
    then (one s bytes) _ (h s bytes) (λ x. then (many_at one next n (next s x.0) x.1) _ (many one next h n (next s x.0) x.1) (λ _. read _))

module _ (bad : BundleFault) (k : IsOfBytes bad) where
  id : (bytes : List ℕ) → TakesNone (id_at bad bytes)
  unfolding id_at
  id bytes =
      then (number_at w64 is_number bad bytes) _ (number bad k w64 is_number bytes) (λ n.
      then (byte_at is_name_length bad n.1) _ (byte bad k is_name_length n.1) (λ len.
      then (block_at len.0 is_name bad len.1) _ (block bad k len.0 is_name len.1) (λ _. read _)))

  place : (bytes : List ℕ) → TakesNone (place_at bad bytes)
  unfolding place_at
  place bytes =
      then (byte_at (λ b. nat_le b 1) bad bytes) _ (byte bad k (λ b. nat_le b 1) bytes) (λ kind.
      then (number_at w16 (is_verse kind.0) bad kind.1) _ (number bad k w16 (is_verse kind.0) kind.1) (λ verse.
      then (byte_at (is_letter_byte kind.0) bad verse.1) _ (byte bad k (is_letter_byte kind.0) verse.1) (λ _. read _)))

  key : (bytes : List ℕ) → TakesNone (key_at bad bytes)
  unfolding key_at
  key bytes =
      then (number_at w16 (λ n. is_key n Head) bad bytes) _ (number bad k w16 (λ n. is_key n Head) bytes) (λ chapter.
      then (place_at bad chapter.1) _ (place chapter.1) (λ _. read _))

  named : (own : Id) (before : Option Id) (bytes : List ℕ) → TakesNone (named_at bad own before bytes)
  unfolding named_at
  named own before bytes =
      then (id_at bad bytes) _ (id bytes) (λ i.
      then (check (comes_after before i.0 && nat_lt i.0.number own.number) bad) _
      (checked bad k (comes_after before i.0 && nat_lt i.0.number own.number)) (λ _. read _))

  replaced : (own : Id) (bytes : List ℕ) → TakesNone (replaced_at bad own bytes)
  unfolding replaced_at
  replaced own bytes =
      then (number_at w64 any Truncated bytes) _ (number Truncated tt w64 any bytes) (λ count.
      many (named_at bad own) after_id (named own) count.0 None count.1)

counted_text : (bytes : List ℕ) → TakesNone (counted_text_at bytes)
unfolding counted_text_at
counted_text bytes =
    then (number_at w64 any Truncated bytes) _ (number Truncated tt w64 any bytes) (λ len. block Truncated tt len.0 any len.1)

text : (tag : ℕ) (bytes : List ℕ) → TakesNone (text_after tag bytes)
text zero bytes = read (None, bytes)
text (suc tag) bytes = then (counted_text_at bytes) _ (counted_text bytes) (λ _. read _)

body : (full : Bool) (k : ℕ) (bytes : List ℕ) → TakesNone (body_at full k bytes)
unfolding body_at
body full k bytes =
    then (byte_at (is_tag full) (BadTag k) bytes) _ (byte (BadTag k) tt (is_tag full) bytes) (λ tag. text tag.0 tag.1)

operation : (full : Bool) (k : ℕ) (before : Option Id) (bytes : List ℕ) → TakesNone (operation_at full k before bytes)
unfolding operation_at
operation full k before bytes =
    then (id_at (BadId k) bytes) _ (id (BadId k) tt bytes) (λ i.
    then (check (comes_after before i.0) (NotRising k)) _ (checked (NotRising k) tt (comes_after before i.0)) (λ _.
    then (block_at 3 is_book_code (BadKey k) i.1) _ (block (BadKey k) tt 3 is_book_code i.1) (λ book.
    then (key_at (BadKey k) book.1) _ (key (BadKey k) tt book.1) (λ g.
    then (replaced_at (BadReplaced k) i.0 g.1) _ (replaced (BadReplaced k) tt i.0 g.1) (λ named.
    then (body_at full k named.1) _ (body full k named.1) (λ t.
    then (check (may_be_utf8 t.0) (NotUtf8 k)) _ (checked (NotUtf8 k) tt (may_be_utf8 t.0)) (λ _.
    then (check (may_fit book.0 g.0 t.0) (BadText k)) _ (checked (BadText k) tt (may_fit book.0 g.0 t.0)) (λ _. read _))))))))

counted_operations : (full : Bool) (bytes : List ℕ) → TakesNone (counted_operations_at full bytes)
unfolding counted_operations_at
counted_operations full bytes =
    then (number_at w64 any Truncated bytes) _ (number Truncated tt w64 any bytes) (λ count.
    many (λ (t : ℕ × Option Id). operation_at full t.0 t.1) after_operation (λ s. operation full s.0 s.1) count.0 (1, None) count.1)

magic : (bytes : List ℕ) → TakesNone (magic_at bytes)
unfolding magic_at
magic bytes =
    then (exactly_at (codes "USFMSR") Magic bytes) _ (exactly Magic tt (codes "USFMSR") bytes) (λ start.
    then (byte_at is_digit Magic start.1) _ (byte Magic tt is_digit start.1) (λ digit.
    then (exactly_at (10 ∷ []) Magic digit.1) _ (exactly Magic tt (10 ∷ []) digit.1) (λ _. read _)))

fields : (bytes : List ℕ) → TakesNone (fields_at bytes)
unfolding fields_at
fields bytes =
    then (magic_at bytes) _ (magic bytes) (λ full.
    then (counted_operations_at full.0 full.1) _ (counted_operations full.0 full.1) (λ _. read _))

-- a fault other than that memory was refused is a refusal if it is the bundle's
pub refused_as : (bytes : List ℕ) (f : BundleFault) → IsOfBytes f → bundle_at bytes ≡ Err f → RefusesBundle bytes f
refused_as bytes Memory k e = absurd k
refused_as bytes Magic k e = e
refused_as bytes Truncated k e = e
refused_as bytes (NotRising n) k e = e
refused_as bytes (BadId n) k e = e
refused_as bytes (BadKey n) k e = e
refused_as bytes (BadReplaced n) k e = e
refused_as bytes (BadTag n) k e = e
refused_as bytes (NotUtf8 n) k e = e
refused_as bytes (BadText n) k e = e
refused_as bytes (Unsupported n) k e = e

-- the fault of a field is the bundle's
pub refuses_fields : (bytes : List ℕ) (f : BundleFault) → fields_at bytes ≡ Err f → RefusesBundle bytes f
unfolding bundle_at
refuses_fields bytes f e =
    refused_as bytes f (fault_is _ f (subst TakesNone e (fields bytes)))
    (ap (λ r. r >>= λ x. judge_thinned x.0.0 x.0.1 >>= λ _. Ok (x.0.1, x.1)) e)
