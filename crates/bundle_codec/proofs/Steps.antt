-- A walk over bytes that were judged. Where a whole value can be read, so can each of its parts, one after
-- the other, and without its rule.
use Rattle.std.proofs.Common.{◌≡◌, ◌≢◌, ℕ, suc, ◌-◌, ◌^◌, ◌<◌, true, false, List, [], ◌∷◌, ◌++◌, length, Option, None, Result, Ok, Err, IsOk, refl, sym, ap, subst, ◌∙◌, append_assoc, arith}
use Rattle.std.specs.Int.{w64, to_be_bytes}
use Rattle.std.specs.List.{list_all}
use Rattle.std.proofs.lemmas.Bool.{and_parts, and_from}
use Rattle.usfm_ref.specs.Books.{is_book_code}
use Rattle.usfm_ref.specs.Keys.{KeyParts, is_key}
use Rattle.usfm_ref.specs.Segments.{segment}
use Rattle.usfm_ref.proofs.Codes.{code_length}
use Rattle.op_core.specs.Names.{is_name}
use Rattle.op_core.specs.Ids.{Id, is_number, is_id}
use Rattle.op_core.specs.Ops.{Operation}
use Rattle.bundle_codec.specs.declared.fault.BundleFault.{BundleFault}
use Rattle.bundle_codec.specs.declared.fault.BundleFault.TheVariants.{Truncated, BadKey}
use Rattle.bundle_codec.specs.Spelling.{id, key, ids, body, operation}
use Rattle.bundle_codec.specs.Reading.{AreBytes, ◌>>=◌, any, byte_at, block_at, number_at, many_at, id_at, key_at, body_at, may_be_utf8, operation_at, ahead}
use Rattle.bundle_codec.specs.Views.{each_at, found, each_id_at, ids_at}
use Rattle.bundle_codec.proofs.Readers.{Each, Reader, Reads, step, reads_as, many_reads, ok_is}
use Rattle.bundle_codec.proofs.FieldReaders.{block_reads, number_reads, wide64}
use Rattle.bundle_codec.proofs.FieldsSpelled.{number_below, id_reads, key_reads, body_reads}
use Rattle.bundle_codec.proofs.Spelled.{Follows, text_from, operation_reads}

pub is_ok : {A : Type 0} (r : Result A BundleFault) (x : A) → r ≡ Ok x → IsOk r
is_ok r x e = rw e refl

-- ---- the front of some bytes

-- a value that fits, spelled at the front, and what follows it
pub record Front {A : Type 0} (read : Reader A) (spell : A → List ℕ) (Fits : A → Type 0) (bytes : List ℕ) : Type 0 where
  pub first : A
  pub left : List ℕ
  pub is_read : read bytes ≡ Ok (first, left)
  pub parts : bytes ≡ spell first ++ left
  pub fits : Fits first

pub front : {A : Type 0} {read : Reader A} {spell : A → List ℕ} {Fits : A → Type 0} → Reads read spell Fits → (bytes : List ℕ)
    → AreBytes bytes → IsOk (read bytes) → Front read spell Fits bytes
front {read = read} {spell = spell} {Fits = Fits} reads bytes fine h = by (read bytes) refl h
  where
    by : (r : Result _ BundleFault) → read bytes ≡ r → IsOk r → Front read spell Fits bytes
    by (Ok x) e h =
        let t = reads.takes bytes x.0 x.1 fine e in record { first = x.0; left = x.1; is_read = e; parts = t.0.parts; fits = t.1 }
    by (Err f) e h = absurd cc

-- what is spelled at the front is read
pub at_front : {A : Type 0} {read : Reader A} {spell : A → List ℕ} {Fits : A → Type 0} → Reads read spell Fits
    → (x : A) (left bytes : List ℕ) → bytes ≡ spell x ++ left → Fits x → read bytes ≡ Ok (x, left)
at_front {read = read} reads x left bytes e fits = ap read e ∙ reads.again x left fits

-- a reading has one answer
module _ {A : Type 0} (r : Result (A × List ℕ) BundleFault) (x y : A) (left rest : List ℕ) (e : r ≡ Ok (x, left))
    (f : r ≡ Ok (y, rest)) where
  pub same_value : y ≡ x
  same_value = ap (λ (p : A × List ℕ). p.0) (ok_is (y, rest) (x, left) (sym f ∙ e))

  pub same_rest : rest ≡ left
  same_rest = ap (λ (p : A × List ℕ). p.1) (ok_is (y, rest) (x, left) (sym f ∙ e))

-- ---- an id

module _ (bytes : List ℕ) (fine : AreBytes bytes) (h : IsOk (id_at Truncated bytes)) where
  id_front : Front (id_at Truncated) id (λ i. is_id i ≡ true) bytes
  id_front = front (id_reads Truncated) bytes fine h

  id_fits : is_id id_front.first ≡ true
  id_fits = id_front.fits

  number_spelled : number_at w64 any Truncated bytes
      ≡ Ok (id_front.first.number, (length id_front.first.name ∷ id_front.first.name) ++ id_front.left)
  number_spelled =
      let i = id_front.first in
      at_front (number_reads w64 (2 ^ 64) wide64 any Truncated) i.number ((length i.name ∷ i.name) ++ id_front.left) bytes
      (id_front.parts ∙ append_assoc (to_be_bytes w64 i.number) (length i.name ∷ i.name) id_front.left)
      (number_below i.number (and_parts (is_number i.number) (is_name i.name) id_fits).0, refl)

  pub id_number : IsOk (number_at w64 any Truncated bytes)
  id_number = is_ok (number_at w64 any Truncated bytes) _ number_spelled

  module _ (number : ℕ) (rest : List ℕ) (one : number_at w64 any Truncated bytes ≡ Ok (number, rest)) where
    length_spelled : byte_at any Truncated rest ≡ Ok (length id_front.first.name, id_front.first.name ++ id_front.left)
    length_spelled = ap (byte_at any Truncated) (same_rest (number_at w64 any Truncated bytes) _ _ _ _ number_spelled one)

    pub id_length : IsOk (byte_at any Truncated rest)
    id_length = is_ok (byte_at any Truncated rest) _ length_spelled

    module _ (len : ℕ) (others : List ℕ) (two : byte_at any Truncated rest ≡ Ok (len, others)) where
      name_spelled : block_at len any Truncated others ≡ Ok (id_front.first.name, id_front.left)
      name_spelled = at_front (block_reads len any Truncated) id_front.first.name id_front.left others
          (same_rest (byte_at any Truncated rest) _ _ _ _ length_spelled two)
          (sym (same_value (byte_at any Truncated rest) _ _ _ _ length_spelled two), refl)

      pub id_name : IsOk (block_at len any Truncated others)
      id_name = is_ok (block_at len any Truncated others) _ name_spelled

      module _ (name left : List ℕ) (three : block_at len any Truncated others ≡ Ok (name, left)) where
        id_same : id_front.first ≡ record { number = number; name = name }
        id_same = λ j. record {
          number = sym (same_value (number_at w64 any Truncated bytes) _ _ _ _ number_spelled one) j;
          name = sym (same_value (block_at len any Truncated others) _ _ _ _ name_spelled three) j;
        }

        pub id_is : id_at Truncated bytes ≡ Ok (record { number = number; name = name }, left)
        id_is = id_front.is_read ∙ (λ j. Ok (id_same j, sym (same_rest (block_at len any Truncated others) _ _ _ _ name_spelled three) j))

        pub id_valid : is_id (record { number = number; name = name }) ≡ true
        id_valid = subst (λ (i : Id). is_id i ≡ true) id_same id_fits

-- ---- several values, each as if it stood alone

ok_after : {A : Type 0} (r : Result (A × List ℕ) BundleFault) → IsOk (ahead r) → IsOk r
ok_after (Ok x) h = refl
ok_after (Err e) h = absurd cc

pub after_is_ok : {A : Type 0} (r : Result (A × List ℕ) BundleFault) → IsOk r → IsOk (ahead r)
after_is_ok (Ok x) h = refl
after_is_ok (Err e) h = absurd cc

pub found_after : {A : Type 0} (r : Result (List A × List ℕ) BundleFault) (left : List ℕ) → ahead r ≡ Ok left → r ≡ Ok (found r, left)
found_after (Ok x) left e = ap (λ (w : List ℕ). Ok (x.0, w)) (ok_is x.1 left e)
found_after (Err f) left e = cc

-- the first step of a reading that did not fail did not fail
bind_first : {A B : Type 0} (r : Result A BundleFault) (f : A → Result B BundleFault) → IsOk (r >>= f) → IsOk r
bind_first (Ok x) f h = refl
bind_first (Err e) f h = absurd cc

found_cons : {A : Type 0} (x : A) (r : Result (List A × List ℕ) BundleFault) → IsOk r
    → found (r >>= λ others. Ok (x ∷ others.0, others.1)) ≡ x ∷ found r
found_cons x (Ok others) h = refl
found_cons x (Err e) h = absurd cc

module _ {A : Type 0} (one : Reader A) where
  -- the values after the first one
  abbrev others_after : ℕ → A × List ℕ → Result (List A × List ℕ) BundleFault
  others_after n first = each_at one n first.1 >>= λ others. Ok (first.0 ∷ others.0, others.1)

  counted : (n : ℕ) (bytes : List ℕ) → n ≢ 0 → each_at one n bytes ≡ (one bytes >>= others_after (n - 1))
  unfolding many_at
  counted n bytes some = let k : n ≡ suc (n - 1) = omega arith in ap (λ (m : ℕ). each_at one m bytes) k

  pub each_none : (n : ℕ) (bytes : List ℕ) → n ≡ 0 → found (each_at one n bytes) ≡ []
  unfolding many_at
  each_none n bytes e = rw e refl

  module _ (n : ℕ) (bytes : List ℕ) (some : n ≢ 0) (h : IsOk (each_at one n bytes)) where
    first_ok : IsOk (one bytes >>= others_after (n - 1))
    first_ok = subst IsOk (counted n bytes some) h

    pub each_one : IsOk (one bytes)
    each_one = bind_first (one bytes) (others_after (n - 1)) first_ok

    module _ (x : A) (rest : List ℕ) (e : one bytes ≡ Ok (x, rest)) where
      pub each_rest : IsOk (each_at one (n - 1) rest)
      each_rest = bind_first (each_at one (n - 1) rest) (λ others. Ok (x ∷ others.0, others.1))
          (subst (λ (r : Result _ BundleFault). IsOk (r >>= others_after (n - 1))) e first_ok)

      pub each_next : found (each_at one n bytes) ≡ x ∷ found (each_at one (n - 1) rest)
      each_next =
          ap found (counted n bytes some ∙ ap (λ r. r >>= others_after (n - 1)) e) ∙ found_cons x (each_at one (n - 1) rest) each_rest

  -- a loop over some values, after i of them
  pub loop_one : (n i : ℕ) (bytes : List ℕ) (total : Result (List ℕ) BundleFault) → i < n → IsOk total
      → ahead (each_at one (n - i) bytes) ≡ total → IsOk (one bytes)
  loop_one n i bytes total lt h so_far =
      each_one (n - i) bytes (omega arith) (ok_after (each_at one (n - i) bytes) (subst IsOk (sym so_far) h))

-- ---- replaced ids

module _ (bytes : List ℕ) (h : IsOk (ids_at bytes)) where
  pub ids_count : IsOk (number_at w64 any Truncated bytes)
  unfolding ids_at
  ids_count = bind_first (number_at w64 any Truncated bytes) (λ count. each_id_at count.0 count.1) h

  module _ (n : ℕ) (rest : List ℕ) (e : number_at w64 any Truncated bytes ≡ Ok (n, rest)) where
    pub ids_ok : IsOk (each_id_at n rest)
    unfolding ids_at
    ids_ok = subst (λ (r : Result _ BundleFault). IsOk (r >>= λ count. each_id_at count.0 count.1)) e h

    pub ids_are : (left : List ℕ) → ahead (each_id_at n rest) ≡ Ok left → ids_at bytes ≡ Ok (found (each_id_at n rest), left)
    unfolding ids_at
    ids_are left a = ap (λ r. r >>= λ count. each_id_at count.0 count.1) e ∙ found_after (each_id_at n rest) left a

each_is_id : (named : List Id) → Each {S = Unit {0}} (λ _ i. is_id i ≡ true) (λ s _. s) tt named → list_all is_id named ≡ true
each_is_id [] e = refl
each_is_id (i ∷ named) e = and_from _ _ e.0 (each_is_id named e.1)

all_are_ids : (named : List Id) → list_all is_id named ≡ true → Each {S = Unit {0}} (λ _ i. is_id i ≡ true) (λ s _. s) tt named
all_are_ids [] e = tt
all_are_ids (i ∷ named) e = let p = and_parts (is_id i) (list_all is_id named) e in (p.0, all_are_ids named p.1)

ids_reads : Reads ids_at ids (λ named. (length named < 2 ^ 64) × (list_all is_id named ≡ true))
unfolding ids_at
ids_reads =
    reads_as ids (λ named. (length named < 2 ^ 64) × (list_all is_id named ≡ true))
    (step (λ (named : List Id). length named) (number_reads w64 (2 ^ 64) wide64 any Truncated) (λ count.
    many_reads (λ _. id_at Truncated) (λ (s : Unit {0}) _. s) id (λ _ i. is_id i ≡ true) (λ _. id_reads Truncated) count tt)
    (λ count named _ f. f.0))
    (λ named f. (f.0.0, each_is_id named f.1.1))
    (λ named f. ((f.0, refl), (refl, all_are_ids named f.1)))
    (λ named f. refl)

-- ---- an operation

module _ (bytes : List ℕ) (fine : AreBytes bytes) (h : IsOk (operation_at false 0 None bytes)) where
  op_front : Front (operation_at false 0 None) operation (Follows false None) bytes
  op_front = front (operation_reads false 0 None) bytes fine h

  abbrev o : Operation
  o = op_front.first

  abbrev after_key : List ℕ
  after_key = (ids o.replaced ++ body o.text) ++ op_front.left

  abbrev after_code : List ℕ
  after_code = (key o.segment.key ++ (ids o.replaced ++ body o.text)) ++ op_front.left

  abbrev after_id : List ℕ
  after_id = (o.segment.book ++ (key o.segment.key ++ (ids o.replaced ++ body o.text))) ++ op_front.left

  segment_fits : (is_book_code o.segment.book ≡ true) × (is_key o.segment.key.chapter o.segment.key.place ≡ true)
  segment_fits = and_parts (is_book_code o.segment.book) (is_key o.segment.key.chapter o.segment.key.place) op_front.fits.1.1.0.segment

  id_spelled : id_at Truncated bytes ≡ Ok (o.id, after_id)
  id_spelled = at_front (id_reads Truncated) o.id after_id bytes
      (op_front.parts ∙ append_assoc (id o.id) (o.segment.book ++ (key o.segment.key ++ (ids o.replaced ++ body o.text))) op_front.left)
      op_front.fits.1.1.0.id

  pub op_id : IsOk (id_at Truncated bytes)
  op_id = is_ok (id_at Truncated bytes) _ id_spelled

  module _ (i : Id) (rest1 : List ℕ) (one : id_at Truncated bytes ≡ Ok (i, rest1)) where
    code_spelled : block_at 3 any Truncated rest1 ≡ Ok (o.segment.book, after_code)
    code_spelled = at_front (block_reads 3 any Truncated) o.segment.book after_code rest1
        (same_rest (id_at Truncated bytes) _ _ _ _ id_spelled one
        ∙ append_assoc o.segment.book (key o.segment.key ++ (ids o.replaced ++ body o.text)) op_front.left)
        (code_length o.segment.book segment_fits.0, refl)

    pub op_code : IsOk (block_at 3 any Truncated rest1)
    op_code = is_ok (block_at 3 any Truncated rest1) _ code_spelled

    module _ (code rest2 : List ℕ) (two : block_at 3 any Truncated rest1 ≡ Ok (code, rest2)) where
      key_spelled : key_at (BadKey 0) rest2 ≡ Ok (o.segment.key, after_key)
      key_spelled = at_front (key_reads (BadKey 0)) o.segment.key after_key rest2
          (same_rest (block_at 3 any Truncated rest1) _ _ _ _ code_spelled two
          ∙ append_assoc (key o.segment.key) (ids o.replaced ++ body o.text) op_front.left)
          segment_fits.1

      pub op_key : IsOk (key_at (BadKey 0) rest2)
      op_key = is_ok (key_at (BadKey 0) rest2) _ key_spelled

      module _ (k : KeyParts) (rest3 : List ℕ) (three : key_at (BadKey 0) rest2 ≡ Ok (k, rest3)) where
        ids_spelled : ids_at rest3 ≡ Ok (o.replaced, body o.text ++ op_front.left)
        ids_spelled = at_front ids_reads o.replaced (body o.text ++ op_front.left) rest3
            (same_rest (key_at (BadKey 0) rest2) _ _ _ _ key_spelled three ∙ append_assoc (ids o.replaced) (body o.text) op_front.left)
            (op_front.fits.1.1.1.replaced, op_front.fits.1.1.0.ids)

        pub op_ids : IsOk (ids_at rest3)
        op_ids = is_ok (ids_at rest3) _ ids_spelled

        module _ (named : List Id) (rest4 : List ℕ) (four : ids_at rest3 ≡ Ok (named, rest4)) where
          body_spelled : body_at false 0 rest4 ≡ Ok (o.text, op_front.left)
          body_spelled =
              at_front (body_reads false 0) o.text op_front.left rest4
              (same_rest (ids_at rest3) _ _ _ _ ids_spelled four) (op_front.fits.1.0, op_front.fits.1.1.1.text)

          pub op_body : IsOk (body_at false 0 rest4)
          op_body = is_ok (body_at false 0 rest4) _ body_spelled

          module _ (text : Option (List ℕ)) (rest5 : List ℕ) (five : body_at false 0 rest4 ≡ Ok (text, rest5)) where
            text_same : o.text ≡ text
            text_same = sym (same_value (body_at false 0 rest4) _ _ _ _ body_spelled five)

            pub op_text : may_be_utf8 text ≡ true
            op_text = subst (λ (x : Option (List ℕ)). may_be_utf8 x ≡ true) text_same
                (text_from o.segment o.text op_front.fits.1.1.0.text).0

            o_same : o ≡ record { id = i; segment = segment code k; replaced = named; text = text }
            o_same = λ j. record {
              id = sym (same_value (id_at Truncated bytes) _ _ _ _ id_spelled one) j;
              segment = segment (sym (same_value (block_at 3 any Truncated rest1) _ _ _ _ code_spelled two) j)
                  (sym (same_value (key_at (BadKey 0) rest2) _ _ _ _ key_spelled three) j);
              replaced = sym (same_value (ids_at rest3) _ _ _ _ ids_spelled four) j;
              text = text_same j;
            }

            pub op_is : operation_at false 0 None bytes
                ≡ Ok (record { id = i; segment = segment code k; replaced = named; text = text }, rest5)
            op_is = op_front.is_read ∙ (λ j. Ok (o_same j, sym (same_rest (body_at false 0 rest4) _ _ _ _ body_spelled five) j))
