-- One set has one spelling, and one spelling has one set.
use Rattle.std.proofs.Common.{◌≡◌, ◌≢◌, ℕ, ◌+◌, ◌^◌, ◌<◌, ◌≤◌, Bool, true, List, [], ◌∷◌, ◌++◌, length, Option, Some, None, Ok, Err, false, refl, sym, ap, subst, ◌∙◌, arith, inl, inr}
use Rattle.std.specs.Int.{w64, to_be_bytes}
use Rattle.std.specs.Cmp.{both_ways}
use Rattle.std.specs.List.{AllByRecursion, flat_map}
use Rattle.std.proofs.lemmas.List.Concat.{flat_map-cons}
use Rattle.std.proofs.lemmas.List.{append-nil, length-append}
use Rattle.usfm_ref.specs.Books.{same_bytes}
use Rattle.usfm_ref.proofs.Orders.{same_bytes-is, same_bytes-refl}
use Rattle.op_core.specs.Ids.{Id}
use Rattle.op_core.specs.Ops.{Operation, IsOperation, same_op, or_empty, own_text}
use Rattle.op_core.specs.Thinned.{all_full}
use Rattle.op_core.specs.Equal.{same_op-is, same_op-refl}
use Rattle.bundle_codec.specs.declared.fault.BundleFault.TheVariants.{Truncated}
use Rattle.bundle_codec.specs.Spelling.{magic_of, id, key, ids, body, operation, bundle, IsCounted, AreCounted}
use Rattle.bundle_codec.specs.Reading.{◌>>=◌, operation_at, fields_at, judge_thinned, bundle_at}
use Rattle.bundle_codec.proofs.Readers.{ok_is}
use Rattle.bundle_codec.proofs.Spelled.{IsSpelled, any_tag, of_set, operation_reads, fields_reads}

-- ---- what a bundle of less than 2^64 bytes spells can be counted

pub flat_map_long : {A : Type 0} (f : A → List ℕ) → ((x : A) → 1 ≤ length (f x)) → (xs : List A) → length xs ≤ length (flat_map f xs)
flat_map_long f some [] = omega arith
flat_map_long f some (x ∷ xs) =
    omega (arith, ap length (flat_map-cons f x xs), length-append (f x) (flat_map f xs), some x, flat_map_long f some xs)

id_some : (i : Id) → 1 ≤ length (id i)
id_some i = omega (arith, length-append (to_be_bytes w64 i.number) (length i.name ∷ i.name))

body_length : (text : Option (List ℕ)) → length (or_empty text) ≤ length (body text)
body_length None = omega arith
body_length (Some text) = omega (arith, length-append (to_be_bytes w64 (length text)) text)

-- how long the parts of an operation are together
operation_length : (o : Operation) → length (id o.id) + length (flat_map id o.replaced) + length (own_text o) ≤ length (operation o)
operation_length o = omega (
  arith,
  length-append (id o.id) (o.segment.book ++ (key o.segment.key ++ (ids o.replaced ++ body o.text))),
  length-append o.segment.book (key o.segment.key ++ (ids o.replaced ++ body o.text)),
  length-append (key o.segment.key) (ids o.replaced ++ body o.text),
  length-append (ids o.replaced) (body o.text),
  length-append (to_be_bytes w64 (length o.replaced)) (flat_map id o.replaced),
  body_length o.text,
)

-- each operation spells at least one byte
pub takes_bytes : (o : Operation) → 1 ≤ length (operation o)
takes_bytes o = omega (arith, operation_length o, id_some o.id)

-- what an operation of less than 2^64 bytes spells can be counted
pub IsCounted-from_length : (o : Operation) → length (operation o) < 2 ^ 64 → IsCounted o
IsCounted-from_length o h =
    let long = operation_length o in
    let named = flat_map_long id id_some o.replaced in
    record { replaced = omega arith; text = omega arith }

counted_each : (ops : List Operation) → length (flat_map operation ops) < 2 ^ 64 → AllByRecursion IsCounted ops
counted_each [] h = tt
counted_each (o ∷ ops) h =
    let parts : length (flat_map operation (o ∷ ops)) ≡ length (operation o) + length (flat_map operation ops) =
    ap length (flat_map-cons operation o ops) ∙ length-append (operation o) (flat_map operation ops) in
    (IsCounted-from_length o (omega arith), counted_each ops (omega arith))

-- the counts of a bundle of less than 2^64 bytes fit in 64 bits
pub AreCounted-from_length : (ops : List Operation) → length (bundle ops) < 2 ^ 64 → AreCounted ops
unfolding bundle
AreCounted-from_length ops h =
    let parts = length-append (magic_of (all_full ops)) (to_be_bytes w64 (length ops) ++ flat_map operation ops) in
    let counted = length-append (to_be_bytes w64 (length ops)) (flat_map operation ops) in
    let many = flat_map_long operation takes_bytes ops in
    record { count = omega arith; each = counted_each ops (omega arith) }

-- ---- laws of bundles

nil_at_end : (a b : List ℕ) → a ++ b ≡ [] → b ≡ []
nil_at_end [] b e = e
nil_at_end (x ∷ a) b e = absurd cc

-- a set's spelling is read field by field, legal or not
set_again : (ops : List Operation) (rest : List ℕ) → IsSpelled ops → fields_at (bundle ops ++ rest) ≡ Ok (of_set ops, rest)
unfolding bundle
set_again ops rest f = fields_reads.again (of_set ops) rest (f, λ e. e)

-- one set has one spelling, and one spelling has one set, whatever follows it
pub one_spelling : (a b : List Operation) (rest others : List ℕ) → IsSpelled a → IsSpelled b → bundle a ++ rest ≡ bundle b ++ others
    → (a ≡ b) × (rest ≡ others)
one_spelling a b rest others f g e =
    let p = ok_is (of_set a, rest) (of_set b, others) (sym (set_again a rest f) ∙ ap fields_at e ∙ set_again b others g) in
    (ap (λ (x : (Bool × List Operation) × List ℕ). x.0.1) p, ap (λ (x : (Bool × List Operation) × List ℕ). x.1) p)

-- and one operation
pub same_operation : (o p : Operation) → IsOperation o → IsOperation p → length (operation o) < 2 ^ 64 → operation o ≡ operation p → o ≡ p
same_operation o p f g short e =
    let reads = operation_reads false 0 None in
    let one = reads.again o [] (refl, (any_tag o.text, (f, IsCounted-from_length o short))) in
    let other = reads.again p [] (refl, (any_tag p.text, (g, IsCounted-from_length p (omega (arith, ap length e))))) in
    ap (λ (x : Operation × List ℕ). x.0)
    (ok_is (o, []) (p, []) (sym one ∙ ap (λ (w : List ℕ). operation_at false 0 None (w ++ [])) e ∙ other))

-- the test of their spellings is the test of the operations
pub same_spellings : (o p : Operation) → IsOperation o → IsOperation p → length (operation o) < 2 ^ 64
    → same_bytes (operation o) (operation p) ≡ same_op o p
same_spellings o p f g short = both_ways (same_bytes (operation o) (operation p)) (same_op o p)
    (λ h. subst (λ (q : Operation). same_op o q ≡ true) (same_operation o p f g short (same_bytes-is (operation o) (operation p) h))
    (same_op-refl o))
    (λ h. subst (λ (q : Operation). same_bytes (operation o) (operation q) ≡ true) (same_op-is o p h) (same_bytes-refl (operation o)))

-- a proper front of a bundle is cut
pub front_is_cut : (ops : List Operation) (front more : List ℕ) → IsSpelled ops → bundle ops ≡ front ++ more → more ≢ []
    → bundle_at front ≡ Err Truncated
unfolding bundle_at
front_is_cut ops front more f e some =
    let read : fields_at (front ++ more) ≡ Ok (of_set ops, []) =
    ap fields_at (sym e ∙ sym (append-nil (bundle ops))) ∙ set_again ops [] f in
    elim (fields_reads.cut front more (of_set ops) [] read) [
      | inl short ↦ ap (λ r. r >>= λ fields. judge_thinned fields.0.0 fields.0.1 >>= λ _. Ok (fields.0.1, fields.1)) short
      | inr on ↦ absurd (some (nil_at_end on.0 more (sym on.2)))
    ]

-- and so no bundle
pub front_is_none : (a b : List Operation) (more : List ℕ) → IsSpelled a → IsSpelled b → bundle a ≡ bundle b ++ more → more ≡ []
front_is_none a b more f g e = sym (one_spelling a b [] more f g (append-nil (bundle a) ∙ e)).1
