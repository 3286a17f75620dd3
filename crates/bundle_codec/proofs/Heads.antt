-- The bytes of an operation before its tag, which spell all of it but its text.
use Rattle.std.proofs.Common.{◌≡◌, ℕ, ◌+◌, ◌-◌, ◌^◌, ◌<◌, ◌≤◌, Bool, true, false, List, ◌++◌, length, take, ◌&&◌, Option, Some, None, refl, sym, ap, subst, ◌∙◌, append_assoc, arith}
use Rattle.std.specs.Int.{w64, to_be_bytes}
use Rattle.std.specs.Cmp.{both_ways}
use Rattle.std.proofs.lemmas.List.{length-append, take_at}
use Rattle.std.proofs.Math.Bool.{and-true}
use Rattle.usfm_ref.specs.Books.{same_bytes}
use Rattle.usfm_ref.proofs.Orders.{same_bytes-is, same_bytes-refl}
use Rattle.op_core.specs.Ops.{Operation, IsOperation, bare, same_bare, texts_agree, agree}
use Rattle.op_core.specs.Equal.{same_bare-is, same_bare-from}
use Rattle.bundle_codec.specs.Spelling.{id, key, ids, body, head, operation}
use Rattle.bundle_codec.proofs.OneSpelling.{same_operation}

pub headed : (o : Operation) → head o ++ body o.text ≡ operation o
headed o =
    append_assoc (id o.id) (o.segment.book ++ (key o.segment.key ++ ids o.replaced)) (body o.text)
    ∙ ap (λ w. id o.id ++ w)
    (append_assoc o.segment.book (key o.segment.key ++ ids o.replaced) (body o.text)
    ∙ ap (λ w. o.segment.book ++ w) (append_assoc (key o.segment.key) (ids o.replaced) (body o.text)))

pub front_is : (o : Operation) (bytes : List ℕ) (n : ℕ) → bytes ≡ operation o → n ≡ length (body o.text)
    → take (length bytes - n) bytes ≡ head o
front_is o bytes n is e =
    let parts : bytes ≡ head o ++ body o.text = is ∙ sym (headed o) in
    let count : length bytes - n ≡ length (head o) = omega (arith, ap length parts, length-append (head o) (body o.text), e) in
    rw count (ap (take (length (head o))) parts ∙ take_at (head o) (body o.text) (length (head o)) refl)

body_some : (text : Option (List ℕ)) → 1 ≤ length (body text)
body_some None = omega arith
body_some (Some text) = omega arith

-- how many bytes a tag and the text after its length take
pub tag_takes : (text : Option (List ℕ)) → None ≡ text → 1 ≡ length (body text)
tag_takes text e = ap (λ (t : Option (List ℕ)). length (body t)) e

pub text_takes : (text : Option (List ℕ)) (t : List ℕ) → Some t ≡ text → length t + 9 ≡ length (body text)
text_takes text t e =
    let counted : length t + 9 ≡ length (body (Some t)) = omega (arith, length-append (to_be_bytes w64 (length t)) t) in
    counted ∙ ap (λ (s : Option (List ℕ)). length (body s)) e

-- without its text it takes no more bytes
bare_short : (o : Operation) → length (operation o) < 2 ^ 64 → length (operation (bare o)) < 2 ^ 64
bare_short o short = omega (
  arith,
  short,
  ap length (headed o),
  length-append (head o) (body o.text),
  body_some o.text,
  ap length (headed (bare o)),
  length-append (head o) (body None),
)

bare_is : (o : Operation) → IsOperation o → IsOperation (bare o)
bare_is o f = record { id = f.id; segment = f.segment; ids = f.ids; falls = f.falls; text = tt }

-- the test of the bytes before the tags is the test of all but the texts
pub same_heads : (o p : Operation) → IsOperation o → IsOperation p → length (operation o) < 2 ^ 64
    → same_bytes (head o) (head p) ≡ same_bare o p
same_heads o p f g short = both_ways (same_bytes (head o) (head p)) (same_bare o p)
    (λ h. same_bare-from o p (same_operation (bare o) (bare p) (bare_is o f) (bare_is p g)
    (bare_short o short)
    (sym (headed (bare o)) ∙ ap (λ (w : List ℕ). w ++ body None) (same_bytes-is (head o) (head p) h) ∙ headed (bare p))))
    (λ h. subst (λ (q : Operation). same_bytes (head o) (head q) ≡ true) (same_bare-is o p h) (same_bytes-refl (head o)))

-- two of which one is thinned agree where they are equal but for their texts
pub agree_bare : (o p : Operation) → texts_agree o.text p.text ≡ true → same_bare o p ≡ agree o p
agree_bare o p e = sym (ap (λ b. same_bare o p && b) e ∙ and-true (same_bare o p))

pub left_none : (s t : Option (List ℕ)) → None ≡ s → texts_agree s t ≡ true
left_none s t e = ap (λ (x : Option (List ℕ)). texts_agree x t) (sym e)

none_right : (s : Option (List ℕ)) → texts_agree s None ≡ true
none_right None = refl
none_right (Some s) = refl

pub right_none : (s t : Option (List ℕ)) → None ≡ t → texts_agree s t ≡ true
right_none s t e = ap (texts_agree s) (sym e) ∙ none_right s
