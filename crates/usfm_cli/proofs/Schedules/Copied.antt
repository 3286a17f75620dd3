-- The text of a shown operation, which an edit gives a segment again.
use Rattle.std.proofs.Common.{◌≡◌, ℕ, Bool, true, false, cond, List, [], ◌∷◌, filter, Option, Some, None, IsUtf8, subst}
use Rattle.std.specs.Prelude.{option_map}
use Rattle.std.specs.List.{AllByRecursion, find}
use Rattle.std.proofs.lemmas.Str.{IsUtf8-nil}
use Rattle.usfm_ref.specs.declared.segment.Segment.{Segment}
use Rattle.op_core.specs.Ids.{Id, same_id}
use Rattle.op_core.specs.Ops.{Operation, IsOperation, MayBeText, or_empty, own_text}
use Rattle.op_core.specs.Shown.{is_shown}
use Rattle.usfm_cli.specs.Commands.{text_shown}

all_filter : {A : Type 0} (P : A → Type 0) (p : A → Bool) (xs : List A) → AllByRecursion P xs → AllByRecursion P (filter p xs)
all_filter P p [] h = tt
all_filter P p (x ∷ xs) h =
    let rest = all_filter P p xs h.1 in
    elim (p x) as (λ b. AllByRecursion P (cond b (x ∷ filter p xs) (filter p xs))) [ true ↦ (h.0, rest) | false ↦ rest ]

own_is_text : (g : Segment) (text : Option (List ℕ)) → MayBeText g text → IsUtf8 (or_empty text)
own_is_text g None h = IsUtf8-nil
own_is_text g (Some text) h = h.utf8

found_is_text : (p : Operation → Bool) (ops : List Operation) → AllByRecursion IsOperation ops → (text : List ℕ)
    → option_map (λ o. own_text o) (find p ops) ≡ Some text → IsUtf8 text
found_is_text p [] h text e = cc e
found_is_text p (o ∷ ops) h text e = by (found_is_text p ops h.1 text) (p o) e
  where
    by : (option_map (λ q. own_text q) (find p ops) ≡ Some text → IsUtf8 text) → (b : Bool)
        → option_map (λ q. own_text q) (cond b (Some o) (find p ops)) ≡ Some text → IsUtf8 text
    by rest true f =
        let is : own_text o ≡ text = cc f in
        subst IsUtf8 is (own_is_text o.segment o.text h.0.text)
    by rest false f = rest f

pub shown_is_text : (held : List Operation) → AllByRecursion IsOperation held → (g : Segment) (of : Id) (text : List ℕ)
    → text_shown held g of ≡ Some text → IsUtf8 text
shown_is_text held each g of text e =
    found_is_text (λ o. same_id o.id of) _ (all_filter IsOperation (is_shown held g) held each) text e
