-- The named ones of segments, one after another.
use Rattle.std.proofs.Common.{◌≡◌, ℕ, ◌+◌, ◌<◌, Bool, List, [], ◌∷◌, ◌++◌, length, take, get_or, map, filter, sym, ap, ◌∙◌, append_assoc}
use Rattle.std.proofs.lemmas.List.{take_more}
use Rattle.std.proofs.lemmas.List.Elements.{filter-append}
use Rattle.usfm_ref.specs.declared.segment.Segment.{Segment}
use Rattle.op_core.specs.Ops.{Operation}

-- those of operations, of which one more was looked at
pub named_on : (p : Segment → Bool) (old more whole : List Segment) (it rest : List Operation) (o : Operation) (g : Segment)
    → it ≡ o ∷ rest → g ≡ o.segment → more ≡ old ++ filter p (g ∷ []) → old ++ filter p (map (λ o. o.segment) it) ≡ whole
    → more ++ filter p (map (λ o. o.segment) rest) ≡ whole
named_on p old more whole it rest o g steps is pushed so =
    ap (λ (gs : List Segment). gs ++ filter p (map (λ o. o.segment) rest)) pushed
    ∙ append_assoc old (filter p (g ∷ [])) (filter p (map (λ o. o.segment) rest))
    ∙ ap (λ (gs : List Segment). old ++ gs)
    (sym (filter-append p (g ∷ []) (map (λ o. o.segment) rest)) ∙ (λ i. filter p (is i ∷ map (λ o. o.segment) rest)))
    ∙ ap (λ (ops : List Operation). old ++ filter p (map (λ o. o.segment) ops)) (sym steps)
    ∙ so

-- those of segments, of which one more was looked at
pub filtered_more : (p : Segment → Bool) (segments : List Segment) (i : ℕ) (g : Segment) (old more : List Segment) → i < length segments
    → g ≡ get_or segments i g → more ≡ old ++ filter p (g ∷ []) → old ≡ filter p (take i segments)
    → more ≡ filter p (take (i + 1) segments)
filtered_more p segments i g old more l is pushed so =
    pushed ∙ ap (λ (gs : List Segment). gs ++ filter p (g ∷ [])) so ∙ sym (filter-append p (take i segments) (g ∷ []))
    ∙ ap (filter p) (ap (λ (h : Segment). take i segments ++ h ∷ []) is ∙ sym (take_more segments i g l))
