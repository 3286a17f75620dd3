-- There is no clash exactly where two sets agree at each id.
use Rattle.std.proofs.Common.{◌≡◌, true, false, not, List, [], ◌∷◌, Option, Some, None, refl, ap, ◌∙◌}
use Rattle.std.specs.List.{find, AllByRecursion}
use Rattle.std.specs.Option.{option_map}
use Rattle.std.proofs.lemmas.Bool.{cond-false}
use Rattle.op_core.specs.Ops.{Operation}
use Rattle.op_core.specs.Sets.{rises, get, differs, clash}
use Rattle.op_core.proofs.Sets.Union.{AgreeAtAll, held_itself, agree_from_no_clash}
use Rattle.op_core.specs.ThinLaws.{NoClashAs}
use Rattle.op_core.proofs.Sets.Agreement.{agree-is, agree-from, agree_turned}

-- sets that agree at each id do not clash
pub no_clash : (xs ys : List Operation) → rises ys ≡ true → AgreeAtAll xs ys → clash xs ys ≡ None
no_clash xs ys h each = ap (option_map (λ (o : Operation). o.id)) (none_found ys (held_itself ys h))
  where
    same : (z : Operation) → get ys z.id ≡ Some z → (r : Option Operation) → get xs z.id ≡ r → differs r z ≡ false
    same z g None e = refl
    same z g (Some x) e = ap not (agree-from x z (each z.id x z e g))

    none_found : (zs : List Operation) → AllByRecursion (λ o. get ys o.id ≡ Some o) zs
        → find (λ (o : Operation). differs (get xs o.id) o) zs ≡ None
    none_found [] h = refl
    none_found (z ∷ zs) h = cond-false (differs (get xs z.id) z) (Some z) _ (same z h.0 (get xs z.id) refl) ∙ none_found zs h.1

pub agree_at_turned : (xs ys : List Operation) → AgreeAtAll xs ys → AgreeAtAll ys xs
agree_at_turned xs ys h q y x gy gx = agree_turned x y (h q x y gx gy)

pub no_clash_as : (a b : List Operation) → rises b ≡ true → NoClashAs a b
no_clash_as a b h = record {
  says = λ n id x y gx gy. agree-from x y (agree_from_no_clash a b n id x y gx gy);
  back = λ each. no_clash a b h (λ id x y gx gy. agree-is x y (each id x y gx gy));
}
