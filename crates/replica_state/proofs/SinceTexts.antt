-- Walks over lent operations: whether one of them passes, and the text of the last one so far.
use Rattle.std.proofs.Common.{◌≡◌, ℕ, ◌+◌, ◌<◌, Bool, true, List, [], ◌∷◌, map, length, get_or, take, drop, ap, ◌∙◌}
use Rattle.std.specs.List.{list_any}
use Rattle.std.proofs.lemmas.Bool.{or_left, or_right}
use Rattle.std.proofs.lemmas.List.{map-append}
use Rattle.std.proofs.lemmas.List.Folds.{list_any-append}
use Rattle.op_core.specs.Ops.{Operation, own_text}
use Rattle.op_core.specs.Shown.{last, text_if_any}
use Rattle.op_core.proofs.Indexed.Enrolled.{at_item, more_items}
use Rattle.op_core.proofs.Walk.{last_push}

module _ {X : Type 0} (f : X → Operation) (xs : List X) (i : ℕ) (x : X) (l : i < length xs) (is : x ≡ get_or xs i x) where
  -- where one item passes a test, one of them does
  pub one_passes : (p : Operation → Bool) → p (f x) ≡ true → list_any p (map f xs) ≡ true
  one_passes p h =
      ap (λ (ys : List X). list_any p (map f ys)) (at_item xs i x l is)
      ∙ ap (list_any p) (map-append f (take i xs) (x ∷ drop (i + 1) xs))
      ∙ list_any-append p (map f (take i xs)) (f x ∷ map f (drop (i + 1) xs))
      ∙ or_right _ _ (or_left _ _ h)

  -- the text of the last of some items is that of the item
  pub last_text : text_if_any (last (map f (take (i + 1) xs))) ≡ own_text (f x)
  last_text =
      ap (λ (ys : List X). text_if_any (last (map f ys))) (more_items xs i x l is)
      ∙ ap (λ (ops : List Operation). text_if_any (last ops)) (map-append f (take i xs) (x ∷ []))
      ∙ ap text_if_any (last_push (map f (take i xs)) (f x))
