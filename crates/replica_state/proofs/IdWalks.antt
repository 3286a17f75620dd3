-- Walks over ids up to the first that passes a test.
use Rattle.std.proofs.Common.{◌≡◌, ℕ, ◌<◌, ◌+◌, Bool, true, false, cond, List, [], ◌∷◌, Some, None, length, get_or, take, drop, sym, ap, ◌∙◌}
use Rattle.std.specs.List.{find}
use Rattle.std.specs.Option.{option_or}
use Rattle.std.proofs.lemmas.List.Folds.{find-append}
use Rattle.op_core.proofs.Indexed.Enrolled.{at_item, more_items}
use Rattle.op_core.specs.Ids.{Id}

module _ (p : Id → Bool) (ids : List Id) (i : ℕ) (id : Id) (l : i < length ids) (is : id ≡ get_or ids i id)
    (none : find p (take i ids) ≡ None) where
  pub none_more : p id ≡ false → find p (take (i + 1) ids) ≡ None
  none_more e = ap (find p) (more_items ids i id l is) ∙ find-append p (take i ids) (id ∷ [])
      ∙ (λ j. option_or (none j) (cond (e j) (Some id) None))

  pub first_here : p id ≡ true → Some id ≡ find p ids
  first_here e = sym (ap (find p) (at_item ids i id l is) ∙ find-append p (take i ids) (id ∷ drop (i + 1) ids)
      ∙ (λ j. option_or (none j) (cond (e j) (Some id) (find p (drop (i + 1) ids)))))
