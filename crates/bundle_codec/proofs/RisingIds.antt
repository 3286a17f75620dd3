-- Ids that rise: each is above the one before it exactly where each is below all later ones.
use Rattle.std.proofs.Common.{◌≡◌, true, List, [], ◌∷◌, Option, Some, None, refl}
use Rattle.std.specs.List.{list_all}
use Rattle.std.proofs.lemmas.Bool.{and_parts, and_from}
use Rattle.usfm_ref.specs.Rising.{rises_by}
use Rattle.usfm_ref.proofs.Sorted.{is_less, above_trans}
use Rattle.op_core.specs.Ids.{Id, id_cmp, id_below}
use Rattle.op_core.proofs.IdOrders.Rising.{id_total}
use Rattle.bundle_codec.specs.Reading.{comes_after}

module _ {X : Type 0} (key : X → Id) where
  -- each comes after the one before it
  abbrev pub Climbs : Option Id → List X → Type 0
  Climbs before [] = Unit {0}
  Climbs before (x ∷ xs) = (comes_after before (key x) ≡ true) × Climbs (Some (key x)) xs

  above_all : (id : Id) (xs : List X) → Climbs (Some id) xs → list_all (λ y. id_below id (key y)) xs ≡ true
  above_all id [] c = refl
  above_all id (x ∷ xs) c = and_from _ _ c.0 (above_trans id_cmp id_total key id (key x) xs (is_less _ c.0) (above_all (key x) xs c.1))

  pub rises-from_climbs : (before : Option Id) (xs : List X) → Climbs before xs → rises_by id_cmp key xs ≡ true
  rises-from_climbs before [] c = refl
  rises-from_climbs before (x ∷ xs) c = and_from _ _ (above_all (key x) xs c.1) (rises-from_climbs (Some (key x)) xs c.1)

  climbs_above : (id : Id) (xs : List X) → list_all (λ y. id_below id (key y)) xs ≡ true → rises_by id_cmp key xs ≡ true
      → Climbs (Some id) xs
  climbs_above id [] a r = tt
  climbs_above id (x ∷ xs) a r =
      let p = and_parts (list_all (λ y. id_below (key x) (key y)) xs) (rises_by id_cmp key xs) r in
      ((and_parts (id_below id (key x)) (list_all (λ y. id_below id (key y)) xs) a).0, climbs_above (key x) xs p.0 p.1)

  pub climbs-from_rises : (xs : List X) → rises_by id_cmp key xs ≡ true → Climbs None xs
  climbs-from_rises [] r = tt
  climbs-from_rises (x ∷ xs) r =
      let p = and_parts (list_all (λ y. id_below (key x) (key y)) xs) (rises_by id_cmp key xs) r in
      (refl, climbs_above (key x) xs p.0 p.1)
