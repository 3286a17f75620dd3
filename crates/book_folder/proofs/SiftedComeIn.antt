-- The bundles of a box that come in are received.
use Rattle.std.proofs.Common.{◌≡◌, ℕ, suc, Bool, true, false, cond, not, ◌||◌, List, [], ◌∷◌, ◌++◌, length, Option, None, Some, Result, Ok, Err}
use Rattle.std.proofs.Common.{refl, sym, ap, subst, ◌∙◌}
use Rattle.std.specs.Prelude.{IsOk}
use Rattle.op_core.specs.Ids.{Id}
use Rattle.op_core.specs.Ops.{Operation}
use Rattle.op_core.specs.Sets.{clash}
use Rattle.bundle_codec.specs.Joining.{whole_at}
use Rattle.bundle_codec.specs.declared.fault.WholeFault.{WholeFault}
use Rattle.replica_state.specs.Receives.{lacked}
use Rattle.replica_state.specs.States.{State}
use Rattle.replica_state.specs.Steps.{with_ops}
use Rattle.book_folder.specs.Begun.{is_strange, received, received_if_alike, received_or, refused_strange, set_or}
use Rattle.book_folder.specs.Coming.{bundles_from}
use Rattle.book_folder.specs.Refusals.{◌>>=◌, Stepped, of_bundle, stepped}
use Rattle.book_folder.specs.Sifting.{SiftedBundlesComeIn, any_place, before_others, passed_over, sift_judged, sift_received, sifted, that_come}
use Rattle.book_folder.specs.declared.refusal.Place.{Place}
use Rattle.book_folder.specs.declared.refusal.Place.TheVariants as places
use Rattle.book_folder.specs.declared.refusal.Refusal.{Refusal}
use Rattle.book_folder.specs.declared.refusal.Refusal.TheVariants.{Memory, Of}
use Rattle.book_folder.specs.declared.sifting.Sifted.{Sifted}

module _ (w : Bool) where
  -- what comes in of bundles is received, whatever the replica holds
  abbrev All : List (List ℕ) → Type 0
  All bundles = (s : State) (at : ℕ) (made : List ℕ)
      → IsOk (bundles_from w at (stepped s made) (that_come (sifted w s bundles).made bundles))

  module _ (bytes : List ℕ) (later : List (List ℕ)) (rest : All later) (s : State) (at : ℕ) (made : List ℕ) where
    -- it is so after this became of the first bundle
    abbrev After : Stepped State Sifted → Type 0
    After first =
        IsOk (bundles_from w at (stepped s made) (that_come (before_others first.made (sifted w first.after later)).made (bytes ∷ later)))

    passed : (refusal : Refusal) → After (stepped s (passed_over refusal))
    passed Memory = rest s at made
    passed (Of place fault) = rest s at made

    module _ (ops : List Operation) (read : whole_at bytes ≡ Ok ops) where
      -- one that is received without a question is received in its place
      by_clash : (found : Option Id) → clash s.held ops ≡ found → (w || not (is_strange s.held ops)) ≡ true
          → After (sift_received s (received_or any_place s ops found))
      by_clash (Some id) e known = rest s at made
      by_clash None e known =
          let place : Place = places.Bundle at in
          let next : Stepped State ℕ = stepped (with_ops s ops) (length (lacked s.held ops)) in
          let kept = that_come (sifted w next.after later).made later in
          let got : received_if_alike w place s ops ≡ Ok next =
          ap (λ b. cond b (received place s ops) (received place s ops >>= refused_strange place s)) known
          ∙ ap (received_or place s ops) e in
          subst (λ r. IsOk (r >>= λ got. received_if_alike w place s got >>= λ n.
          bundles_from w (suc at) (stepped n.after (made ++ n.made ∷ [])) kept)) (sym (ap (set_or place) read))
          (subst (λ r. IsOk (r >>= λ n. bundles_from w (suc at) (stepped n.after (made ++ n.made ∷ [])) kept)) (sym got)
          (rest next.after (suc at) (made ++ next.made ∷ [])))

      -- one of another project is refused, whether it clashes or not
      strange : (found : Option Id)
          → After (sift_received s (received_or any_place s ops found >>= refused_strange any_place s))
      strange None = rest s at made
      strange (Some id) = rest s at made

      by_strange : (b : Bool) → (w || not (is_strange s.held ops)) ≡ b
          → After (sift_received s (cond b (received any_place s ops) (received any_place s ops >>= refused_strange any_place s)))
      by_strange true e = by_clash (clash s.held ops) refl e
      by_strange false e = strange (clash s.held ops)

    by_read : (read : Result (List Operation) WholeFault) → whole_at bytes ≡ read → After (sift_judged w s (set_or any_place read))
    by_read (Ok ops) e = by_strange ops e (w || not (is_strange s.held ops)) refl
    by_read (Err fault) e = passed (of_bundle any_place fault)

  come_in : (bundles : List (List ℕ)) → All bundles
  come_in [] s at made = refl
  come_in (bytes ∷ later) s at made = by_read bytes later (come_in later) s at made (whole_at bytes) refl

pub sifted_bundles_come_in : SiftedBundlesComeIn
sifted_bundles_come_in w s bundles = come_in w bundles s 0 []
