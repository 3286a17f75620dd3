-- Bundles that came into a project come in again where a part of what was made of them is there already.
use Rattle.std.proofs.Common.{◌≡◌, ℕ, suc, Bool, true, List, [], ◌∷◌, ◌++◌, length, Ok, refl, ap, subst, ◌∙◌}
use Rattle.std.specs.List.{AllByRecursion}
use Rattle.op_core.specs.Ops.{Operation}
use Rattle.op_core.specs.Sets.{IsOpSet, join, rises}
use Rattle.op_core.proofs.Sets.NoClash.{no_clash}
use Rattle.op_core.proofs.Sets.Union.{AgreeAtAll, IsOpSet-join, agree_from_no_clash}
use Rattle.bundle_codec.specs.Reading.{AreBytes}
use Rattle.replica_state.specs.Receives.{lacked}
use Rattle.replica_state.specs.States.{State}
use Rattle.replica_state.specs.Steps.{with_ops}
use Rattle.book_folder.specs.Begun.{judged, received_if_alike, received_or}
use Rattle.book_folder.specs.Coming.{bundles_from}
use Rattle.book_folder.specs.Refusals.{◌>>=◌, Stepped, stepped}
use Rattle.book_folder.specs.declared.refusal.Place.{Place}
use Rattle.book_folder.specs.declared.refusal.Place.TheVariants as places
use Rattle.book_folder.proofs.CutShort.HasAll.{HasAll, IsPart, all_of_itself, all_of_left, all_through, over_agrees, over_is}
use Rattle.book_folder.proofs.Schedules.BasesReach.{alike_is, judged_is, ok_is, then_ok}
use Rattle.book_folder.proofs.Schedules.ReadSets.{read_set}

abbrev Counted : Type 0
Counted = Stepped State (List ℕ)

-- a bundle that was received: its set, and what is made of it
record Got (asked : Bool) (at : ℕ) (r : Counted) (bytes : List ℕ) (later : List (List ℕ)) (final : Counted) : Type 0 where
  pub ops : List Operation
  pub set : IsOpSet ops
  pub read : judged (places.Bundle at) bytes ≡ Ok ops
  pub agree : AgreeAtAll r.after.held ops
  pub counts : List ℕ
  pub rest : bundles_from asked (suc at) (stepped (with_ops r.after ops) counts) later ≡ Ok final

got : (asked : Bool) (at : ℕ) (r : Counted) (bytes : List ℕ) (later : List (List ℕ)) (final : Counted) → AreBytes bytes
    → bundles_from asked at r (bytes ∷ later) ≡ Ok final → Got asked at r bytes later final
got asked at r bytes later final fits e =
    let place : Place = places.Bundle at in
    let a = then_ok (judged place bytes)
    (λ ops. received_if_alike asked place r.after ops >>= λ n.
    bundles_from asked (suc at) (stepped n.after (r.made ++ n.made ∷ [])) later) final e in
    let d = then_ok (received_if_alike asked place r.after a.0)
    (λ n. bundles_from asked (suc at) (stepped n.after (r.made ++ n.made ∷ [])) later) final a.1.1 in
    let is = alike_is asked place r.after a.0 d.0 d.1.0 in
    record {
      ops = a.0;
      set = (read_set bytes a.0 fits (judged_is place bytes a.0 a.1.0)).0.set;
      read = a.1.0;
      agree = agree_from_no_clash r.after.held a.0 is.0;
      counts = r.made ++ d.0.made ∷ [];
      rest = ap (λ (x : State). bundles_from asked (suc at) (stepped x (r.made ++ d.0.made ∷ [])) later) is.1 ∙ d.1.1;
    }

-- a project after bundles came in: it has all that it had, under its name
pub record Grown (before after : State) : Type 0 where
  pub set : IsOpSet after.held
  pub name : after.name ≡ before.name
  pub all : HasAll after.held before.held

pub grown : (asked : Bool) (at : ℕ) (r : Counted) (bundles : List (List ℕ)) (final : Counted) → IsOpSet r.after.held
    → AllByRecursion AreBytes bundles → bundles_from asked at r bundles ≡ Ok final → Grown r.after final.after
grown asked at r [] final set fits e =
    subst (λ (x : Counted). Grown r.after x.after) (ok_is r final e)
    (record { set = set; name = refl; all = all_of_itself r.after.held set.rising })
grown asked at r (bytes ∷ later) final set fits e =
    let g = got asked at r bytes later final fits.0 e in
    let both = IsOpSet-join r.after.held g.ops set g.set in
    let more = grown asked (suc at) (stepped (with_ops r.after g.ops) g.counts) later final both fits.1 g.rest in
    record {
      set = more.set;
      name = more.name;
      all = all_through final.after.held (join r.after.held g.ops) r.after.held more.set.rising both.rising set.rising more.all
          (all_of_left r.after.held g.ops set.rising g.set.rising g.agree);
    }

-- a project with a set
abbrev pub beside : State → List Operation → State
beside s x = record { name = s.name; held = join s.held x }

-- bundles come in again, into the project with a part of what is made of them
pub come_over : (s x : List Operation) → rises s ≡ true → IsPart s x → (asked : Bool) (at : ℕ) (r : Counted) (made : List ℕ)
    (bundles : List (List ℕ)) (final : Counted) → IsOpSet r.after.held → AllByRecursion AreBytes bundles → HasAll s final.after.held
    → bundles_from asked at r bundles ≡ Ok final
    → (counts : List ℕ) × (bundles_from true at (stepped (beside r.after x) made) bundles ≡ Ok (stepped (beside final.after x) counts))
come_over s x hs part asked at r made [] final set fits all e =
    (made, ap (λ (f : Counted). Ok (stepped (beside f.after x) made)) (ok_is r final e))
come_over s x hs part asked at r made (bytes ∷ later) final set fits all e =
    let place : Place = places.Bundle at in
    let g = got asked at r bytes later final fits.0 e in
    let both = IsOpSet-join r.after.held g.ops set g.set in
    let rest = grown asked (suc at) (stepped (with_ops r.after g.ops) g.counts) later final both fits.1 g.rest in
    let has = all_through s final.after.held (join r.after.held g.ops) hs rest.set.rising both.rising all rest.all in
    let count : ℕ = length (lacked (join r.after.held x) g.ops) in
    let received : received_if_alike true place (beside r.after x) g.ops ≡ Ok (stepped (beside (with_ops r.after g.ops) x) count) =
    ap (received_or place (beside r.after x) g.ops)
    (no_clash (join r.after.held x) g.ops g.set.rising
    (over_agrees s r.after.held g.ops x hs set.rising g.set.rising g.agree has part))
    ∙ (λ i. Ok (stepped (record {
      name = r.after.name;
      held = over_is s r.after.held g.ops x hs set.rising g.set.rising g.agree has part i;
    }) count)) in
    let more = come_over s x hs part asked (suc at) (stepped (with_ops r.after g.ops) g.counts) (made ++ count ∷ []) later final both
    fits.1 all g.rest in (
      more.0,
      ap (λ t. t >>= λ ops. received_if_alike true place (beside r.after x) ops >>= λ n.
          bundles_from true (suc at) (stepped n.after (made ++ n.made ∷ [])) later) g.read
          ∙ ap (λ t. t >>= λ n. bundles_from true (suc at) (stepped n.after (made ++ n.made ∷ [])) later) received ∙ more.1,
    )
