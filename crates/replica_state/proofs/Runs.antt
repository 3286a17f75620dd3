-- Runs of receives, as sets that are joined one after another.
use Rattle.std.proofs.Common.{◌≡◌, ℕ, List, [], ◌∷◌, map, Option, Some, None, Ok, refl, sym, ap, ◌∙◌}
use Rattle.std.specs.List.{AllByRecursion}
use Rattle.std.proofs.lemmas.Bool.{false≢true}
use Rattle.op_core.specs.Ids.{Id}
use Rattle.op_core.specs.Ops.{Operation}
use Rattle.op_core.specs.Sets.{IsOpSet, clash, join}
use Rattle.op_core.specs.Laws.{Joining, joined_or_clash, with_both, union_by, SameTogether}
use Rattle.op_core.specs.Laws.Joining.{Part, Joined}
use Rattle.op_core.proofs.Sets.Together.{joined_in, same_from_none}
use Rattle.replica_state.specs.States.{State, begun}
use Rattle.replica_state.specs.Steps.{received, step, Receive}
use Rattle.replica_state.specs.Runs.{after_all, IsTaken, NoneRefused}

-- a bundle that is not refused has no clash
pub taken : (s : State) (bundle : List Operation) → IsTaken (step s (Receive bundle)).reply → clash s.held bundle ≡ None
taken s bundle t = by (clash s.held bundle) refl t
  where
    by : (c : Option Id) → clash s.held bundle ≡ c → IsTaken (received s bundle c).reply → clash s.held bundle ≡ None
    by None e t = e
    by (Some id) e t = absurd (false≢true t)

-- what a run of receives holds is the union of the sets
run_joined : (way : Joining) (s : State) (sets : List (List Operation)) → union_by way ≡ Ok s.held → NoneRefused s (map Receive sets)
    → union_by (joined_in way sets) ≡ Ok (after_all s (map Receive sets)).held
run_joined way s [] w t = w
run_joined way s (set ∷ rest) w t =
    let none = taken s set t.0 in
    let more : union_by (Joined way (Part set)) ≡ Ok (join s.held set) =
    ap (λ r. with_both r (Ok set) (λ a b. joined_or_clash a b (clash a b))) w ∙ ap (joined_or_clash s.held set) none in
    let next : join s.held set ≡ (step s (Receive set)).after.held = sym (ap (λ (c : Option Id). (received s set c).after.held) none) in
    run_joined (Joined way (Part set)) (step s (Receive set)).after rest (more ∙ ap Ok next) t.1

-- replicas that received the same operations hold the same
pub same_held : (name other : List ℕ) (sets others : List (List Operation)) → AllByRecursion IsOpSet sets
    → AllByRecursion IsOpSet others
    → SameTogether sets others → NoneRefused (begun name) (map Receive sets) → NoneRefused (begun other) (map Receive others)
    → (after_all (begun name) (map Receive sets)).held ≡ (after_all (begun other) (map Receive others)).held
same_held name other sets others s t same ha hb =
    same_from_none sets others _ _ s t same (run_joined (Part []) (begun name) sets refl ha)
    (run_joined (Part []) (begun other) others refl hb)
