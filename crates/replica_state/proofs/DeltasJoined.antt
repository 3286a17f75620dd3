-- Receiving a delta for one's own summary.
use Rattle.std.proofs.Common.{◌≡◌, IsTrue, Bool, true, false, not, cond, ◌||◌, List, [], ◌∷◌}
use Rattle.std.proofs.Common.{length, Option, Some, None, Ok, refl, sym, ap, ◌∙◌, filter, is_none}
use Rattle.std.specs.Option.{is_some}
use Rattle.op_core.specs.Ops.{Operation}
use Rattle.op_core.specs.Sets.{join, get}
use Rattle.op_core.specs.Thinned.{all_full, is_sent, lacks_thinned}
use Rattle.bundle_codec.specs.Summaries.{NameRanges, IsSummaryOf, covers, outside}
use Rattle.bundle_codec.proofs.Deltas.{outside_union}
use Rattle.replica_state.specs.States.{State, IsState}
use Rattle.replica_state.specs.Receives.{lacked}
use Rattle.replica_state.specs.Steps.{Receive, Received, step}
use Rattle.replica_state.proofs.Lacking.{answered}

-- what passes a test passes a weaker one before it
filter_twice : {A : Type 0} (p q : A → Bool) → ((x : A) → p x ≡ true → q x ≡ true) → (xs : List A)
    → filter p (filter q xs) ≡ filter p xs
filter_twice p q weaker [] = refl
filter_twice p q weaker (x ∷ xs) = by (q x) refl (p x) refl (filter_twice p q weaker xs)
  where
    by : (b : Bool) → q x ≡ b → (d : Bool) → p x ≡ d → filter p (filter q xs) ≡ filter p xs
        → filter p (cond b (x ∷ filter q xs) (filter q xs)) ≡ cond d (x ∷ filter p xs) (filter p xs)
    by true e d f rest = λ i. cond (f i) (x ∷ rest i) (rest i)
    by false e true f rest = cc (sym e ∙ weaker x f)
    by false e false f rest = rest

-- of the delta for a summary of what is held, as much is lacked as of the whole
pub delta_new : (own other : List Operation) (s : List NameRanges) → IsSummaryOf own s → lacked own (outside s other) ≡ lacked own other
delta_new own other s h =
    filter_twice (λ (o : Operation). is_none (get own o.id)) (is_sent other (covers s)) sent other
  where
    unknown : (x : Option Operation) (b : Bool) → is_none x ≡ true → b ≡ is_some x → not b ≡ true
    unknown None b n e = ap not e
    unknown (Some o) b n e = cc n

    sent : (o : Operation) → is_none (get own o.id) ≡ true → is_sent other (covers s) o ≡ true
    sent o n = ap (λ b. b || lacks_thinned other (covers s) o.segment) (unknown (get own o.id) (covers s o.id) n (h.exactly o.id))

-- a copy that takes in what it lacks holds the union
pub delta_joined : (own other : State) (s : List NameRanges) → IsState own → IsState other → IsTrue (all_full other.held) →
    IsSummaryOf own.held s →
    step own (Receive (outside s other.held))
    ≡ record {
      after = record { name = own.name; held = join own.held other.held };
      reply = Received (Ok (length (lacked own.held other.held)));
    }
delta_joined own other s a b full h =
    let u = outside_union other.held own.held s b.set a.set full h in
    answered own (record { name = own.name; held = join own.held other.held }) (outside s other.held) (length (lacked own.held other.held))
    (λ i. record { name = own.name; held = sym u.0 i }) u.1
    (sym (ap length (delta_new own.held other.held s h)))
