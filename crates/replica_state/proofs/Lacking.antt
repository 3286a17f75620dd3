-- The walk that copies the operations of a bundle which a set lacks.
use Rattle.std.proofs.Common.{◌≡◌, ◌≢◌, ℕ, Bool, true, false, not, List, [], ◌∷◌, ◌++◌, length, Option, Some, None, Ok, refl, sym, ap, subst, ◌∙◌}
use Rattle.std.specs.List.{find}
use Rattle.std.specs.Option.{option_map}
use Rattle.std.proofs.lemmas.Bool.{cond-true, cond-false}
use Rattle.op_core.specs.Ops.{Operation, agree}
use Rattle.op_core.specs.Sets.{IsOpSet, get, differs, clash, join, AreHeld}
use Rattle.op_core.specs.Thinned.{all_full, is_legal, thin_where, is_thinned_in, ArePast}
use Rattle.op_core.proofs.Sets.Fresh.{none_new, nothing_fresh, held_without_clash}
use Rattle.op_core.proofs.ThinnedSets.TwoSteps.{two_steps, past_between}
use Rattle.replica_state.specs.declared.fault.ReceiveFault.{ReceiveFault}
use Rattle.replica_state.specs.declared.fault.ReceiveFault.TheVariants.{Memory, Clash}
use Rattle.replica_state.specs.Receives.{lacked, before_clash, RefusesReceive}
use Rattle.replica_state.specs.States.{State, IsState}
use Rattle.replica_state.specs.Steps.{step, received, with_ops, Receive, Received}
use Rattle.replica_state.proofs.Leaving.{none_left}

-- what is copied so far, and the walk over what is left of the bundle
pub record IsCopied (held all new walk : List Operation) : Type 0 where
  pub so_far : new ++ lacked held walk ≡ lacked held all
  pub same_clash : clash held walk ≡ clash held all
  pub before : new ++ lacked held (before_clash held walk) ≡ lacked held (before_clash held all)

-- the walk comes to an operation that does not agree with the held one
pub clashes : (held all new walk rest : List Operation) (o p : Operation) → IsCopied held all new walk → walk ≡ o ∷ rest
    → get held o.id ≡ Some p → agree p o ≡ false → clash held all ≡ Some o.id
clashes held all new walk rest o p k next g d =
    let bad : differs (get held o.id) o ≡ true = ap (λ (r : Option Operation). differs r o) g ∙ ap not d in
    sym k.same_clash ∙ ap (clash held) next
    ∙ ap (option_map (λ (q : Operation). q.id))
    (cond-true (differs (get held o.id) o) (Some o) (find (λ (q : Operation). differs (get held q.id) q) rest) bad)

-- where nothing clashes, all of a bundle comes before a clash
pub all_before : (held bundle : List Operation) → clash held bundle ≡ None → before_clash held bundle ≡ bundle
all_before held [] e = refl
all_before held (o ∷ rest) e =
    by (differs (get held o.id) o) refl (λ later. ap (λ (ops : List Operation). o ∷ ops) (all_before held rest later))
  where
    found : Option Operation
    found = find (λ (q : Operation). differs (get held q.id) q) rest

    by : (b : Bool) → differs (get held o.id) o ≡ b → (clash held rest ≡ None → o ∷ before_clash held rest ≡ o ∷ rest)
        → before_clash held (o ∷ rest) ≡ o ∷ rest
    by true d whole =
        cc (sym e ∙ ap (option_map (λ (q : Operation). q.id)) (cond-true (differs (get held o.id) o) (Some o) found d))
    by false d whole =
        cond-false (differs (get held o.id) o) [] (o ∷ before_clash held rest) d
        ∙ whole (sym (ap (option_map (λ (q : Operation). q.id)) (cond-false (differs (get held o.id) o) (Some o) found d)) ∙ e)

-- ---- what is lacked is joined, and then the texts are left out that the bundle has thinned

module _ (s : State) (bundle new : List Operation) (h : IsState s) (b : IsOpSet bundle) (none : clash s.held bundle ≡ None)
    (e : new ≡ lacked s.held bundle) where
  pub lacked_legal : is_legal bundle ≡ true → is_legal (join s.held new) ≡ true
  lacked_legal l =
      subst (λ (ops : List Operation). is_legal (join s.held ops) ≡ true) (sym e)
      ((two_steps s.held bundle h.set.rising b.rising none).legal h.legal l)

  -- in between, what is lacked is joined, and no text is left out yet
  module _ (between : State) (is : between ≡ with_ops s new) where
    pub lacked_past : is_legal bundle ≡ true → ArePast (is_thinned_in bundle) between.held
    lacked_past l =
        subst (λ (ops : List Operation). ArePast (is_thinned_in bundle) ops)
        (sym (ap (λ (t : State). t.held) is ∙ ap (join s.held) e))
        (past_between s.held bundle h.set.rising b.rising h.legal l none)

    pub all_joined : (now : List Operation) → now ≡ thin_where (is_thinned_in bundle) between.held
        → record { name = between.name; held = now } ≡ with_ops s bundle
    all_joined now left =
        let whole : now ≡ join s.held bundle =
        left ∙ ap (λ (t : State). thin_where (is_thinned_in bundle) t.held) is
        ∙ ap (λ (ops : List Operation). thin_where (is_thinned_in bundle) (join s.held ops)) e
        ∙ sym (two_steps s.held bundle h.set.rising b.rising none).joins
        in
        λ i. record { name = (is i).name; held = whole i }

-- what is answered where nothing clashes
pub answered : (s after : State) (bundle : List Operation) (n : ℕ) → after ≡ with_ops s bundle → clash s.held bundle ≡ None
    → n ≡ length (lacked s.held bundle) → step s (Receive bundle) ≡ record { after = after; reply = Received (Ok n) }
answered s after bundle n e none m = ap (received s bundle) none ∙ (λ i. record { after = sym e i; reply = Received (Ok (sym m i)) })

-- ---- a bundle whose operations are all held, alike or thinned on either side

pub nothing_lacked : (held bundle : List Operation) → AreHeld held bundle → lacked held bundle ≡ []
nothing_lacked held bundle h = nothing_fresh held bundle (none_new held bundle h)

pub not_refused : (held bundle : List Operation) (fault : ReceiveFault) → RefusesReceive (clash held bundle) fault
    → (lacked held bundle ≡ [] → fault ≢ Memory) → AreHeld held bundle → ⊥
not_refused held bundle Memory r some h = some (nothing_lacked held bundle h) refl
not_refused held bundle (Clash id) r some h = never (sym (held_without_clash held bundle h) ∙ r)
  where
    never : None ≡ Some id → ⊥
    never e = cc e

-- where nothing is lacked, and none of the bundle is thinned, a receiving changes nothing
pub nothing_received : (s : State) (bundle : List Operation) → IsState s → IsOpSet bundle → clash s.held bundle ≡ None
    → lacked s.held bundle ≡ [] → all_full bundle ≡ true → with_ops s bundle ≡ s
nothing_received s bundle h b none e full = λ i. record { name = s.name; held = whole i }
  where
    whole : join s.held bundle ≡ s.held
    whole =
        (two_steps s.held bundle h.set.rising b.rising none).joins
        ∙ ap (λ (ops : List Operation). thin_where (is_thinned_in bundle) (join s.held ops)) e
        ∙ sym (none_left s.held bundle full)
