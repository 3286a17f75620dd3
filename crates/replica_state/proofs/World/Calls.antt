-- The calls of replicas as events of a world.
use Rattle.std.proofs.Common.{◌≡◌, ℕ, Bool, true, false, List, ◌∷◌}
use Rattle.std.proofs.Common.{None, Result, Ok, Err, sym, ap, ◌∙◌, IfOk, IfErr}
use Rattle.usfm_ref.specs.Books.{same_bytes}
use Rattle.op_core.specs.Ids.{Id}
use Rattle.op_core.specs.Ops.{Operation}
use Rattle.op_core.specs.Sets.{rises, clash}
use Rattle.op_core.specs.Lists.{is_held}
use Rattle.op_core.specs.Thinned.{is_legal, is_sent, of_ids}
use Rattle.op_core.proofs.Sets.Legal.{delta_legal}
use Rattle.bundle_codec.specs.Spelling.{bundle}
use Rattle.bundle_codec.specs.Summaries.{NameRanges, covers, outside}
use Rattle.replica_state.specs.declared.fault.ReceiveFault.{ReceiveFault}
use Rattle.replica_state.specs.declared.fault.ReceiveFault.TheVariants.{Memory, Clash}
use Rattle.replica_state.specs.Receives.{RefusesReceive}
use Rattle.replica_state.specs.States.{State}
use Rattle.replica_state.specs.World.{World, Event, Bundles, happens, replica_name, with_bundle}
use Rattle.replica_state.specs.World.Calls.{IsIn, IsSending, NeverClashes}
use Rattle.replica_state.proofs.World.Flights.{apart, not_there}
use Rattle.replica_state.proofs.World.Held.{of_its_ids}
use Rattle.replica_state.proofs.World.Twins.{no_clash_here}

-- a legal bundle of some ids is made
pub makes : (s : State) (kept : Id → Bool) (ops : List Operation) → of_ids kept s.held ≡ ops → is_legal ops ≡ true → (w : World) → IsIn w s
    → (happens w (Bundles s.name kept)).bundles ≡ ops ∷ w.bundles
makes s kept ops e legal w is =
    let here : of_ids kept (w.held s.name) ≡ ops = ap (λ (x : State). of_ids kept x.held) is ∙ e in
    ap (λ b. (with_bundle w (of_ids kept (w.held s.name)) b).bundles) (ap is_legal here ∙ legal) ∙ ap (λ xs. xs ∷ w.bundles) here

-- a replica stays what it is through an event at another one
pub others_stay : (w : World) (e : Event) (s : State) → same_bytes s.name (replica_name e) ≡ false → IsIn w s → IsIn (happens w e) s
others_stay w e s h is = ap (of_name s.name) (apart w s.name e (not_there s.name e h)) ∙ is
  where
    of_name : List ℕ → List Operation → State
    of_name name ops = record { name = name; held = ops }

-- the ids of what a summary lacks give it
pub lacking_ids : (ops : List Operation) (s : List NameRanges) → rises ops ≡ true → of_ids (is_held (outside s ops)) ops ≡ outside s ops
lacking_ids ops s h = of_its_ids (is_sent ops (covers s)) ops h

-- what a summary lacks is legal
pub lacking_legal : (ops : List Operation) (s : List NameRanges) → rises ops ≡ true → is_legal ops ≡ true → is_legal (outside s ops) ≡ true
lacking_legal ops s h legal = delta_legal ops (covers s) h legal

-- ---- what is said of an answer

pub of_answer : {A E : Type 0} (P Q : A → Type 0) → ((x : A) → P x → Q x) → (r : Result A E) → IfOk r P → IfOk r Q
of_answer P Q on (Ok x) h = on x h
of_answer P Q on (Err fault) h = h

-- what is sent of a replica
pub sends : (s : State) (kept : Id → Bool) (ops : List Operation) (bytes : List ℕ) → of_ids kept s.held ≡ ops →
    is_legal ops ≡ true → bytes ≡ bundle ops
    → IsSending (Bundles s.name kept) s ops bytes
sends s kept ops bytes e legal spelled = record { makes = makes s kept ops e legal; spelled = spelled }

-- ---- what is received

pub never_clashes : (bundle : List Operation) (s : State) (answer : Result ℕ ReceiveFault)
    → IfErr answer (RefusesReceive (clash s.held bundle)) → NeverClashes bundle s answer
never_clashes bundle s (Ok count) h events k id is e c = cc c
never_clashes bundle s (Err Memory) h events k id is e c = cc c
never_clashes bundle s (Err (Clash other)) h events k id is e c =
    let none : clash s.held bundle ≡ None =
    ap (λ (x : State). clash x.held bundle) (sym is) ∙ no_clash_here events s.name k bundle e in
    cc (sym none ∙ h)
