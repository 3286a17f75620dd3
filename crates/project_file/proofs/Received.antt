-- The file of a replica that took a bundle in, or that thinned, and what is counted.
use Rattle.std.proofs.Common.{◌≡◌, ℕ, ◌+◌, true, List, ◌∷◌, ◌++◌, length, Option, None, Result, Ok, Err, Vec, IfOk, IsTrue, sym, ap, subst, ◌∙◌, append_assoc, arith}
use Rattle.std.proofs.lemmas.List.{length-map}
use Rattle.op_core.specs.Ids.{Id}
use Rattle.op_core.specs.Ops.{Operation}
use Rattle.op_core.specs.Sets.{IsOpSet, rises, join, clash}
use Rattle.op_core.specs.Thinned.{is_legal, bare_where, is_thinned_in}
use Rattle.op_core.proofs.Sets.Legal.{thin_legal}
use Rattle.op_core.proofs.ThinnedSets.Left.{IsOpSet-thin}
use Rattle.op_core.proofs.Sets.Fresh.{fresh, fresh_rises, fresh_apart, length_join}
use Rattle.op_core.proofs.ThinnedSets.TwoSteps.{two_steps}
use Rattle.bundle_codec.specs.declared.fault.WholeFault.{WholeFault}
use Rattle.bundle_codec.specs.Joining.{RefusesUnion, join_fault, out_of_memory}
use Rattle.bundle_codec.specs.Spelling.{bundle}
use Rattle.replica_state.specs.Receives.{lacked}
use Rattle.replica_state.specs.States.{State, IsState}
use Rattle.replica_state.specs.Steps.{with_ops, without_replaced_texts}
use Rattle.project_file.specs.Projects.{magic, project, project_at}
use Rattle.project_file.proofs.Files.{read_again}

-- a union has as many operations as are held and as are new
pub union_length : (held given : List Operation) → rises held ≡ true → rises given ≡ true → clash held given ≡ None
    → length (join held given) ≡ length held + length (lacked held given)
union_length held given hh hg none =
    ap length (two_steps held given hh hg none).joins
    ∙ length-map (join held (fresh held given)) (bare_where (is_thinned_in given))
    ∙ length_join held (fresh held given) hh (fresh_rises held given hg) (fresh_apart held given)

-- what a project file begins with, and the bundle after it
pub fronted : (s : State) → (magic ++ (length s.name ∷ s.name)) ++ bundle s.held ≡ project s
unfolding project
fronted s = append_assoc magic (length s.name ∷ s.name) (bundle s.held)

-- a replica that took in what does not clash is one
pub state_after : (s : State) (given : List Operation) → IsState s → IsOpSet (join s.held given) → IsTrue (is_legal (join s.held given))
    → IsState (with_ops s given)
state_after s given h set legal = record { name = h.name; set = set; legal = legal }

-- out of memory is a refusal of any two
pub refuses_memory : (found : Option Id) (fault : WholeFault) → fault ≡ out_of_memory → RefusesUnion found (join_fault fault)
refuses_memory found fault e = subst (λ (f : WholeFault). RefusesUnion found (join_fault f)) (sym e) tt

-- a replica that thinned is one
pub thinned_state : (s : State) → IsState s → IsState (without_replaced_texts s)
thinned_state s h = record { name = h.name; set = IsOpSet-thin s.held h.set; legal = thin_legal s.held h.legal }

-- a file that was made with a count is read as the replica whose it is
pub counted_read_again : {A E : Type 0} (made : Result (Vec ℕ A × ℕ) E) (s : State) → IsState s
    → IfOk made (λ x. x.0.items ≡ project s) → IfOk made (λ x. project_at x.0.items ≡ Ok s)
counted_read_again (Ok x) s v e = read_again x.0.items s (omega (arith, x.0.ok.0, x.0.small)) v e
counted_read_again (Err fault) s v e = tt
