-- What a set is refused for that is gathered after others.
use Rattle.std.proofs.Common.{◌≡◌, ◌≢◌, ◌<◌, ℕ, zero, suc, inl, inr, List, [], Some, None, arith, refl, sym, ap, subst, ◌∙◌}
use Rattle.op_core.specs.Ops.{Operation}
use Rattle.op_core.specs.Sets.{clash}
use Rattle.op_core.proofs.Sets.SideBySide.{clash_none}
use Rattle.replica_state.specs.Receives.{lacked, before_clash, RefusesReceive}
use Rattle.replica_state.specs.declared.fault.ReceiveFault.{ReceiveFault}
use Rattle.replica_state.specs.declared.fault.ReceiveFault.TheVariants.{Memory, Clash}
use Rattle.usfm_cli.specs.Streams.{TakesRoom}
use Rattle.usfm_cli.specs.Loops.Gathered.{held_in, AreSoMany, RefusesNext}
use Rattle.usfm_cli.specs.declared.gathered.Gathered.{Gathered}
use Rattle.usfm_cli.specs.declared.gathered.Gathered.TheVariants.{One, Many}

-- no operations are not refused where none are held
pub none_refused : (held set : List Operation) (fault : ReceiveFault) → held ≡ [] → set ≡ [] → RefusesReceive (clash held set) fault
    → (lacked held (before_clash held set) ≡ [] → fault ≢ Memory) → ⊥
none_refused held set Memory h s r known = known (ap (λ (x : List Operation). lacked held (before_clash held x)) s) refl
none_refused held set (Clash id) h s r known =
    let e : None ≡ Some id = sym (clash_none set) ∙ ap (λ (x : List Operation). clash x set) (sym h) ∙ r in cc e

-- a second set may take memory where the first has an operation
pub second_takes : (before : ℕ) (gathered : Gathered) (first set : List Operation) → gathered ≡ One first → AreSoMany before gathered
    → (first ≡ [] → ⊥) → TakesRoom before (held_in gathered) set
second_takes before gathered first set is many some =
    subst (λ (g : Gathered). TakesRoom before (held_in g) set) (sym is)
    (by before (subst (λ (g : Gathered). AreSoMany before g) is many))
  where
    by : (n : ℕ) → n ≡ 1 → TakesRoom n first set
    by zero e = cc e
    by (suc zero) e = inl some
    by (suc (suc n)) e = cc e

-- one bundle or more were read
pub one_before : (before : ℕ) (gathered : Gathered) (first : List Operation) → gathered ≡ One first → AreSoMany before gathered
    → 0 < before
one_before before gathered first is many =
    let one : before ≡ 1 = subst (λ (g : Gathered). AreSoMany before g) is many in omega (arith, one)

pub more_before : (before : ℕ) (gathered : Gathered) (all : List Operation) → gathered ≡ Many all → AreSoMany before gathered
    → 1 < before
more_before before gathered all is many = subst (λ (g : Gathered). AreSoMany before g) is many

-- a set after others is refused for what a gathering refuses it for
refused_next : (before : ℕ) (held set : List Operation) (fault : ReceiveFault) → 0 < before → RefusesReceive (clash held set) fault
    → (lacked held (before_clash held set) ≡ [] → fault ≢ Memory) → RefusesNext before held set fault
refused_next zero held set Memory some r known = absurd (omega (arith, some))
refused_next (suc zero) held set Memory some r known = inr (λ none. known none refl)
refused_next (suc (suc more)) held set Memory some r known = λ none. known none refl
refused_next before held set (Clash id) some r known = r

pub refused_after : (before : ℕ) (gathered : Gathered) (held set : List Operation) (fault : ReceiveFault) → held ≡ held_in gathered
    → 0 < before → RefusesReceive (clash held set) fault → (lacked held (before_clash held set) ≡ [] → fault ≢ Memory)
    → RefusesNext before (held_in gathered) set fault
refused_after before gathered held set fault is some r known =
    subst (λ (ops : List Operation). RefusesNext before ops set fault) is (refused_next before held set fault some r known)
