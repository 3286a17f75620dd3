-- Project files: what is spelled is read, and what is read is spelled so.
use Rattle.std.proofs.Common.{◌≡◌, ℕ, ◌<◌, ◌^◌, List, ◌∷◌, ◌++◌, length, Option, Some, None, Result, Ok, Err, Vec, IfOk, IsTrue, refl, sym, ap, subst, ◌∙◌, arith}
use Rattle.std.proofs.lemmas.List.{length-append}
use Rattle.op_core.specs.Ids.{Id}
use Rattle.op_core.specs.Ops.{Operation}
use Rattle.op_core.specs.Sets.{IsOpSet, clash}
use Rattle.op_core.specs.Thinned.{is_legal}
use Rattle.op_core.proofs.Sets.Fronts.{join_none}
use Rattle.op_core.proofs.Sets.SideBySide.{clash_none}
use Rattle.bundle_codec.specs.declared.fault.WholeFault.{WholeFault}
use Rattle.bundle_codec.specs.Spelling.{bundle}
use Rattle.bundle_codec.specs.Reading.{AreBytes}
use Rattle.bundle_codec.specs.Joining.{whole_at}
use Rattle.bundle_codec.proofs.Wholes.{whole_reads, whole_is}
use Rattle.replica_state.specs.States.{State, IsState, begun}
use Rattle.replica_state.specs.Steps.{with_ops}
use Rattle.project_file.specs.declared.fault.LoadFault.{LoadFault}
use Rattle.project_file.specs.Projects.{magic, project, front_at, state_of, after_front, project_at}
use Rattle.project_file.proofs.Fronts.{IsFront, front_again, front_is, bytes_after}

-- ---- what is spelled is read

-- in bytes that a slice can have
short_bundle : (s : State) → length (project s) < 2 ^ 64 → length (bundle s.held) < 2 ^ 64
unfolding project
short_bundle s h = omega (arith, length-append magic (length s.name ∷ (s.name ++ bundle s.held)), length-append s.name (bundle s.held))

-- the file of a replica is read as that replica
pub project_again : (s : State) → IsState s → length (project s) < 2 ^ 64 → project_at (project s) ≡ Ok s
unfolding project
project_again s v short =
    ap after_front (front_again s.name (bundle s.held) v.name)
    ∙ ap (state_of s.name) (whole_reads (bundle s.held)
    (record { ops = s.held; set = v.set; legal = v.legal; spelled = refl; short = short_bundle s short }))

-- bytes that are the file of a replica are read as it
pub read_again : (bytes : List ℕ) (s : State) → length bytes < 2 ^ 64 → IsState s → bytes ≡ project s → project_at bytes ≡ Ok s
read_again bytes s short v e = ap project_at e ∙ project_again s v (omega (arith, ap length e))

-- so for a file that was made, unless none was
pub file_read_again : {A E : Type 0} (made : Result (Vec ℕ A) E) (s : State) → IsState s → IfOk made (λ file. file.items ≡ project s)
    → IfOk made (λ file. project_at file.items ≡ Ok s)
file_read_again (Ok file) s v e = read_again file.items s (omega (arith, file.ok.0, file.small)) v e
file_read_again (Err fault) s v e = tt

-- a project file is refused with no fault
pub not_refused : (bytes : List ℕ) (fault : LoadFault) → length bytes < 2 ^ 64 → project_at bytes ≡ Err fault → (s : State) → IsState s
    → bytes ≡ project s → ⊥
not_refused bytes fault short f s v e = let read = read_again bytes s short v e in absurd cc

-- bytes that a slice can have are the project file of at most one replica
pub same_replica : (bytes : List ℕ) (s t : State) → length bytes < 2 ^ 64 → project_at bytes ≡ Ok s → IsState t → bytes ≡ project t → s ≡ t
same_replica bytes s t short read v e = let same : Ok s ≡ Ok t = sym read ∙ read_again bytes t short v e in cc same

-- two replicas with one file are one
pub one_replica : (s t : State) → IsState s → IsState t → length (project s) < 2 ^ 64 → project s ≡ project t → s ≡ t
one_replica s t v w short e = same_replica (project s) s t short (project_again s v short) w e

-- ---- what is read is spelled so

-- the bytes are the project file of a replica
pub record IsFileOf (bytes : List ℕ) (s : State) : Type 0 where
  pub valid : IsState s
  pub spelled : bytes ≡ project s

IsFileOf-from_parts : (bytes name rest : List ℕ) (held : List Operation) → IsFront bytes name rest → IsOpSet held → IsTrue (is_legal held)
    → rest ≡ bundle held
    → IsFileOf bytes (record { name = name; held = held })
unfolding project
IsFileOf-from_parts bytes name rest held f set legal e = record {
  valid = record { name = f.valid; set = set; legal = legal };
  spelled = f.spelled ∙ ap (λ (w : List ℕ). magic ++ (length name ∷ (name ++ w))) e;
}

-- bytes that are read as a project are the file of its replica
pub project_is : (bytes : List ℕ) (s : State) → AreBytes bytes → project_at bytes ≡ Ok s → IsFileOf bytes s
project_is bytes s fits e = by_front (front_at bytes) refl e
  where
    by_whole : (name rest : List ℕ) → IsFront bytes name rest → (r : Result (List Operation) WholeFault) → whole_at rest ≡ r
        → state_of name r ≡ Ok s → IsFileOf bytes s
    by_whole name rest f (Err fault) w e = cc e
    by_whole name rest f (Ok held) w e =
        let b = whole_is rest held (bytes_after bytes name rest fits f) w in
        let same : ◌≡◌ {A = State} (record { name = name; held = held }) s = cc e in
        subst (IsFileOf bytes) same (IsFileOf-from_parts bytes name rest held f b.0 b.1.0 b.1.1)

    by_front : (front : Option (List ℕ × List ℕ)) → front_at bytes ≡ front → after_front front ≡ Ok s → IsFileOf bytes s
    by_front None f e = cc e
    by_front (Some front) f e = by_whole front.0 front.1 (front_is bytes front.0 front.1 f) (whole_at front.1) refl e

-- ---- a front, and the bundle after it

module _ (bytes name rest : List ℕ) (held : List Operation) (front : front_at bytes ≡ Some (name, rest)) where
  pub read_is : whole_at rest ≡ Ok held → project_at bytes ≡ Ok (record { name = name; held = held })
  read_is whole = ap after_front front ∙ ap (state_of name) whole

  pub is_file : IsOpSet held → IsTrue (is_legal held) → rest ≡ bundle held → IsFileOf bytes (record { name = name; held = held })
  is_file set legal e = IsFileOf-from_parts bytes name rest held (front_is bytes name rest front) set legal e

-- bytes are read as one replica
pub read_once : (bytes : List ℕ) (s t : State) → project_at bytes ≡ Ok s → project_at bytes ≡ Ok t → s ≡ t
read_once bytes s t e f = let same : Ok s ≡ Ok t = sym e ∙ f in cc same

-- ---- a replica that held nothing and received a bundle

-- a replica that holds nothing clashes with no bundle
pub no_clash : (name : List ℕ) (r : State) (held : List Operation) (id : Id) → r ≡ begun name → clash r.held held ≡ Some id → ⊥
no_clash name r held id e f = let none : clash r.held held ≡ None = ap (λ (s : State). clash s.held held) e ∙ clash_none held in absurd cc

-- it then holds the bundle's set
pub held_is : (name : List ℕ) (held : List Operation) (s r : State) → IsOpSet held → s ≡ with_ops r held → r ≡ begun name
    → s ≡ record { name = name; held = held }
held_is name held s r set e f =
    e ∙ ap (λ (t : State). with_ops t held) f ∙ (λ i. record { name = name; held = join_none held set.rising i })
