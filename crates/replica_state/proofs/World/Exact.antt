-- Events without thinnings.
use Rattle.std.proofs.Common.{◌≡◌, ℕ, Bool, true, false, cond, List, [], ◌∷◌, refl, sym, ap, subst, ◌∙◌, Some}
use Rattle.std.specs.List.{list_all}
use Rattle.std.proofs.lemmas.Bool.{and_parts, false≢true}
use Rattle.op_core.specs.Ops.{Operation, bare}
use Rattle.op_core.specs.Sets.{get}
use Rattle.op_core.specs.Thinned.{is_legal, all_full, of_ids}
use Rattle.replica_state.specs.World.{World, Event, Edits, EditsOver, Imports, Thins, Summarizes, Bundles}
use Rattle.replica_state.specs.World.{Receives, ReceivesCut, FindsNoMemory, world, happens, with_bundle}
use Rattle.replica_state.specs.World.Twin.{keeps_texts, is_twins, twin}
use Rattle.replica_state.specs.World.Schedules.{Holds, At, IsMade}
use Rattle.replica_state.specs.World.Invisible.{IsExact}
use Rattle.replica_state.proofs.World.Exchanges.{same_twins}
use Rattle.replica_state.proofs.World.Moments.{the_twin, whole, of_bare, stands, one_in_twin}
use Rattle.replica_state.proofs.World.Runs.{made_held}

-- what the twin does of such an event, the event does
one_event : (w : World) (t : List Event) (e : Event) → keeps_texts e ≡ true → world t ≡ w →
    world (cond (is_twins w e) (e ∷ t) t) ≡ happens w e
one_event w t (Edits name g text) k h = ap (λ v. happens v (Edits name g text)) h
one_event w t (EditsOver name g text given) k h = ap (λ v. happens v (EditsOver name g text given)) h
one_event w t (Imports name file) k h = ap (λ v. happens v (Imports name file)) h
one_event w t (Thins name) k h = absurd (false≢true k)
one_event w t (Summarizes name) k h = ap (λ v. happens v (Summarizes name)) h
one_event w t (Bundles name kept) k h = by (is_legal (of_ids kept (w.held name))) refl
  where
    by : (b : Bool) → is_legal (of_ids kept (w.held name)) ≡ b
        → world (cond b (Bundles name kept ∷ t) t) ≡ with_bundle w (of_ids kept (w.held name)) b
    by true e = ap (λ v. happens v (Bundles name kept)) h ∙ ap (λ b. with_bundle w (of_ids kept (w.held name)) b) e
    by false e = h
one_event w t (Receives name n) k h = ap (λ v. happens v (Receives name n)) h
one_event w t (ReceivesCut name n length) k h = h
one_event w t (FindsNoMemory name) k h = h

twin_is : (events : List Event) → list_all keeps_texts events ≡ true → world (twin events) ≡ world events
twin_is [] h = refl
twin_is (e ∷ past) h =
    let p = and_parts (keeps_texts e) (list_all keeps_texts past) h in
    one_event (world past) (twin past) e p.0 (twin_is past p.1)

pub exact : (events : List Event) → list_all keeps_texts events ≡ true → IsExact events
exact events h =
    let is = twin_is events h in
    record {
      twin_is = is;
      full = λ name. subst (λ (w : World). all_full (w.held name) ≡ true) is (stands events name).whole_full;
      holds = λ name o m g. subst (λ (w : World). get (w.held name) o.id ≡ Some o) is (held name o m g);
      same = λ a b e. ap (λ (w : World). w.held a) (sym is) ∙ same_twins events a b e ∙ ap (λ (w : World). w.held b) is;
    }
  where
    held : (name : List ℕ) (o : Operation) → IsMade events o → Holds ((world events).held name) o →
        get ((whole events).held name) o.id ≡ Some o
    held name o m g =
        let x = of_bare ((world events).held name) ((whole events).held name) (stands events name) o.id (bare o) g in
        x.here ∙ ap Some (one_in_twin events (At name) (At o.id.name) o.id x.op o x.here (made_held the_twin events o m))

pub twin_keeps : (events : List Event) → list_all keeps_texts (twin events) ≡ true
twin_keeps [] = refl
twin_keeps (e ∷ past) = by (world past) (twin past) e (twin_keeps past)
  where
    by : (w : World) (t : List Event) (e : Event) → list_all keeps_texts t ≡ true →
        list_all keeps_texts (cond (is_twins w e) (e ∷ t) t) ≡ true
    by w t (Edits name g text) h = h
    by w t (EditsOver name g text given) h = h
    by w t (Imports name file) h = h
    by w t (Thins name) h = h
    by w t (Summarizes name) h = h
    by w t (Bundles name kept) h =
        elim (is_legal (of_ids kept (w.held name))) as (λ b. list_all keeps_texts (cond b (Bundles name kept ∷ t) t) ≡ true) [
          | true ↦ h
          | false ↦ h
        ]
    by w t (Receives name n) h = h
    by w t (ReceivesCut name n length) h = h
    by w t (FindsNoMemory name) h = h
