-- A moment stands for its twin's.
use Rattle.std.proofs.Common.{◌≡◌, ℕ, zero, suc, Bool, true, false, cond, List, [], ◌∷◌, refl, sym, ap, subst, ◌∙◌, Option, Some, None}
use Rattle.std.specs.Prelude.{slice_get}
use Rattle.usfm_ref.specs.Books.{same_bytes}
use Rattle.usfm_ref.proofs.Orders.{same_bytes-is}
use Rattle.op_core.specs.Ids.{Id}
use Rattle.op_core.specs.Ops.{Operation}
use Rattle.op_core.specs.Sets.{get, clash}
use Rattle.op_core.specs.Thinned.{is_legal, of_ids, thin, StandsFor}
use Rattle.op_core.proofs.ThinnedSets.StandIns.{join_stands, thin_stands, full_stands, subset_stands}
use Rattle.replica_state.specs.Edits.{edit_op, edit_over_op}
use Rattle.replica_state.specs.Imports.{import_ops}
use Rattle.replica_state.specs.Steps.{Receive, step, edited, imported}
use Rattle.replica_state.specs.World.{World, Event, Edits, EditsOver, Imports, Thins, Summarizes, Bundles, Receives, ReceivesCut}
use Rattle.replica_state.specs.World.{FindsNoMemory, world, happens, made, edit_made, edits_made, replica, received, with_held, with_bundle}
use Rattle.replica_state.specs.World.Twin.{is_twins, twin}
use Rattle.replica_state.specs.World.Invisible.{EachStands, IsInvisible}
use Rattle.replica_state.proofs.World.Held.{equal_no_clash}
use Rattle.replica_state.proofs.World.Alike.{edit_same, edit_over_same, import_same, edit_stands}
use Rattle.replica_state.proofs.World.Alike.{import_stands, receive_stands, summary_same}
use Rattle.replica_state.proofs.World.Moves.{Sound, Move, IsOwned, sound_after, moves, idle}
use Rattle.replica_state.proofs.World.Next.{made_next}

-- ---- two worlds

one_owned : (v : World) (xs ys : List Operation) → IsOwned v xs → IsOwned v ys → (q : Id) (x y : Operation) → get xs q ≡ Some x
    → get ys q ≡ Some y → x ≡ y
one_owned v xs ys hx hy q x y gx gy = cc (sym (hx q x gx) ∙ hy q y gy)

pub sound_no_clash : (v : World) → Sound v → (name : List ℕ) (k : ℕ) (bundle : List Operation) → slice_get v.bundles k ≡ Some bundle
    → clash (v.held name) bundle ≡ None
sound_no_clash v s name k bundle e =
    equal_no_clash (v.held name) bundle (s.bundles_rise k bundle e)
    (one_owned v (v.held name) bundle (s.own name) (s.bundles_own k bundle e))

-- the bundle of a number, in both
abbrev pub BothAt : Option (List Operation) → Option (List Operation) → Type 0
BothAt None None = Unit {0}
BothAt None (Some u) = ⊥
BothAt (Some s) None = ⊥
BothAt (Some s) (Some u) = StandsFor s u

pub each_at : (ss us : List (List Operation)) → EachStands ss us → (k : ℕ) → BothAt (slice_get ss k) (slice_get us k)
each_at [] [] h k = tt
each_at [] (u ∷ us) h k = absurd h
each_at (s ∷ ss) [] h k = absurd h
each_at (s ∷ ss) (u ∷ us) h zero = h.0
each_at (s ∷ ss) (u ∷ us) h (suc k) = each_at ss us h.1 k

set_both : (w v : World) (name : List ℕ) (s u : List Operation) → IsInvisible w v → StandsFor s u
    → IsInvisible (with_held w name s) (with_held v name u)
set_both w v name s u h stands = record { held = λ other. by other (same_bytes other name); bundles = h.bundles; summaries = h.summaries }
  where
    by : (other : List ℕ) (b : Bool) → StandsFor (cond b s (w.held other)) (cond b u (v.held other))
    by other true = stands
    by other false = h.held other

pub record IsTwin (w v : World) : Type 0 where
  pub sound : Sound v
  pub stands : IsInvisible w v

-- an edit or an import makes the same operations in both
pub made_same : (w v : World) → IsInvisible w v → (e : Event) → made w e ≡ made v e
made_same w v h (Edits name g text) = ap edit_made (edit_same name (w.held name) (v.held name) (h.held name) g text)
made_same w v h (EditsOver name g text given) = ap edit_made (edit_over_same name (w.held name) (v.held name) (h.held name) g text given)
made_same w v h (Imports name file) = ap edits_made (import_same name (w.held name) (v.held name) (h.held name) file)
made_same w v h (Thins name) = refl
made_same w v h (Summarizes name) = refl
made_same w v h (Bundles name kept) = refl
made_same w v h (Receives name k) = refl
made_same w v h (ReceivesCut name k length) = refl
made_same w v h (FindsNoMemory name) = refl

receive_both : (w v : World) → IsInvisible w v → (name : List ℕ) (r s : Option (List Operation)) → BothAt r s
    → ((bundle : List Operation) → s ≡ Some bundle → clash (v.held name) bundle ≡ None) →
    IsInvisible (received w name r) (received v name s)
receive_both w v h name None None both clear = h
receive_both w v h name None (Some u) both clear = absurd both
receive_both w v h name (Some s) None both clear = absurd both
receive_both w v h name (Some s) (Some u) both clear =
    set_both w v name (step (replica w name) (Receive s)).after.held (step (replica v name) (Receive u)).after.held h
    (receive_stands name (w.held name) (v.held name) (h.held name) s u both (clear u refl))

bundle_both : (w v : World) → IsInvisible w v → (name : List ℕ) (kept : Id → Bool) → is_legal (of_ids kept (w.held name)) ≡ true
    → IsInvisible (with_bundle w (of_ids kept (w.held name)) true) (happens v (Bundles name kept))
bundle_both w v h name kept legal =
    let s : StandsFor (of_ids kept (w.held name)) (of_ids kept (v.held name)) =
    subset_stands (w.held name) (v.held name) kept (h.held name) legal in
    let full : is_legal (of_ids kept (v.held name)) ≡ true = (full_stands (of_ids kept (v.held name)) s.whole_rising s.whole_full).legal in
    subst (λ b. IsInvisible (with_bundle w (of_ids kept (w.held name)) true) (with_bundle v (of_ids kept (v.held name)) b)) (sym full)
    (record { held = h.held; bundles = (s, h.bundles); summaries = h.summaries })

-- ---- what an event does, or does not, to the twin

like_twin : (w : World) (t : List Event) → IsTwin w (world t) → (e : Event) → Move (world t) (happens (world t) e) (made (world t) e)
    → Move (world t) (happens (world t) e) (made w e)
like_twin w t h e m = subst (Move (world t) (happens (world t) e)) (sym (made_same w (world t) h.stands e)) m

pub twin_move : (w : World) (t : List Event) (e : Event) → IsTwin w (world t)
    → Move (world t) (world (cond (is_twins w e) (e ∷ t) t)) (made w e)
twin_move w t (Edits name g text) h = like_twin w t h (Edits name g text) (moves (world t) h.sound (Edits name g text) refl)
twin_move w t (EditsOver name g text given) h =
    like_twin w t h (EditsOver name g text given) (moves (world t) h.sound (EditsOver name g text given) refl)
twin_move w t (Imports name file) h = like_twin w t h (Imports name file) (moves (world t) h.sound (Imports name file) refl)
twin_move w t (Thins name) h = idle (world t) h.sound
twin_move w t (Summarizes name) h = moves (world t) h.sound (Summarizes name) refl
twin_move w t (Bundles name kept) h = by (is_legal (of_ids kept (w.held name)))
  where
    by : (b : Bool) → Move (world t) (world (cond b (Bundles name kept ∷ t) t)) []
    by true = moves (world t) h.sound (Bundles name kept) refl
    by false = idle (world t) h.sound
twin_move w t (Receives name k) h = moves (world t) h.sound (Receives name k) refl
twin_move w t (ReceivesCut name k length) h = idle (world t) h.sound
twin_move w t (FindsNoMemory name) h = idle (world t) h.sound

twin_stands : (w : World) (t : List Event) (e : Event) → IsTwin w (world t)
    → IsInvisible (happens w e) (world (cond (is_twins w e) (e ∷ t) t))
twin_stands w t (Edits name g text) h =
    let v = world t in
    let op = edit_op (replica v name) g text in
    set_both w v name _ (edited (replica v name) op).after.held h.stands
    (subst (λ r. StandsFor (edited (replica w name) r).after.held (edited (replica v name) op).after.held)
    (sym (edit_same name (w.held name) (v.held name) (h.stands.held name) g text))
    (edit_stands name (w.held name) (v.held name) (h.stands.held name) op (made_next v (Edits name g text))))
twin_stands w t (EditsOver name g text given) h =
    let v = world t in
    let op = edit_over_op (replica v name) g text given in
    set_both w v name _ (edited (replica v name) op).after.held h.stands
    (subst (λ r. StandsFor (edited (replica w name) r).after.held (edited (replica v name) op).after.held)
    (sym (edit_over_same name (w.held name) (v.held name) (h.stands.held name) g text given))
    (edit_stands name (w.held name) (v.held name) (h.stands.held name) op (made_next v (EditsOver name g text given))))
twin_stands w t (Imports name file) h =
    let v = world t in
    let ops = import_ops (replica v name) file in
    set_both w v name _ (imported (replica v name) ops).after.held h.stands
    (subst (λ r. StandsFor (imported (replica w name) r).after.held (imported (replica v name) ops).after.held)
    (sym (import_same name (w.held name) (v.held name) (h.stands.held name) file))
    (import_stands name (w.held name) (v.held name) (h.stands.held name) ops (made_next v (Imports name file))))
twin_stands w t (Thins name) h =
    record { held = λ other. by other (same_bytes other name) refl; bundles = h.stands.bundles; summaries = h.stands.summaries }
  where
    by : (other : List ℕ) (b : Bool) → same_bytes other name ≡ b →
        StandsFor (cond b (thin (w.held name)) (w.held other)) ((world t).held other)
    by other true e = subst (λ n. StandsFor (thin (w.held name)) ((world t).held n)) (sym (same_bytes-is other name e))
        (thin_stands (w.held name) ((world t).held name) (h.stands.held name))
    by other false e = h.stands.held other
twin_stands w t (Summarizes name) h = record {
  held = h.stands.held;
  bundles = h.stands.bundles;
  summaries = λ i. summary_same name (w.held name) ((world t).held name) (h.stands.held name) i ∷ h.stands.summaries i;
}
twin_stands w t (Bundles name kept) h = by (is_legal (of_ids kept (w.held name))) refl
  where
    by : (b : Bool) → is_legal (of_ids kept (w.held name)) ≡ b
        → IsInvisible (with_bundle w (of_ids kept (w.held name)) b) (world (cond b (Bundles name kept ∷ t) t))
    by true e = bundle_both w (world t) h.stands name kept e
    by false e = h.stands
twin_stands w t (Receives name k) h =
    let v = world t in
    receive_both w v h.stands name (slice_get w.bundles k) (slice_get v.bundles k) (each_at w.bundles v.bundles h.stands.bundles k)
    (λ bundle e. sound_no_clash v h.sound name k bundle e)
twin_stands w t (ReceivesCut name k length) h = h.stands
twin_stands w t (FindsNoMemory name) h = h.stands

pub twins : (events : List Event) → IsTwin (world events) (world (twin events))
twins [] = record {
  sound = record {
    rising = λ name. refl;
    own = λ name q o g. cc g;
    bundles_rise = λ k ops e. cc e;
    bundles_own = λ k ops e. cc e;
    full = λ name q o g. cc g;
  };
  stands = record { held = λ name. full_stands [] refl refl; bundles = tt; summaries = refl };
}
twins (e ∷ past) =
    let h = twins past in
    record {
      sound =
          sound_after (world (twin past)) (world (twin (e ∷ past))) (made (world past) e) h.sound (twin_move (world past) (twin past) e h);
      stands = twin_stands (world past) (twin past) e h;
    }

-- no receiving is refused
pub no_clash_here : (events : List Event) (name : List ℕ) (k : ℕ) (bundle : List Operation) →
    slice_get (world events).bundles k ≡ Some bundle
    → clash ((world events).held name) bundle ≡ None
no_clash_here events name k bundle e = by (slice_get (world (twin events)).bundles k) refl
    (subst (λ r. BothAt r (slice_get (world (twin events)).bundles k)) e
    (each_at (world events).bundles (world (twin events)).bundles h.stands.bundles k))
  where
    h : IsTwin (world events) (world (twin events))
    h = twins events

    by : (r : Option (List Operation)) → slice_get (world (twin events)).bundles k ≡ r → BothAt (Some bundle) r
        → clash ((world events).held name) bundle ≡ None
    by None f both = absurd both
    by (Some u) f both = (join_stands ((world events).held name) ((world (twin events)).held name) bundle u (h.stands.held name) both
        (sound_no_clash (world (twin events)) h.sound name k u f)).0
