-- What one event keeps, where no operation is thinned.
use Rattle.std.proofs.Common.{◌≡◌, ℕ, zero, suc, ◌<◌, ◌⊎◌, inl, inr, Bool, true, false, cond, List}
use Rattle.std.proofs.Common.{[], ◌∷◌, refl, ap, sym, subst, ◌∙◌, Option, Some, None, Result, Ok, Err}
use Rattle.std.specs.Prelude.{slice_get}
use Rattle.std.specs.Cmp.Lexicographic.{bytes_decides}
use Rattle.std.proofs.lemmas.Bool.{cond-true, false≢true}
use Rattle.usfm_ref.specs.Books.{same_bytes}
use Rattle.usfm_ref.proofs.Orders.{same_bytes-is}
use Rattle.op_core.specs.Ids.{Id}
use Rattle.op_core.specs.Ops.{Operation, is_full}
use Rattle.op_core.specs.Sets.{rises, get, join, clash}
use Rattle.op_core.specs.NextIds.{greatest_number}
use Rattle.op_core.specs.Thinned.{is_legal, of_ids}
use Rattle.op_core.proofs.Sets.Clashes.{get_id}
use Rattle.op_core.proofs.Sets.Filters.{filter_within, rises-filter}
use Rattle.op_core.proofs.IdOrders.NextIds.{beyond}
use Rattle.op_core.proofs.Sets.Union.{rises-join}
use Rattle.replica_state.specs.declared.fault.EditFault.{EditFault}
use Rattle.replica_state.specs.declared.fault.ImportFault.{ImportFault}
use Rattle.replica_state.specs.Edits.{edit_op, edit_over_op}
use Rattle.replica_state.specs.Imports.{import_ops}
use Rattle.replica_state.specs.Steps.{received, edited, imported}
use Rattle.replica_state.specs.World as world
use Rattle.replica_state.specs.World.{World, Event, Edits, EditsOver, Imports, Thins, Summarizes, Bundles, Receives, ReceivesCut}
use Rattle.replica_state.specs.World.{FindsNoMemory, happens, made, edit_made, edits_made, replica, replica_name, with_held, with_bundle}
use Rattle.replica_state.specs.World.Twin.{keeps_texts}
use Rattle.replica_state.proofs.World.Held.{HasTexts, join_left, join_right, join_cases}
use Rattle.replica_state.proofs.World.Next.{AreNext, made_next}

-- what a set holds, the replica holds that made it
abbrev pub IsOwned : World → List Operation → Type 0
IsOwned w ops = (q : Id) (o : Operation) → get ops q ≡ Some o → get (w.held q.name) q ≡ Some o

pub record Sound (w : World) : Type 0 where
  pub rising : (name : List ℕ) → rises (w.held name) ≡ true
  pub own : (name : List ℕ) → IsOwned w (w.held name)
  pub bundles_rise : (k : ℕ) (ops : List Operation) → slice_get w.bundles k ≡ Some ops → rises ops ≡ true
  pub bundles_own : (k : ℕ) (ops : List Operation) → slice_get w.bundles k ≡ Some ops → IsOwned w ops
  pub full : (name : List ℕ) → HasTexts (w.held name)

-- one event that makes m
pub record Move (w v : World) (m : List Operation) : Type 0 where
  pub rising : (name : List ℕ) → rises (v.held name) ≡ true
  pub grows : (name : List ℕ) (q : Id) (o : Operation) → get (w.held name) q ≡ Some o → get (v.held name) q ≡ Some o
  pub comes : (name : List ℕ) (q : Id) (o : Operation) → get (v.held name) q ≡ Some o
      → (get (w.held q.name) q ≡ Some o) ⊎ (get m q ≡ Some o)
  pub stays : (q : Id) (o : Operation) → get m q ≡ Some o → get (v.held q.name) q ≡ Some o
  pub full : (q : Id) (o : Operation) → get m q ≡ Some o → is_full o ≡ true
  pub bundles_rise : (k : ℕ) (ops : List Operation) → slice_get v.bundles k ≡ Some ops → rises ops ≡ true
  pub bundles_own : (k : ℕ) (ops : List Operation) → slice_get v.bundles k ≡ Some ops → IsOwned w ops

pub sound_after : (w v : World) (m : List Operation) → Sound w → Move w v m → Sound v
sound_after w v m before s = record {
  rising = s.rising;
  own = λ name q o g. own name q o (s.comes name q o g);
  bundles_rise = s.bundles_rise;
  bundles_own = λ k ops e q o g. s.grows q.name q o (s.bundles_own k ops e q o g);
  full = λ name q o g. full q o (s.comes name q o g);
}
  where
    full : (q : Id) (o : Operation) → (get (w.held q.name) q ≡ Some o) ⊎ (get m q ≡ Some o) → is_full o ≡ true
    full q o (inl g) = before.full q.name q o g
    full q o (inr e) = s.full q o e

    own : (name : List ℕ) (q : Id) (o : Operation) → (get (w.held q.name) q ≡ Some o) ⊎ (get m q ≡ Some o)
        → get (v.held q.name) q ≡ Some o
    own name q o (inl h) = s.grows q.name q o h
    own name q o (inr e) = s.stays q o e

pub held_same : (w : World) (name : List ℕ) (ops : List Operation) → (with_held w name ops).held name ≡ ops
held_same w name ops = cond-true (same_bytes name name) ops (w.held name) ((bytes_decides name name).1 refl)

held_by : (w : World) (name : List ℕ) (ops : List Operation) (other : List ℕ) (P : List Operation → Type 0) → (other ≡ name → P ops)
    → P (w.held other) → P ((with_held w name ops).held other)
held_by w name ops other P new old = by (same_bytes other name) refl
  where
    by : (b : Bool) → same_bytes other name ≡ b → P (cond b ops (w.held other))
    by true e = new (same_bytes-is other name e)
    by false e = old

-- one replica holds more
set_step : (w : World) (name : List ℕ) (ops m : List Operation) → Sound w → rises ops ≡ true
    → ((q : Id) (o : Operation) → get (w.held name) q ≡ Some o → get ops q ≡ Some o)
    → ((q : Id) (o : Operation) → get ops q ≡ Some o → (get (w.held q.name) q ≡ Some o) ⊎ (get m q ≡ Some o))
    → ((q : Id) (o : Operation) → get m q ≡ Some o → (q.name ≡ name) × (get ops q ≡ Some o))
    → HasTexts m → Move w (with_held w name ops) m
set_step w name ops m s rise grows comes stays full = record {
  rising = λ other. held_by w name ops other (λ xs. rises xs ≡ true) (λ _. rise) (s.rising other);
  grows = λ other q o g. held_by w name ops other (λ xs. get xs q ≡ Some o)
      (λ e. grows q o (subst (λ n. get (w.held n) q ≡ Some o) e g)) g;
  comes = λ other q o. held_by w name ops other
      (λ xs. get xs q ≡ Some o → (get (w.held q.name) q ≡ Some o) ⊎ (get m q ≡ Some o)) (λ _. comes q o) (λ g. inl (s.own other q o g));
  stays = λ q o e. let p = stays q o e in
      ap (λ n. get ((with_held w name ops).held n) q) p.0 ∙ ap (λ xs. get xs q) (held_same w name ops) ∙ p.1;
  full = full;
  bundles_rise = s.bundles_rise;
  bundles_own = s.bundles_own;
}

pub idle : (w : World) → Sound w → Move w w []
idle w s = record {
  rising = s.rising;
  grows = λ name q o g. g;
  comes = λ name q o g. inl (s.own name q o g);
  stays = λ q o e. cc e;
  full = λ q o e. cc e;
  bundles_rise = s.bundles_rise;
  bundles_own = s.bundles_own;
}

-- a replica's set is written where it stood
stays_there : (w : World) (name : List ℕ) → Sound w → Move w (with_held w name (w.held name)) []
stays_there w name s =
    set_step w name (w.held name) [] s (s.rising name) (λ q o g. g) (λ q o g. inl (s.own name q o g)) (λ q o e. cc e) (λ q o e. cc e)

-- the operations that a replica makes are joined to its set
makes : (w : World) (name : List ℕ) (m : List Operation) → Sound w → AreNext (replica w name) m
    → Move w (with_held w name (join (w.held name) m)) m
makes w name m s next =
    let h = s.rising name in
    set_step w name (join (w.held name) m) m s (rises-join (w.held name) m h)
    (join_left (w.held name) m h next.rising full)
    (λ q o g. comes q o (join_cases (w.held name) m h next.rising full q o g))
    (λ q o g. let n = next.each q o g in (
      ap (λ (i : Id). i.name) (sym (get_id m q o g)) ∙ n.own_name,
      join_right (w.held name) m h next.rising q
          (beyond (w.held name) q (subst (λ (i : Id). greatest_number (w.held name) < i.number) (get_id m q o g) n.greater)) ∙ g,
    ))
    full
  where
    full : HasTexts m
    full q o g = (next.each q o g).full

    comes : (q : Id) (o : Operation) → (get (w.held name) q ≡ Some o) ⊎ (get m q ≡ Some o)
        → (get (w.held q.name) q ≡ Some o) ⊎ (get m q ≡ Some o)
    comes q o (inl g) = inl (s.own name q o g)
    comes q o (inr g) = inr g

edit_moves : (w : World) (name : List ℕ) (r : Result Operation EditFault) → Sound w → AreNext (replica w name) (edit_made r)
    → Move w (with_held w name (edited (replica w name) r).after.held) (edit_made r)
edit_moves w name (Ok o) s next = makes w name (o ∷ []) s next
edit_moves w name (Err fault) s next = stays_there w name s

import_moves : (w : World) (name : List ℕ) (r : Result (List Operation) ImportFault) → Sound w → AreNext (replica w name) (edits_made r)
    → Move w (with_held w name (imported (replica w name) r).after.held) (edits_made r)
import_moves w name (Ok ops) s next = makes w name ops s next
import_moves w name (Err fault) s next = stays_there w name s

bundle_moves : (w : World) (name : List ℕ) (kept : Id → Bool) → Sound w → (b : Bool)
    → Move w (with_bundle w (of_ids kept (w.held name)) b) []
bundle_moves w name kept s false = idle w s
bundle_moves w name kept s true = record {
  rising = s.rising;
  grows = λ name q o g. g;
  comes = λ name q o g. inl (s.own name q o g);
  stays = λ q o e. cc e;
  full = λ q o e. cc e;
  bundles_rise = rise;
  bundles_own = owned;
}
  where
    rise : (k : ℕ) (ops : List Operation) → slice_get (of_ids kept (w.held name) ∷ w.bundles) k ≡ Some ops → rises ops ≡ true
    rise zero ops e =
        let same : of_ids kept (w.held name) ≡ ops = cc e in
        subst (λ xs. rises xs ≡ true) same (rises-filter _ (w.held name) (s.rising name))
    rise (suc k) ops e = s.bundles_rise k ops e

    owned : (k : ℕ) (ops : List Operation) → slice_get (of_ids kept (w.held name) ∷ w.bundles) k ≡ Some ops → IsOwned w ops
    owned zero ops e =
        let same : of_ids kept (w.held name) ≡ ops = cc e in
        subst (IsOwned w) same (λ q o g. s.own name q o (filter_within _ (w.held name) (s.rising name) q o g))
    owned (suc k) ops e = s.bundles_own k ops e

receive_moves : (w : World) (name : List ℕ) (r : Option (List Operation)) → Sound w
    → ((ops : List Operation) → r ≡ Some ops → rises ops ≡ true) → ((ops : List Operation) → r ≡ Some ops → IsOwned w ops)
    → Move w (world.received w name r) []
receive_moves w name None s rise owned = idle w s
receive_moves w name (Some ops) s rise owned = by (clash (w.held name) ops)
  where
    h : rises (w.held name) ≡ true
    h = s.rising name

    has_all : HasTexts ops
    has_all q o g = s.full q.name q o (owned ops refl q o g)

    from : (q : Id) (o : Operation) → (get (w.held name) q ≡ Some o) ⊎ (get ops q ≡ Some o)
        → (get (w.held q.name) q ≡ Some o) ⊎ (get [] q ≡ Some o)
    from q o (inl g) = inl (s.own name q o g)
    from q o (inr g) = inl (owned ops refl q o g)

    by : (c : Option Id) → Move w (with_held w name (received (replica w name) ops c).after.held) []
    by None = set_step w name (join (w.held name) ops) [] s (rises-join (w.held name) ops h)
        (join_left (w.held name) ops h (rise ops refl) has_all)
        (λ q o g. from q o (join_cases (w.held name) ops h (rise ops refl) has_all q o g))
        (λ q o e. cc e) (λ q o e. cc e)
    by (Some id) = stays_there w name s

pub moves : (w : World) → Sound w → (e : Event) → keeps_texts e ≡ true → Move w (happens w e) (made w e)
moves w s (Edits name g text) keeps = edit_moves w name (edit_op (replica w name) g text) s (made_next w (Edits name g text))
moves w s (EditsOver name g text given) keeps =
    edit_moves w name (edit_over_op (replica w name) g text given) s (made_next w (EditsOver name g text given))
moves w s (Imports name file) keeps = import_moves w name (import_ops (replica w name) file) s (made_next w (Imports name file))
moves w s (Thins name) keeps = absurd (false≢true keeps)
moves w s (Summarizes name) keeps = record {
  rising = s.rising;
  grows = λ name q o g. g;
  comes = λ name q o g. inl (s.own name q o g);
  stays = λ q o e. cc e;
  full = λ q o e. cc e;
  bundles_rise = s.bundles_rise;
  bundles_own = s.bundles_own;
}
moves w s (Bundles name kept) keeps = bundle_moves w name kept s (is_legal (of_ids kept (w.held name)))
moves w s (Receives name k) keeps = receive_moves w name (slice_get w.bundles k) s (s.bundles_rise k) (s.bundles_own k)
moves w s (ReceivesCut name k length) keeps = idle w s
moves w s (FindsNoMemory name) keeps = idle w s

-- the bundle of a receiving is joined
pub received_is : (w : World) (name : List ℕ) (r : Option (List Operation)) (ops : List Operation) → r ≡ Some ops
    → clash (w.held name) ops ≡ None → (world.received w name r).held name ≡ join (w.held name) ops
received_is w name r ops e c =
    ap (λ x. (world.received w name x).held name) e ∙ held_same w name (received (replica w name) ops (clash (w.held name) ops)).after.held
    ∙ ap (λ x. (received (replica w name) ops x).after.held) c
