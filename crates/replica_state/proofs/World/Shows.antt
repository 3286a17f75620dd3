-- What replicas show and answer.
use Rattle.std.proofs.Common.{◌≡◌, ℕ, Bool, true, false, not, ◌++◌, ◌||◌, List, [], ◌∷◌}
use Rattle.std.proofs.Common.{filter, refl, sym, ap, subst, ◌∙◌, Option, Some, None, Result}
use Rattle.std.specs.Prelude.{slice_get}
use Rattle.std.specs.List.{list_any, flat_map}
use Rattle.usfm_ref.specs.Rising.{rising}
use Rattle.op_core.specs.Ids.{Id, id_cmp, same_id}
use Rattle.op_core.specs.Ops.{Operation, names}
use Rattle.op_core.specs.Sets.{rises, get, clash}
use Rattle.op_core.specs.Lists.{is_held, awaited}
use Rattle.op_core.specs.NextIds.{is_among}
use Rattle.op_core.specs.Equal.{same_id-refl}
use Rattle.op_core.specs.Thinned.{skeleton, StandsFor}
use Rattle.op_core.specs.ThinLaws.{AnswersSame}
use Rattle.op_core.proofs.ThinnedSets.Alike.{picks_same, answers_same}
use Rattle.op_core.proofs.Sets.Gets.{any_held}
use Rattle.op_core.proofs.ThinnedSets.StandIns.{shows_same, thin_stands}
use Rattle.replica_state.specs.declared.fault.EditFault.{EditFault}
use Rattle.replica_state.specs.declared.fault.ImportFault.{ImportFault}
use Rattle.replica_state.specs.States.{State}
use Rattle.replica_state.specs.Edits.{edit_op, edit_over_op}
use Rattle.replica_state.specs.Imports.{import_ops}
use Rattle.replica_state.specs.Steps.{Command, Receive, Edit, EditOver, Import, Thin, step, edited, imported}
use Rattle.replica_state.specs.World.{World, Event, Edits, EditsOver, Imports, Thins, Summarizes, Bundles}
use Rattle.replica_state.specs.World.{Receives, ReceivesCut, FindsNoMemory, world, made, edit_made}
use Rattle.replica_state.specs.World.Twin.{twin}
use Rattle.replica_state.specs.World.Agreement.{ShowSame, EndsInRelays, AgreeInTheEnd}
use Rattle.replica_state.specs.World.Invisible.{AreAlike, StepsAlike, ActsFor, reply, receive_reply}
use Rattle.replica_state.proofs.World.Alike.{at, edit_same, edit_over_same, import_same, edit_stands, import_stands}
use Rattle.replica_state.proofs.World.Alike.{receive_stands, receive_same, summary_same, edit_reply, import_reply}
use Rattle.replica_state.proofs.World.Exchanges.{same_twins, all_hold_all, hold_same, awaits_none}
use Rattle.replica_state.proofs.World.Moments.{whole, stands}
use Rattle.replica_state.proofs.World.Next.{AreNext, made_next}
use Rattle.replica_state.proofs.World.Twins.{BothAt, each_at, twins, made_same, sound_no_clash}

same_turned : (s u : List Operation) → AnswersSame s u → AnswersSame u s
same_turned s u h = record {
  texts = λ g. sym (h.texts g);
  shown_ids = λ g. sym (h.shown_ids g);
  ids = sym h.ids;
  number = sym h.number;
  awaited = sym h.awaited;
  keys = λ book. sym (h.keys book);
  books = sym h.books;
  export = λ book. sym (h.export book);
}

same_then : (s u t : List Operation) → AnswersSame s u → AnswersSame u t → AnswersSame s t
same_then s u t h k = record {
  texts = λ g. h.texts g ∙ k.texts g;
  shown_ids = λ g. h.shown_ids g ∙ k.shown_ids g;
  ids = h.ids ∙ k.ids;
  number = h.number ∙ k.number;
  awaited = h.awaited ∙ k.awaited;
  keys = λ book. h.keys book ∙ k.keys book;
  books = h.books ∙ k.books;
  export = λ book. h.export book ∙ k.export book;
}

-- a set shows what the one shows that it stands for
pub stands_shows : (s u : List Operation) → StandsFor s u → ShowSame s u
stands_shows s u h = record {
  skeletons = h.skeletons;
  shown = λ g. shows_same s u g h;
  picks = picks_same s u h;
  answers = answers_same s u h;
  summaries = summary_same [] s u h;
}

-- what a replica shows does not say whether anything was thinned
pub thinning_shows_nothing : (events : List Event) (name : List ℕ) → ShowSame ((world events).held name) ((whole events).held name)
thinning_shows_nothing events name = stands_shows _ _ (stands events name)

-- replicas with one skeleton show the same
pub show_same : (events : List Event) (a b : List ℕ) → skeleton ((world events).held a) ≡ skeleton ((world events).held b)
    → ShowSame ((world events).held a) ((world events).held b)
show_same events a b e =
    let p : ShowSame ((world events).held a) ((whole events).held a) = thinning_shows_nothing events a in
    let q : ShowSame ((world events).held b) ((whole events).held a) =
    subst (ShowSame ((world events).held b)) (sym (same_twins events a b e)) (thinning_shows_nothing events b) in
    record {
      skeletons = e;
      shown = λ g. p.shown g ∙ sym (q.shown g);
      picks = λ g. p.picks g ∙ sym (q.picks g);
      answers = same_then _ _ _ p.answers (same_turned _ _ q.answers);
      summaries = p.summaries ∙ sym q.summaries;
    }

-- ---- none is awaited

none_pass : (p : Id → Bool) (ids : List Id) → ((id : Id) → is_among ids id ≡ true → p id ≡ false) → filter p ids ≡ []
none_pass p [] h = refl
none_pass p (x ∷ ids) h =
    rw (h x (ap (λ b. b || is_among ids x) (same_id-refl x)))
    (none_pass p ids (λ id a. h id (or_second (same_id id x) (is_among ids id) a)))
  where
    or_second : (a b : Bool) → b ≡ true → (a || b) ≡ true
    or_second true b h = refl
    or_second false b h = h

-- an id that is named by one of some operations
among_append : (ids more : List Id) (id : Id) → is_among (ids ++ more) id ≡ (is_among ids id || is_among more id)
among_append [] more id = refl
among_append (x ∷ ids) more id = ap (λ b. same_id id x || b) (among_append ids more id) ∙ by (same_id id x)
  where
    by : (b : Bool) → (b || (is_among ids id || is_among more id)) ≡ ((b || is_among ids id) || is_among more id)
    by true = refl
    by false = refl

among_named : (ops : List Operation) (id : Id) → is_among (flat_map (λ (o : Operation). o.replaced) ops) id ≡ true
    → list_any (λ o. names o id) ops ≡ true
among_named [] id h = h
among_named (o ∷ ops) id h =
    by (names o id) (among_named ops id) (sym (among_append o.replaced (flat_map (λ (o : Operation). o.replaced) ops) id) ∙ h)
  where
    by : (b : Bool)
        → (is_among (flat_map (λ (o : Operation). o.replaced) ops) id ≡ true → list_any (λ o. names o id) ops ≡ true)
        → (b || is_among (flat_map (λ (o : Operation). o.replaced) ops) id) ≡ true → (b || list_any (λ o. names o id) ops) ≡ true
    by true rest h = refl
    by false rest h = rest h

awaited_none : (held : List Operation) → rises held ≡ true
    → ((o : Operation) (id : Id) → get held o.id ≡ Some o → names o id ≡ true → is_held held id ≡ true) → awaited held ≡ []
awaited_none held rise has = ap (rising id_cmp) (none_pass (λ id. not (is_held held id)) (flat_map (λ o. o.replaced) held)
    (λ id a. let n = any_held (λ o. names o id) held rise (among_named held id a) in ap not (has n.one id n.held n.passes)))

-- after relays round all, all who are there agree
pub all_agree_in_the_end : (is_there : List ℕ → Bool) (later past : List Event) → EndsInRelays is_there later past
    → (a b : List ℕ) → is_there a ≡ true → is_there b ≡ true
    → AgreeInTheEnd ((world (later ++ past)).held a) ((world (later ++ past)).held b)
all_agree_in_the_end is_there later past ends a b ha hb =
    let all_a = all_hold_all is_there later past ends a ha in
    let all_b = all_hold_all is_there later past ends b hb in
    record {
      same = show_same (later ++ past) a b (hold_same (later ++ past) a b all_a all_b);
      awaits_none = awaited_none ((world (later ++ past)).held a) (stands (later ++ past) a).rising
          (λ o id g n. awaits_none (later ++ past) a all_a o.id o g id n);
    }

-- ---- the same replies

pub edits_are_the_same : (past : List Event) (e : Event) → made (world past) e ≡ made (world (twin past)) e
edits_are_the_same past e = made_same (world past) (world (twin past)) (twins past).stands e

receive_replies : (name : List ℕ) (s u : List Operation) → StandsFor s u → (b v : Option (List Operation)) → BothAt b v
    → ((bundle : List Operation) → v ≡ Some bundle → clash u bundle ≡ None) → receive_reply (at name s) b ≡ receive_reply (at name u) v
receive_replies name s u h None None both clear = refl
receive_replies name s u h None (Some v) both clear = absurd both
receive_replies name s u h (Some b) None both clear = absurd both
receive_replies name s u h (Some b) (Some v) both clear = ap Some (receive_same name s u h b v both (clear v refl))

edit_replies : (s u : State) (x y : Result Operation EditFault) → x ≡ y → (edited s x).reply ≡ (edited u y).reply
edit_replies s u x y e = edit_reply s u x ∙ ap (λ r. (edited u r).reply) e

import_replies : (s u : State) (x y : Result (List Operation) ImportFault) → x ≡ y → (imported s x).reply ≡ (imported u y).reply
import_replies s u x y e = import_reply s u x ∙ ap (λ r. (imported u r).reply) e

pub replies_are_the_same : (past : List Event) (e : Event) → reply (world past) e ≡ reply (world (twin past)) e
replies_are_the_same past (Edits name g text) = ap Some (edit_replies _ _ _ _ (edit_same name _ _ (stands past name) g text))
replies_are_the_same past (EditsOver name g text given) =
    ap Some (edit_replies _ _ _ _ (edit_over_same name _ _ (stands past name) g text given))
replies_are_the_same past (Imports name file) = ap Some (import_replies _ _ _ _ (import_same name _ _ (stands past name) file))
replies_are_the_same past (Thins name) = refl
replies_are_the_same past (Summarizes name) = refl
replies_are_the_same past (Bundles name kept) = refl
replies_are_the_same past (Receives name k) =
    let h = twins past in
    receive_replies name _ _ (stands past name) (slice_get (world past).bundles k) (slice_get (whole past).bundles k)
    (each_at (world past).bundles (whole past).bundles h.stands.bundles k) (λ bundle e. sound_no_clash (whole past) h.sound name k bundle e)
replies_are_the_same past (ReceivesCut name k length) = refl
replies_are_the_same past (FindsNoMemory name) = refl

-- ---- one replica beside another, whose set it stands for

-- a world in which each replica holds a set
abbrev holding : List Operation → World
holding u = record { held = λ name. u; bundles = []; summaries = [] }

module _ (name : List ℕ) (s u : List Operation) (h : StandsFor s u) where
  edits_alike : (c : Command) (x y : Result Operation EditFault) → step (at name s) c ≡ edited (at name s) x →
      step (at name u) c ≡ edited (at name u) y
      → x ≡ y → AreNext (at name u) (edit_made y) → StepsAlike (at name s) (at name u) c c
  edits_alike c x y es eu e next = record {
    after = rw (es, eu) (subst (λ r. StandsFor (edited (at name s) r).after.held (edited (at name u) y).after.held) (sym e)
        (edit_stands name s u h y next));
    reply = rw (es, eu) (edit_replies (at name s) (at name u) x y e);
  }

  alike : (c d : Command) → AreAlike u c d → StepsAlike (at name s) (at name u) c d
  alike (Edit g text) d e =
      subst (StepsAlike (at name s) (at name u) (Edit g text)) e
      (edits_alike (Edit g text) (edit_op (at name s) g text) (edit_op (at name u) g text) refl refl (edit_same name s u h g text)
      (made_next (holding u) (Edits name g text)))
  alike (EditOver g text given) d e =
      subst (StepsAlike (at name s) (at name u) (EditOver g text given)) e
      (edits_alike (EditOver g text given) (edit_over_op (at name s) g text given) (edit_over_op (at name u) g text given) refl refl
      (edit_over_same name s u h g text given) (made_next (holding u) (EditsOver name g text given)))
  alike (Import file) d e =
      subst (StepsAlike (at name s) (at name u) (Import file)) e (record {
        after = subst (λ r. StandsFor (imported (at name s) r).after.held (imported (at name u) (import_ops (at name u) file)).after.held)
            (sym (import_same name s u h file))
            (import_stands name s u h (import_ops (at name u) file) (made_next (holding u) (Imports name file)));
        reply = import_replies (at name s) (at name u) _ _ (import_same name s u h file);
      })
  alike (Receive b) (Receive v) e = record { after = receive_stands name s u h b v e.0 e.1; reply = receive_same name s u h b v e.0 e.1 }
  alike (Receive b) (Edit g text) e = absurd e
  alike (Receive b) (EditOver g text given) e = absurd e
  alike (Receive b) (Import file) e = absurd e
  alike (Receive b) Thin e = absurd e
  alike Thin d e = absurd e

  acts_at : ActsFor (at name s) (at name u)
  acts_at = record { steps = alike; thins = thin_stands s u h; shows = stands_shows s u h }

-- a replica whose set stands for another one's acts for it
pub acts_for : (s u : State) → s.name ≡ u.name → StandsFor s.held u.held → ActsFor s u
acts_for s u e h = subst (λ (n : List ℕ). ActsFor (at n s.held) u) (sym e) (acts_at u.name s.held u.held h)
