-- What holds in every run: a world at each moment, in which the events make what they make in the world of the laws. The
-- run that the laws are proved by is that world's twin.
use Rattle.std.proofs.Common.{◌≡◌, ℕ, ◌⊎◌, inl, inr, Bool, true, false, List, [], ◌∷◌, ◌++◌, refl, sym, ap, subst, ◌∙◌, Option, Some, None}
use Rattle.std.specs.Prelude.{slice_get}
use Rattle.std.specs.List.{list_all}
use Rattle.std.proofs.lemmas.Bool.{and_parts, false≢true}
use Rattle.usfm_ref.specs.Books.{same_bytes}
use Rattle.usfm_ref.proofs.Orders.{same_bytes-is}
use Rattle.op_core.specs.Ids.{Id}
use Rattle.op_core.specs.Ops.{Operation}
use Rattle.op_core.specs.Sets.{get}
use Rattle.op_core.proofs.Sets.Clashes.{get_id}
use Rattle.op_core.proofs.Sets.Union.{same_gets}
use Rattle.replica_state.specs.World.{World, Event, Edits, EditsOver, Imports, Thins, Summarizes, Bundles, Receives}
use Rattle.replica_state.specs.World.{ReceivesCut, FindsNoMemory, world, made, replica_name, edits_at, is_exchange}
use Rattle.replica_state.specs.World.Schedules.{Makes, Where, At, Within, found, in_bundle, IsMade}
use Rattle.replica_state.specs.World.Exchanges.{IsBefore, Hearing, Hears, heard, IsRelay}
use Rattle.replica_state.specs.World.Agreement.{EndsInRelays}
use Rattle.replica_state.proofs.World.Moves.{Sound, Move}
use Rattle.replica_state.proofs.World.Next.{made_next}

-- what is found anywhere is at its maker
pub at_maker : (w : World) → Sound w → (a : Where) (q : Id) (o : Operation) → found w a q ≡ Some o → get (w.held q.name) q ≡ Some o
at_maker w s (At name) q o g = s.own name q o g
at_maker w s (Within k) q o g = by (slice_get w.bundles k) refl g
  where
    by : (r : Option (List Operation)) → slice_get w.bundles k ≡ r → in_bundle r q ≡ Some o → get (w.held q.name) q ≡ Some o
    by None e g = cc g
    by (Some ops) e g = s.bundles_own k ops e q o g

-- the name of what is made is its maker's
pub made_name : (w : World) (e : Event) (q : Id) (o : Operation) → get (made w e) q ≡ Some o → o.id.name ≡ replica_name e
made_name w e q o m = ((made_next w e).each q o m).own_name

made_there : (is_there : List ℕ → Bool) (w : World) (e : Event) (q : Id) (o : Operation) → edits_at is_there e ≡ true
    → get (made w e) q ≡ Some o → is_there o.id.name ≡ true
made_there is_there w (Edits name g text) q o h m = ap is_there (made_name w (Edits name g text) q o m) ∙ h
made_there is_there w (EditsOver name g text given) q o h m = ap is_there (made_name w (EditsOver name g text given) q o m) ∙ h
made_there is_there w (Imports name file) q o h m = ap is_there (made_name w (Imports name file) q o m) ∙ h
made_there is_there w (Thins name) q o h m = cc m
made_there is_there w (Summarizes name) q o h m = cc m
made_there is_there w (Bundles name kept) q o h m = cc m
made_there is_there w (Receives name k) q o h m = cc m
made_there is_there w (ReceivesCut name k length) q o h m = cc m
made_there is_there w (FindsNoMemory name) q o h m = cc m

pub record Run : Type 0 where
  pub at : List Event → World
  pub empty : (name : List ℕ) (q : Id) (o : Operation) → get ((at []).held name) q ≡ Some o → ⊥
  pub sound : (events : List Event) → Sound (at events)
  pub moves : (e : Event) (past : List Event) → Move (at past) (at (e ∷ past)) (made (world past) e)

module _ (run : Run) where
  -- what is held is held from then on
  pub grown : (later past : List Event) (name : List ℕ) (q : Id) (o : Operation) → get ((run.at past).held name) q ≡ Some o
      → get ((run.at (later ++ past)).held name) q ≡ Some o
  grown [] past name q o g = g
  grown (e ∷ later) past name q o g = (run.moves e (later ++ past)).grows name q o (grown later past name q o g)

  pub grown_to : (past events : List Event) → IsBefore past events → (name : List ℕ) (q : Id) (o : Operation)
      → get ((run.at past).held name) q ≡ Some o → get ((run.at events).held name) q ≡ Some o
  grown_to past events b name q o g =
      subst (λ (h : List Event). get ((run.at h).held name) q ≡ Some o) (sym b.1) (grown b.0 past name q o g)

  pub held_own : (later : List Event) (e : Event) (past : List Event) (o : Operation) → Makes (world past) e o
      → get ((run.at (later ++ e ∷ past)).held o.id.name) o.id ≡ Some o
  held_own later e past o m = grown later (e ∷ past) o.id.name o.id o ((run.moves e past).stays o.id o m)

  -- one operation for each id
  pub one_for_each : (events : List Event) (a b : Where) (id : Id) (x y : Operation) → found (run.at events) a id ≡ Some x
      → found (run.at events) b id ≡ Some y → x ≡ y
  one_for_each events a b id x y gx gy =
      cc (sym (at_maker (run.at events) (run.sound events) a id x gx) ∙ at_maker (run.at events) (run.sound events) b id y gy)

  pub was_made : (events : List Event) (name : List ℕ) (q : Id) (o : Operation) →
      get ((run.at events).held name) q ≡ Some o → IsMade events o
  was_made [] name q o g = absurd (run.empty name q o g)
  was_made (e ∷ past) name q o g = by (was_made past q.name q o) ((run.moves e past).comes name q o g)
    where
      by : (get ((run.at past).held q.name) q ≡ Some o → IsMade past o)
          → (get ((run.at past).held q.name) q ≡ Some o) ⊎ (get (made (world past) e) q ≡ Some o) → IsMade (e ∷ past) o
      by rest (inl g) =
          let m = rest g in
          record { later = e ∷ m.later; event = m.event; past = m.past; here = ap (λ es. e ∷ es) m.here; makes = m.makes }
      by rest (inr m) = record {
        later = [];
        event = e;
        past = past;
        here = refl;
        makes = ap (get (made (world past) e)) (get_id (made (world past) e) q o m) ∙ m;
      }

  pub made_held : (events : List Event) (o : Operation) → IsMade events o → get ((run.at events).held o.id.name) o.id ≡ Some o
  made_held events o m =
      subst (λ (es : List Event). get ((run.at es).held o.id.name) o.id ≡ Some o) (sym m.here) (held_own m.later m.event m.past o m.makes)

  pub made_once : (events : List Event) (x y : Operation) → IsMade events x → IsMade events y → x.id ≡ y.id → x ≡ y
  made_once events x y mx my e =
      let gy : get ((run.at events).held x.id.name) x.id ≡ Some y =
      subst (λ (i : Id). get ((run.at events).held i.name) i ≡ Some y) (sym e) (made_held events y my) in
      cc (sym (made_held events x mx) ∙ gy)

  -- an exchange brings a replica nothing of its own
  back : (later past : List Event) → list_all is_exchange later ≡ true → (q : Id) (o : Operation)
      → get ((run.at (later ++ past)).held q.name) q ≡ Some o → get ((run.at past).held q.name) q ≡ Some o
  back [] past h q o g = g
  back (e ∷ later) past h q o g = back later past parts.1 q o (by e parts.0 ((run.moves e (later ++ past)).comes q.name q o g))
    where
      parts : (is_exchange e ≡ true) × (list_all is_exchange later ≡ true)
      parts = and_parts (is_exchange e) (list_all is_exchange later) h

      by : (e : Event) → is_exchange e ≡ true
          → (get ((run.at (later ++ past)).held q.name) q ≡ Some o) ⊎ (get (made (world (later ++ past)) e) q ≡ Some o)
          → get ((run.at (later ++ past)).held q.name) q ≡ Some o
      by e x (inl g) = g
      by e x (inr m) = absurd (false≢true (made_there (λ name. false) (world (later ++ past)) e q o x m))

  held_there : (is_there : List ℕ → Bool) (past : List Event) → list_all (edits_at is_there) past ≡ true → (name : List ℕ) (q : Id)
      (o : Operation) → get ((run.at past).held name) q ≡ Some o → is_there o.id.name ≡ true
  held_there is_there [] h name q o g = absurd (run.empty name q o g)
  held_there is_there (e ∷ past) h name q o g = by (held_there is_there past parts.1 q.name q o) ((run.moves e past).comes name q o g)
    where
      parts : (edits_at is_there e ≡ true) × (list_all (edits_at is_there) past ≡ true)
      parts = and_parts (edits_at is_there e) (list_all (edits_at is_there) past) h

      by : (get ((run.at past).held q.name) q ≡ Some o → is_there o.id.name ≡ true)
          → (get ((run.at past).held q.name) q ≡ Some o) ⊎ (get (made (world past) e) q ≡ Some o) → is_there o.id.name ≡ true
      by rest (inl g) = rest g
      by rest (inr m) = made_there is_there (world past) e q o parts.0 m

  -- where every hearing gives all, relays do
  module _ (tells : (a : List ℕ) (h : Hearing) → Hears a h → (q : Id) (o : Operation) → get ((run.at h.sent).held a) q ≡ Some o
      → get ((run.at (heard h)).held h.hearer) q ≡ Some o) where
    pub relay : (a b : List ℕ) (from to : List Event) (hearings : List Hearing) → IsRelay a from hearings b to → (q : Id) (o : Operation)
        → get ((run.at from).held a) q ≡ Some o → get ((run.at to).held b) q ≡ Some o
    relay a b from to [] way q o g = subst (λ (n : List ℕ). get ((run.at to).held n) q ≡ Some o) way.0 (grown_to from to way.1 a q o g)
    relay a b from to (h ∷ hearings) way q o g =
        relay h.hearer b (heard h) to hearings way.2 q o (tells a h way.1 q o (grown_to from h.sent way.0 a q o g))

    pub all_held : (is_there : List ℕ → Bool) (later past : List Event) → EndsInRelays is_there later past
        → (name : List ℕ) → is_there name ≡ true → (o : Operation) → IsMade (later ++ past) o
        → get ((run.at (later ++ past)).held name) o.id ≡ Some o
    all_held is_there later past ends name here o m = by (same_bytes o.id.name name) refl
      where
        now : get ((run.at (later ++ past)).held o.id.name) o.id ≡ Some o
        now = made_held (later ++ past) o m

        then : get ((run.at past).held o.id.name) o.id ≡ Some o
        then = back later past ends.exchanges o.id o now

        by : (b : Bool) → same_bytes o.id.name name ≡ b → get ((run.at (later ++ past)).held name) o.id ≡ Some o
        by true e = subst (λ n. get ((run.at (later ++ past)).held n) o.id ≡ Some o) (same_bytes-is o.id.name name e) now
        by false e =
            let way = ends.tell o.id.name name (held_there is_there past ends.edits_there o.id.name o.id o then) here e in
            relay o.id.name name past (later ++ past) way.0 way.1 o.id o then

  -- a replica that holds each operation ever made holds what another does
  pub holds_within : (events : List Event) (a b : List ℕ)
      → ((o : Operation) → IsMade events o → get ((run.at events).held b) o.id ≡ Some o) → (q : Id) (o : Operation)
      → get ((run.at events).held a) q ≡ Some o → get ((run.at events).held b) q ≡ Some o
  holds_within events a b h q o g =
      subst (λ i. get ((run.at events).held b) i ≡ Some o) (get_id ((run.at events).held a) q o g) (h o (was_made events a q o g))

  pub held_same : (events : List Event) (a b : List ℕ)
      → ((o : Operation) → IsMade events o → get ((run.at events).held a) o.id ≡ Some o)
      → ((o : Operation) → IsMade events o → get ((run.at events).held b) o.id ≡ Some o)
      → (run.at events).held a ≡ (run.at events).held b
  held_same events a b ha hb =
      same_gets ((run.at events).held a) ((run.at events).held b) ((run.sound events).rising a) ((run.sound events).rising b)
      (λ q. by q (get ((run.at events).held a) q) refl (get ((run.at events).held b) q) refl)
    where
      by : (q : Id) (x : Option Operation) → get ((run.at events).held a) q ≡ x → (y : Option Operation)
          → get ((run.at events).held b) q ≡ y → x ≡ y
      by q (Some x) e y f = sym (holds_within events a b hb q x e) ∙ f
      by q None e (Some y) f = cc (sym e ∙ holds_within events b a ha q y f)
      by q None e None f = refl
