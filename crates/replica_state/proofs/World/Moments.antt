-- What holds after every list of events, by its twin.
use Rattle.std.proofs.Common.{◌≡◌, ℕ, suc, ◌<◌, inl, inr, Bool, true, false, List, [], ◌∷◌}
use Rattle.std.proofs.Common.{◌++◌, arith, refl, sym, ap, subst, ◌∙◌, Option, Some, None}
use Rattle.std.specs.Prelude.{slice_get}
use Rattle.std.specs.Option.{option_map, is_some}
use Rattle.std.proofs.lemmas.Bool.{true≢false}
use Rattle.usfm_ref.specs.Keys.{book_head}
use Rattle.usfm_ref.specs.Segments.{segment}
use Rattle.usfm_ref.proofs.Orders.{same_segment-refl}
use Rattle.op_core.specs.Ids.{Id}
use Rattle.op_core.specs.Ops.{Operation, is_full, bare, with_text, agree, texts_agree, names}
use Rattle.op_core.specs.Sets.{get}
use Rattle.op_core.specs.NextIds.{greatest_number}
use Rattle.op_core.specs.Thinned.{skeleton, StandsFor, IsOf}
use Rattle.op_core.proofs.Sets.Agreement.{Agree, agree-from, agree_itself}
use Rattle.op_core.proofs.Sets.Clashes.{get_id}
use Rattle.op_core.proofs.Sets.Families.{stands_of}
use Rattle.op_core.proofs.Sets.Groupings.{get_bare}
use Rattle.replica_state.specs.World.{World, Event, world, replica_name}
use Rattle.replica_state.specs.World.Twin.{twin}
use Rattle.replica_state.specs.World.Schedules.{Holds, HoldsAs, Makes, Where, At, Within, found, in_bundle, IsMade, IsOrThinned, IsChain}
use Rattle.replica_state.proofs.World.Next.{falls, chain}
use Rattle.replica_state.proofs.World.Runs.{Run, held_own, at_maker, was_made, made_name, one_for_each as one_in_run}
use Rattle.replica_state.proofs.World.Twins.{BothAt, each_at, twin_move, twins}

-- the moment of the twin
abbrev pub whole : List Event → World
whole events = world (twin events)

-- ---- what is held here, and at the twin

-- what the twin holds is held, perhaps without its text
pub holds_of : (s u : List Operation) → StandsFor s u → (q : Id) (o : Operation) → get u q ≡ Some o → Holds s o
holds_of s u h q o g =
    ap (λ xs. get xs o.id) h.skeletons ∙ get_bare u o.id ∙ ap (λ i. option_map bare (get u i)) (get_id u q o g) ∙ ap (option_map bare) g

pub record InFull (u : List Operation) (q : Id) (z : Operation) : Type 0 where
  pub op : Operation
  pub here : get u q ≡ Some op
  pub same : bare op ≡ z

-- what is held without its text is held in full at the twin
pub of_bare : (s u : List Operation) → StandsFor s u → (q : Id) (z : Operation) → get (skeleton s) q ≡ Some z → InFull u q z
of_bare s u h q z g = by (get u q) refl (sym (get_bare u q) ∙ ap (λ xs. get xs q) (sym h.skeletons) ∙ g)
  where
    by : (r : Option Operation) → get u q ≡ r → option_map bare r ≡ Some z → InFull u q z
    by None e f = cc f
    by (Some o) e f = record { op = o; here = e; same = cc f }

thinned : (x : Operation) (t : Option (List ℕ)) → x.text ≡ t → is_some t ≡ false → x ≡ bare x
thinned x None e f = ap (with_text x) e
thinned x (Some t) e f = absurd (true≢false f)

pub whole_of : (s u : List Operation) → StandsFor s u → (q : Id) (x : Operation) → get s q ≡ Some x
    → (o : Operation) × (get u q ≡ Some o) × IsOrThinned x o
whole_of s u h q x g = by (is_full x) refl
  where
    r : InFull u q (bare x)
    r = of_bare s u h q (bare x) (get_bare s q ∙ ap (option_map bare) g)

    by : (b : Bool) → is_full x ≡ b → (o : Operation) × (get u q ≡ Some o) × IsOrThinned x o
    by true f = (x, h.within q x g f, inl refl)
    by false f = (r.op, r.here, inr (thinned x x.text refl f ∙ sym r.same))

thinned_agree : (o x y : Operation) → IsOrThinned x o → IsOrThinned y o → agree x y ≡ true
thinned_agree o x y hx hy = agree-from x y (by hx hy)
  where
    left_out : (t : Option (List ℕ)) → texts_agree t None ≡ true
    left_out None = refl
    left_out (Some t) = refl

    by : IsOrThinned x o → IsOrThinned y o → Agree x y
    by (inl e) (inl f) = rw (e, f) (agree_itself o)
    by (inl e) (inr f) = rw (e, f) (record { bares = refl; texts = left_out o.text })
    by (inr e) (inl f) = rw (e, f) (record { bares = refl; texts = refl })
    by (inr e) (inr f) = rw (e, f) (record { bares = refl; texts = refl })

thinned_falls : (p o : Operation) → IsOrThinned p o → ((id : Id) → names o id ≡ true → id.number < o.id.number)
    → (id : Id) → names p id ≡ true → id.number < p.id.number
thinned_falls p o (inl e) h = subst (λ (p : Operation). (id : Id) → names p id ≡ true → id.number < p.id.number) (sym e) h
thinned_falls p o (inr e) h = subst (λ (p : Operation). (id : Id) → names p id ≡ true → id.number < p.id.number) (sym e) h

-- ---- every moment

-- what a replica holds stands for what it holds at the twin
pub stands : (events : List Event) (name : List ℕ) → StandsFor ((world events).held name) ((whole events).held name)
stands events name = (twins events).stands.held name

-- at first nothing is held
pub none_at_first : (name : List ℕ) (q : Id) (o : Operation) → get ((whole []).held name) q ≡ Some o → ⊥
none_at_first name q o g = cc g

-- the twin is a run
abbrev pub the_twin : Run
the_twin = record {
  at = λ events. world (twin events);
  empty = none_at_first;
  sound = λ events. (twins events).sound;
  moves = λ e past. twin_move (world past) (twin past) e (twins past);
}

-- what an event makes its replica holds from then on, perhaps without its text
pub holds_own : (later : List Event) (e : Event) (past : List Event) (o : Operation) → Makes (world past) e o
    → HoldsAs (replica_name e) ((world (later ++ e ∷ past)).held (replica_name e)) o
holds_own later e past o m =
    let name = made_name (world past) e o.id o m in
    record {
      is_held = subst (λ (n : List ℕ). Holds ((world (later ++ e ∷ past)).held n) o) name
          (holds_of _ _ (stands (later ++ e ∷ past) o.id.name) o.id o (held_own the_twin later e past o m));
      own_name = name;
    }

-- what is found here is found in full at the twin
pub found_whole : (events : List Event) (a : Where) (q : Id) (x : Operation) → found (world events) a q ≡ Some x
    → (o : Operation) × (found (whole events) a q ≡ Some o) × IsOrThinned x o
found_whole events (At name) q x g = whole_of _ _ (stands events name) q x g
found_whole events (Within k) q x g =
    by (slice_get (world events).bundles k) (slice_get (whole events).bundles k)
    (each_at (world events).bundles (whole events).bundles (twins events).stands.bundles k) g
  where
    by : (r s : Option (List Operation)) → BothAt r s → in_bundle r q ≡ Some x →
        (o : Operation) × (in_bundle s q ≡ Some o) × IsOrThinned x o
    by None s both g = cc g
    by (Some b) None both g = absurd both
    by (Some b) (Some u) both g = whole_of b u both q x g

pub one_in_twin : (events : List Event) (a b : Where) (id : Id) (x y : Operation) → found (whole events) a id ≡ Some x
    → found (whole events) b id ≡ Some y → x ≡ y
one_in_twin = one_in_run the_twin

pub found_was_made : (events : List Event) (a : Where) (id : Id) (x : Operation) → found (world events) a id ≡ Some x
    → (o : Operation) × IsMade events o × IsOrThinned x o
found_was_made events a id x g =
    let r = found_whole events a id x g in
    (r.0, was_made the_twin events id.name id r.0 (at_maker (whole events) (twins events).sound a id r.0 r.1), r.2)

-- what is found under one id, anywhere, agrees
pub one_for_each : (events : List Event) (a b : Where) (id : Id) (x y : Operation) → found (world events) a id ≡ Some x
    → found (world events) b id ≡ Some y → agree x y ≡ true
one_for_each events a b id x y gx gy =
    let p = found_whole events a id x gx in
    let q = found_whole events b id y gy in
    let same : q.0 ≡ p.0 = one_in_twin events b a id q.0 p.0 q.1 p.1 in
    thinned_agree p.0 x y p.2 (subst (IsOrThinned y) same q.2)

-- from a held operation a chain of replacements leads to a shown one
pub shown_in_the_end : (events : List Event) (name : List ℕ) (id : Id) (o : Operation) → get ((world events).held name) id ≡ Some o
    → (chain : List Operation) × IsChain ((world events).held name) o.segment o chain
shown_in_the_end events name id o g =
    let here : get ((world events).held name) o.id ≡ Some o =
    ap (get ((world events).held name)) (get_id ((world events).held name) id o g) ∙ g in
    chain ((world events).held name) (stands events name).rising
    (λ p h. let m = found_was_made events (At name) p.id p h in thinned_falls p m.0 m.2 (falls events m.0 m.1)) o.segment
    (suc (greatest_number ((world events).held name))) o (omega arith) here (same_segment-refl o.segment)

-- ---- the family of what was made

abbrev pub or_empty : Id → Option Operation → Operation
or_empty id None = record { id = id; segment = segment [] book_head; replaced = []; text = None }
or_empty id (Some o) = o

-- of each id the operation that its maker holds in full at the twin
abbrev pub family_at : List Event → Id → Operation
family_at events id = or_empty id (get ((whole events).held id.name) id)

-- what each replica holds is of the family
pub of_family : (events : List Event) (name : List ℕ) → IsOf (family_at events) ((world events).held name)
of_family events name = stands_of (family_at events) ((world events).held name) ((whole events).held name) (stands events name)
    (λ id o g. ap (or_empty id) (at_maker (whole events) (twins events).sound (At name) id o g))
