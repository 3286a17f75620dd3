-- What exchanges bring.
use Rattle.std.proofs.Common.{◌≡◌, ℕ, inl, inr, Bool, true, false, not, ◌&&◌, List, [], ◌∷◌, ◌++◌}
use Rattle.std.proofs.Common.{append_assoc, refl, sym, ap, subst, ◌∙◌, Option, Some, None}
use Rattle.std.specs.Prelude.{slice_get}
use Rattle.std.specs.List.{list_all}
use Rattle.std.specs.Option.{option_map}
use Rattle.std.specs.Cmp.Lexicographic.{bytes_decides}
use Rattle.std.proofs.lemmas.Bool.{true≢false, false_from_ne_true}
use Rattle.usfm_ref.specs.Books.{same_bytes}
use Rattle.usfm_ref.proofs.Orders.{same_bytes-is}
use Rattle.op_core.specs.Ids.{Id}
use Rattle.op_core.specs.Ops.{Operation, bare, names}
use Rattle.op_core.specs.Sets.{rises, get, join}
use Rattle.op_core.specs.Lists.{is_held}
use Rattle.op_core.specs.Thinned.{is_legal, is_sent, skeleton, of_ids, delta, StandsFor}
use Rattle.op_core.proofs.ThinnedSets.Bare.{held_same as ids_held}
use Rattle.op_core.proofs.Sets.Clashes.{get_id}
use Rattle.op_core.proofs.Sets.Groupings.{get_bare}
use Rattle.op_core.proofs.Sets.Legal.{delta_legal}
use Rattle.op_core.proofs.Sets.Union.{same_gets}
use Rattle.bundle_codec.specs.Summaries.{summary_of, covers, outside}
use Rattle.bundle_codec.proofs.Told.{covers_its_ids}
use Rattle.replica_state.specs.World.{Event, Bundles, Receives, world, replica_name, is_apart}
use Rattle.replica_state.specs.World.Schedules.{Holds, Where, At, Within, found, in_bundle, IsMade, IsOrThinned}
use Rattle.replica_state.specs.World.Exchanges.{HoldUnion, Request, Whole, Lacking, Hearing}
use Rattle.replica_state.specs.World.Exchanges.{IsBefore, hearing, bundled, wanted, IsAsked, Hears, heard, IsRelay}
use Rattle.replica_state.specs.World.Agreement.{HoldsAll, EndsInRelays}
use Rattle.replica_state.proofs.World.Flights.{apart, all_apart, all_both, all_parts, bundles_stay}
use Rattle.op_core.proofs.Indexed.Awaited.{held-get}
use Rattle.replica_state.proofs.World.Held.{join_left, join_right, held_at, at_held, delta_holds}
use Rattle.replica_state.proofs.World.Held.{delta_joins, join_turned, join_back, same_delta, of_its_ids, all_ids}
use Rattle.replica_state.proofs.World.Moments.{the_twin, whole, holds_of, InFull, of_bare, stands, one_in_twin, found_whole}
use Rattle.replica_state.proofs.World.Moves.{Sound, received_is}
use Rattle.replica_state.proofs.World.Next.{names_shown, shown_held}
use Rattle.replica_state.proofs.World.Runs.{grown_to, was_made, made_held, relay, all_held, holds_within, held_same}
use Rattle.replica_state.proofs.World.Twins.{BothAt, each_at, twins, sound_no_clash, no_clash_here}

-- the summary of a set lacks what the set does not hold
outside_is : (own other : List Operation) → outside (summary_of own) other ≡ delta other (is_held own)
outside_is own other = same_delta other (covers (summary_of own)) (is_held own) (λ q. covers_its_ids own q ∙ sym (held-get own q))

received_held : (events : List Event) (a : List ℕ) (k : ℕ) (ops : List Operation) → slice_get (world events).bundles k ≡ Some ops
    → (world (Receives a k ∷ events)).held a ≡ join ((world events).held a) ops
received_held events a k ops e =
    received_is (world events) a (slice_get (world events).bundles k) ops e (no_clash_here events a k ops e)

-- two replicas hold one operation under each id, but for its text
one_bare : (events : List Event) (a b : List ℕ) (q : Id) (x y : Operation) → get ((world events).held a) q ≡ Some x
    → get ((world events).held b) q ≡ Some y → bare x ≡ bare y
one_bare events a b q x y gx gy =
    let p = found_whole events (At a) q x gx in
    let r = found_whole events (At b) q y gy in
    bare_is x p.0 p.2 ∙ ap bare (one_in_twin events (At a) (At b) q p.0 r.0 p.1 r.1) ∙ sym (bare_is y r.0 r.2)
  where
    bare_is : (x o : Operation) → IsOrThinned x o → bare x ≡ bare o
    bare_is x o (inl e) = ap bare e
    bare_is x o (inr e) = ap bare e

-- ---- deltas

module _ (last between first past : List Event) (a b : List ℕ) (k n : ℕ) (differ : same_bytes a b ≡ false)
    (apart_all : list_all (λ e. is_apart a e && is_apart b e) (last ++ (between ++ first)) ≡ true)
    (ek : slice_get (world (first ++ past)).bundles k ≡ Some (outside (summary_of ((world past).held a)) ((world past).held b))) where
  abbrev s : List Operation
  s = (world past).held a

  abbrev t : List Operation
  t = (world past).held b

  abbrev one : List Event
  one = first ++ past

  abbrev two : List Event
  two = between ++ (Receives a k ∷ (first ++ past))

  abbrev then : List Event
  then = last ++ (Receives b n ∷ (between ++ (Receives a k ∷ (first ++ past))))

  -- what the first holds when it has received
  abbrev more : List Operation
  more = (world (Receives a k ∷ (first ++ past))).held a

  both : (list_all (is_apart a) (last ++ (between ++ first)) ≡ true) × (list_all (is_apart b) (last ++ (between ++ first)) ≡ true)
  both = all_both (is_apart a) (is_apart b) (last ++ (between ++ first)) apart_all

  differ2 : same_bytes b a ≡ false
  differ2 = false_from_ne_true _ (λ h. true≢false (sym ((bytes_decides a b).1 (sym (same_bytes-is b a h))) ∙ differ))

  split : (name : List ℕ) → list_all (is_apart name) (last ++ (between ++ first)) ≡ true
      → (list_all (is_apart name) last ≡ true) × (list_all (is_apart name) between ≡ true) × (list_all (is_apart name) first ≡ true)
  split name h =
      let p = all_parts (is_apart name) last (between ++ first) h in
      let q = all_parts (is_apart name) between first p.1 in
      (p.0, q.0, q.1)

  rs : rises s ≡ true
  rs = (stands past a).rising

  rt : rises t ≡ true
  rt = (stands past b).rising

  of_more : skeleton more ≡ skeleton (join s t)
  of_more =
      ap skeleton (received_held one a k _ ek
      ∙ ap (λ xs. join xs (outside (summary_of s) t)) (all_apart first past a (split a both.0).2)
      ∙ ap (join s) (outside_is s t))
      ∙ delta_joins s t rs rt

  of_a : skeleton ((world then).held a) ≡ skeleton (join s t)
  of_a =
      let p = split a both.0 in
      ap skeleton (all_apart last (Receives b n ∷ two) a p.0
      ∙ apart (world two) a (Receives b n) (ap not differ)
      ∙ all_apart between (Receives a k ∷ one) a p.1)
      ∙ of_more

  -- what the second receives is joined to what it held
  at_b : (sent : List Operation) → slice_get (world two).bundles n ≡ Some sent → (world then).held b ≡ join t sent
  at_b sent e =
      let p = split b both.1 in
      all_apart last (Receives b n ∷ two) b p.0
      ∙ received_held two b n sent e
      ∙ ap (λ xs. join xs sent)
      (all_apart between (Receives a k ∷ one) b p.1 ∙ apart (world one) b (Receives a k) (ap not differ2) ∙ all_apart first past b p.2)

  pub deltas_join : slice_get (world two).bundles n ≡ Some (outside (summary_of t) s)
      → HoldUnion (world then) a b s t
  deltas_join e = record {
    first = of_a;
    second = ap skeleton (at_b (outside (summary_of t) s) e ∙ ap (join t) (outside_is t s))
        ∙ delta_joins t s rt rs ∙ join_turned t s rt rs (one_bare past b a);
  }

  pub deltas_join_in_turn : slice_get (world two).bundles n ≡ Some (outside (summary_of t) more)
      → HoldUnion (world then) a b s t
  deltas_join_in_turn e =
      let rm = (stands (Receives a k ∷ one) a).rising in
      record {
        first = of_a;
        second = ap skeleton (at_b (outside (summary_of t) more) e ∙ ap (join t) (outside_is t more))
            ∙ delta_joins t more rt rm ∙ join_back s t more rs rt rm of_more (one_bare past a b);
      }

-- ---- what a delta gives

-- what is sent is legal, and its ids give it
bundled_legal : (events : List Event) (teller hearer : List ℕ) (request : Request)
    → is_legal (bundled hearer request ((world events).held teller)) ≡ true
bundled_legal events teller hearer Whole = (stands events teller).legal
bundled_legal events teller hearer (Lacking asked) =
    delta_legal ((world events).held teller) (covers (summary_of ((world asked).held hearer))) (stands events teller).rising
    (stands events teller).legal

bundled_by_ids : (events : List Event) (teller hearer : List ℕ) (request : Request)
    → of_ids (wanted hearer request ((world events).held teller)) ((world events).held teller)
    ≡ bundled hearer request ((world events).held teller)
bundled_by_ids events teller hearer Whole = all_ids ((world events).held teller) (stands events teller).rising
bundled_by_ids events teller hearer (Lacking asked) =
    of_its_ids (is_sent ((world events).held teller) (covers (summary_of ((world asked).held hearer)))) ((world events).held teller)
    (stands events teller).rising

pub can_be_heard : (later sent : List Event) (teller hearer : List ℕ) (request : Request)
    → (k : ℕ) × (slice_get (world (later ++ Bundles teller (wanted hearer request ((world sent).held teller)) ∷ sent)).bundles k
    ≡ Some (bundled hearer request ((world sent).held teller)))
can_be_heard later sent teller hearer request =
    let e = bundled_by_ids sent teller hearer request in
    let r = bundles_stay later sent teller (wanted hearer request ((world sent).held teller))
    (ap is_legal e ∙ bundled_legal sent teller hearer request) in
    (r.0, r.1 ∙ ap Some e)

pub any_bundle_tells : (later made sent : List Event) (teller maker hearer : List ℕ) (request : Request) (kept : Id → Bool)
    → IsAsked request sent → IsBefore sent (later ++ Bundles maker kept ∷ made)
    → is_legal (of_ids kept ((world made).held maker)) ≡ true
    → ((o : Operation) → Holds (bundled hearer request ((world sent).held teller)) o → Holds (of_ids kept ((world made).held maker)) o)
    → (k : ℕ) × Hears teller (hearing hearer request sent k (later ++ Bundles maker kept ∷ made))
any_bundle_tells later made sent teller maker hearer request kept asked before legal has =
    let r = bundles_stay later made maker kept legal in
    (r.0, record { asked = asked; later = before; ops = of_ids kept ((world made).held maker); is = r.1; has = has })

-- ---- hearings

-- the bundle of a hearing at the twin
record Bundle (h : Hearing) (b : List Operation) : Type 0 where
  ops : List Operation
  is : slice_get (whole h.got).bundles h.bundle ≡ Some ops
  stands_for : StandsFor b ops

bundle_there : (h : Hearing) (b : List Operation) → slice_get (world h.got).bundles h.bundle ≡ Some b → Bundle h b
bundle_there h b e = by (slice_get (whole h.got).bundles h.bundle) refl
    (subst (λ r. BothAt r (slice_get (whole h.got).bundles h.bundle)) e
    (each_at (world h.got).bundles (whole h.got).bundles (twins h.got).stands.bundles h.bundle))
  where
    by : (r : Option (List Operation)) → slice_get (whole h.got).bundles h.bundle ≡ r → BothAt (Some b) r → Bundle h b
    by None f both = absurd both
    by (Some u) f both = record { ops = u; is = f; stands_for = both }

-- what is held in full or without its text is held, perhaps without its text
in_skeleton : (s : List Operation) (q : Id) (o : Operation) → get s q ≡ Some o → Holds s o
in_skeleton s q o g = get_bare s o.id ∙ ap (λ i. option_map bare (get s i)) (get_id s q o g) ∙ ap (option_map bare) g

-- the hearer of a bundle holds what the teller held
hears : (a : List ℕ) (h : Hearing) → Hears a h → (q : Id) (o : Operation) → get ((whole h.sent).held a) q ≡ Some o
    → get ((whole (heard h)).held h.hearer) q ≡ Some o
hears a h r q o g = ap (λ xs. get xs q) now ∙ held (get ((whole h.got).held h.hearer) q) refl
  where
    asked_for : List Operation
    asked_for = bundled h.hearer h.request ((world h.sent).held a)

    s : Sound (whole h.got)
    s = (twins h.got).sound

    there : Bundle h r.ops
    there = bundle_there h r.ops r.is

    now : (whole (heard h)).held h.hearer ≡ join ((whole h.got).held h.hearer) there.ops
    now = received_is (whole h.got) h.hearer (slice_get (whole h.got).bundles h.bundle) there.ops there.is
        (sound_no_clash (whole h.got) s h.hearer h.bundle there.ops there.is)

    sent : (name : List ℕ) (x : Operation) → get ((whole h.sent).held name) q ≡ Some x → get ((whole h.got).held name) q ≡ Some x
    sent name x g = grown_to the_twin h.sent h.got r.later name q x g

    -- what is found there under the id is the same one
    same : (x : Operation) (at : Where) → found (whole h.got) at q ≡ Some x → x ≡ o
    same x at e = one_in_twin h.got at (At a) q x o e (sent a o g)

    in_bundle_there : (x : Operation) → get there.ops q ≡ Some x → found (whole h.got) (Within h.bundle) q ≡ Some x
    in_bundle_there x e = ap (λ r. in_bundle r q) there.is ∙ e

    -- what the teller holds of it here
    here : (x : Operation) → get ((world h.sent).held a) q ≡ Some x → (request : Request) → IsAsked request h.sent
        → get ((whole h.got).held h.hearer) q ≡ None → get (bundled h.hearer request ((world h.sent).held a)) q ≡ Some x
    here x f Whole asked n = f
    here x f (Lacking asked) before n =
        delta_holds ((world h.sent).held a) (covers (summary_of ((world asked).held h.hearer))) q x f
        (covers_its_ids ((world asked).held h.hearer) q ∙ sym (held-get ((world asked).held h.hearer) q)
        ∙ lacks (is_held ((world asked).held h.hearer) q) refl)
      where
        lacks : (b : Bool) → is_held ((world asked).held h.hearer) q ≡ b → is_held ((world asked).held h.hearer) q ≡ false
        lacks false e = e
        lacks true e =
            let x = held_at ((whole asked).held h.hearer) q (sym (ids_held _ _ (stands asked h.hearer).skeletons q) ∙ e) in
            cc (sym n ∙ sent h.hearer x.0 (grown_to the_twin asked h.sent before h.hearer q x.0 x.1))

    held_here : InFull ((world h.sent).held a) q (bare o)
    held_here = by (get ((world h.sent).held a) q) refl
        (sym (get_bare ((world h.sent).held a) q) ∙ ap (λ xs. get xs q) (stands h.sent a).skeletons ∙ get_bare ((whole h.sent).held a) q
        ∙ ap (option_map bare) g)
      where
        by : (r : Option Operation) → get ((world h.sent).held a) q ≡ r → option_map bare r ≡ Some (bare o)
            → InFull ((world h.sent).held a) q (bare o)
        by None e f = cc f
        by (Some x) e f = record { op = x; here = e; same = cc f }

    held : (x : Option Operation) → get ((whole h.got).held h.hearer) q ≡ x → get (join ((whole h.got).held h.hearer) there.ops) q ≡ Some o
    held (Some x) e =
        join_left ((whole h.got).held h.hearer) there.ops (s.rising h.hearer) (s.bundles_rise h.bundle there.ops there.is)
        (λ i y f. s.full i.name i y (s.bundles_own h.bundle there.ops there.is i y f)) q o (e ∙ ap Some (same x (At h.hearer) e))
    held None e =
        let x = held_here.op in
        let asked = here x held_here.here h.request r.asked e in
        let had : get (skeleton r.ops) q ≡ Some (bare x) =
        ap (get (skeleton r.ops)) (sym (get_id asked_for q x asked)) ∙ r.has x (in_skeleton asked_for q x asked) in
        let w = of_bare r.ops there.ops there.stands_for q (bare x) had in
        join_right ((whole h.got).held h.hearer) there.ops (s.rising h.hearer) (s.bundles_rise h.bundle there.ops there.is) q e
        ∙ w.here ∙ ap Some (same w.op (Within h.bundle) (in_bundle_there w.op w.here))

-- where a relay leads, what was held is held, perhaps without its text
pub relay_tells : (a b : List ℕ) (from to : List Event) (hearings : List Hearing) → IsRelay a from hearings b to → (o : Operation)
    → Holds ((world from).held a) o → Holds ((world to).held b) o
relay_tells a b from to hearings r o g =
    let x = of_bare ((world from).held a) ((whole from).held a) (stands from a) o.id (bare o) g in
    let now : Holds ((world to).held b) x.op =
    holds_of ((world to).held b) ((whole to).held b) (stands to b) o.id x.op
    (relay the_twin hears a b from to hearings r o.id x.op x.here) in
    subst (λ (z : Operation). get (skeleton ((world to).held b)) z.id ≡ Some z) x.same now

-- ---- all hold all

-- where relays lead, each replica of the team holds all that was made
pub all_hold_all : (is_there : List ℕ → Bool) (later past : List Event) → EndsInRelays is_there later past
    → (name : List ℕ) → is_there name ≡ true → HoldsAll (later ++ past) name
all_hold_all is_there later past ends name here o m =
    holds_of _ _ (stands (later ++ past) name) o.id o (all_held the_twin hears is_there later past ends name here o m)

-- who holds all here holds all at the twin
holds_all_in_full : (events : List Event) (name : List ℕ) → HoldsAll events name → (o : Operation) → IsMade events o
    → get ((whole events).held name) o.id ≡ Some o
holds_all_in_full events name h o m =
    let x = of_bare ((world events).held name) ((whole events).held name) (stands events name) o.id (bare o) (h o m) in
    x.here ∙ ap Some (one_in_twin events (At name) (At o.id.name) o.id x.op o x.here (made_held the_twin events o m))

pub hold_same : (events : List Event) (a b : List ℕ) → HoldsAll events a → HoldsAll events b
    → skeleton ((world events).held a) ≡ skeleton ((world events).held b)
hold_same events a b ha hb =
    (stands events a).skeletons
    ∙ ap skeleton (held_same the_twin events a b (holds_all_in_full events a ha) (holds_all_in_full events b hb))
    ∙ sym (stands events b).skeletons

thinned_names : (x o : Operation) (named : Id) → IsOrThinned x o → names x named ≡ true → names o named ≡ true
thinned_names x o named (inl e) h = subst (λ (p : Operation). names p named ≡ true) e h
thinned_names x o named (inr e) h = subst (λ (p : Operation). names p named ≡ true) e h

pub awaits_none : (events : List Event) (a : List ℕ) → HoldsAll events a → (id : Id) (o : Operation)
    → get ((world events).held a) id ≡ Some o → (named : Id) → names o named ≡ true → is_held ((world events).held a) named ≡ true
awaits_none events a h id p g named n =
    let f = found_whole events (At a) id p g in
    let o = f.0 in
    let m = was_made the_twin events a id o f.1 in
    let maker = replica_name m.event in
    let seen = shown_held ((world m.past).held maker) o.segment named
    (names_shown m.past m.event o named m.makes (thinned_names p o named f.2 n)) in
    let x = held_at ((whole m.past).held maker) named (sym (ids_held _ _ (stands m.past maker).skeletons named) ∙ seen) in
    let now : get ((whole events).held maker) named ≡ Some x.0 =
    grown_to the_twin m.past events (
      m.later ++ m.event ∷ [],
      m.here
          ∙ sym (append_assoc m.later (m.event ∷ []) m.past),
    ) maker named x.0 x.1 in
    ids_held _ _ (stands events a).skeletons named
    ∙ at_held ((whole events).held a) named x.0 (holds_within the_twin events maker a (holds_all_in_full events a h) named x.0 now)

-- equal skeletons are of equal twins
pub same_twins : (events : List Event) (a b : List ℕ) → skeleton ((world events).held a) ≡ skeleton ((world events).held b)
    → (whole events).held a ≡ (whole events).held b
same_twins events a b e =
    same_gets ((whole events).held a) ((whole events).held b) ((twins events).sound.rising a) ((twins events).sound.rising b)
    (λ q. by q (get ((whole events).held a) q) refl (get ((whole events).held b) q) refl (at q))
  where
    at : (q : Id) → option_map bare (get ((whole events).held a) q) ≡ option_map bare (get ((whole events).held b) q)
    at q = sym (get_bare _ q) ∙ ap (λ xs. get xs q) (sym (stands events a).skeletons ∙ e ∙ (stands events b).skeletons) ∙ get_bare _ q

    by : (q : Id) (x : Option Operation) → get ((whole events).held a) q ≡ x → (y : Option Operation) → get ((whole events).held b) q ≡ y
        → option_map bare x ≡ option_map bare y → x ≡ y
    by q None e None f h = refl
    by q None e (Some y) f h = cc h
    by q (Some x) e None f h = cc h
    by q (Some x) e (Some y) f h = ap Some (one_in_twin events (At a) (At b) q x y e f)
