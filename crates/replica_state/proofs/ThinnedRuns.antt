-- Runs of receivings and thinnings of one family.
use Rattle.std.proofs.Common.{◌≡◌, ℕ, Bool, true, false, ◌||◌, List, [], ◌∷◌, length}
use Rattle.std.proofs.Common.{Option, None, Ok, refl, sym, ap, subst, ◌∙◌}
use Rattle.std.specs.List.{AllByRecursion}
use Rattle.std.specs.Option.{is_some}
use Rattle.op_core.specs.Ids.{Id}
use Rattle.op_core.specs.Ops.{Operation}
use Rattle.op_core.specs.Sets.{get, clash, join}
use Rattle.op_core.specs.Lists.{is_held}
use Rattle.op_core.specs.Thinned.{is_sent, delta, thin, IsOf}
use Rattle.op_core.proofs.ThinnedSets.Bare.{held_same}
use Rattle.op_core.proofs.Sets.Families.{family_joins, family_thins, held_either}
use Rattle.op_core.proofs.Sets.Filters.{rises-filter, filter_within}
use Rattle.op_core.proofs.Sets.Groupings.{delta_joins}
use Rattle.op_core.proofs.Sets.Legal.{delta_legal, skeleton_thin}
use Rattle.op_core.proofs.Sets.Union.{get-join}
use Rattle.bundle_codec.specs.Summaries.{NameRanges, IsSummaryOf, covers, outside}
use Rattle.replica_state.specs.States.{State, begun}
use Rattle.replica_state.specs.Steps.{Command, Receive, Edit, EditOver, Import, Thin, Received, received, step, with_ops}
use Rattle.replica_state.specs.Runs.{after_all, IsTaken, NoneRefused}
use Rattle.replica_state.specs.ThinLaws.{SameButThinned, TakesFrom, brought, is_brought, RunAlike, GivesUnion}
use Rattle.replica_state.proofs.DeltasJoined.{delta_new}
use Rattle.replica_state.proofs.Thinning.{same_family}
use Rattle.op_core.proofs.Indexed.Awaited.{held-get}

module _ (family : Id → Operation) where
  pub held_by_both : (s t : List Operation) → IsOf family s → IsOf family t → (q : Id) → is_held (join s t) q ≡ (is_held s q || is_held t q)
  held_by_both s t hs ht q =
      held-get (join s t) q ∙ ap is_some (get-join s t q hs.rising ht.rising) ∙ held_either (get s q) (get t q)
      ∙ (λ i. sym (held-get s q) i || sym (held-get t q) i)

  -- ---- one command

  pub record Told (s : State) (c : Command) : Type 0 where
    pub taken : IsTaken (step s c).reply
    pub of : IsOf family (step s c).after.held
    pub ids : (q : Id) → is_held (step s c).after.held q ≡ (is_held s.held q || is_held (brought c) q)

  or_none : (b : Bool) → b ≡ (b || false)
  or_none true = refl
  or_none false = refl

  told : (s : State) (c : Command) → IsOf family s.held → TakesFrom family c → Told s c
  told s (Receive bundle) hs hb =
      let joined = family_joins family s.held bundle hs hb in
      let at : (P : Option Id → Type 0) → P None → P (clash s.held bundle) = λ P p. subst P (sym joined.0) p in
      record {
        taken = at (λ c. IsTaken (received s bundle c).reply) refl;
        of = at (λ c. IsOf family (received s bundle c).after.held) joined.1;
        ids = λ q. at (λ c. is_held (received s bundle c).after.held q ≡ (is_held s.held q || is_held bundle q))
            (held_by_both s.held bundle hs hb q);
      }
  told s (Edit g text) hs hc = absurd hc
  told s (EditOver g text given) hs hc = absurd hc
  told s (Import file) hs hc = absurd hc
  told s Thin hs hc = record {
    taken = tt;
    of = family_thins family s.held hs;
    ids = λ q. held_same (thin s.held) s.held (skeleton_thin s.held) q ∙ or_none (is_held s.held q);
  }

  -- ---- commands one after another

  record Ran (s : State) (commands : List Command) : Type 0 where
    taken : NoneRefused s commands
    of : IsOf family (after_all s commands).held
    ids : (q : Id) → is_held (after_all s commands).held q ≡ (is_held s.held q || is_brought commands q)

  or_more : (a b c : Bool) → ((a || b) || c) ≡ (a || (b || c))
  or_more true b c = refl
  or_more false b c = refl

  ran : (s : State) (commands : List Command) → IsOf family s.held → AllByRecursion (TakesFrom family) commands → Ran s commands
  ran s [] hs hc = record { taken = tt; of = hs; ids = λ q. or_none (is_held s.held q) }
  ran s (c ∷ later) hs hc =
      let one = told s c hs hc.0 in
      let rest = ran (step s c).after later one.of hc.1 in
      record {
        taken = (one.taken, rest.taken);
        of = rest.of;
        ids = λ q. rest.ids q ∙ ap (λ b. b || is_brought later q) (one.ids q)
            ∙ or_more (is_held s.held q) (is_held (brought c) q) (is_brought later q);
      }

  none_held : IsOf family []
  none_held = record { rising = refl; legal = refl; each = λ q o g. cc g }

  -- runs of one family that bring the same ids are alike
  pub run_alike : (name other : List ℕ) (commands others : List Command) → AllByRecursion (TakesFrom family) commands
      → AllByRecursion (TakesFrom family) others → ((q : Id) → is_brought commands q ≡ is_brought others q)
      → RunAlike (begun name) (begun other) commands others
  run_alike name other commands others hc ho same =
      let one = ran (begun name) commands none_held hc in
      let two = ran (begun other) others none_held ho in
      record {
        taken = one.taken;
        others_taken = two.taken;
        same = same_family family (after_all (begun name) commands) (after_all (begun other) others) one.of two.of
            (λ q. one.ids q ∙ same q ∙ sym (two.ids q));
      }

  -- ---- a delta

  delta_of : (knows : Id → Bool) (held : List Operation) → IsOf family held → IsOf family (delta held knows)
  delta_of knows held h = record {
    rising = rises-filter (is_sent held knows) held h.rising;
    legal = delta_legal held knows h.rising h.legal;
    each = λ q o g. h.each q o (filter_within (is_sent held knows) held h.rising q o g);
  }

  pub gives_union : (own other : State) (s : List NameRanges) → IsOf family own.held → IsOf family other.held → IsSummaryOf own.held s
      → GivesUnion own other (outside s other.held)
  gives_union own other s ho ht h =
      let sent = delta_of (covers s) other.held ht in
      let joined = family_joins family own.held (outside s other.held) ho sent in
      let whole = family_joins family own.held other.held ho ht in
      let alike = delta_joins own.held other.held (covers s) ho.rising ht.rising whole.0 (λ q e. sym (h.exactly q) ∙ e) in
      let same = same_family family (with_ops own (outside s other.held)) (with_ops own other.held) joined.1 whole.1
      (held_same (join own.held (outside s other.held)) (join own.held other.held) alike.1) in
      record {
        reply = ap (λ (c : Option Id). (received own (outside s other.held) c).reply) joined.0
            ∙ ap (λ (ops : List Operation). Received (Ok (length ops))) (delta_new own.held other.held s h);
        same = subst (λ (c : Option Id). SameButThinned (received own (outside s other.held) c).after (with_ops own other.held))
            (sym joined.0) same;
      }
