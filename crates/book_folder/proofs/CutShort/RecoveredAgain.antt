-- Cut short before it put a base of its own, once the project has what the bases brought, a sync is done again.
use Rattle.std.proofs.Common.{◌≡◌, inl, inr, ℕ, suc, ◌-◌, nat_eq, Bool, true, false, cond, ◌&&◌, not, List, [], ◌∷◌, ◌++◌, length, Option, Some, None, Ok, refl, sym, ap, subst, ◌∙◌, arith}
use Rattle.std.specs.List.{AllByRecursion}
use Rattle.std.specs.Option.{is_some}
use Rattle.std.proofs.lemmas.Bool.{cond-true, eq-eqb, false_from_ne_true, false≢true}
use Rattle.op_core.specs.Ops.{Operation}
use Rattle.op_core.specs.Sets.{join}
use Rattle.op_core.proofs.FilteredLists.{filter_both}
use Rattle.op_core.proofs.Sets.Filters.{filter_passes}
use Rattle.op_core.proofs.Sets.NoClash.{no_clash}
use Rattle.op_core.proofs.Sets.Union.{agree_from_no_clash}
use Rattle.bundle_codec.specs.Joining.{whole_at}
use Rattle.bundle_codec.specs.Reading.{AreBytes}
use Rattle.project_file.specs.Projects.{project}
use Rattle.project_file.proofs.Files.{project_is}
use Rattle.replica_state.specs.States.{State, IsState, begun}
use Rattle.replica_state.specs.Steps.{with_ops}
use Rattle.book_folder.specs.Asks.{undone}
use Rattle.book_folder.specs.Bases.{other_than}
use Rattle.book_folder.specs.Begun.{BegunParts, begun_alone, begun_with, is_one_of, joined_at, ops_not_of, ops_of, project_or, received, received_if_alike, received_or, replica_at, settled_base, with_base, with_base_at, with_bases, with_next}
use Rattle.book_folder.specs.Coming.{AllTaken, CameInParts, all_came, bundles_begun, bundles_come_in, comes_in, earlier_bases, in_turn, none_taken, older_from, rebased_if_stale, taken_all}
use Rattle.book_folder.specs.DoneAgain.{BasesStand, IsLeftEarly, RecoveredComesInAgain, with_nothing_new}
use Rattle.book_folder.specs.Files.{FileParts}
use Rattle.book_folder.specs.FolderLaws.{MayBeBytes}
use Rattle.book_folder.specs.Refusals.{◌>>=◌, Stepped, stepped}
use Rattle.book_folder.specs.Stale.{rebased}
use Rattle.book_folder.specs.Wanted.{SeenParts, WishParts}
use Rattle.book_folder.specs.declared.refusal.Place.{Place}
use Rattle.book_folder.specs.declared.refusal.Place.TheVariants as places
use Rattle.book_folder.proofs.BundlesAgain.{stays}
use Rattle.book_folder.proofs.CutShort.BaseReceived.{FromBases, IsReceived, NextParts, base_parts, from_bases, next_parts, own_settled, with_all, with_one}
use Rattle.book_folder.proofs.CutShort.Earlier.{AreBehind, AskNoMore, all_by_others, fewer, older_are_last, one_more, with_place}
use Rattle.book_folder.proofs.CutShort.HasAll.{HasAll, all_of_right, all_through}
use Rattle.book_folder.proofs.CutShort.OneBase.{one_base}
use Rattle.book_folder.proofs.Schedules.BasesReach.{begun_of, judged_is, ok_is, then_ok}
use Rattle.book_folder.proofs.Schedules.ReadSets.{IsReadable, some_set}
use Rattle.book_folder.proofs.SettledBooks.{joined_apart, only_first}

-- a project that holds what a bundle has receives nothing of it
nothing_new : (t : State) (state : IsState t) (asked : Bool) (place : Place) (bytes : List ℕ) (ops : List Operation) → IsReadable ops
    → whole_at bytes ≡ Ok ops → HasAll t.held ops → received_if_alike asked place t ops ≡ Ok (stepped t 0)
nothing_new t state asked place bytes ops set read has =
    stays t state asked place bytes
    (record { ops = ops; set = set.set; read = read; agrees = no_clash t.held ops set.set.rising has.agrees; held = has.held })

module _ (wishes : WishParts) (t : State) (state : IsState t) (held : ℕ) where
  -- the bases bring nothing to a project that has all that they brought
  bases_again : (at : ℕ) (b : BegunParts) (bases : List (List ℕ)) (next : BegunParts) → IsReceived b → AllByRecursion AreBytes bases
      → with_bases wishes at b bases ≡ Ok next → HasAll t.held next.replica.held
      → with_bases wishes at (begun_of t b.base held) bases ≡ Ok (begun_of t next.base held)
  bases_again at b [] next g fits e has = ap (λ (x : BegunParts). Ok (begun_of t x.base held)) (ok_is b next e)
  bases_again at b (bytes ∷ later) next g fits e has =
      let place : Place = places.Base at in
      let a = then_ok (with_base_at wishes place b bytes) (λ n. with_bases wishes (suc at) n later) next e in
      let h = base_parts wishes place b bytes a.0 fits.0 a.1.0 in
      let one = with_one place b bytes a.0 g h in
      let rest = with_all wishes (suc at) a.0 later next one.received fits.1 a.1.1 in
      let has_one : HasAll a.0.replica.held h.ops =
      subst (λ (x : BegunParts). HasAll x.replica.held h.ops) h.is
      (all_of_right b.replica.held h.ops g.replica.set.rising h.set.set.rising (agree_from_no_clash b.replica.held h.ops h.apart)) in
      let has_next = all_through next.replica.held a.0.replica.held h.ops rest.received.replica.set.rising
      one.received.replica.set.rising h.set.set.rising rest.has has_one in
      let all =
      all_through t.held next.replica.held h.ops state.set.rising rest.received.replica.set.rising h.set.set.rising has has_next in
      let first : with_base_at wishes place (begun_of t b.base held) bytes ≡ Ok (begun_of t a.0.base held) =
      ap (λ r. r >>= with_base wishes place (begun_of t b.base held)) h.read
      ∙ ap (λ r. r >>= λ r. received place b.base h.ops >>= λ base. Ok (begun_of r.after base.after held))
      (nothing_new t state wishes.joined place bytes h.ops h.set (judged_is place bytes h.ops h.read) all)
      ∙ ap (λ r. r >>= λ base. Ok (begun_of t base.after held)) (ap (received_or place b.base h.ops) h.based)
      ∙ ap (λ (x : BegunParts). Ok (begun_of t x.base held)) h.is in
      ap (λ r. r >>= λ n. with_bases wishes (suc at) n later) first
      ∙ bases_again (suc at) a.0 later next one.received fits.1 a.1.1 has

-- the next base brings nothing either, and settles what is settled alike
next_over : (unplaced : List (List ℕ)) (t base : State) (held : ℕ) (b : BegunParts) (bytes : List ℕ) (next : BegunParts)
    (h : NextParts unplaced b bytes next) → HasAll t.held h.ops → base.name ≡ b.base.name
    → settled_base unplaced base.held h.ops ≡ Ok h.settled
    → with_next unplaced (begun_of t base held) (Some bytes) ≡ Ok (begun_of t next.base held)
next_over unplaced t base held b bytes next h has named joined =
    ap (λ r. r >>= λ ops. settled_base unplaced base.held ops >>= λ settled. received places.Next t ops >>= λ r.
    replica_at base.name places.Next settled >>= λ now. Ok (begun_of r.after now held)) h.read
    ∙ ap (λ r. r >>= λ settled. received places.Next t h.ops >>= λ r.
    replica_at base.name places.Next settled >>= λ now. Ok (begun_of r.after now held)) joined
    ∙ ap (λ r. r >>= λ r. replica_at base.name places.Next h.settled >>= λ now. Ok (begun_of r.after now held))
    (ap (received_or places.Next t h.ops) (no_clash t.held h.ops h.set.set.rising has.agrees))
    ∙ (λ i. replica_at (named i) places.Next h.settled >>= λ now. Ok (begun_of (record { name = t.name; held = has.held i }) now held))
    ∙ ap (λ r. r >>= λ now. Ok (begun_of t now held)) h.based

-- what is left of a settled base is what was left of the base
left_again : (unplaced : List (List ℕ)) (base ops : List Operation) (bytes : List ℕ) → IsReadable base → IsReadable ops
    → settled_base unplaced base ops ≡ Ok bytes
    → ops_of unplaced (join (ops_of unplaced base) (ops_not_of unplaced ops)) ≡ ops_of unplaced base
left_again unplaced base ops bytes hb ho joined =
    only_first x y hx.set.rising hy.set.rising (joined_apart places.Next x y bytes hx hy joined) (λ g. is_one_of unplaced g.book)
    (λ q o g. false_from_ne_true _ (λ h.
    false≢true (ap not (sym h) ∙ filter_passes (λ o. not (is_one_of unplaced o.segment.book)) ops q o g)))
    ∙ filter_both left left left (λ o. twice (left o)) base
  where
    left : Operation → Bool
    left o = is_one_of unplaced o.segment.book

    x : List Operation
    x = ops_of unplaced base

    y : List Operation
    y = ops_not_of unplaced ops

    hx : IsReadable x
    hx = some_set (λ o. is_one_of unplaced o.segment.book) base hb

    hy : IsReadable y
    hy = some_set (λ o. not (is_one_of unplaced o.segment.book)) ops ho

    twice : (b : Bool) → (b && b) ≡ b
    twice true = refl
    twice false = refl

module _ (seen again : SeenParts) (wishes : WishParts) (s : State) (b : BegunParts) (from : FromBases seen wishes s b)
    (bytes : AllByRecursion AreBytes seen.bases) (next_bytes : MayBeBytes seen.next) (left : IsLeftEarly seen again b) where
  abbrev t : State
  t = b.replica

  abbrev held : ℕ
  held = length t.held

  abbrev now : BegunParts
  now = begun_of t b.base held

  received_base : IsReceived b
  received_base = from.grows.received

  same_name : s.name ≡ t.name
  same_name = sym (from.grows.name ∙ from.first_grows.name)

  abbrev Settles : State → Type 0
  Settles base =
      (n : List ℕ) (h : NextParts seen.unplaced from.based n b) → settled_base seen.unplaced base.held h.ops ≡ Ok h.settled

  -- by the next base, if it is there, the base is what it was
  by_next : (base : State) → base.name ≡ from.based.base.name → Settles base → (from.based.base ≡ b.base → base ≡ b.base)
      → (there : Option (List ℕ)) → MayBeBytes there → with_next seen.unplaced from.based there ≡ Ok b
      → with_next seen.unplaced (begun_of t base held) there ≡ Ok now
  by_next base named settles alone None fits e =
      ap (λ (x : State). Ok (begun_of t x held)) (alone (ap (λ (x : BegunParts). x.base) (ok_is from.based b e)))
  by_next base named settles alone (Some n) fits e =
      let h = next_parts seen.unplaced from.based n b fits e in
      let has : HasAll t.held h.ops =
      subst (λ (x : State). HasAll x.held h.ops) h.is
      (all_of_right from.based.replica.held h.ops from.first_grows.received.replica.set.rising h.set.set.rising
      (agree_from_no_clash from.based.replica.held h.ops h.apart)) in
      next_over seen.unplaced t base held from.based n b h has named (settles n h)

  abbrev own : State
  own = record { name = t.name; held = b.base.held }

  own_is : own ≡ b.base
  own_is = λ i. record { name = sym received_base.name i; held = b.base.held }

  settles_own : Settles own
  settles_own n h =
      let u = seen.unplaced in
      let base = from.based.base.held in
      let is : b.base.held ≡ join (ops_of u base) (ops_not_of u h.ops) =
      sym (ap (λ (x : State). x.held) (own_settled u from.based n b from.first_grows.received h).0) in
      ap (λ (ops : List Operation). joined_at places.Next ops (ops_not_of u h.ops))
      (ap (ops_of u) is ∙ left_again u base h.ops h.settled from.first_grows.received.readable h.set h.joined) ∙ h.joined

  -- what follows the bases
  abbrev followed : List (List ℕ) → List (List ℕ) → Option (List ℕ) → Type 0
  followed bases unplaced next =
      (with_bases wishes 0 (begun_alone t) bases >>= λ based. with_next unplaced based next) ≡ Ok now

  same_bases : followed seen.bases seen.unplaced seen.next
  same_bases =
      ap (λ r. r >>= λ based. with_next seen.unplaced based seen.next)
      ((λ i. with_bases wishes 0 (begun_of t (record { name = sym same_name i; held = [] }) held) seen.bases)
      ∙ bases_again wishes t received_base.replica held 0 (begun_alone s) seen.bases from.based from.first bytes from.bases from.grows.has)
      ∙ by_next from.based.base refl (λ n h. h.joined) (λ e. e) seen.next next_bytes from.next

  own_base : (settled : List ℕ) → whole_at settled ≡ Ok b.base.held
      → with_bases wishes 0 (begun_alone t) (settled ∷ []) ≡ Ok (begun_of t own held)
  own_base settled read =
      one_base wishes t b.base.held settled t 0 received_base.base.set.rising read
      (nothing_new t received_base.replica wishes.joined (places.Base 0) settled b.base.held received_base.readable read
      received_base.has)

  begins_again : begun_with again wishes ≡ Ok now
  begins_again =
      ap (λ r. project_or r >>= λ p. with_bases wishes 0 (begun_alone p) again.bases >>= λ based.
      with_next again.unplaced based again.next) left.project
      ∙ by left.bases
    where
      followed_as : (bases : List (List ℕ)) (unplaced : List (List ℕ)) (next : Option (List ℕ)) → again.bases ≡ bases
          → again.unplaced ≡ unplaced → again.next ≡ next → followed bases unplaced next
          → followed again.bases again.unplaced again.next
      followed_as bases unplaced next e f g h =
          (λ i. with_bases wishes 0 (begun_alone t) (e i) >>= λ based. with_next (f i) based (g i)) ∙ h

      by : BasesStand seen again b → followed again.bases again.unplaced again.next
      by (inl h) = elim h.1 [
        | inl stays ↦ followed_as seen.bases seen.unplaced seen.next h.0 stays.1 stays.0 same_bases
        | inr none ↦ followed_as seen.bases again.unplaced None h.0 refl none.0
            (subst (λ (n : Option (List ℕ)). followed seen.bases seen.unplaced n) none.1 same_bases)
      ]
      by (inr h) = elim h.3 [
        | inl none ↦ followed_as (h.0 ∷ []) again.unplaced None h.1 refl none
            (ap (λ r. r >>= λ based. with_next again.unplaced based None) (own_base h.0 h.2)
            ∙ ap (λ (x : State). Ok (begun_of t x held)) own_is)
        | inr beside ↦ followed_as (h.0 ∷ []) seen.unplaced seen.next h.1 beside.1 beside.0
            (ap (λ r. r >>= λ based. with_next seen.unplaced based seen.next) (own_base h.0 h.2)
            ∙ by_next own (from.grows.name ∙ sym from.first_grows.received.name) settles_own (λ e. own_is) seen.next next_bytes from.next)
      ]

  -- ---- the bases before the base

  -- what is read of them then, which asks nothing more
  abbrev EarlierAgain : List State → Type 0
  EarlierAgain older =
      (others : List State) × (older_from b.base.name 0 [] (earlier_bases again) ≡ Ok others)
      × ((book : List ℕ) → AskNoMore b.base.held older others book)

  earlier_again : (older : List State) → older_from b.base.name 0 [] (earlier_bases seen) ≡ Ok older → EarlierAgain older
  earlier_again older old = by left.bases
    where
      name : List ℕ
      name = b.base.name

      front : List State
      front = (older_are_last name seen older old).0

      last : AreBehind name front seen.older older
      last = (older_are_last name seen older old).1

      -- they are the same
      all_same : earlier_bases again ≡ earlier_bases seen → EarlierAgain older
      all_same same = (older, ap (older_from name 0 []) same ∙ old, λ book own pieces e. e)

      -- no next one stands there: the older ones alone
      alone : again.next ≡ None → EarlierAgain older
      alone none = (
        last.behind,
        ap (λ n. older_from name 0 [] (cond (is_some n) (again.bases ++ again.older) again.older)) none
            ∙ ap (older_from name 0 []) left.older ∙ last.again 0 [],
        λ book own pieces e. fewer b.base.held front last.behind book own pieces
            (subst (λ (states : List State). undone states b.base.held own book pieces ≡ None) last.are e),
      )

      -- the settled base stands beside the next one
      beside_next : (bytes : List ℕ) → again.bases ≡ bytes ∷ [] → whole_at bytes ≡ Ok b.base.held → again.next ≡ seen.next
          → EarlierAgain older
      beside_next bytes is read there = by seen.next there
        where
          by : (n : Option (List ℕ)) → again.next ≡ n → EarlierAgain older
          by None none = alone none
          by (Some next) e = (
            with_ops (begun name) b.base.held ∷ last.behind,
            (λ i. older_from name 0 [] (cond (is_some (e i)) (is i ++ left.older i) (left.older i)))
                ∙ ap (λ r. r >>= λ t. older_from name 1 (t ∷ []) seen.older)
                (with_place name (places.Older 0) bytes b.base.held read)
                ∙ last.again 1 (with_ops (begun name) b.base.held ∷ []),
            λ book own pieces e. one_more name b.base.held front last.behind book received_base.base.set.rising own pieces
                (subst (λ (states : List State). undone states b.base.held own book pieces ≡ None) last.are e),
          )

      by : BasesStand seen again b → EarlierAgain older
      by (inl h) = elim h.1 [
        | inl stays ↦ all_same (λ i. cond (is_some (stays.0 i)) (h.0 i ++ left.older i) (left.older i))
        | inr none ↦ all_same (λ i. cond (is_some ((none.0 ∙ sym none.1) i)) (h.0 i ++ left.older i) (left.older i))
      ]
      by (inr h) = elim h.3 [ inl none ↦ alone none | inr beside ↦ beside_next h.0 h.1 h.2 beside.0 ]

pub recovered_comes_in_again : RecoveredComesInAgain
recovered_comes_in_again seen again wishes files s b c bytes is fresh begins came left =
    let state = (project_is seen.project s bytes.project is).valid in
    let from = from_bases seen wishes s b state bytes.bases bytes.next is begins in
    let o = then_ok (older_from b.base.name 0 [] (earlier_bases seen))
    (λ older. rebased_if_stale wishes b older files >>= λ b. bundles_come_in seen wishes older (in_turn b.base.held files) b) c
    (sym (ap (λ r. r >>= λ b. older_from b.base.name 0 [] (earlier_bases seen) >>= λ older. rebased_if_stale wishes b older files >>= λ b.
    bundles_come_in seen wishes older (in_turn b.base.held files) b) begins) ∙ came) in
    let come : bundles_come_in seen wishes o.0 (in_turn b.base.held files) b ≡ Ok c =
    sym (ap (λ w. cond w (rebased wishes.settled b o.0 files) (Ok b) >>= λ b.
    bundles_come_in seen wishes o.0 (in_turn b.base.held files) b) fresh)
    ∙ o.1.1 in
    let d = then_ok (bundles_begun wishes.joined b.replica seen.bundles)
    (λ r. taken_all b.base o.0 wishes (none_taken r.after []) (in_turn b.base.held files) >>= λ all. Ok (all_came seen b r.made all)) c
    come in
    let t = then_ok (taken_all b.base o.0 wishes (none_taken d.0.after []) (in_turn b.base.held files))
    (λ all. Ok (all_came seen b d.0.made all)) c d.1.1 in
    let others = earlier_again seen again wishes s b from bytes.bases bytes.next left o.0 o.1.0 in
    by_parts seen again wishes files b others.0 d.0 t.0 fresh left
    (begins_again seen again wishes s b from bytes.bases bytes.next left) others.1 d.1.0
    (all_by_others b.base o.0 others.0 wishes (in_turn b.base.held files) (none_taken d.0.after []) t.0 others.2 t.1.0)
    ∙ ap (λ (x : CameInParts). Ok (with_nothing_new x)) (ok_is (all_came seen b d.0.made t.0) c t.1.1)
  where
    by_parts : (seen again : SeenParts) (wishes : WishParts) (files : List FileParts) (b : BegunParts) (older : List State)
        (r : Stepped State (List ℕ)) (all : AllTaken) → wishes.stale ≡ false → IsLeftEarly seen again b
        → begun_with again wishes ≡ Ok (begun_of b.replica b.base (length b.replica.held))
        → older_from b.base.name 0 [] (earlier_bases again) ≡ Ok older → bundles_begun wishes.joined b.replica seen.bundles ≡ Ok r
        → taken_all b.base older wishes (none_taken r.after []) (in_turn b.base.held files) ≡ Ok all
        → comes_in again wishes files ≡ Ok (with_nothing_new (all_came seen b r.made all))
    by_parts seen again wishes files b older r all fresh left begins old got taken =
        ap (λ r. r >>= λ c. older_from c.base.name 0 [] (earlier_bases again) >>= λ old. rebased_if_stale wishes c old files >>= λ c.
        bundles_come_in again wishes old (in_turn c.base.held files) c) begins
        ∙ ap (λ r. r >>= λ old. rebased_if_stale wishes next old files >>= λ c.
        bundles_come_in again wishes old (in_turn c.base.held files) c)
        old
        ∙ ap (λ w. cond w (rebased wishes.settled next older files) (Ok next) >>= λ c.
        bundles_come_in again wishes older (in_turn c.base.held files) c) fresh
        ∙ ap (λ r. r >>= λ r. taken_all b.base older wishes (none_taken r.after []) (in_turn b.base.held files) >>= λ all.
        Ok (all_came again next r.made all)) (ap (bundles_begun wishes.joined b.replica) left.bundles ∙ got)
        ∙ ap (λ x. x >>= λ all. Ok (all_came again next r.made all)) taken
        ∙ (λ i. Ok (record {
          recovered = recovered_none i;
          new = new_none i;
          base = b.base;
          replica = all.after;
          bundles = r.made;
          added = all.added;
          stood = all.stood;
        }))
      where
        next : BegunParts
        next = begun_of b.replica b.base (length b.replica.held)

        same_length : nat_eq (length b.replica.held) (length b.replica.held) ≡ true
        same_length = eq-eqb (length b.replica.held) (length b.replica.held) refl

        recovered_none : cond (nat_eq (length b.replica.held) (length b.replica.held)) None (other_than again.project (project b.replica))
            ≡ None
        recovered_none = cond-true _ _ _ same_length

        new_none : length b.replica.held - length b.replica.held ≡ 0
        new_none = omega arith
