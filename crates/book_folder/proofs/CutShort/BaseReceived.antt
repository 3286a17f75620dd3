-- The base with which a folder begins is a legal set under the project's name, and the project has received it.
use Rattle.std.proofs.Common.{◌≡◌, ℕ, suc, not, true, List, [], ◌∷◌, Option, Some, None, Result, Ok, refl, sym, ap, subst, ◌∙◌}
use Rattle.std.specs.List.{AllByRecursion}
use Rattle.std.specs.Prelude.{IsTrue}
use Rattle.op_core.specs.Ops.{Operation}
use Rattle.op_core.specs.Sets.{IsOpSet, clash, join, rises}
use Rattle.op_core.specs.Thinned.{is_legal}
use Rattle.op_core.proofs.Sets.Fronts.{join_none}
use Rattle.op_core.proofs.Sets.Legal.{join_legal}
use Rattle.op_core.proofs.Sets.Union.{IsOpSet-join, agree_from_no_clash}
use Rattle.bundle_codec.specs.Joining.{whole_at}
use Rattle.bundle_codec.specs.Reading.{AreBytes}
use Rattle.bundle_codec.specs.Spelling.{bundle}
use Rattle.project_file.specs.declared.fault.LoadFault.{LoadFault}
use Rattle.project_file.specs.Projects.{project_at}
use Rattle.replica_state.specs.States.{State, IsState, begun}
use Rattle.replica_state.specs.Steps.{with_ops}
use Rattle.book_folder.specs.Begun.{BegunParts, begun_alone, begun_with, holding, is_one_of, judged, ops_not_of, ops_of, project_or, received, received_if_alike, replica_at, settled_base, with_base, with_base_at, with_bases, with_next}
use Rattle.book_folder.specs.FolderLaws.{MayBeBytes}
use Rattle.book_folder.specs.Refusals.{◌>>=◌}
use Rattle.book_folder.specs.Wanted.{SeenParts, WishParts}
use Rattle.book_folder.specs.declared.refusal.Place.{Place}
use Rattle.book_folder.specs.declared.refusal.Place.TheVariants as places
use Rattle.book_folder.proofs.CutShort.HasAll.{HasAll, all_of_both, all_of_itself, all_of_left, all_of_right, all_of_some, all_through}
use Rattle.book_folder.proofs.Schedules.BasesReach.{alike_is, begun_of, joined_is, judged_is, ok_is, received_is, then_ok}
use Rattle.book_folder.proofs.Schedules.ReadSets.{IsReadable, both_set, nothing_set, read_again, read_set, some_set}

-- ---- what is read of a base, and what is made of it

-- one more bundle of the base
pub record BaseParts (place : Place) (b : BegunParts) (bytes : List ℕ) (next : BegunParts) : Type 0 where
  pub ops : List Operation
  pub set : IsReadable ops
  pub legal : IsTrue (is_legal ops)
  pub read : judged place bytes ≡ Ok ops
  pub apart : clash b.replica.held ops ≡ None
  pub based : clash b.base.held ops ≡ None
  pub is : begun_of (with_ops b.replica ops) (with_ops b.base ops) b.held ≡ next

pub base_parts : (wishes : WishParts) (place : Place) (b : BegunParts) (bytes : List ℕ) (next : BegunParts) → AreBytes bytes
    → with_base_at wishes place b bytes ≡ Ok next → BaseParts place b bytes next
base_parts wishes place b bytes next fits e =
    let a = then_ok (judged place bytes) (with_base wishes place b) next e in
    let read = read_set bytes a.0 fits (judged_is place bytes a.0 a.1.0) in
    let r = then_ok (received_if_alike wishes.joined place b.replica a.0)
    (λ r. received place b.base a.0 >>= λ base. Ok (begun_of r.after base.after b.held)) next a.1.1 in
    let q = then_ok (received place b.base a.0) (λ base. Ok (begun_of r.0.after base.after b.held)) next r.1.1 in
    let one = alike_is wishes.joined place b.replica a.0 r.0 r.1.0 in
    let two = received_is place b.base a.0 q.0 q.1.0 in
    record {
      ops = a.0;
      set = read.0;
      legal = read.1;
      read = a.1.0;
      apart = one.0;
      based = two.0;
      is = (λ i. begun_of (one.1 i) (two.1 i) b.held) ∙ ok_is (begun_of r.0.after q.0.after b.held) next q.1.1;
    }

-- the next base
pub record NextParts (unplaced : List (List ℕ)) (b : BegunParts) (bytes : List ℕ) (next : BegunParts) : Type 0 where
  pub ops : List Operation
  pub set : IsReadable ops
  pub legal : IsTrue (is_legal ops)
  pub read : judged places.Next bytes ≡ Ok ops
  pub apart : clash b.replica.held ops ≡ None
  pub settled : List ℕ
  pub joined : settled_base unplaced b.base.held ops ≡ Ok settled
  pub based : replica_at b.base.name places.Next settled ≡ Ok next.base
  pub is : with_ops b.replica ops ≡ next.replica

pub next_parts : (unplaced : List (List ℕ)) (b : BegunParts) (bytes : List ℕ) (next : BegunParts) → AreBytes bytes
    → with_next unplaced b (Some bytes) ≡ Ok next → NextParts unplaced b bytes next
next_parts unplaced b bytes next fits e =
    let place : Place = places.Next in
    let a = then_ok (judged place bytes)
    (λ ops. settled_base unplaced b.base.held ops >>= λ base. received place b.replica ops >>= λ r.
    replica_at b.base.name place base >>= λ settled. Ok (begun_of r.after settled b.held)) next e in
    let read = read_set bytes a.0 fits (judged_is place bytes a.0 a.1.0) in
    let c = then_ok (settled_base unplaced b.base.held a.0)
    (λ base. received place b.replica a.0 >>= λ r. replica_at b.base.name place base >>= λ settled.
    Ok (begun_of r.after settled b.held)) next a.1.1 in
    let r = then_ok (received place b.replica a.0)
    (λ r. replica_at b.base.name place c.0 >>= λ settled. Ok (begun_of r.after settled b.held)) next c.1.1 in
    let q = then_ok (replica_at b.base.name place c.0) (λ settled. Ok (begun_of r.0.after settled b.held)) next r.1.1 in
    let one = received_is place b.replica a.0 r.0 r.1.0 in
    let same : begun_of r.0.after q.0 b.held ≡ next = ok_is (begun_of r.0.after q.0 b.held) next q.1.1 in
    record {
      ops = a.0;
      set = read.0;
      legal = read.1;
      read = a.1.0;
      apart = one.0;
      settled = c.0;
      joined = c.1.0;
      based = q.1.0 ∙ ap (λ (x : BegunParts). Ok x.base) same;
      is = one.1 ∙ ap (λ (x : BegunParts). x.replica) same;
    }

-- a settled base as a replica
settled_replica : (unplaced : List (List ℕ)) (name : List ℕ) (base ops : List Operation) (bytes : List ℕ) (t : State)
    → IsReadable (join (ops_of unplaced base) (ops_not_of unplaced ops))
    → bytes ≡ bundle (join (ops_of unplaced base) (ops_not_of unplaced ops))
    → replica_at name places.Next bytes ≡ Ok t
    → (record { name = name; held = join (ops_of unplaced base) (ops_not_of unplaced ops) } ≡ t)
    × IsTrue (is_legal (join (ops_of unplaced base) (ops_not_of unplaced ops)))
settled_replica unplaced name base ops bytes t set is e =
    let both = join (ops_of unplaced base) (ops_not_of unplaced ops) in
    let d = then_ok (judged places.Next bytes) (holding name places.Next) t e in
    let again = read_again both d.0 set (ap whole_at (sym is) ∙ judged_is places.Next bytes d.0 d.1.0) in
    let h = then_ok (received places.Next (begun name) d.0) (λ r. Ok r.after) t d.1.1 in
    let got = received_is places.Next (begun name) d.0 h.0 h.1.0 in
    let rise : rises d.0 ≡ true = ap rises again.0 ∙ set.set.rising in
    let held : join [] d.0 ≡ both = join_none d.0 rise ∙ again.0 in
    ((λ i. record { name = name; held = sym held i }) ∙ got.1 ∙ ok_is h.0.after t h.1.1, again.1)

-- ---- what a folder begins with

-- The base is a legal set under the project's name, and the project has received it.
pub record IsReceived (b : BegunParts) : Type 0 where
  pub replica : IsState b.replica
  pub base : IsState b.base
  pub readable : IsReadable b.base.held
  pub name : b.base.name ≡ b.replica.name
  pub has : HasAll b.replica.held b.base.held

-- it is so after more was received
pub record Grows (b next : BegunParts) : Type 0 where
  pub received : IsReceived next
  pub name : next.replica.name ≡ b.replica.name
  pub has : HasAll next.replica.held b.replica.held

-- a replica that received a legal set without a clash
state_with : (t : State) (ops : List Operation) → IsState t → IsOpSet ops → IsTrue (is_legal ops) → clash t.held ops ≡ None
    → IsState (with_ops t ops)
state_with t ops state set legal none = record {
  name = state.name;
  set = IsOpSet-join t.held ops state.set set;
  legal = join_legal t.held ops state.set.rising set.rising state.legal legal (agree_from_no_clash t.held ops none);
}

grows_as : (b n next : BegunParts) → n ≡ next → Grows b n → Grows b next
grows_as b n next e g = subst (Grows b) e g

grows_on : (b n next : BegunParts) → IsReceived b → Grows b n → Grows n next → Grows b next
grows_on b n next r g h = record {
  received = h.received;
  name = h.name ∙ g.name;
  has = all_through next.replica.held n.replica.held b.replica.held h.received.replica.set.rising g.received.replica.set.rising
      r.replica.set.rising h.has g.has;
}

pub with_one : (place : Place) (b : BegunParts) (bytes : List ℕ) (next : BegunParts) → IsReceived b → BaseParts place b bytes next
    → Grows b next
with_one place b bytes next g h =
    let ops : List Operation = h.ops in
    let both = IsOpSet-join b.replica.held ops g.replica.set h.set.set in
    let agree = agree_from_no_clash b.replica.held ops h.apart in
    let before : HasAll (join b.replica.held ops) b.replica.held =
    all_of_left b.replica.held ops g.replica.set.rising h.set.set.rising agree in
    grows_as b (begun_of (with_ops b.replica ops) (with_ops b.base ops) b.held) next h.is (record {
      received = record {
        replica = state_with b.replica ops g.replica h.set.set h.legal h.apart;
        base = state_with b.base ops g.base h.set.set h.legal h.based;
        readable = both_set b.base.held ops g.readable h.set;
        name = g.name;
        has = all_of_both (join b.replica.held ops) b.base.held ops both.rising g.base.set.rising h.set.set.rising
            (all_through (join b.replica.held ops) b.replica.held b.base.held both.rising g.replica.set.rising g.base.set.rising
            before g.has)
            (all_of_right b.replica.held ops g.replica.set.rising h.set.set.rising agree);
      };
      name = refl;
      has = before;
    })

pub with_all : (wishes : WishParts) (at : ℕ) (b : BegunParts) (bases : List (List ℕ)) (next : BegunParts) → IsReceived b
    → AllByRecursion AreBytes bases → with_bases wishes at b bases ≡ Ok next → Grows b next
with_all wishes at b [] next g fits e =
    grows_as b b next (ok_is b next e) (record { received = g; name = refl; has = all_of_itself b.replica.held g.replica.set.rising })
with_all wishes at b (bytes ∷ later) next g fits e =
    let a = then_ok (with_base_at wishes (places.Base at) b bytes) (λ n. with_bases wishes (suc at) n later) next e in
    let one = with_one (places.Base at) b bytes a.0 g (base_parts wishes (places.Base at) b bytes a.0 fits.0 a.1.0) in
    grows_on b a.0 next g one (with_all wishes (suc at) a.0 later next one.received fits.1 a.1.1)

-- the base that is settled by the next one
pub own_settled : (unplaced : List (List ℕ)) (b : BegunParts) (bytes : List ℕ) (next : BegunParts) → IsReceived b
    → (h : NextParts unplaced b bytes next)
    → (record { name = b.base.name; held = join (ops_of unplaced b.base.held) (ops_not_of unplaced h.ops) } ≡ next.base)
    × IsTrue (is_legal (join (ops_of unplaced b.base.held) (ops_not_of unplaced h.ops)))
own_settled unplaced b bytes next g h =
    let x = ops_of unplaced b.base.held in
    let y = ops_not_of unplaced h.ops in
    let hx : IsReadable x = some_set (λ o. is_one_of unplaced o.segment.book) b.base.held g.readable in
    let hy : IsReadable y = some_set (λ o. not (is_one_of unplaced o.segment.book)) h.ops h.set in
    settled_replica unplaced b.base.name b.base.held h.ops h.settled next.base (both_set x y hx hy)
    (joined_is places.Next x y h.settled hx hy h.joined) h.based

by_next : (unplaced : List (List ℕ)) (b : BegunParts) (bytes : List ℕ) (next : BegunParts) → IsReceived b
    → NextParts unplaced b bytes next → Grows b next
by_next unplaced b bytes next g h =
    let ops : List Operation = h.ops in
    let x = ops_of unplaced b.base.held in
    let y = ops_not_of unplaced ops in
    let hx : IsReadable x = some_set (λ o. is_one_of unplaced o.segment.book) b.base.held g.readable in
    let hy : IsReadable y = some_set (λ o. not (is_one_of unplaced o.segment.book)) ops h.set in
    let hxy = both_set x y hx hy in
    let own = own_settled unplaced b bytes next g h in
    let both = IsOpSet-join b.replica.held ops g.replica.set h.set.set in
    let agree = agree_from_no_clash b.replica.held ops h.apart in
    let before : HasAll (join b.replica.held ops) b.replica.held =
    all_of_left b.replica.held ops g.replica.set.rising h.set.set.rising agree in
    let old = all_through (join b.replica.held ops) b.replica.held b.base.held both.rising g.replica.set.rising g.base.set.rising
    before g.has in
    grows_as b (begun_of (with_ops b.replica ops) (record { name = b.base.name; held = join x y }) next.held) next
    (λ i. begun_of (h.is i) (own.0 i) next.held) (record {
      received = record {
        replica = state_with b.replica ops g.replica h.set.set h.legal h.apart;
        base = record { name = g.base.name; set = hxy.set; legal = own.1 };
        readable = hxy;
        name = g.name;
        has = all_of_both (join b.replica.held ops) x y both.rising hx.set.rising hy.set.rising
            (all_of_some (λ o. is_one_of unplaced o.segment.book) (join b.replica.held ops) b.base.held both.rising g.base.set.rising old)
            (all_of_some (λ o. not (is_one_of unplaced o.segment.book)) (join b.replica.held ops) ops both.rising h.set.set.rising
            (all_of_right b.replica.held ops g.replica.set.rising h.set.set.rising agree));
      };
      name = refl;
      has = before;
    })

with_last : (unplaced : List (List ℕ)) (b : BegunParts) (there : Option (List ℕ)) (next : BegunParts) → IsReceived b → MayBeBytes there
    → with_next unplaced b there ≡ Ok next → Grows b next
with_last unplaced b None next g fits e =
    grows_as b b next (ok_is b next e) (record { received = g; name = refl; has = all_of_itself b.replica.held g.replica.set.rising })
with_last unplaced b (Some bytes) next g fits e = by_next unplaced b bytes next g (next_parts unplaced b bytes next fits e)

-- ---- from the beginning

-- a folder begins with its bases, and with the next one then
pub record FromBases (seen : SeenParts) (wishes : WishParts) (s : State) (b : BegunParts) : Type 0 where
  pub based : BegunParts
  pub bases : with_bases wishes 0 (begun_alone s) seen.bases ≡ Ok based
  pub next : with_next seen.unplaced based seen.next ≡ Ok b
  pub first : IsReceived (begun_alone s)
  pub first_grows : Grows (begun_alone s) based
  pub grows : Grows based b

pub from_bases : (seen : SeenParts) (wishes : WishParts) (s : State) (b : BegunParts) → IsState s → AllByRecursion AreBytes seen.bases
    → MayBeBytes seen.next → project_at seen.project ≡ Ok s → begun_with seen wishes ≡ Ok b → FromBases seen wishes s b
from_bases seen wishes s b state fits next_fits is e =
    let on : (with_bases wishes 0 (begun_alone s) seen.bases >>= λ based. with_next seen.unplaced based seen.next) ≡ Ok b =
    ap (λ (r : Result State LoadFault). project_or r >>= λ p.
    with_bases wishes 0 (begun_alone p) seen.bases >>= λ based. with_next seen.unplaced based seen.next)
    (sym is) ∙ e in
    let a = then_ok (with_bases wishes 0 (begun_alone s) seen.bases) (λ based. with_next seen.unplaced based seen.next) b on in
    let alone : IsReceived (begun_alone s) = record {
      replica = state;
      base = record { name = state.name; set = nothing_set.set; legal = refl };
      readable = nothing_set;
      name = refl;
      has = record { agrees = λ q x y gx gy. cc gy; held = refl };
    } in
    let grows = with_all wishes 0 (begun_alone s) seen.bases a.0 alone fits a.1.0 in
    record {
      based = a.0;
      bases = a.1.0;
      next = a.1.1;
      first = alone;
      first_grows = grows;
      grows = with_last seen.unplaced a.0 seen.next b grows.received next_fits a.1.1;
    }

pub base_received : (seen : SeenParts) (wishes : WishParts) (s : State) (b : BegunParts) → IsState s → AllByRecursion AreBytes seen.bases
    → MayBeBytes seen.next → project_at seen.project ≡ Ok s → begun_with seen wishes ≡ Ok b → IsReceived b
base_received seen wishes s b state fits next_fits is e = (from_bases seen wishes s b state fits next_fits is e).grows.received
