-- What exchanges bring, after every list of events (this project's own rule): bundles in flight,
-- deltas for summaries, and relays of bundles from replica to replica.
use Rattle.std.specs.Prelude.{◌≡◌, ℕ, Bool, true, false, ◌&&◌, List, [], ◌∷◌, ◌++◌, Some, slice_get}
use Rattle.std.specs.List.{list_all}
use Rattle.usfm_ref.specs.Books.{same_bytes}
use Rattle.op_core.specs.Ids.{Id}
use Rattle.op_core.specs.Ops.{Operation}
use Rattle.op_core.specs.Sets.{join}
use Rattle.op_core.specs.Lists.{is_held}
use Rattle.op_core.specs.Thinned.{is_legal, skeleton, of_ids}
use Rattle.bundle_codec.specs.Summaries.{summary_of, outside}
use Rattle.replica_state.specs.World.{World, Event, Summarizes, Bundles, Receives, world, is_apart}
use Rattle.replica_state.specs.World.Schedules.{Holds}

-- two replicas hold a union of two sets, but for texts left out
pub record HoldUnion (w : World) (a b : List ℕ) (s t : List Operation) : Type 0 where
  pub first : skeleton (w.held a) ≡ skeleton (join s t)
  pub second : skeleton (w.held b) ≡ skeleton (join s t)

-- Two replicas hold s and t. With no other event at the two, first a and then b receives the
-- other's delta for its own summary: both hold the union, but for texts left out.
abbrev pub DeltasJoin : Type 0
DeltasJoin =
    (last between first past : List Event) (a b : List ℕ) (k n : ℕ) → same_bytes a b ≡ false →
    list_all (λ e. is_apart a e && is_apart b e) (last ++ (between ++ first)) ≡ true →
    let s = (world past).held a in let t = (world past).held b in
    slice_get (world (first ++ past)).bundles k ≡ Some (outside (summary_of s) t) →
    let heard = Receives a k ∷ (first ++ past) in
    slice_get (world (between ++ heard)).bundles n ≡ Some (outside (summary_of t) s) →
    HoldUnion (world (last ++ (Receives b n ∷ (between ++ heard)))) a b s t

-- So they do where a makes its delta after it has received the other's.
abbrev pub DeltasJoinInTurn : Type 0
DeltasJoinInTurn =
    (last between first past : List Event) (a b : List ℕ) (k n : ℕ) → same_bytes a b ≡ false →
    list_all (λ e. is_apart a e && is_apart b e) (last ++ (between ++ first)) ≡ true →
    let s = (world past).held a in let t = (world past).held b in
    slice_get (world (first ++ past)).bundles k ≡ Some (outside (summary_of s) t) →
    let heard = Receives a k ∷ (first ++ past) in
    slice_get (world (between ++ heard)).bundles n
    ≡ Some (outside (summary_of t) ((world heard).held a)) →
    HoldUnion (world (last ++ (Receives b n ∷ (between ++ heard)))) a b s t

-- A bundle of any ids that is legal is made, and can be received from then on.
abbrev pub BundlesStay : Type 0
BundlesStay =
    (later past : List Event) (name : List ℕ) (kept : Id → Bool) →
    is_legal (of_ids kept ((world past).held name)) ≡ true →
    (k : ℕ) × (slice_get (world (later ++ Bundles name kept ∷ past)).bundles k
    ≡ Some (of_ids kept ((world past).held name)))

-- A summary is made, and is there from then on.
abbrev pub SummariesStay : Type 0
SummariesStay =
    (later past : List Event) (name : List ℕ) →
    (k : ℕ) × (slice_get (world (later ++ Summarizes name ∷ past)).summaries k
    ≡ Some (summary_of ((world past).held name)))

-- ---- hearings, and relays

-- the second moment is the first, or comes after it
abbrev pub IsBefore : List Event → List Event → Type 0
IsBefore past events = (more : List Event) × (events ≡ more ++ past)

-- what a teller is asked for: its whole bundle, or its delta for the summary that the hearer made
-- at a moment
pub data Request : Type 0 where
  Whole : Request
  Lacking : (asked : List Event) → Request

-- one hearing: the hearer, what it asks for, the moment whose holdings it asks for, the bundle, and
-- the moment before the hearer receives it
pub record Hearing : Type 0 where
  pub hearer : List ℕ
  pub request : Request
  pub sent : List Event
  pub bundle : ℕ
  pub got : List Event

-- a hearing of these parts
abbrev pub hearing : List ℕ → Request → List Event → ℕ → List Event → Hearing
hearing hearer request sent bundle got =
    record { hearer = hearer; request = request; sent = sent; bundle = bundle; got = got }

-- what the bundle is to hold, of what is held
abbrev pub bundled : List ℕ → Request → List Operation → List Operation
bundled hearer Whole held = held
bundled hearer (Lacking asked) held = outside (summary_of ((world asked).held hearer)) held

-- the ids of what the bundle is to hold
abbrev pub wanted : List ℕ → Request → List Operation → Id → Bool
wanted hearer request held id = is_held (bundled hearer request held) id

-- the summary that is asked with is that of a moment before
abbrev pub IsAsked : Request → List Event → Type 0
IsAsked Whole sent = Unit {0}
IsAsked (Lacking asked) sent = IsBefore asked sent

-- The hearer receives a bundle that has what the teller is asked for, each operation perhaps
-- without its text. Who made the bundle, when, and what else it has, does not matter.
pub record Hears (teller : List ℕ) (h : Hearing) : Type 0 where
  pub asked : IsAsked h.request h.sent
  pub later : IsBefore h.sent h.got
  pub ops : List Operation
  pub is : slice_get (world h.got).bundles h.bundle ≡ Some ops
  pub has : (o : Operation) → Holds (bundled h.hearer h.request ((world h.sent).held teller)) o →
      Holds ops o

-- At every moment the teller makes a bundle of exactly that, which is there to be received from
-- then on.
abbrev pub CanBeHeard : Type 0
CanBeHeard =
    (later sent : List Event) (teller hearer : List ℕ) (request : Request) →
    let held = (world sent).held teller in
    (k : ℕ)
    × (slice_get (world (later ++ Bundles teller (wanted hearer request held) ∷ sent)).bundles k
    ≡ Some (bundled hearer request held))

-- A bundle of any ids that is legal, and that has what the teller is asked for, tells it, at
-- whatever replica it was made.
abbrev pub AnyBundleTells : Type 0
AnyBundleTells =
    (later made sent : List Event) (teller maker hearer : List ℕ) (request : Request)
    (kept : Id → Bool) →
    let held = (world made).held maker in
    let got = later ++ Bundles maker kept ∷ made in
    IsAsked request sent → IsBefore sent got → is_legal (of_ids kept held) ≡ true →
    ((o : Operation) → Holds (bundled hearer request ((world sent).held teller)) o →
    Holds (of_ids kept held) o) →
    (k : ℕ) × Hears teller (hearing hearer request sent k got)

-- the moment after the hearing
abbrev pub heard : Hearing → List Event
heard h = Receives h.hearer h.bundle ∷ h.got

-- hearings, each of which begins at the replica where, and after the event in which, the one before
-- ended
abbrev pub IsRelay : List ℕ → List Event → List Hearing → List ℕ → List Event → Type 0
IsRelay a from [] b to = (a ≡ b) × IsBefore from to
IsRelay a from (h ∷ hearings) b to =
    IsBefore from h.sent × Hears a h × IsRelay h.hearer (heard h) hearings b to

-- Where a relay leads, what was held is held.
abbrev pub RelayTells : Type 0
RelayTells =
    (a b : List ℕ) (from to : List Event) (hearings : List Hearing) → IsRelay a from hearings b to →
    (o : Operation) → Holds ((world from).held a) o → Holds ((world to).held b) o
