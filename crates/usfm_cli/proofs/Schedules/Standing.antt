-- Sets that stand for others at each replica, and whole bundles of theirs.
use Rattle.std.proofs.Common.{◌≡◌, ℕ, zero, suc, Bool, true, false, cond, List, [], ◌∷◌, append-nil}
use Rattle.std.proofs.Common.{Option, None, Some, Ok, IsTrue, refl, sym, ap, subst, ◌∙◌}
use Rattle.std.specs.Prelude.{slice_get}
use Rattle.usfm_ref.specs.Books.{same_bytes}
use Rattle.usfm_ref.specs.Segments.{segment}
use Rattle.usfm_ref.proofs.Orders.{same_bytes-is}
use Rattle.op_core.specs.Ops.{Operation}
use Rattle.op_core.specs.Sets.{IsOpSet}
use Rattle.op_core.specs.Thinned.{is_legal, StandsFor}
use Rattle.bundle_codec.specs.Joining.{whole_at}
use Rattle.bundle_codec.specs.Spelling.{bundle}
use Rattle.bundle_codec.proofs.Wholes.{whole_reads}
use Rattle.replica_state.specs.Changes.{ChangeParts}
use Rattle.replica_state.specs.Steps as steps
use Rattle.replica_state.specs.Steps.{step}
use Rattle.replica_state.specs.World as world_of
use Rattle.replica_state.specs.World.{World, world, replica, with_held}
use Rattle.replica_state.specs.World.Calls.{edits_of, all_happen}
use Rattle.replica_state.specs.World.Invisible.{AreAlike}
use Rattle.replica_state.proofs.World.Shows.{acts_for}
use Rattle.usfm_cli.specs.Schedules.{FileCommand, files, IsWritten, IsFrontOf, AreDone}
use Rattle.usfm_cli.proofs.Schedules.Places.{place_in, place_is}
use Rattle.usfm_cli.proofs.Schedules.Events.{events}
use Rattle.usfm_cli.proofs.Schedules.Every.{mirrored}
use Rattle.usfm_cli.proofs.Schedules.Mirrors.{made_at, cut_at, short_front, is_proper}

-- ---- sets that stand for others, at each replica

abbrev pub Holdings : Type 0
Holdings = List ℕ → List Operation

abbrev pub AllStand : Holdings → Holdings → Type 0
AllStand f g = (name : List ℕ) → StandsFor (f name) (g name)

pub both : (f p g q : Holdings) → f ≡ p → g ≡ q → AllStand p q → AllStand f g
both f p g q e h s = subst (λ (x : Holdings × Holdings). AllStand x.0 x.1) (λ i. (sym e i, sym h i)) s

stands_at : (v u : World) (name : List ℕ) (ops full : List Operation) → AllStand v.held u.held → StandsFor ops full
    → AllStand (with_held v name ops).held (with_held u name full).held
stands_at v u name ops full h s other = by (same_bytes other name)
  where
    by : (b : Bool) → StandsFor (cond b ops (v.held other)) (cond b full (u.held other))
    by true = s
    by false = h other

pub steps_stand : (v u : World) (name : List ℕ) (c d : steps.Command) → AllStand v.held u.held → AreAlike (u.held name) c d
    → AllStand (world_of.steps v name c).held (world_of.steps u name d).held
steps_stand v u name c d h alike =
    stands_at v u name (step (replica v name) c).after.held (step (replica u name) d).after.held h
    ((acts_for (replica v name) (replica u name) refl (h name)).steps c d alike).after

pub edits_stand : (name book : List ℕ) (changes : List ChangeParts) (v u : World) → AllStand v.held u.held
    → AllStand (all_happen v (edits_of name book changes)).held (all_happen u (edits_of name book changes)).held
edits_stand name book [] v u h = h
edits_stand name book (c ∷ changes) v u h =
    let e : steps.Command = steps.EditOver (segment book c.key) c.text c.ids in
    edits_stand name book changes (world_of.steps v name e) (world_of.steps u name e) (steps_stand v u name e e h refl)

pub thins_stand : (v u : World) (name : List ℕ) → AllStand v.held u.held → AllStand (world_of.steps v name steps.Thin).held u.held
thins_stand v u name h other = by (same_bytes other name) refl
  where
    by : (b : Bool) → same_bytes other name ≡ b
        → StandsFor (cond b (step (replica v name) steps.Thin).after.held (v.held other)) (u.held other)
    by true e =
        subst (λ (n : List ℕ). StandsFor (step (replica v name) steps.Thin).after.held (u.held n)) (sym (same_bytes-is other name e))
        (acts_for (replica v name) (replica u name) refl (h name)).thins
    by false e = h other

-- ---- whole bundles

pub record Spells (bytes : List ℕ) (ops : List Operation) : Type 0 where
  pub set : IsOpSet ops
  pub legal : IsTrue (is_legal ops)
  pub spelled : bundle ops ≡ bytes

pub record SentBoth (bytes twin : List ℕ) : Type 0 where
  pub ops : List Operation
  pub full : List Operation
  pub here : Spells bytes ops
  pub there : Spells twin full
  pub stands : StandsFor ops full

abbrev pub EachSent : List (List ℕ) → List (List ℕ) → Type 0
EachSent [] [] = Unit {0}
EachSent [] (y ∷ ys) = ⊥
EachSent (x ∷ xs) [] = ⊥
EachSent (x ∷ xs) (y ∷ ys) = SentBoth x y × EachSent xs ys

pub sent_at : (xs ys : List (List ℕ)) → EachSent xs ys → (k : ℕ) (bytes twin : List ℕ) → slice_get xs k ≡ Some bytes
    → slice_get ys k ≡ Some twin → SentBoth bytes twin
sent_at [] ys each k bytes twin e f = cc e
sent_at (x ∷ xs) [] each k bytes twin e f = absurd each
sent_at (x ∷ xs) (y ∷ ys) each zero bytes twin e f =
    let one : x ≡ bytes = cc e in
    let other : y ≡ twin = cc f in
    subst (λ (p : List ℕ × List ℕ). SentBoth p.0 p.1) (λ i. (one i, other i)) each.0
sent_at (x ∷ xs) (y ∷ ys) each (suc k) bytes twin e f = sent_at xs ys each.1 k bytes twin e f

-- bytes that a command is given are those of a bundle of the world
pub record TakesIn (past : List FileCommand) (bytes : List ℕ) (ops : List Operation) : Type 0 where
  pub place : ℕ
  pub is : place_in (files past).bundles bytes ≡ Some place
  pub made : slice_get (world (events past)).bundles place ≡ Some ops

pub takes_in : (past : List FileCommand) (bytes : List ℕ) (ops : List Operation) → AreDone past → IsFrontOf (files past).bundles bytes
    → Spells bytes ops → TakesIn past bytes ops
takes_in past bytes ops d front b =
    let r = mirrored past d in
    let short = short_front (files past) (events past) r.within r.mirrors bytes front in
    by (whole_reads bytes (record { ops = ops; set = b.set; legal = b.legal; spelled = sym b.spelled; short = short }))
    (place_in (files past).bundles bytes) refl
  where
    by : whole_at bytes ≡ Ok ops → (p : Option ℕ) → place_in (files past).bundles bytes ≡ p → TakesIn past bytes ops
    by whole None e =
        let r = mirrored past d in
        let cut = cut_at (files past) (events past) r.within r.mirrors bytes front
        (is_proper (files past) (events past) r.within r.mirrors bytes front e) in
        cc (sym cut ∙ whole)
    by whole (Some k) e =
        let r = mirrored past d in
        let x = made_at (files past) (events past) r.within r.mirrors bytes k (place_is (files past).bundles bytes k e)
        (short_front (files past) (events past) r.within r.mirrors bytes front) in
        let same : x.ops ≡ ops = cc (sym x.reads ∙ whole) in
        record { place = k; is = e; made = x.made ∙ ap Some same }

pub all_of_it : (outputs : List (List ℕ)) (bytes : List ℕ) → IsWritten outputs bytes → IsFrontOf outputs bytes
all_of_it outputs bytes g = record { whole = bytes; written = g; more = []; parts = sym (append-nil bytes) }
