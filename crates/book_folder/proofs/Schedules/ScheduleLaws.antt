-- A project into which all came in is reached by receivings and edits over given ids.
use Rattle.std.proofs.Common.{◌≡◌, ℕ, suc, Bool, true, false, cond, List, [], ◌∷◌, ◌++◌, Ok, subst}
use Rattle.std.specs.Option.{is_some}
use Rattle.std.specs.List.{AllByRecursion}
use Rattle.op_core.specs.Ops.{Operation}
use Rattle.bundle_codec.specs.Reading.{AreBytes}
use Rattle.replica_state.specs.States.{State}
use Rattle.project_file.proofs.Files.{project_is}
use Rattle.book_folder.specs.Begun.{BegunParts, begun_with, judged, received_if_alike}
use Rattle.book_folder.specs.Coming.{CameInParts, all_came, bundles_begun, bundles_come_in, bundles_from, earlier_bases, in_turn, none_taken, older_from, rebased_if_stale, taken_all}
use Rattle.book_folder.specs.Files.{FileParts}
use Rattle.book_folder.specs.FolderLaws.{IsOfBytes, LikeASchedule, Reached}
use Rattle.book_folder.specs.Refusals.{◌>>=◌, Stepped, stepped}
use Rattle.book_folder.specs.Stale.{rebased}
use Rattle.book_folder.specs.Wanted.{SeenParts, WishParts}
use Rattle.book_folder.specs.declared.refusal.Place.TheVariants as places
use Rattle.book_folder.proofs.Schedules.Along.{Along, along_set}
use Rattle.book_folder.proofs.Schedules.BasesReach.{Going, alike_is, begins_along, judged_is, ok_is, older_are, rebased_along, then_ok}
use Rattle.book_folder.proofs.Schedules.FilesReach.{all_along}
use Rattle.book_folder.proofs.Schedules.Reached.{all_both}
use Rattle.book_folder.proofs.Schedules.ReadSets.{IsReadable, read_set}

-- bundles are received one after another
pub bundles_along : (s : State) (base : List Operation) (is_asked : Bool) (at : ℕ) (r : Stepped State (List ℕ)) (bundles : List (List ℕ))
    (next : Stepped State (List ℕ)) → Along s base r.after → AllByRecursion AreBytes bundles
    → bundles_from is_asked at r bundles ≡ Ok next → Along s base next.after
bundles_along s base is_asked at r [] next a fits e =
    subst (λ (x : Stepped State (List ℕ)). Along s base x.after) (ok_is r next e) a
bundles_along s base is_asked at r (bytes ∷ later) next a fits e =
    let c = then_ok (judged (places.Bundle at) bytes)
    (λ ops. received_if_alike is_asked (places.Bundle at) r.after ops >>= λ n.
    bundles_from is_asked (suc at) (stepped n.after (r.made ++ n.made ∷ [])) later) next e in
    let ops : List Operation = c.0 in
    let read = read_set bytes ops fits.0 (judged_is (places.Bundle at) bytes ops c.1.0) in
    let d = then_ok (received_if_alike is_asked (places.Bundle at) r.after ops)
    (λ n. bundles_from is_asked (suc at) (stepped n.after (r.made ++ n.made ∷ [])) later) next c.1.1 in
    let one = alike_is is_asked (places.Bundle at) r.after ops d.0 d.1.0 in
    bundles_along s base is_asked (suc at) (stepped d.0.after (r.made ++ d.0.made ∷ [])) later next
    (subst (Along s base) one.1 (along_set s base r.after ops a read.0.set read.1 one.0)) fits.1 d.1.1

stale_along : (s : State) (wishes : WishParts) (b : BegunParts) (older : List State) (files : List FileParts) (next : BegunParts)
    → Going s b → AllByRecursion (λ (t : State). IsReadable t.held) older → rebased_if_stale wishes b older files ≡ Ok next → Going s next
stale_along s wishes b older files next g known e = by wishes.stale e
  where
    by : (c : Bool) → cond c (rebased wishes.settled b older files) (Ok b) ≡ Ok next → Going s next
    by true e = rebased_along s wishes.settled b older files next g known e
    by false e = subst (Going s) (ok_is b next e) g

reached_as : (s : State) (c d : CameInParts) → c ≡ d → Reached s c.replica → Reached s d.replica
reached_as s c d e r = subst (λ (x : CameInParts). Reached s x.replica) e r

-- the bundles and the files come in
come_along : (seen : SeenParts) (wishes : WishParts) (older : List State) (turns : List FileParts) (s : State) (b : BegunParts)
    (c : CameInParts) → Going s b → AllByRecursion AreBytes seen.bundles → bundles_come_in seen wishes older turns b ≡ Ok c
    → Reached s c.replica
come_along seen wishes older turns s b c g fits e =
    let d = then_ok (bundles_begun wishes.joined b.replica seen.bundles)
    (λ r. taken_all b.base older wishes (none_taken r.after []) turns >>= λ all. Ok (all_came seen b r.made all)) c e in
    let t = then_ok (taken_all b.base older wishes (none_taken d.0.after []) turns)
    (λ all. Ok (all_came seen b d.0.made all)) c d.1.1 in
    let received = bundles_along s b.base.held wishes.joined 0 (stepped b.replica []) seen.bundles d.0 g.along fits d.1.0 in
    let all = all_along s b.base g.base.set older wishes (none_taken d.0.after []) turns t.0 received t.1.0 in
    reached_as s (all_came seen b d.0.made t.0) c (ok_is (all_came seen b d.0.made t.0) c t.1.1) all.reached

-- the bases before the base are bytes
earlier_bytes : (seen : SeenParts) → IsOfBytes seen → AllByRecursion AreBytes (earlier_bases seen)
earlier_bytes seen bytes = by (is_some seen.next)
  where
    by : (b : Bool) → AllByRecursion AreBytes (cond b (seen.bases ++ seen.older) seen.older)
    by true = all_both AreBytes seen.bases seen.older bytes.bases bytes.older
    by false = bytes.older

-- all comes in after what the folder begins with
rest_along : (seen : SeenParts) (wishes : WishParts) (files : List FileParts) (s : State) (a : BegunParts) (c : CameInParts) → Going s a
    → IsOfBytes seen → (older_from a.base.name 0 [] (earlier_bases seen) >>= λ older. rebased_if_stale wishes a older files >>= λ b.
    bundles_come_in seen wishes older (in_turn b.base.held files) b) ≡ Ok c → Reached s c.replica
rest_along seen wishes files s a c begins bytes e =
    let o = then_ok (older_from a.base.name 0 [] (earlier_bases seen))
    (λ older. rebased_if_stale wishes a older files >>= λ b.
    bundles_come_in seen wishes older (in_turn b.base.held files) b) c e in
    let r = then_ok (rebased_if_stale wishes a o.0 files)
    (λ b. bundles_come_in seen wishes o.0 (in_turn b.base.held files) b) c o.1.1 in
    let known = older_are a.base.name 0 [] (earlier_bases seen) o.0 tt (earlier_bytes seen bytes) o.1.0 in
    come_along seen wishes o.0 (in_turn r.0.base.held files) s r.0 c (stale_along s wishes a o.0 files r.0 begins known r.1.0)
    bytes.bundles r.1.1

pub like_a_schedule : LikeASchedule
like_a_schedule seen wishes files s c bytes is e =
    let state = (project_is seen.project s bytes.project is).valid in
    let a = then_ok (begun_with seen wishes)
    (λ begun. older_from begun.base.name 0 [] (earlier_bases seen) >>= λ older. rebased_if_stale wishes begun older files >>= λ b.
    bundles_come_in seen wishes older (in_turn b.base.held files) b) c e in
    rest_along seen wishes files s a.0 c (begins_along s seen wishes a.0 state bytes.bases bytes.next is a.1.0) bytes a.1.1
