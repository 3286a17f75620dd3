-- A sync that was cut short, and what is read of the disk then.
use Rattle.std.proofs.Common.{◌≡◌, ℕ, true, false, cond, ◌<◌, ◌^◌, List, [], ◌∷◌, ◌++◌, length, Option, None, Some, Ok, sym, ap, subst, ◌∙◌, arith}
use Rattle.std.specs.List.{AllByRecursion, IsDistinct}
use Rattle.std.proofs.lemmas.List.{length-append}
use Rattle.bundle_codec.specs.Spelling.{bundle}
use Rattle.project_file.specs.Projects.{magic, project, project_at}
use Rattle.replica_state.specs.States.{State, IsState}
use Rattle.book_folder.specs.Begun.{BegunParts, begun_with}
use Rattle.book_folder.specs.Coming.{AllTaken, CameInParts, all_came, bundles_begun, bundles_come_in, comes_in, earlier_bases, in_turn, none_taken, older_from, rebased_if_stale, taken_all}
use Rattle.book_folder.specs.CutDisk.{IsReadAgain, IsWholeSync}
use Rattle.book_folder.specs.Disks.{DiskParts}
use Rattle.book_folder.specs.Files.{are_of_one_book, clear_files, clear_or, FileParts, files_from, unclear}
use Rattle.book_folder.specs.Plans.{NewFileParts, PlanParts}
use Rattle.book_folder.specs.Refusals.{◌>>=◌, Stepped, stepped}
use Rattle.book_folder.specs.Stale.{rebased}
use Rattle.book_folder.specs.Wanted.{SeenParts, WishParts}
use Rattle.book_folder.specs.declared.folder.UnclearFile.{UnclearFile}
use Rattle.book_folder.proofs.CutShort.BaseReceived.{base_received, FromBases, IsReceived}
use Rattle.book_folder.proofs.Schedules.BasesReach.{begins_along, ok_is, then_ok}
use Rattle.book_folder.specs.DoneAgain.{IsReadAlike, first_of}
use Rattle.book_folder.specs.FolderLaws.{IsOfBytes}
use Rattle.book_folder.proofs.CutShort.DoneAgain.{all_known, none_stood, turns_are}
use Rattle.book_folder.proofs.CutShort.HasAll.{HasAll, all_through}
use Rattle.book_folder.proofs.CutShort.Ready.{bundled, bundled_has}
use Rattle.book_folder.proofs.CutShort.TakenAll.{ends}
use Rattle.book_folder.proofs.Schedules.Along.{Along}
use Rattle.book_folder.proofs.Schedules.FilesReach.{all_along}
use Rattle.book_folder.proofs.Schedules.ScheduleLaws.{bundles_along}

-- ---- what is read

-- the files of books are those that begin with one
pub clear_is : (seen : SeenParts) (files : List FileParts) → clear_files seen ≡ Ok files → files_from 0 seen.files ≡ files
clear_is seen files e = by (unclear seen (files_from 0 seen.files)) e
  where
    by : (u : Option UnclearFile) → clear_or u (files_from 0 seen.files) ≡ Ok files → files_from 0 seen.files ≡ files
    by None e = ok_is (files_from 0 seen.files) files e
    by (Some u) e = cc e

-- a project's file is longer than the bundle in it
pub short_bundle : (s : State) → length (project s) < 2 ^ 64 → length (bundle s.held) < 2 ^ 64
unfolding project
short_bundle s h = omega (arith, length-append magic (length s.name ∷ (s.name ++ bundle s.held)), length-append s.name (bundle s.held))

-- the project is one, and has all of the base; and the files were written from what the folder begins with
pub record CameAlong (b : BegunParts) (c : CameInParts) : Type 0 where
  pub state : IsState c.replica
  pub base : c.base ≡ b.base
  pub has : HasAll c.replica.held b.base.held

-- what came in, by its parts
pub record CameBy (seen : SeenParts) (wishes : WishParts) (s : State) (b : BegunParts) (c : CameInParts) (files : List FileParts)
    : Type 0 where
  pub older : List State
  pub bundled : Stepped State (List ℕ)
  pub all : AllTaken
  pub begun : IsReceived b
  pub start : Along s b.base.held b.replica
  pub got : bundles_begun wishes.joined b.replica seen.bundles ≡ Ok bundled
  pub taken : taken_all b.base older wishes (none_taken bundled.after []) (in_turn b.base.held files) ≡ Ok all
  pub along : Along s b.base.held all.after
  pub same : all_came seen b bundled.made all ≡ c

pub came_by : (seen : SeenParts) (wishes : WishParts) (s : State) (b : BegunParts) (c : CameInParts) (files : List FileParts) → IsState s
    → IsOfBytes seen → project_at seen.project ≡ Ok s → wishes.stale ≡ false → begun_with seen wishes ≡ Ok b
    → comes_in seen wishes files ≡ Ok c → CameBy seen wishes s b c files
came_by seen wishes s b c files state bytes is fresh begins came =
    let g = begins_along s seen wishes b state bytes.bases bytes.next is begins in
    let o = then_ok (older_from b.base.name 0 [] (earlier_bases seen))
    (λ older. rebased_if_stale wishes b older files >>= λ b. bundles_come_in seen wishes older (in_turn b.base.held files) b) c
    (sym (ap (λ r. r >>= λ b. older_from b.base.name 0 [] (earlier_bases seen) >>= λ older. rebased_if_stale wishes b older files >>= λ b.
    bundles_come_in seen wishes older (in_turn b.base.held files) b) begins) ∙ came) in
    let come : bundles_come_in seen wishes o.0 (in_turn b.base.held files) b ≡ Ok c =
    sym (ap (λ w. cond w (rebased wishes.settled b o.0 files) (Ok b) >>= λ b.
    bundles_come_in seen wishes o.0 (in_turn b.base.held files) b) fresh)
    ∙ o.1.1 in
    let d = then_ok (bundles_begun wishes.joined b.replica seen.bundles)
    (λ r. taken_all b.base o.0 wishes (none_taken r.after []) (in_turn b.base.held files) >>= λ all. Ok (all_came seen b r.made all)) c
    come in
    let t = then_ok (taken_all b.base o.0 wishes (none_taken d.0.after []) (in_turn b.base.held files))
    (λ all. Ok (all_came seen b d.0.made all)) c d.1.1 in
    let received = bundles_along s b.base.held wishes.joined 0 (stepped b.replica []) seen.bundles d.0 g.along bytes.bundles d.1.0 in
    record {
      older = o.0;
      bundled = d.0;
      all = t.0;
      begun = base_received seen wishes s b state bytes.bases bytes.next is begins;
      start = g.along;
      got = d.1.0;
      taken = t.1.0;
      along = all_along s b.base g.base.set o.0 wishes (none_taken d.0.after []) (in_turn b.base.held files) t.0 received t.1.0;
      same = ok_is (all_came seen b d.0.made t.0) c t.1.1;
    }

-- the project is one
pub came_state : (seen : SeenParts) (wishes : WishParts) (s : State) (b : BegunParts) (c : CameInParts) (files : List FileParts)
    → CameBy seen wishes s b c files → IsState c.replica
came_state seen wishes s b c files h = subst (λ (x : CameInParts). IsState x.replica) h.same h.along.state

-- the files were written from what the folder begins with
pub came_base : (seen : SeenParts) (wishes : WishParts) (s : State) (b : BegunParts) (c : CameInParts) (files : List FileParts)
    → CameBy seen wishes s b c files → c.base ≡ b.base
came_base seen wishes s b c files h = sym (ap (λ (x : CameInParts). x.base) h.same)

pub came_along : (seen : SeenParts) (wishes : WishParts) (s : State) (b : BegunParts) (c : CameInParts) (files : List FileParts) → IsState s
    → IsOfBytes seen → project_at seen.project ≡ Ok s → wishes.settled ≡ [] → wishes.stale ≡ false → begun_with seen wishes ≡ Ok b
    → comes_in seen wishes files ≡ Ok c → IsDistinct are_of_one_book files → AllByRecursion (IsReadAlike b.base (first_of b c)) files
    → CameAlong b c
came_along seen wishes s b c files state bytes is unsettled fresh begins came distinct each =
    let h = came_by seen wishes s b c files state bytes is fresh begins came in
    let received = bundled s seen wishes b h.bundled h.begun h.start bytes.bundles h.got in
    let has = bundled_has s seen wishes b h.bundled h.begun h.start bytes.bundles h.got in
    let taken : taken_all b.base h.older wishes (none_taken h.bundled.after []) files ≡ Ok h.all =
    ap (taken_all b.base h.older wishes (none_taken h.bundled.after []))
    (sym (turns_are b.base.held files (all_known b.base (first_of b c) files each))) ∙ h.taken in
    let end = ends s b.base (first_of b c) h.begun.base h.older wishes unsettled (none_taken h.bundled.after []) files h.all each distinct
    (none_stood files) received has taken in
    record {
      state = came_state seen wishes s b c files h;
      base = came_base seen wishes s b c files h;
      has = subst (λ (x : CameInParts). HasAll x.replica.held b.base.held) h.same
          (all_through h.all.after.held h.bundled.after.held b.base.held end.along.state.set.rising received.state.set.rising
          h.begun.base.set.rising end.has has);
    }

-- ---- a sync, and what is read where it was cut short

-- A whole sync, by its parts; the disk on which it was cut short, and what is read of it.
pub record CutRead : Type 0 where
  pub seen : SeenParts
  pub again : SeenParts
  pub wishes : WishParts
  pub s : State
  pub b : BegunParts
  pub c : CameInParts
  pub now : List FileParts
  pub made : List NewFileParts
  pub base : List ℕ
  pub plan : PlanParts
  pub d : DiskParts
  pub e : DiskParts
  pub unsettled : wishes.settled ≡ []
  pub fresh : wishes.stale ≡ false
  pub joined : wishes.joined ≡ true
  pub y : IsWholeSync seen wishes s b c made base plan d
  pub g : FromBases seen wishes s b
  pub along : CameAlong b c
  pub x : IsReadAgain seen d again e
  pub clear : clear_files again ≡ Ok now
