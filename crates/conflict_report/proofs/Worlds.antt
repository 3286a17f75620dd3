-- Reports in worlds.
use Rattle.std.proofs.Common.{◌≡◌, ℕ, Bool, true, List, [], ◌++◌, ap, ◌∙◌}
use Rattle.std.specs.List.{flat_map}
use Rattle.std.proofs.lemmas.List.{append-nil}
use Rattle.op_core.specs.Ops.{Operation}
use Rattle.op_core.specs.Lists.{books_of}
use Rattle.op_core.specs.Thinned.{skeleton, StandsFor}
use Rattle.replica_state.specs.World.{Event, world}
use Rattle.replica_state.specs.World.Twin.{twin}
use Rattle.replica_state.specs.World.Agreement.{ShowSame, EndsInRelays}
use Rattle.replica_state.proofs.World.Shows.{stands_shows, thinning_shows_nothing, show_same, all_agree_in_the_end}
use Rattle.conflict_report.specs.Reports.{conflicts_in, awaited_line, report}
use Rattle.conflict_report.specs.Worlds.{ReportAlike}
use Rattle.conflict_report.proofs.SameReports.{same_reports}

-- sets that show and answer the same give the same report
same_report : (s t : List Operation) → ShowSame s t → report s ≡ report t
same_report s t h = same_reports s t h.skeletons h.shown

-- what stands for a set has the set's report
pub stand_ins_report : (s u : List Operation) → StandsFor s u → report s ≡ report u
stand_ins_report s u h = same_report s u (stands_shows s u h)

-- a replica reports what it would report if none had thinned
pub thinning_reports : (events : List Event) (name : List ℕ) → report ((world events).held name) ≡ report ((world (twin events)).held name)
thinning_reports events name = same_report _ _ (thinning_shows_nothing events name)

-- replicas with one skeleton write the same report
pub skeletons_report : (events : List Event) (a b : List ℕ) → skeleton ((world events).held a) ≡ skeleton ((world events).held b)
    → report ((world events).held a) ≡ report ((world events).held b)
skeletons_report events a b e = same_report _ _ (show_same events a b e)

-- after relays round all, all who are there write the same report, and nothing is awaited
pub all_report : (is_there : List ℕ → Bool) (later past : List Event) → EndsInRelays is_there later past
    → (a b : List ℕ) → is_there a ≡ true → is_there b ≡ true
    → ReportAlike ((world (later ++ past)).held a) ((world (later ++ past)).held b)
all_report is_there later past ends a b ha hb =
    let agree = all_agree_in_the_end is_there later past ends a b ha hb in
    let s = (world (later ++ past)).held a in
    let conflicts = flat_map (conflicts_in s) (books_of s) in
    record {
      same = same_report _ _ agree.same;
      no_awaited_line = ap (λ ids. conflicts ++ flat_map awaited_line ids) agree.awaits_none ∙ append-nil conflicts;
    }
