-- Laws of reports in worlds (this project's own rule): what holds after every list of events, at
-- any number of replicas.
use Rattle.std.specs.Prelude.{◌≡◌, ℕ, Bool, true, List, ◌++◌}
use Rattle.std.specs.List.{flat_map}
use Rattle.op_core.specs.Ops.{Operation}
use Rattle.op_core.specs.Lists.{books_of}
use Rattle.op_core.specs.Thinned.{skeleton, StandsFor}
use Rattle.replica_state.specs.World.{Event, world}
use Rattle.replica_state.specs.World.Twin.{twin}
use Rattle.replica_state.specs.World.Agreement.{EndsInRelays}
use Rattle.conflict_report.specs.Reports.{report, conflicts_in}

-- A set that stands for another one gives its report.
abbrev pub StandInsReportSame : Type 0
StandInsReportSame = (s u : List Operation) → StandsFor s u → report s ≡ report u

-- At every moment each replica gives the report that it gives in the twin, in which none thins.
abbrev pub ThinningReportsNothing : Type 0
ThinningReportsNothing =
    (events : List Event) (name : List ℕ) →
    report ((world events).held name) ≡ report ((world (twin events)).held name)

-- Replicas that hold one set but for texts left out give the same report.
abbrev pub SameSkeletonsReportSame : Type 0
SameSkeletonsReportSame =
    (events : List Event) (a b : List ℕ) →
    skeleton ((world events).held a) ≡ skeleton ((world events).held b) →
    report ((world events).held a) ≡ report ((world events).held b)

-- two sets give the same report, which has no `awaited` line
pub record ReportAlike (s t : List Operation) : Type 0 where
  pub same : report s ≡ report t
  pub no_awaited_line : report s ≡ flat_map (conflicts_in s) (books_of s)

-- Where after the last edit a relay leads from each replica to each other, any two of them give the
-- same report, and it has no `awaited` line.
abbrev pub AllReportTheSame : Type 0
AllReportTheSame =
    (is_there : List ℕ → Bool) (later past : List Event) → EndsInRelays is_there later past →
    (a b : List ℕ) → is_there a ≡ true → is_there b ≡ true →
    ReportAlike ((world (later ++ past)).held a) ((world (later ++ past)).held b)
