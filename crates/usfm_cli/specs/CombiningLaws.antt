-- Laws of combining bundles (this project's own rule).
use Rattle.std.specs.Prelude.{◌≡◌, ◌<◌, ◌^◌, ℕ, List, ◌∷◌, ◌++◌, length, map, Result, Ok, Err}
use Rattle.std.specs.List.{flat_map, AllByRecursion}
use Rattle.op_core.specs.Ops.{Operation}
use Rattle.op_core.specs.Laws.{SameTogether}
use Rattle.bundle_codec.specs.Spelling.{bundle}
use Rattle.command_faults.specs.declared.fault.Fault.{Fault}
use Rattle.usfm_cli.specs.Streams.{HasBundle}
use Rattle.usfm_cli.specs.Combining.{combined, combined_stream}
use Rattle.usfm_cli.specs.declared.turns.TurnFault.{TurnFault}
use Rattle.usfm_cli.specs.declared.turns.TurnFault.TheVariants.{Project, Turn}

-- Bundles that have the same operations together, thinned ones as thinned, in whatever order,
-- grouping and repetition, are combined into the same bytes, if none is refused.
abbrev pub SameOperationsSameBundle : Type 0
SameOperationsSameBundle =
    (sets others : List (List Operation)) (one other : List ℕ) →
    AllByRecursion HasBundle sets → AllByRecursion HasBundle others → SameTogether sets others →
    combined (map bundle sets) ≡ Ok one → combined (map bundle others) ≡ Ok other → one ≡ other

-- What some bundles are combined into stands for them among others: all are combined into the same
-- bytes, if none is refused. So bundles may be combined as a tree.
abbrev pub CombinedStandsForThem : Type 0
CombinedStandsForThem =
    (before some later : List (List Operation)) (made one other : List ℕ) →
    AllByRecursion HasBundle before → AllByRecursion HasBundle some →
    AllByRecursion HasBundle later →
    combined (map bundle some) ≡ Ok made → length made < 2 ^ 64 →
    combined (map bundle (before ++ (some ++ later))) ≡ Ok one →
    combined (map bundle before ++ (made ∷ map bundle later)) ≡ Ok other → one ≡ other

-- what is answered, without the place of a bundle that is refused
abbrev pub without_place : Result (List ℕ) TurnFault → Result (List ℕ) Fault
without_place (Ok made) = Ok made
without_place (Err (Turn at fault)) = Err fault
without_place (Err (Project fault)) = Err fault

-- Bundles one after another are combined into what the bundles by themselves are, or refused as
-- they are.
abbrev pub StreamsCombineAlike : Type 0
StreamsCombineAlike =
    (sets : List (List Operation)) → AllByRecursion HasBundle sets →
    combined_stream (flat_map bundle sets) ≡ without_place (combined (map bundle sets))
