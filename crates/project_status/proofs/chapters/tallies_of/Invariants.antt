use Rattle.std.proofs.Common.{take}
use Rattle.project_status.specs.Loops.Tallies.{AreTallies}
use Rattle.project_status.proofs.chapters.tallies_of.Given as goal

abbrev pub invariant-loop-verse : goal.invariant-loop-verse
invariant-loop-verse l = AreTallies (take l.verse-index l.verses) l.tallies
