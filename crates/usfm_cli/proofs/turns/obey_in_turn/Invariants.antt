use Rattle.usfm_cli.specs.Turns.{bytes_of}
use Rattle.usfm_cli.proofs.InTurn.{DoneSoFar}
use Rattle.usfm_cli.proofs.turns.obey_in_turn.Given as goal

abbrev pub invariant-loop-command : goal.invariant-loop-command
invariant-loop-command l = DoneSoFar l.initial.replica l.commands l.command-index l.replica (bytes_of l.outputs.items)
