use Rattle.usfm_cli.proofs.OtherCopies.{ToldSoFar}
use Rattle.usfm_cli.proofs.copies.others_of.Given as goal

abbrev pub invariant-loop-file : goal.invariant-loop-file
invariant-loop-file l = ToldSoFar l.files l.file-index l.others.items
