use Rattle.usfm_cli.proofs.ReadTheSame.{same_operations}
use Rattle.usfm_cli.specs.Projects.{file_after}
use Rattle.usfm_cli.proofs.laws.same_operations_read_the_same.Goals as goal

pub returns : goal.returns
returns c = λ file other commands others s t loads loaded hs ht same. same_operations (file_after file commands)
    (file_after other others) s t loads loaded hs ht same
