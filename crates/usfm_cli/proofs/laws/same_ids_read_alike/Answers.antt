use Rattle.usfm_cli.proofs.ReadAlike.{ids_read}
use Rattle.usfm_cli.specs.Projects.{file_after}
use Rattle.usfm_cli.proofs.laws.same_ids_read_alike.Goals as goal

pub returns : goal.returns
returns _ = λ family file other commands others s t loads loaded hs ht ids.
    ids_read family (file_after file commands) (file_after other others) s t loads loaded hs ht ids
