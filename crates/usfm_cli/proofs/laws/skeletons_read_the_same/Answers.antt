use Rattle.usfm_cli.proofs.ReadAlike.{skeletons_read}
use Rattle.usfm_cli.specs.Projects.{file_after}
use Rattle.usfm_cli.proofs.laws.skeletons_read_the_same.Goals as goal

pub returns : goal.returns
returns _ = λ file other commands others s t loads loaded hs ht e c.
    skeletons_read (file_after file commands) (file_after other others) s t loads loaded (hs.set.rising, hs.legal)
    (ht.set.rising, ht.legal) e c
