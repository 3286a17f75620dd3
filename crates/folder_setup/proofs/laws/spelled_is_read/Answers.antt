use Rattle.folder_setup.proofs.Lines.{again, alone}
use Rattle.folder_setup.proofs.laws.spelled_is_read.Goals as goal

pub returns-clause-again : goal.returns-clause-again
returns-clause-again _ = again

pub returns-clause-alone : goal.returns-clause-alone
returns-clause-alone _ = alone
