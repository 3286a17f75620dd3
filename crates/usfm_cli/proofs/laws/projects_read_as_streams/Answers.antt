use Rattle.usfm_cli.proofs.ReadTheSame.{read_as_stream}
use Rattle.usfm_cli.specs.Projects.{file_after}
use Rattle.usfm_cli.proofs.laws.projects_read_as_streams.Goals as goal

pub returns : goal.returns
returns _ = λ file commands s sets input union loads hs spelled e there back book.
    read_as_stream (file_after file commands) s sets input union loads hs spelled e there back book
