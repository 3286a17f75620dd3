use Rattle.usfm_cli.proofs.ReadAlike.{read_as_thinned_stream}
use Rattle.usfm_cli.specs.Projects.{file_after}
use Rattle.usfm_cli.proofs.laws.thinned_projects_read_as_streams.Goals as goal

pub returns : goal.returns
returns _ = λ family file commands s sets input loads hs spelled of ids book.
    read_as_thinned_stream family (file_after file commands) s sets input loads hs spelled of ids book
