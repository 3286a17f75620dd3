use Rattle.kept_days.specs.Words.{project_end}
use Rattle.kept_days.proofs.Names.{before_text}
use Rattle.kept_days.proofs.since.before_end.Goals as goal

pub returns : goal.returns
returns c = before_text project_end c.args.name.now c.strip_suffix.result c.strip_suffix.ensures.cases
