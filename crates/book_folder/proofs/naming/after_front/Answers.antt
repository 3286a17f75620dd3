use Rattle.book_folder.proofs.Fronts.{stripped}
use Rattle.book_folder.proofs.naming.after_front.Goals as goal

pub returns : goal.returns
returns c = stripped c.args.front.now c.args.name.now c.strip_prefix.result c.strip_prefix.ensures.cases
