use Rattle.project_page.proofs.MarkupFixed.{markup_is_fixed}
use Rattle.project_page.proofs.laws.markup_is_fixed.Goals as goal

pub returns : goal.returns
returns c = markup_is_fixed
