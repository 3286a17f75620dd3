use Rattle.project_page.proofs.References.{said_may_stand, said_has_no_markup, said_refers}
use Rattle.project_page.proofs.laws.texts_have_no_markup.Goals as goal

pub returns-clause-none : goal.returns-clause-none
returns-clause-none c = said_has_no_markup

pub returns-clause-references : goal.returns-clause-references
returns-clause-references c = said_refers

pub returns-clause-plain : goal.returns-clause-plain
returns-clause-plain c = said_may_stand
