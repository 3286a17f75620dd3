use Rattle.book_folder.specs.Naming.{numbers}
use Rattle.book_folder.proofs.naming.numbered_form.Goals as goal

pub returns : goal.returns
unfolding numbers
returns c = c.form_by.ensures
