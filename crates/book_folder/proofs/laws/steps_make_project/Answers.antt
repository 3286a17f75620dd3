use Rattle.book_folder.proofs.StepsLaws as proved
use Rattle.book_folder.proofs.laws.steps_make_project.Goals as goal

pub returns : goal.returns
returns _ = proved.steps_make_project
