use Rattle.line_column.proofs.Rising as proved
use Rattle.line_column.proofs.laws.places_rise.Goals as goal

pub returns : goal.returns
returns _ = proved.places_rise
