use Rattle.verse_cut.proofs.FitLaws.{fits_is_read}
use Rattle.verse_cut.proofs.laws.fits_is_read.Goals as goal

pub returns : goal.returns
returns c = fits_is_read
