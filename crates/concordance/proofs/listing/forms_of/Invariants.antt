use Rattle.std.proofs.Common.{◌≡◌, map, take}
use Rattle.concordance.specs.Loops.FormViews.{forms_view}
use Rattle.concordance.specs.Loops.Groups.{form_at}
use Rattle.concordance.proofs.listing.forms_of.Given as goal

abbrev pub invariant-loop-index : goal.invariant-loop-index
invariant-loop-index l = forms_view l.forms.items ≡ map form_at (take l.index l.runs.entries)
