use Rattle.std.proofs.Common.{◌≡◌, false, map, take}
use Rattle.concordance.specs.Loops.Groups.{all_spellings, has_bare, composed, SpellsSame}
use Rattle.concordance.proofs.listing.composed.Given as goal

abbrev pub invariant-loop-index : goal.invariant-loop-index
invariant-loop-index l = record {
  spells : SpellsSame (map composed (all_spellings (take l.index l.runs.entries))) (all_spellings l.groups.entries);
  keyed : has_bare l.groups.entries ≡ false;
}
