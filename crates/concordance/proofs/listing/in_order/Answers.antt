use Rattle.concordance.proofs.GroupSteps.{groups_rise}
use Rattle.concordance.proofs.WordLists.{reordered_tell, reordered_keyed}
use Rattle.concordance.proofs.listing.in_order.Goals as goal

pub returns-clause-spells : goal.returns-clause-spells
returns-clause-spells c =
    reordered_tell c.args.groups.entries c.sort_unstable_keys.new.self.entries c.sort_unstable_keys.ensures.reordered.0

pub returns-clause-keyed : goal.returns-clause-keyed
returns-clause-keyed c =
    reordered_keyed c.args.groups.entries c.sort_unstable_keys.new.self.entries c.sort_unstable_keys.ensures.reordered.0 c.requires.keyed

pub returns-clause-rise : goal.returns-clause-rise
returns-clause-rise c =
    groups_rise c.sort_unstable_keys.new.self.entries c.in_ok-sort_unstable_keys.ensures.sorted c.sort_unstable_keys.ensures.unique
