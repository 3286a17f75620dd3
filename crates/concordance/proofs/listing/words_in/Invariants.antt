use Rattle.std.proofs.Common.{◌≡◌, map, take}
use Rattle.concordance.proofs.WordLists.{word_spelled}
use Rattle.concordance.proofs.listing.words_in.Given as goal

abbrev pub invariant-loop-index : goal.invariant-loop-index
invariant-loop-index l = l.words.items ≡ map word_spelled (take l.index l.groups.entries)
