use Rattle.std.proofs.Common.{List, subst}
use Rattle.std.proofs.lemmas.List.Sorted.{IsPermutation-map}
use Rattle.std.specs.List.Sorted.{IsPermutation}
use Rattle.kept_days.specs.Days.{texts}
use Rattle.kept_days.proofs.Names.{in_order}
use Rattle.kept_days.proofs.days.days_of.Goals as goal

pub returns-clause-permutation : goal.returns-clause-permutation
returns-clause-permutation c =
    let made = c.sort_unstable.new.self.items in
    subst (λ days. IsPermutation days (texts made)) c.in_ok-days.ensures
    (IsPermutation-map (λ t. t.now) c.in_ok-days.days.items made c.sort_unstable.ensures.permutation)

pub returns-clause-rising : goal.returns-clause-rising
returns-clause-rising c = in_order c.sort_unstable.new.self.items c.sort_unstable.ensures.sorted
