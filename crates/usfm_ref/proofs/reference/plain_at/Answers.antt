use Rattle.std.proofs.Common.{◌≡◌, ◌≤◌, ℕ, List, Bor, Option, Some, None}
use Rattle.std.specs.Option.{MatchOption, IfSome}
use Rattle.usfm_ref.specs.Numbers.{number_at}
use Rattle.usfm_ref.proofs.Spellings.{number_at-le}
use Rattle.usfm_ref.proofs.reference.plain_at.Goals as goal

small : (bytes : List ℕ) (r : Option (ℕ × Bor (List ℕ)))
    → MatchOption r (number_at bytes ≡ None) (λ n. number_at bytes ≡ Some (n.0, n.1.now)) → IfSome r (λ n. n.0 ≤ 999)
small bytes None h = tt
small bytes (Some n) h = number_at-le bytes (n.0, n.1.now) h

pub returns-in_default-clause-within : goal.returns-in_default-clause-within
returns-in_default-clause-within c = small _ _ c.number_at.ensures
