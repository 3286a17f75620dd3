use Rattle.std.proofs.Common.{◌≡◌, ℕ, List, [], Option, subst}
use Rattle.usfm_cli.specs.Seen.{seen_of}
use Rattle.usfm_cli.proofs.over_books.load_seen.Goals as goal

pub returns-in-None-clause-nothing_seen : goal.returns-in-None-clause-nothing_seen
returns-in-None-clause-nothing_seen c = λ s loads sees. c.load.ensures.nothing_held s loads
    (subst (λ (book : Option (List ℕ)). (seen_of book s).held ≡ []) c.in-None.is sees.none_seen)

pub returns-in-Some-clause-nothing_seen : goal.returns-in-Some-clause-nothing_seen
returns-in-Some-clause-nothing_seen c = λ s loads sees. c.load_book.ensures.nothing_held s loads sees.full
    (subst (λ (book : Option (List ℕ)). (seen_of book s).held ≡ []) c.in-Some.is sees.none_seen)
