use Rattle.std.proofs.Common.{◌≡◌, ℕ, List, [], Option, sym, subst, ◌∙◌}
use Rattle.usfm_cli.specs.Seen.{seen_of}
use Rattle.usfm_cli.proofs.Seen.{seen_all, seen_one}
use Rattle.usfm_cli.proofs.projects.load_seen.Goals as goal

pub returns-in-None-clause-seen : goal.returns-in-None-clause-seen
returns-in-None-clause-seen c =
    seen_all c.args.project.now c.args.command.now c.load.result (sym c.looked_at.ensures ∙ c.in-None.is) c.load.ensures.loaded

pub returns-in-Some-clause-seen : goal.returns-in-Some-clause-seen
returns-in-Some-clause-seen c =
    seen_one c.args.project.now c.args.command.now c.in-Some.book c.load_book.result (sym c.looked_at.ensures ∙ c.in-Some.is)
    c.load_book.ensures.loaded

pub returns-in-None-clause-nothing_seen : goal.returns-in-None-clause-nothing_seen
returns-in-None-clause-nothing_seen c = λ s loads full none. c.load.ensures.nothing_held s loads
    (subst (λ (book : Option (List ℕ)). (seen_of book s).held ≡ []) (sym c.looked_at.ensures ∙ c.in-None.is) none)

pub returns-in-Some-clause-nothing_seen : goal.returns-in-Some-clause-nothing_seen
returns-in-Some-clause-nothing_seen c = λ s loads full none. c.load_book.ensures.nothing_held s loads full
    (subst (λ (book : Option (List ℕ)). (seen_of book s).held ≡ []) (sym c.looked_at.ensures ∙ c.in-Some.is) none)
