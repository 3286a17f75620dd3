use Rattle.std.proofs.Common.{◌∙◌, ◌++◌, List, ℕ, sym, ap}
use Rattle.versification.specs.Views.{verses_in}
use Rattle.missing_verses.proofs.Below.{append_none}
use Rattle.missing_verses.proofs.Whole.{nothing_here}
use Rattle.missing_verses.proofs.missing.push_own.Goals as goal

pub returns-then-not-has_verses : goal.returns-then-not-has_verses
returns-then-not-has_verses c =
    let chapter = c.args.chapter.now in
    let bytes = c.args.bytes.now.items in
    let none = nothing_here (verses_in chapter.versification.now) chapter.book chapter.number c.args.own.now
    c.if-is_empty.ensures c.if-not-has_verses.ensures in
    sym (ap (λ (xs : List ℕ). bytes ++ xs) none ∙ append_none bytes)
