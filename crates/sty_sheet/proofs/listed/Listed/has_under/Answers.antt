use Rattle.std.proofs.Common.{◌∙◌}
use Rattle.sty_sheet.proofs.listed.Listed.has_under.Goals as goal

pub returns-in-Some : goal.returns-in-Some
returns-in-Some c = c.contains.ensures ∙ c.args.self.now.same c.in-Some.words c.in-Some.is c.args.word.now
