use Rattle.std.proofs.Common.{[], ◌∷◌, sym, ap, ◌∙◌}
use Rattle.std.specs.Prelude.{Some, option_map}
use Rattle.memchr.proofs.lemmas.ValueLemmas.{FindsNeedle-value}
use Rattle.command_faults.specs.BookFronts.{line_after}
use Rattle.command_faults.specs.declared.book_fronts.Slip.TheVariants.{LaterLine}
use Rattle.command_faults.proofs.book_fronts.later_line.Goals as goal

pub returns-in-Some : goal.returns-in-Some
returns-in-Some c =
    ap (λ n. Some (LaterLine n)) c.line_after.ensures
    ∙ ap (option_map (λ at. LaterLine (line_after c.args.text.now at)))
    (sym c.in-Some.is ∙ FindsNeedle-value c.args.text.now (10 ∷ 92 ∷ 105 ∷ 100 ∷ 32 ∷ []) c.find.result c.find.ensures)

pub returns-in-None : goal.returns-in-None
returns-in-None c =
    ap (option_map (λ at. LaterLine (line_after c.args.text.now at)))
    (sym c.in-None.is ∙ FindsNeedle-value c.args.text.now (10 ∷ 92 ∷ 105 ∷ 100 ∷ 32 ∷ []) c.find.result c.find.ensures)
