use Rattle.std.proofs.Common.{sym, ap, ◌∙◌}
use Rattle.line_column.specs.Places.{mark_length, place_at}
use Rattle.line_column.proofs.Ends.{front_place}
use Rattle.line_column.proofs.walk.Walk.known.Goals as goal

pub returns-then-end-self-clause-place : goal.returns-then-end-self-clause-place
returns-then-end-self-clause-place c =
    let text = c.args.self.now in
    front_place text ∙ ap (place_at text) (sym (c.mark_len.ensures.value ∙ ap mark_length c.self.view_is))
