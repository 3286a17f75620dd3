use Rattle.std.proofs.Common.{sym, ap, ◌∙◌, arith}
use Rattle.line_column.specs.Places.{place_at}
use Rattle.line_column.proofs.Ends.{front_place}
use Rattle.line_column.proofs.walk.Walk.new.Goals as goal

pub invariant_of-result : goal.invariant_of-result
invariant_of-result c =
    let text = c.args.text.now in
    let mark = c.mark_len.ensures.value in
    (omega (arith, mark), c.mark_len.ensures.within, front_place text ∙ ap (place_at text) (sym mark))
