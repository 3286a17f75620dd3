use Rattle.std.proofs.Common.{◌∙◌, ap, not}
use Rattle.std.specs.Prelude.{Some}
use Rattle.std.proofs.lemmas.Map.Text.{hash_map_updates_str}
use Rattle.sty_sheet.specs.Closers.{held}
use Rattle.sty_sheet.proofs.ClosingNames.{adds, nothing_held}
use Rattle.sty_sheet.proofs.records.add_closer.Goals as goal

pub returns-in_ok-insert-clause-adds : goal.returns-in_ok-insert-clause-adds
returns-in_ok-insert-clause-adds c =
    let old = c.args.closers.now in
    let x = c.in-Some.closer.now in
    let none = nothing_held c.get.result (held old x) c.get.ensures.value (c.is_none.ensures ∙ ap not c.if-is_none.true) in
    λ name. hash_map_updates_str x old c.insert.new.self (Some c.args.style) c.in_ok-insert.ensures.updates name
    ∙ adds c.args.style x (held old) c.in-Some.ensures none name
