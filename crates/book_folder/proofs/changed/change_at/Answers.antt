use Rattle.std.proofs.Common.{◌≡◌, ◌∙◌, List, None, Vec, Global, map, option_map, sym, ap}
use Rattle.std.proofs.lemmas.Result.{IfOk-weaker}
use Rattle.verse_cut.specs.Views.{pieces_view}
use Rattle.op_core.specs.Ids.{Id}
use Rattle.op_core.specs.Ops.{Operation}
use Rattle.book_folder.specs.Taking.{settling_ids, change_by, change_at}
use Rattle.book_folder.specs.Wanted.{wanted_view}
use Rattle.book_folder.proofs.changed.change_at.Goals as goal

pub returns-clause-change : goal.returns-clause-change
unfolding change_at
returns-clause-change c =
    let held = c.args.replica.now.held in
    let base = c.args.base.now in
    let wanted = map wanted_view c.args.settled.now in
    let pieces = pieces_view c.args.pieces.now in
    let none : settling_ids held base wanted c.args.book c.args.key ≡ None = sym c.in_ok-ids.ensures.ids
    ∙ ap (option_map (λ (ids : Vec Id Global). ids.items)) c.in_default.is in
    IfOk-weaker c.since_change.result _ _
    (λ made is. is
    ∙ ap (λ (ops : List Operation). change_by None held ops c.args.book pieces c.args.key) c.settling_ids.ensures.same
    ∙ sym (ap (λ ids. change_by ids held base c.args.book pieces c.args.key) none)) c.since_change.ensures.change
