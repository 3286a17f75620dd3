use Rattle.std.proofs.Common.{◌≡◌, sym, subst}
use Rattle.std.proofs.lemmas.Iterator.Consumers.{YieldsList-from_first, map_from_collect}
use Rattle.std.proofs.lemmas.Result.{IfOk-weaker}
use Rattle.std.specs.Prelude.{IfOk}
use Rattle.verse_cut.specs.Loops.Left.{pieces_left}
use Rattle.verse_cut.specs.Pieces.{pieces_of, KeysRise, LieIn}
use Rattle.verse_cut.specs.Views.{piece_view, pieces_view}
use Rattle.verse_cut.proofs.CutLaws.{one_cut, pieces_lie, pieces_rise}
use Rattle.verse_cut.proofs.cutter.cut.Goals as goal

value : (c : goal.After-collect) → IfOk c.collect.result (λ list. pieces_view list.items ≡ pieces_of c.args.text.now)
value c = map_from_collect _ c.collect.ensures.ran (YieldsList-from_first piece_view pieces_left _ c.new.ensures)

pub returns-clause-cut : goal.returns-clause-cut
returns-clause-cut c = IfOk-weaker c.collect.result _ _ (λ list is. (one_cut (pieces_view list.items) c.args.text.now).1 is) (value c)

pub returns-clause-lie : goal.returns-clause-lie
returns-clause-lie c =
    IfOk-weaker c.collect.result _ _ (λ list is. subst (LieIn c.args.text.now) (sym is) (pieces_lie c.args.text.now)) (value c)

pub returns-clause-rise : goal.returns-clause-rise
returns-clause-rise c = IfOk-weaker c.collect.result _ _ (λ list is. subst KeysRise (sym is) (pieces_rise c.args.text.now)) (value c)
