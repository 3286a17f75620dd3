use Rattle.std.proofs.Common.{subst, sym, ◌∙◌, List}
use Rattle.std.proofs.lemmas.Bool.{eqb-true}
use Rattle.std.proofs.lemmas.List.{nil_from_length}
use Rattle.op_core.specs.Loops.Changes.{AreChanges}
use Rattle.op_core.specs.declared.index.turns.Turn.{Turn}
use Rattle.op_core.proofs.Indexed.Begun.{begun_enrolled}
use Rattle.op_core.proofs.Indexed.Kept.{index_laid}
use Rattle.op_core.proofs.Indexed.There.{index_ready, ready_shown}
use Rattle.op_core.proofs.Indexed.Changed.{index_enrolled}
use Rattle.op_core.proofs.Indexed.Registers.{on_err}
use Rattle.op_core.proofs.index.enroll.Goals as goal

pub returns-then-is_empty-clause-ok : goal.returns-then-is_empty-clause-ok
returns-then-is_empty-clause-ok c =
    begun_enrolled c.args.held.now c.args.new.now _
    (nil_from_length c.args.held.now (eqb-true _ _ (sym c.is_empty.ensures ∙ c.if-is_empty.true)))
    c.requires.new.rising c.in_ok-chapters.ensures

pub returns-in_err-lay_out-clause-err : goal.returns-in_err-lay_out-clause-err
returns-in_err-lay_out-clause-err c = on_err c.from_residual-in_err-lay_out.result
    (index_laid c.args.held.now c.args.chapters.now.items c.lay_out.new.chapters.items c.requires.index c.lay_out.ensures)

pub settle_all-requires-clause-shown : goal.settle_all-requires-clause-shown
settle_all-requires-clause-shown c = λ g.
    let laid = index_laid c.args.held.now c.args.chapters.now.items c.lay_out.new.chapters.items c.requires.index c.lay_out.ensures in
    ready_shown c.args.held.now c.lay_out.new.chapters.items c.ready_all.new.chapters.items c.requires.held.rising laid
    c.ready_all.ensures.same g

pub returns-clause-ok : goal.returns-clause-ok
returns-clause-ok c =
    let laid = index_laid c.args.held.now c.args.chapters.now.items c.lay_out.new.chapters.items c.requires.index c.lay_out.ensures in
    let index = index_ready c.args.held.now c.lay_out.new.chapters.items c.ready_all.new.chapters.items laid c.ready_all.ensures.same in
    let are = subst (λ (ts : List Turn). AreChanges c.args.held.now c.args.new.now ts c.ready_all.new.chapters.items
    c.in_ok-changes.changes.items) c.deref-3.ensures.value c.in_ok-changes.ensures.changes in
    index_enrolled c.args.held.now c.args.new.now c.in_ok-turns.turns.items c.in_ok-changes.changes.items c.ready_all.new.chapters.items
    c.settle_all.new.chapters.items
    c.requires.held c.requires.new c.requires.apart index c.in_ok-turns.ensures are c.settle_all.ensures
