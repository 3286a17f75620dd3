use Rattle.std.proofs.Common.{◌≡◌, length, arith, sym, ap, ◌∙◌}
use Rattle.std.proofs.lemmas.Bool.{eqb-true}
use Rattle.std.proofs.lemmas.List.{nil_from_length}
use Rattle.usfm_ref.specs.Keys.{key_cmp}
use Rattle.usfm_ref.specs.Rising.{rises_by}
use Rattle.verse_cut.specs.Views.{pieces_view}
use Rattle.verse_cut.specs.declared.cutter.Piece.{Piece}
use Rattle.op_core.specs.Sets.{clash}
use Rattle.replica_state.specs.States.{State}
use Rattle.replica_state.specs.Steps.{with_ops}
use Rattle.replica_state.proofs.FilePieces.{all_pieces_fit}
use Rattle.replica_state.proofs.KeyLists.{piece_keys_rise}
use Rattle.replica_state.proofs.Lacking.{nothing_received}
use Rattle.replica_state.proofs.SinceSteps.{made_as, unreceived}
use Rattle.replica_state.proofs.replica.Replica.import_since.Goals as goal

pub make_since-requires-clause-rising : goal.make_since-requires-clause-rising
make_since-requires-clause-rising c = ap (rises_by key_cmp (λ (p : Piece). p.key)) c.deref.ensures.value
    ∙ sym (piece_keys_rise c.in_ok-pieces.pieces.items) ∙ c.in_ok-pieces.ensures.rise

pub make_since-requires-clause-fits : goal.make_since-requires-clause-fits
make_since-requires-clause-fits c =
    all_pieces_fit c.in_ok-book.book c.args.file.now c.in_ok-book.ensures.value c.deref.result.now
    (ap pieces_view c.deref.ensures.value ∙ c.in_ok-pieces.ensures.value)

pub make_since-requires-2-clause-rising : goal.make_since-requires-2-clause-rising
make_since-requires-2-clause-rising c = ap (rises_by key_cmp (λ (p : Piece). p.key)) c.deref-2.ensures.value
    ∙ sym (piece_keys_rise c.in_ok-pieces.pieces.items) ∙ c.in_ok-pieces.ensures.rise

pub make_since-requires-2-clause-fits : goal.make_since-requires-2-clause-fits
make_since-requires-2-clause-fits c =
    all_pieces_fit c.in_ok-book.book c.args.file.now c.in_ok-book.ensures.value c.deref-2.result.now
    (ap pieces_view c.deref-2.ensures.value ∙ c.in_ok-pieces.ensures.value)

pub returns-then-is_full-clause-step : goal.returns-then-is_full-clause-step
returns-then-is_full-clause-step c =
    let lacked = c.in_ok-lacked in
    let empty = eqb-true _ _ (sym c.is_empty.ensures ∙ c.if-is_empty.true) in
    let count : length lacked.lacked.items ≡ 0 = omega (arith, lacked.lacked.ok.0, empty) in
    let kept : with_ops c.args.self.now c.args.base.now ≡ c.args.self.now =
    nothing_received c.args.self.now c.args.base.now lacked.ensures.state lacked.ensures.set lacked.ensures.agrees
    (sym lacked.ensures.ok ∙ nil_from_length _ count) (sym c.is_full.ensures ∙ c.if-is_full.true) in
    λ found. unreceived c.args.self.now c.args.base.now _ c.args.file.now c.in_ok-book.book _
    (ap (λ (s : State). s.held) c.in_ok-was.ensures) (ap pieces_view c.deref.ensures.value ∙ c.in_ok-pieces.ensures.value)
    (sym c.in_ok-book.ensures.value) lacked.ensures.agrees kept _ (c.make_since.ensures.step found)

pub returns-clause-step : goal.returns-clause-step
returns-clause-step c = λ _.
    made_as c.args.self.now c.args.base.now _ c.args.file.now c.in_ok-book.book _
    (ap (λ (s : State). s.held) c.in_ok-was.ensures) (ap pieces_view c.deref-2.ensures.value ∙ c.in_ok-pieces.ensures.value)
    (sym c.in_ok-book.ensures.value)
    (ap (λ (s : State). clash s.held c.args.base.now) (sym c.in_ok-after.ensures) ∙ c.in_ok-receive.ensures.agrees)
    c.receive.new.self _ c.replace_by.new.self c.in_ok-count.count
    (c.in_ok-receive.ensures.ok ∙ ap (λ (s : State). with_ops s c.args.base.now) c.in_ok-after.ensures)
    c.replace_by.ensures (c.in_ok-count.ensures.step (λ e. cc e))
