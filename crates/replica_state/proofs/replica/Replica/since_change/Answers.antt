use Rattle.std.proofs.Common.{◌≡◌, ◌∙◌, ◌&&◌, Bool, List, Some, None, if◌then◌else◌, not, sym, ap, true}
use Rattle.usfm_ref.specs.Segments.{segment}
use Rattle.verse_cut.specs.Views.{pieces_view}
use Rattle.op_core.specs.Ids.{is_none_left}
use Rattle.op_core.specs.Ops.{Operation}
use Rattle.replica_state.specs.Since.{is_changed, since_change, seen_ids, shows_text}
use Rattle.replica_state.proofs.replica.Replica.since_change.Goals as goal

pub returns-clause-change : goal.returns-clause-change
returns-clause-change c =
    let held = c.args.self.now.held in
    let base = c.args.base.now in
    let pieces = pieces_view c.args.pieces.now in
    let at = segment c.args.book c.args.key in
    let seen = c.in_ok-ids.ensures.ids ∙ ap (λ (ops : List Operation). seen_ids held ops at) c.is_due.ensures.same in
    let due = sym c.is_due.ensures.due ∙ c.if-not-is_due.false in
    let shown = sym c.in_ok-is_shown_already.ensures ∙ c.if-branch.false in
    let changed : is_changed held base c.args.book pieces c.args.key ≡ true =
    (λ i. due i && not (is_none_left (sym (c.deref.ensures.value ∙ seen) i) && shows_text held at (sym c.piece_at-text.ensures i)))
    ∙ ap not shown in
    (λ i. Some (record { key = c.args.key; text = c.piece_at-text.ensures i; ids = seen i }))
    ∙ sym (ap (λ (b : Bool). if b then Some (since_change held base c.args.book pieces c.args.key) else None) changed)
