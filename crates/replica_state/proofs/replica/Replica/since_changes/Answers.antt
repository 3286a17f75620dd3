use Rattle.std.proofs.Common.{option_map, sym, ap, ◌∙◌, Vec, Global, Some, None, if◌then◌else◌}
use Rattle.verse_cut.specs.Views.{pieces_view}
use Rattle.replica_state.specs.Changes.{change_view, changes_view}
use Rattle.replica_state.specs.Since.{is_changed, since_change}
use Rattle.replica_state.specs.declared.change.Change.{Change}
use Rattle.replica_state.proofs.ChangeLists.{change_pushed, change_skipped}
use Rattle.replica_state.proofs.replica.Replica.since_changes.Goals.{in-Some+in_ok-push, in_default}
use Rattle.replica_state.proofs.replica.Replica.since_changes.Goals as goal

pub loop-key-preserved : goal.loop-key-preserved
loop-key-preserved c =
    let held = c.args.self.now.held in
    let was = c.args.was.now.held in
    let pieces = pieces_view c.args.pieces.now in
    let p = is_changed held was c.args.book pieces in
    let f = since_change held was c.args.book pieces in
    let keys = c.deref-key-items.result.now in
    let base = c.loop-key.invariant.0 in
    let key = c.key-item.result in
    let change = c.in_ok-change.ensures.change
    ∙ (λ i. if is_changed held (base i) c.args.book pieces key then Some (since_change held (base i) c.args.book pieces key) else None) in
    elim c.match-branch-3.branch [
      | in-Some+in_ok-push w ↦ (
        c.in_ok-change.ensures.same ∙ base,
        ap (λ (v : Vec Change Global). changes_view v.items) w.changes-is ∙ ap changes_view w.in_ok-push.ensures.items
            ∙ change_pushed p f keys c.loop-key.key-index c.key-item.result c.loop-key-test.true c.key-item.is c.loop-key.changes.items
            c.loop-key.invariant.1 w.in-Some.change (sym (ap (option_map change_view) w.in-Some.is) ∙ change),
      )
      | in_default w ↦ (
        c.in_ok-change.ensures.same ∙ base,
        ap (λ (v : Vec Change Global). changes_view v.items) w.changes-is
            ∙ change_skipped p f keys c.loop-key.key-index c.key-item.result c.loop-key-test.true c.key-item.is c.loop-key.changes.items
            c.loop-key.invariant.1 (sym (ap (option_map change_view) w.in_default.is) ∙ change),
      )
    ]
