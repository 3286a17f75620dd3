use Rattle.std.proofs.Common.{◌≡◌, ℕ, true, List, None, length, sym, ap, subst, ◌∙◌}
use Rattle.std.specs.List.{AllByRecursion}
use Rattle.std.specs.Prelude.{IfOk}
use Rattle.std.proofs.lemmas.List.{length-map}
use Rattle.op_core.specs.Ops.{Operation}
use Rattle.op_core.specs.Sets.{rises, get, join}
use Rattle.op_core.specs.Thinned.{is_legal}
use Rattle.replica_state.specs.Changes.{change_view, changes_view}
use Rattle.replica_state.proofs.Changes.{edits_rise, edits_beyond, edits_legal, edits_count}
use Rattle.replica_state.proofs.replica.Replica.make.Goals as goal

pub join_new-requires-clause-rising : goal.join_new-requires-clause-rising
join_new-requires-clause-rising c =
    ap rises c.in_ok-edits.ensures.ops ∙ edits_rise c.args.self.now c.args.book c.args.first (changes_view c.args.changes.now)

pub join_new-requires-clause-apart : goal.join_new-requires-clause-apart
join_new-requires-clause-apart c =
    subst (AllByRecursion (λ (o : Operation). get c.args.self.now.held o.id ≡ None)) (sym c.in_ok-edits.ensures.ops)
    (edits_beyond c.args.self.now c.args.book c.args.self.now.held c.args.first (changes_view c.args.changes.now) c.requires.beyond)

pub join_new-requires-clause-legal : goal.join_new-requires-clause-legal
join_new-requires-clause-legal c =
    subst (λ (ops : List Operation). is_legal (join c.args.self.now.held ops) ≡ true) (sym c.in_ok-edits.ensures.ops)
    (edits_legal c.args.self.now c.args.book c.args.first (changes_view c.args.changes.now) c.in_ok-edits.ensures.state c.requires.beyond)

pub returns-clause-count : goal.returns-clause-count
returns-clause-count c =
    subst (λ (m : ℕ). IfOk c.join_new.result (λ n. n ≡ m))
    (ap length c.in_ok-edits.ensures.ops
    ∙ edits_count c.args.self.now c.args.book c.args.first (changes_view c.args.changes.now) ∙ length-map c.args.changes.now change_view)
    c.join_new.ensures.count
