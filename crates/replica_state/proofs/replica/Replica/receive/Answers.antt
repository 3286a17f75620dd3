use Rattle.std.proofs.Common.{Ok, Err, ap, sym, ◌∙◌, length}
use Rattle.std.proofs.lemmas.Bool.{false≢true}
use Rattle.op_core.proofs.Sets.Fresh.{fresh_rises, fresh_apart}
use Rattle.replica_state.specs.Receives.{lacked}
use Rattle.replica_state.proofs.Lacking.{lacked_legal, lacked_past, all_before, all_joined, answered, nothing_lacked, not_refused}
use Rattle.replica_state.proofs.replica.Replica.receive.Goals as goal

pub returns-in_err-new-clause-held : goal.returns-in_err-new-clause-held
returns-in_err-new-clause-held c =
    λ h. absurd (not_refused c.args.self.now.held c.args.bundle.now c.in_err-new.field-0.0 c.in_err-new.ensures.refused
    (λ none f. c.in_err-new.ensures.nothing_new none (ap Err f)) h)

pub join_new-requires-clause-rising : goal.join_new-requires-clause-rising
join_new-requires-clause-rising c =
    rw c.in_ok-new.ensures.ok (fresh_rises c.args.self.now.held c.args.bundle.now c.in_ok-new.ensures.set.rising)

pub join_new-requires-clause-apart : goal.join_new-requires-clause-apart
join_new-requires-clause-apart c = rw c.in_ok-new.ensures.ok (fresh_apart c.args.self.now.held c.args.bundle.now)

pub join_new-requires-clause-legal : goal.join_new-requires-clause-legal
join_new-requires-clause-legal c =
    lacked_legal c.args.self.now c.args.bundle.now c.in_ok-new.new.items c.in_ok-new.ensures.state c.in_ok-new.ensures.set
    c.in_ok-new.ensures.agrees c.in_ok-new.ensures.ok c.in_ok-new.ensures.legal

pub returns-in_err-count-clause-held : goal.returns-in_err-count-clause-held
returns-in_err-count-clause-held c =
    λ h. absurd (false≢true (c.in_err-count.ensures.none
    (c.in_ok-new.ensures.ok ∙ nothing_lacked c.args.self.now.held c.args.bundle.now h)))

pub returns-in_err-count-clause-clash : goal.returns-in_err-count-clause-clash
returns-in_err-count-clause-clash c = λ none.
    let before = all_before c.args.self.now.held c.args.bundle.now c.in_ok-new.ensures.agrees in
    absurd (false≢true (c.in_err-count.ensures.none
    (c.in_ok-new.ensures.ok ∙ ap (lacked c.args.self.now.held) (sym before) ∙ none)))

pub leave_texts-requires : goal.leave_texts-requires
leave_texts-requires c = record {
  past = lacked_past c.args.self.now c.args.bundle.now c.in_ok-new.new.items c.in_ok-new.ensures.state c.in_ok-new.ensures.set
      c.in_ok-new.ensures.agrees c.in_ok-new.ensures.ok (record { name = c.self.inside.name; held = c.self.inside.set })
      (c.self.view_is ∙ c.in_ok-count.ensures.ok) c.in_ok-new.ensures.legal;
}

pub returns-clause-ok : goal.returns-clause-ok
returns-clause-ok c =
    all_joined c.args.self.now c.args.bundle.now c.in_ok-new.new.items c.in_ok-new.ensures.state c.in_ok-new.ensures.set
    c.in_ok-new.ensures.agrees c.in_ok-new.ensures.ok (record { name = c.self.inside.name; held = c.self.inside.set })
    (c.self.view_is ∙ c.in_ok-count.ensures.ok) c.leave_texts.new.set c.leave_texts.ensures

pub returns-clause-step : goal.returns-clause-step
returns-clause-step c =
    λ _. answered c.args.self.now (record { name = c.self.inside.name; held = c.leave_texts.new.set }) c.args.bundle.now
    c.in_ok-count.count (returns-clause-ok c) c.in_ok-new.ensures.agrees (c.in_ok-count.ensures.count ∙ ap length c.in_ok-new.ensures.ok)

pub returns-clause-held : goal.returns-clause-held
returns-clause-held c = λ h. ap Ok
    (c.in_ok-count.ensures.count ∙ ap length (c.in_ok-new.ensures.ok ∙ nothing_lacked c.args.self.now.held c.args.bundle.now h))
