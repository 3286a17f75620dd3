use Rattle.std.proofs.Common.{Bor, Bool, List, ◌≡◌, ◌∙◌, sym, ap, subst, not, arith}
use Rattle.std.specs.Bool.{OnFalse}
use Rattle.usfm_ref.specs.Segments.{segment}
use Rattle.op_core.specs.Ops.{Operation}
use Rattle.op_core.specs.Shown.{shown}
use Rattle.conflict_report.proofs.Latest.{IsWalked, now_of, walked_start, walked_past, walked_more, walked_end, walked_again}
use Rattle.conflict_report.proofs.Seen.{Seen, none_seen, same_seen, more_seen, is_old}
use Rattle.conflict_report.proofs.texts.shown_texts.Goals as goal

pub falling-init : goal.falling-init
falling-init c = record {
  walked = walked_start (shown c.args.cursor.now (segment c.args.book c.args.key)) (now_of c.in_ok-shown.shown.items)
      (now_of c.new-distinct.result.items) (now_of c.new-repeated.result.items) c.in_ok-shown.ensures.ops
      (ap now_of c.new-distinct.ensures.items) (ap now_of c.new-repeated.ensures.items);
  seen = none_seen c.new-texts.result c.new-distinct.result.items c.new-texts.ensures.empty c.new-distinct.ensures.items;
}

pub falling-preserved-in-Continue-branch-3 : goal.falling-preserved-in-Continue-branch-3
falling-preserved-in-Continue-branch-3 c =
    let all = shown c.args.cursor.now (segment c.args.book c.args.key) in
    let h = c.falling.invariant in
    let new = ap not (sym c.if-branch.true) ∙ is_old c.falling.texts c.falling.distinct.items c.in-Some.op c.text_or_empty.result
    c.text_or_empty.ensures h.seen c.in_ok-insert.field-0 c.in_ok-insert.ensures.added in
    record {
      walked = subst (λ (ops : List (Bor Operation)). IsWalked all (now_of c.pop.new.self.items) (now_of ops)
          (now_of c.falling.repeated.items)) (sym c.in_ok-push.ensures.items)
          (walked_more all c.falling.shown.items c.pop.new.self.items c.in-Some.op c.falling.distinct.items
          c.falling.repeated.items c.in-Some.ensures.items h.walked new);
      seen = subst (Seen c.insert.new.self) (sym c.in_ok-push.ensures.items)
          (more_seen c.falling.texts c.insert.new.self c.falling.distinct.items c.in-Some.op c.text_or_empty.result c.text_or_empty.ensures
          c.in_ok-insert.ensures.updates.0 h.seen);
    }

pub falling-preserved : goal.falling-preserved
falling-preserved c =
    let all = shown c.args.cursor.now (segment c.args.book c.args.key) in
    let h = c.falling.invariant in
    let told = ap not (sym c.if-branch.false) ∙ is_old c.falling.texts c.falling.distinct.items c.in-Some.op c.text_or_empty.result
    c.text_or_empty.ensures h.seen c.in_ok-insert.field-0 c.in_ok-insert.ensures.added in
    record {
      walked = subst (λ (ops : List (Bor Operation)). IsWalked all (now_of c.pop.new.self.items) (now_of c.falling.distinct.items)
          (now_of ops)) (sym c.in_ok-push-2.ensures.items)
          (walked_past all c.falling.shown.items c.pop.new.self.items c.in-Some.op c.falling.distinct.items
          c.falling.repeated.items c.in-Some.ensures.items h.walked told);
      seen = same_seen c.falling.texts c.insert.new.self c.falling.distinct.items (subst (λ (b : Bool). OnFalse b
          (c.insert.new.self.keys ≡ c.falling.texts.keys)) c.if-branch.false c.in_ok-insert.ensures.unchanged) h.seen;
    }

pub returns-clause-distinct : goal.returns-clause-distinct
returns-clause-distinct c =
    walked_end c.args.cursor.now (segment c.args.book c.args.key) c.falling.shown.items c.falling.distinct.items
    c.falling.repeated.items c.in_ok-shown.ensures.set (omega (arith, c.in_default.ensures.cases.0, c.falling.shown.ok.0))
    c.falling.invariant.walked

pub returns-clause-repeated : goal.returns-clause-repeated
returns-clause-repeated c =
    walked_again c.args.cursor.now (segment c.args.book c.args.key) c.falling.shown.items c.falling.distinct.items
    c.falling.repeated.items c.in_ok-shown.ensures.set (omega (arith, c.in_default.ensures.cases.0, c.falling.shown.ok.0))
    c.falling.invariant.walked
