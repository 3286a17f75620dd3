use Rattle.std.proofs.Common.{◌≡◌, ◌≤◌, ◌-◌, ◌∙◌, ◌∷◌, ap, sym, length, arith}
use Rattle.std.specs.Option.{option_map}
use Rattle.usfm_token.specs.Tokens.{joined}
use Rattle.usfm_token.specs.View.{lexeme, mark_parts, rest_of}
use Rattle.usfm_token.proofs.TokenLaws.{joined-tokens_of}
use Rattle.usfm_tree.specs.Events.{ends_before, events_left}
use Rattle.usfm_tree.specs.Reading as reading
use Rattle.usfm_tree.specs.Loops.ReaderViews.{opens_in}
use Rattle.usfm_tree.specs.SheetViews.{styles_of}
use Rattle.usfm_tree.specs.StepViews.{closed_before, entry_before}
use Rattle.usfm_tree.specs.Loops.TakenViews.{left_of}
use Rattle.usfm_tree.specs.WalkViews.{events_ahead, records_by}
use Rattle.usfm_tree.proofs.EventLemmas.{left_nil}
use Rattle.usfm_tree.proofs.ReaderLemmas.{left_front}
use Rattle.usfm_tree.proofs.walk.TreeWalk.next_step.Goals.{After-unwind-ended, In-Some}
use Rattle.usfm_tree.proofs.walk.TreeWalk.next_step.Goals as goal

-- the token in front, and what is left after it
front : (c : In-Some)
    → (left_of (length c.args.self.now.source.now) (rest_of c.args.self.now.tokens)
    ≡ record {
      start = length c.args.self.now.source.now - length (rest_of c.args.self.now.tokens);
      token = lexeme c.in-Some.token;
    } ∷ left_of (length c.args.self.now.source.now) (rest_of c.next.new.self))
    × (length (rest_of c.next.new.self) ≤ length c.args.self.now.source.now)
front c =
    left_front (length c.args.self.now.source.now) (rest_of c.args.self.now.tokens) (rest_of c.next.new.self)
    (lexeme c.in-Some.token) c.in-Some.ensures.steps c.args.self.now.within

-- what the walk meets, after the nodes that the token ends
unwound : (c : After-unwind-ended)
    → (left_of (length c.args.self.now.source.now) (rest_of c.args.self.now.tokens)
    ≡ record {
      start = length c.args.self.now.source.now - length (rest_of c.args.self.now.tokens);
      token = lexeme c.in-Some.token;
    } ∷ left_of (length c.args.self.now.source.now) (rest_of c.next.new.self))
    → (let S = styles_of c.args.self.now.sheet.now in
    let n = length c.args.self.now.source.now in
    let t : reading.Placed = record { start = n - length (rest_of c.args.self.now.tokens); token = lexeme c.in-Some.token } in
    let l = left_of n (rest_of c.next.new.self) in
    let os = opens_in c.unwind-ended.new.open_nodes.items in
    events_ahead c.args.self.now
    ≡ ends_before c.unwind-ended.result.0
    (closed_before (option_map mark_parts c.unwind-ended.result.1) (events_left S os l) (events_left S os (t ∷ l))))
unwound c first =
    let S = styles_of c.args.self.now.sheet.now in
    let n = length c.args.self.now.source.now in
    let t : reading.Placed = record { start = n - length (rest_of c.args.self.now.tokens); token = lexeme c.in-Some.token } in
    let l = left_of n (rest_of c.next.new.self) in
    ap (events_left S (opens_in c.args.self.now.open_nodes.items)) first
    ∙ ap (λ ns. events_left S (opens_in ns) (t ∷ l)) (sym c.reserve.ensures.items)
    ∙ c.unwind-ended.ensures.unwinds S t l (sym c.role_of-role.ensures.role)

pub invariant_of-self-in_default : goal.invariant_of-self-in_default
invariant_of-self-in_default c = record {
  within =
      omega (arith, ap length (sym (joined-tokens_of (rest_of c.next.new.self)) ∙ ap joined c.in_default.ensures.steps.1));
}

pub returns-in_default-clause-next : goal.returns-in_default-clause-next
returns-in_default-clause-next c =
    let S = styles_of c.args.self.now.sheet.now in
    let n = length c.args.self.now.source.now in
    let rest = rest_of c.args.self.now.tokens in
    let os = opens_in c.args.self.now.open_nodes.items in
    (length os, ap (λ ts. events_left S os (reading.placed (n - length rest) ts)) c.in_default.ensures.steps.0 ∙ left_nil S os)

pub returns-in_default-clause-ended : goal.returns-in_default-clause-ended
returns-in_default-clause-ended c =
    λ e.
    let S = styles_of c.args.self.now.sheet.now in
    let n = length c.args.self.now.source.now in
    let rest = rest_of c.args.self.now.tokens in
    let os = opens_in c.args.self.now.open_nodes.items in
    (λ i. events_left S (opens_in (c.reserve.ensures.items i))
    (reading.placed (n - length (rest_of c.next.new.self)) (c.in_default.ensures.steps.1 i)))
    ∙ sym (ap (λ ts. events_left S os (reading.placed (n - length rest) ts)) c.in_default.ensures.steps.0)

pub invariant_of-self-in-Some-close : goal.invariant_of-self-in-Some-close
invariant_of-self-in-Some-close c = record { within = (front (goal.at.invariant_of-self-in-Some-close c).In-Some).1 }

pub returns-in-Some-close-clause-next : goal.returns-in-Some-close-clause-next
returns-in-Some-close-clause-next c =
    let S = styles_of c.args.self.now.sheet.now in
    let n = length c.args.self.now.source.now in
    let t : reading.Placed = record { start = n - length (rest_of c.args.self.now.tokens); token = lexeme c.in-Some.token } in
    let l = left_of n (rest_of c.next.new.self) in
    let os = opens_in c.unwind-ended.new.open_nodes.items in
    unwound (goal.at.returns-in-Some-close-clause-next c).After-unwind-ended
    (front (goal.at.returns-in-Some-close-clause-next c).In-Some).0
    ∙ ap (λ m. ends_before c.unwind-ended.result.0
    (closed_before (option_map mark_parts m) (events_left S os l) (events_left S os (t ∷ l))))
    c.in-Some-close.is

pub enter-requires-clause-within : goal.enter-requires-clause-within
enter-requires-clause-within c =
    let l = ap length c.rest-rest.ensures in
    let f = (front (goal.at.enter-requires-clause-within c).In-Some).1 in omega arith

pub invariant_of-self-2 : goal.invariant_of-self-2
invariant_of-self-2 c =
    let l = ap length c.rest-rest.ensures in
    let a = ap length c.new-self.ensures in
    let w = c.enter.ensures.within in
    let f = (front (goal.at.invariant_of-self-2 c).In-Some).1 in record { within = omega arith }

pub returns-clause-next : goal.returns-clause-next
returns-clause-next c =
    let S = styles_of c.args.self.now.sheet.now in
    let n = length c.args.self.now.source.now in
    let t : reading.Placed = record { start = n - length (rest_of c.args.self.now.tokens); token = lexeme c.in-Some.token } in
    let l = left_of n (rest_of c.next.new.self) in
    let os = opens_in c.unwind-ended.new.open_nodes.items in
    unwound (goal.at.returns-clause-next c).After-unwind-ended (front (goal.at.returns-clause-next c).In-Some).0
    ∙ ap (λ m. ends_before c.unwind-ended.result.0
    (closed_before (option_map mark_parts m) (events_left S os l) (events_left S os (t ∷ l))))
    c.in_default-close.is
    ∙ ap (ends_before c.unwind-ended.result.0)
    (ap (λ r. events_left S os (t ∷ left_of n r)) (sym c.rest-rest.ensures)
    ∙ c.enter.ensures.enters S t (sym c.role_of-role.ensures.role) (ap (λ r. n - length r) (sym c.rest.ensures))
    ∙ ap (λ r. entry_before c.enter.result.0 (events_left S (opens_in c.enter.new.open_nodes.items) (left_of n r)))
    (sym c.new-self.ensures))

pub returns-clause-style : goal.returns-clause-style
returns-clause-style c = c.enter.ensures.style (records_by c.args.self.now) c.role_of-role.ensures.style

pub returns-clause-whole_milestones : goal.returns-clause-whole_milestones
returns-clause-whole_milestones c =
    c.enter.ensures.whole_milestones (styles_of c.args.self.now.sheet.now) (lexeme c.in-Some.token) (sym c.role_of-role.ensures.role)
