use Rattle.std.proofs.Common.{◌≡◌, ◌∙◌, ℕ, ◌<◌, List, length, Some, None, true, false, not, sym, ap, subst, arith}
use Rattle.std.proofs.lemmas.Bool.Decides.{nat_tests}
use Rattle.std.specs.Prelude.{MatchOption}
use Rattle.usfm_token.specs.Tokens.{tokens_of}
use Rattle.usfm_token.proofs.TokenLemmas.{tokens_of_empty}
use Rattle.usfm_token.proofs.Walk.{token_shorter}
use Rattle.verse_cut.specs.Keys.{key_below}
use Rattle.verse_cut.specs.Reading.{key_of, not_above}
use Rattle.verse_cut.specs.Loops.Walks.{GoesToEnd, OpensAt}
use Rattle.verse_cut.proofs.Steps.{Goes, goes_step, goes_end, goes_open}
use Rattle.verse_cut.proofs.Skips.{goes_skip, skip_shorter}
use Rattle.verse_cut.proofs.walk.Walk.next_above.Goals as goal

pub returns-in_err-found : goal.returns-in_err-found
returns-in_err-found c =
    subst (λ r. MatchOption r (GoesToEnd c.args.key c.args.self.now.here.now)
    (λ o. OpensAt c.args.key c.args.self.now.here.now o.here.now o.after.now o.key)) (sym c.from_residual.ensures)
    (goes_end c.args.key c.args.self.now.here.now c.loop-here.self.here.now c.loop-here.invariant c.in_err-found.ensures)

pub returns-then-is_empty : goal.returns-then-is_empty
returns-then-is_empty c =
    goes_end c.args.key c.args.self.now.here.now c.loop-here.self.here.now c.loop-here.invariant
    (tokens_of_empty c.loop-here.self.here.now (grind (arith, nat_tests, c.if-is_empty.ensures)))

pub returns-then-is_below : goal.returns-then-is_below
returns-then-is_below c =
    let takes = c.in_ok-found.ensures in
    let after = c.step.new.self.here.now in
    let is : key_of c.args.key.chapter takes.token (tokens_of after) ≡ Some c.in-Some.found =
    ap (λ k. key_of k.chapter takes.token (tokens_of after)) (sym c.key.view_is) ∙ sym takes.key_is ∙ c.in-Some.is in
    let above : key_below c.args.key c.in-Some.found ≡ true = sym c.is_below.ensures ∙ c.if-is_below.true in
    goes_open c.args.key c.in-Some.found c.args.self.now.here.now c.loop-here.self.here.now after takes.token c.loop-here.invariant
    takes.front is above

pub loop-here-preserved-then-not-may_have_key : goal.loop-here-preserved-then-not-may_have_key
loop-here-preserved-then-not-may_have_key c =
    let here = c.loop-here.self.here.now in
    subst (Goes c.args.key c.args.self.now.here.now) (sym c.next_mark-self.ensures)
    (goes_skip c.args.key c.args.self.now.here.now here c.loop-here.invariant (grind (arith, nat_tests, c.if-is_empty.ensures))
    (sym c.if-not-may_have_key.ensures))

pub loop-here-smaller-then-not-may_have_key : goal.loop-here-smaller-then-not-may_have_key
loop-here-smaller-then-not-may_have_key c =
    subst (λ (r : List ℕ). length r < length c.loop-here.self.here.now) (sym c.next_mark-self.ensures)
    (skip_shorter c.loop-here.self.here.now (grind (arith, nat_tests, c.if-is_empty.ensures)))

pub loop-here-preserved-else-is_below : goal.loop-here-preserved-else-is_below
loop-here-preserved-else-is_below c =
    let takes = c.in_ok-found.ensures in
    let after = c.step.new.self.here.now in
    let is : key_of c.args.key.chapter takes.token (tokens_of after) ≡ Some c.in-Some.found =
    ap (λ k. key_of k.chapter takes.token (tokens_of after)) (sym c.key.view_is) ∙ sym takes.key_is ∙ c.in-Some.is in
    let low : key_below c.args.key c.in-Some.found ≡ false = sym c.is_below.ensures ∙ c.if-is_below.false in
    goes_step c.args.key c.args.self.now.here.now c.loop-here.self.here.now after takes.token c.loop-here.invariant takes.front
    (ap (not_above c.args.key) is ∙ ap not low)

pub loop-here-smaller-else-is_below : goal.loop-here-smaller-else-is_below
loop-here-smaller-else-is_below c =
    let takes = c.in_ok-found.ensures in token_shorter c.loop-here.self.here.now c.step.new.self.here.now takes.token takes.front

pub loop-here-preserved : goal.loop-here-preserved
loop-here-preserved c =
    let takes = c.in_ok-found.ensures in
    let after = c.step.new.self.here.now in
    let none : key_of c.args.key.chapter takes.token (tokens_of after) ≡ None =
    ap (λ k. key_of k.chapter takes.token (tokens_of after)) (sym c.key.view_is) ∙ sym takes.key_is ∙ c.in_default.is in
    goes_step c.args.key c.args.self.now.here.now c.loop-here.self.here.now after takes.token c.loop-here.invariant takes.front
    (ap (not_above c.args.key) none)

pub loop-here-smaller : goal.loop-here-smaller
loop-here-smaller c =
    let takes = c.in_ok-found.ensures in token_shorter c.loop-here.self.here.now c.step.new.self.here.now takes.token takes.front
