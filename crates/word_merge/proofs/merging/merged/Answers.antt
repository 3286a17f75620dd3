use Rattle.std.proofs.Common.{string_bytes, arith}
use Rattle.word_diff.specs.Parts.{spans}
use Rattle.word_merge.specs.Merging.{merged}
use Rattle.word_merge.proofs.Joined.{all_looked, ends_so, goes_so, sticks_so}
use Rattle.word_merge.proofs.merging.merged.Goals as goal

pub returns-in-Ends : goal.returns-in-Ends
returns-in-Ends c =
    let l = c.loop-fuel in
    ends_so l.fuel l.before (spans l.one_left.now) (spans l.other_left.now) (string_bytes l.made)
    (merged (spans c.args.one.now) (spans c.args.other.now)) (omega (arith, c.loop-fuel-test.true)) c.in-Ends.ensures l.invariant

pub returns-in-Sticks : goal.returns-in-Sticks
returns-in-Sticks c =
    let l = c.loop-fuel in
    sticks_so l.fuel l.before (spans l.one_left.now) (spans l.other_left.now) (string_bytes l.made)
    (merged (spans c.args.one.now) (spans c.args.other.now)) (omega (arith, c.loop-fuel-test.true)) c.in-Sticks.ensures l.invariant

pub loop-fuel-preserved : goal.loop-fuel-preserved
loop-fuel-preserved c =
    let l = c.loop-fuel in
    goes_so l.fuel l.before c.owner-before.result l.one_left.now c.after-one_left.result.now l.other_left.now
    c.after-other_left.result.now c.is_step_of_one.result c.is_step_of_other.result c.in-Goes.fate c.in-Goes.word.now
    (string_bytes l.made) (string_bytes c.push_word.new.made) (merged (spans c.args.one.now) (spans c.args.other.now))
    (omega (arith, c.loop-fuel-test.true)) c.in-Goes.ensures c.in_ok-push_word-in-Goes.ensures l.invariant c.owner-before.ensures
    c.is_step_of_one.ensures c.after-one_left.ensures c.is_step_of_other.ensures c.after-other_left.ensures

pub returns : goal.returns
returns c =
    let l = c.loop-fuel in
    all_looked l.fuel l.before (spans l.one_left.now) (spans l.other_left.now) (string_bytes l.made)
    (merged (spans c.args.one.now) (spans c.args.other.now)) (omega (arith, c.loop-fuel-test.false)) l.invariant
