use Rattle.std.proofs.Common.{◌≡◌, List, [], sym, ap, subst, arith}
use Rattle.std.specs.Global.{Vec}
use Rattle.std.proofs.lemmas.List.Sums.{common_prefix_len-le}
use Rattle.word_diff.specs.declared.part.Kind.TheVariants.{Kept, Added}
use Rattle.word_diff.specs.declared.part.Part.{Part}
use Rattle.word_diff.specs.Parts.{Span, spans}
use Rattle.word_diff.specs.Steps.{AddsEach, AddsLongest}
use Rattle.word_diff.specs.Words.{same_word, texts}
use Rattle.word_diff.proofs.EndLemmas.{length-texts, end_len-le}
use Rattle.word_diff.proofs.StepLemmas.{Cut, cut_is, compares_longest, compares_ends}
use Rattle.word_diff.proofs.steps.steps.Goals as goal
use Rattle.word_diff.proofs.steps.steps.Goals.{then-max-le-MAX_WORDS+in_ok-push_longest, else-max-le-MAX_WORDS+in_ok-push_each-2+in_ok-push_each-3}

pub split_at-requires : goal.split_at-requires
split_at-requires c =
    let le = common_prefix_len-le same_word (texts c.args.old.now) (texts c.args.new.now) in
    omega (arith, c.front_len.ensures, le.0, length-texts c.args.old.now)

pub split_at-requires-2 : goal.split_at-requires-2
split_at-requires-2 c =
    let le = common_prefix_len-le same_word (texts c.args.old.now) (texts c.args.new.now) in
    omega (arith, c.front_len.ensures, c.split_at.ensures.front_len, le.1, length-texts c.args.new.now)

pub overflow_sub-old_rest : goal.overflow_sub-old_rest
overflow_sub-old_rest c =
    let le = end_len-le (texts c.split_at.result.1.now) (texts c.split_at-2.result.1.now) in
    omega (arith, c.end_len-end.ensures, le.0, length-texts c.split_at.result.1.now)

pub overflow_sub-new_rest : goal.overflow_sub-new_rest
overflow_sub-new_rest c =
    let le = end_len-le (texts c.split_at.result.1.now) (texts c.split_at-2.result.1.now) in
    omega (arith, c.end_len-end.ensures, le.1, length-texts c.split_at-2.result.1.now)

pub returns : goal.returns
returns c =
    let old = c.args.old.now in
    let new = c.args.new.now in
    let front = c.split_at.result.0.now in
    let left = c.split_at-3.result.0.now in
    let right = c.split_at-4.result.0.now in
    let end = c.split_at-3.result.1.now in
    let cut : Cut old new front left right end =
    cut_is old new front c.split_at.result.1.now c.split_at-2.result.1.now left right end c.front_len.result c.end_len-end.result
    c.front_len.ensures c.split_at.ensures.front_len c.split_at.ensures.front c.split_at.ensures.back c.split_at-2.ensures.back
    c.end_len-end.ensures c.split_at-3.ensures.front c.split_at-3.ensures.back c.split_at-4.ensures.front in
    let a = spans c.push_each.new.steps.items in
    let done = spans c.push_each-2.new.steps.items in
    let none : spans c.new-steps.result.items ≡ [] = ap spans c.new-steps.ensures.items in
    let first : AddsEach [] a Kept (texts front) = subst (λ (l : List Span). AddsEach l a Kept
    (texts front)) none c.in_ok-push_each.ensures in
    elim c.if-max-le-MAX_WORDS.branch [
      | then-max-le-MAX_WORDS+in_ok-push_longest w ↦
          let b = spans c.if-max-le-MAX_WORDS.steps.items in
          let middle : AddsLongest a b (texts left) (texts right) =
          subst (λ (v : Vec Part). AddsLongest a (spans v.items) (texts left) (texts right))
          (sym w.steps-is) w.in_ok-push_longest.ensures in
          compares_longest a b done (texts old) (texts new) (texts front) (texts left) (texts right)
          (texts end) cut.framed first middle c.in_ok-push_each-4.ensures
          (omega (arith, c.max.ensures, w.if-max-le-MAX_WORDS.true, length-texts old, length-texts new))
      | else-max-le-MAX_WORDS+in_ok-push_each-2+in_ok-push_each-3 w ↦
          let b = spans w.push_each-else-max-le-MAX_WORDS.new.steps.items in
          let d = spans c.if-max-le-MAX_WORDS.steps.items in
          let added : AddsEach b d Added (texts right) =
          subst (λ (v : Vec Part). AddsEach b (spans v.items) Added (texts right)) (sym w.steps-is) w.in_ok-push_each-3.ensures in
          compares_ends a b d done (texts old) (texts new) (texts front) (texts left) (texts right) (texts end) cut.framed cut.ends first
          w.in_ok-push_each-2.ensures added c.in_ok-push_each-4.ensures
          (omega (arith, c.max.ensures, w.if-max-le-MAX_WORDS.false, length-texts old, length-texts new))
    ]
