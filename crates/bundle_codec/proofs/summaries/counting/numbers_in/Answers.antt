use Rattle.std.proofs.Common.{take_all, ap, ◌∙◌, arith}
use Rattle.std.specs.List.{list_all, sum_by}
use Rattle.std.proofs.lemmas.List.Sums.{sum_by_more_le}
use Rattle.bundle_codec.specs.Summaries.{is_range, are_apart, range_size}
use Rattle.bundle_codec.proofs.Counted.{size_within}
use Rattle.bundle_codec.proofs.summaries.counting.numbers_in.Goals as goal

pub overflow_add-total-in-loop-range : goal.overflow_add-total-in-loop-range
overflow_add-total-in-loop-range c =
    let rs = c.ranges-range-items.result.now in
    let e = c.ranges-range-items.ensures.ranges in
    let valid = c.name.ensures.valid in
    omega (
      arith,
      c.loop-range.invariant,
      sum_by_more_le range_size rs c.loop-range.range-index (record { first = 0; last = 0 }) c.loop-range-test.true,
      size_within rs (ap (list_all is_range) e ∙ valid.each) (ap are_apart e ∙ valid.apart),
    )

pub returns-clause-within : goal.returns-clause-within
returns-clause-within c =
    let rs = c.ranges-range-items.result.now in
    let e = c.ranges-range-items.ensures.ranges in
    let valid = c.name.ensures.valid in
    let all = ap (sum_by range_size) (take_all c.loop-range.range-index rs c.loop-range-test.false) in
    omega (
      arith,
      c.loop-range.invariant,
      all,
      size_within rs (ap (list_all is_range) e ∙ valid.each) (ap are_apart e ∙ valid.apart),
    )
