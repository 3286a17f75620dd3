use Rattle.std.proofs.Common.{◌≡◌, ◌<◌, ◌∙◌, ◌&&◌, nat_le, get_or, sym, ap}
use Rattle.std.specs.Prelude.{not}
use Rattle.versification.specs.Versifications.{is_verse}
use Rattle.versification.specs.Views.{verses_in}
use Rattle.missing_verses.specs.Loops.Tallies.{none_counted, counted_all}
use Rattle.missing_verses.specs.Numbers.{is_missing, is_doubled, is_there, is_twice}
use Rattle.missing_verses.specs.declared.tally.Tally.{Tally}
use Rattle.missing_verses.proofs.Below.{flags_none, flag_more}
use Rattle.missing_verses.proofs.Tallies.{tally_there, tally_twice}
use Rattle.missing_verses.proofs.chapter.found_in.Goals as goal

pub loop-number-init : goal.loop-number-init
loop-number-init c =
    let chapter = c.args.chapter.now in
    let v = verses_in chapter.versification.now in
    let vs = c.args.covers.now in (
      c.new-missing.ensures.items ∙ sym (flags_none (is_missing v chapter.book chapter.number vs)),
      c.new-twice.ensures.items ∙ sym (flags_none (is_doubled vs)),
    )

pub loop-number-preserved : goal.loop-number-preserved
loop-number-preserved c =
    let chapter = c.args.chapter.now in
    let v = verses_in chapter.versification.now in
    let vs = c.args.covers.now in
    let n = c.loop-number.number in
    let low : n < 1000 = c.loop-number-test.true in
    let t : c.tally_at-tally.result ≡ counted_all n none_counted vs =
    c.tally_at-tally.ensures ∙ ap (λ ts. get_or ts n none_counted) c.deref.ensures.value ∙ c.in_ok-tallies.ensures.1 n low in
    let there : c.tally_at-tally.result.there ≡ is_there n vs = ap (λ (u : Tally). u.there) t ∙ tally_there n vs in
    let twice : c.tally_at-tally.result.twice ≡ is_twice n vs = ap (λ (u : Tally). u.twice) t ∙ tally_twice n vs in (
      flag_more (is_missing v chapter.book chapter.number vs) n c.loop-number.missing.items _ _ c.in_ok-push.ensures.items
          c.loop-number.invariant.0 (c.misses.ensures ∙ ap (λ b. is_verse v chapter.book chapter.number n && not b) there),
      flag_more (is_doubled vs) n c.loop-number.twice.items _ _ c.in_ok-push-2.ensures.items
          c.loop-number.invariant.1 (c.is_doubled.ensures ∙ ap (λ b. nat_le 1 n && b) twice),
    )
