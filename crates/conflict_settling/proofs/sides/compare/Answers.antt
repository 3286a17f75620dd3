use Rattle.std.proofs.Common.{◌+◌, ap, ◌∙◌, map}
use Rattle.conflict_settling.specs.Entries.{text_of}
use Rattle.conflict_settling.proofs.Compared.{entry_is, entries_more}
use Rattle.conflict_settling.proofs.sides.compare.Goals as goal

pub loop-at-preserved : goal.loop-at-preserved
loop-at-preserved c =
    let d = c.in_ok-parts.ensures in
    let is = entry_is c.args.ops.now c.loop-at.at c.index-ops-at.result c.in_ok-parts.parts.items c.text_at-first.result.now
    c.text_at-other.result.now c.loop-at-test.true c.index-ops-at.is c.text_at-first.ensures
    (c.text_at-other.ensures ∙ ap (text_of (map (λ o. o.now) c.args.ops.now)) c.max.ensures) (record {
      old_text = d.old_text;
      new_text = d.new_text;
      old_words = d.old_words;
      new_words = d.new_words;
      common = d.common;
      longest = d.longest;
      ends = d.ends;
      apart = d.apart;
    }) in
    let more = entries_more (map (λ o. o.now) c.args.ops.now) c.loop-at.at c.loop-at.entries.items c.push.new.self.items
    (record { number = c.loop-at.at + 1; op = c.index-ops-at.result; parts = c.in_ok-parts.parts }) c.in_ok-push.ensures.items
    c.loop-at.invariant.count c.loop-at.invariant.each is in
    record { count = more.0; each = more.1 }
