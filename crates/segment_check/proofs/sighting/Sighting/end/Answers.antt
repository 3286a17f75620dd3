use Rattle.std.proofs.Common.{◌≡◌, ◌-◌, ◌∙◌, ap, sym, length, take, arith}
use Rattle.segment_check.specs.Loops.Sightings.{levels, seen_after}
use Rattle.segment_check.proofs.TreeLemmas.{ends_seen, levels_end}
use Rattle.segment_check.proofs.sighting.Sighting.end.Goals as goal

pub returns : goal.returns
returns c =
    λ sheet later.
    (let seen = c.args.self.now.seen.items in
    let ns = c.args.self.now.open_nodes.items in
    let s = c.saturating_sub.ensures in
    let l = c.len.ensures in
    let left : c.saturating_sub.result ≡ length ns - c.args.count = omega arith in
    ap (λ ls. seen_after sheet seen ls later)
    (ap levels (c.truncate.ensures.items ∙ ap (λ k. take k ns) left) ∙ levels_end c.args.count ns)
    ∙ sym (ends_seen sheet c.args.count seen (levels ns) later))
