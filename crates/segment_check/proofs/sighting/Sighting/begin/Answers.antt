use Rattle.std.proofs.Common.{◌≡◌, ◌∙◌, ap, Some, false, length, arith}
use Rattle.sty_sheet.specs.Views.{records_of}
use Rattle.usfm_token.specs.View.{mark_parts}
use Rattle.segment_check.specs.Loops.TreeViews.{Surroundings, inside_view, entering, seen_by}
use Rattle.segment_check.specs.Loops.Sightings.{surroundings_in, levels}
use Rattle.segment_check.proofs.TreeLemmas.{node_begun}
use Rattle.segment_check.proofs.sighting.Sighting.begin.Goals as goal

pub returns : goal.returns
returns c =
    λ later.
    (let rs = records_of c.args.sheet.now in
    let old = c.args.self.now in
    let k = c.args.kind in
    let m = mark_parts c.args.mark in
    let here = c.inside-inside.ensures in
    let within =
    c.within.ensures ∙ ap (λ n. entering k n (inside_view c.inside-inside.result)) c.name.ensures ∙ ap (entering k m.name) here in
    let first = c.node_seen-seen.ensures ∙ ap (λ (s : Surroundings). seen_by rs s m (Some k) false) here in
    let closed = c.closed.ensures rs (surroundings_in (levels old.open_nodes.items)) m k first in
    let len = c.len.ensures in
    let place : c.len.result ≡ length old.seen.items = omega arith in
    node_begun rs old.seen.items c.push-2.new.self.items old.open_nodes.items c.push.new.self.items k m _ c.node_seen-seen.result later
    first (λ i. record { within = within i; place = place i; closed = closed i })
    c.in_ok-push.ensures.items c.in_ok-push-2.ensures.items)
