use Rattle.std.proofs.Common.{◌∙◌, ◌++◌, ◌∷◌, [], ap, sym}
use Rattle.std.specs.Option.{option_map}
use Rattle.sty_sheet.specs.Views.{records_of}
use Rattle.sty_sheet.proofs.Telling.{is_some_map}
use Rattle.usfm_token.specs.View.{mark_parts}
use Rattle.segment_check.specs.Loops.Sightings.{surroundings_in, levels, seen_after}
use Rattle.segment_check.proofs.TreeLemmas.{milestone_taken, close_seen, no_close_seen}
use Rattle.segment_check.proofs.sighting.Sighting.span.Goals as goal

pub returns-in_ok-push-2 : goal.returns-in_ok-push-2
returns-in_ok-push-2 c =
    λ text later.
    (let rs = records_of c.args.sheet.now in
    let seen = c.args.self.now.seen.items in
    let ls = levels c.args.self.now.open_nodes.items in
    let x = c.milestone_seen.result in
    let close = option_map mark_parts c.args.close in
    ap (λ l. seen_after rs l ls later)
    (close_seen rs (seen ++ x ∷ []) c.push-then-is_some.new.self.items close c.nothing.result
    (is_some_map mark_parts c.args.close ∙ sym c.is_some.ensures ∙ c.if-is_some.true) c.nothing.ensures
    (c.in_ok-push-2.ensures.items ∙ ap (λ l. l ++ c.nothing.result ∷ []) c.in_ok-push.ensures.items))
    ∙ sym (milestone_taken rs seen ls (mark_parts c.args.mark) text close later x (c.milestone_seen.ensures (surroundings_in ls))))

pub returns-else-is_some : goal.returns-else-is_some
returns-else-is_some c =
    λ text later.
    (let rs = records_of c.args.sheet.now in
    let seen = c.args.self.now.seen.items in
    let ls = levels c.args.self.now.open_nodes.items in
    let x = c.milestone_seen.result in
    let close = option_map mark_parts c.args.close in
    ap (λ l. seen_after rs l ls later)
    (no_close_seen rs (seen ++ x ∷ []) c.push.new.self.items close
    (is_some_map mark_parts c.args.close ∙ sym c.is_some.ensures ∙ c.if-is_some.false) c.in_ok-push.ensures.items)
    ∙ sym (milestone_taken rs seen ls (mark_parts c.args.mark) text close later x (c.milestone_seen.ensures (surroundings_in ls))))
