use Rattle.std.proofs.Common.{◌≡◌, ap, ◌∙◌, ◌++◌, ◌∷◌, [], map, reverse}
use Rattle.usfm_tree.specs.Views.{alone, view, forest_of}
use Rattle.usfm_token.specs.View.{mark_parts}
use Rattle.usfm_token.specs.Tokens.{mark_bytes}
use Rattle.usfm_tree.specs.Forest.{node, nothing, spanning, span_bytes, close_bytes, bytes_of}
use Rattle.usfm_tree.specs.Loops.ReaderViews.{span_of, Adjoins}
use Rattle.usfm_tree.proofs.SpanLemmas.{adjoins_pop, adjoins_end, span_front, span_is}
use Rattle.std.specs.Option.{option_map}
use Rattle.usfm_tree.proofs.ReaderLemmas.{ends_by_pop, branch_parts_made, forest_of_push}
use Rattle.usfm_tree.proofs.reader.Reader.end.Goals as goal
use Rattle.usfm_tree.proofs.reader.Reader.end.Goals.{In-Some, After-node_of, In_ok-push}

-- the innermost open node, and what stands after it
opened : (c : In-Some) → Adjoins (span_of c.in-Some.open ∷ reverse (map span_of c.pop.new.self.items))
    (forest_of c.args.self.now.kids.items) (close_bytes (option_map mark_parts c.args.close) ++ c.args.rest.now)
opened c = adjoins_pop c.args.self.now.open_nodes.items c.pop.new.self.items c.in-Some.open
    (forest_of c.args.self.now.kids.items) _ c.in-Some.ensures.items c.requires.adjoins

front : (c : In-Some) → c.in-Some.open.kept.from.now
    ≡ span_bytes (mark_parts c.in-Some.open.kept.mark) (forest_of c.args.self.now.kids.items) (option_map mark_parts c.args.close)
    ++ c.args.rest.now
front c = span_front c.in-Some.open.kept.from.now (mark_bytes (mark_parts c.in-Some.open.kept.mark))
    (bytes_of (forest_of c.args.self.now.kids.items)) (close_bytes (option_map mark_parts c.args.close)) c.args.rest.now (opened c).0

pub cut_off-slice-requires : goal.cut_off-slice-requires
cut_off-slice-requires c = (
  span_bytes (mark_parts c.in-Some.open.kept.mark) (forest_of c.args.self.now.kids.items)
      (option_map mark_parts c.args.close),
  front (goal.at.cut_off-slice-requires c).In-Some,
)

-- the node that is made
made : (c : After-node_of)
    → c.in-Some.open.kept.from.now
    ≡ span_bytes (mark_parts c.in-Some.open.kept.mark) (forest_of c.args.self.now.kids.items) (option_map mark_parts c.args.close)
    ++ c.args.rest.now → view c.node_of.result
    ≡ spanning c.in-Some.open.kind c.in-Some.open.kept.start (mark_parts c.in-Some.open.kept.mark) (forest_of c.args.self.now.kids.items)
    (option_map mark_parts c.args.close) nothing
made c is =
    let o = c.in-Some.open in
    let close = option_map mark_parts c.args.close in
    let before = c.args.self.now.kids.items in
    c.node_of.ensures ∙ ap (alone o.kind) (branch_parts_made _)
    ∙ ap (λ v. node o.kind o.kept.start c.cut_off-slice.result.now (mark_parts o.kept.mark)
    (forest_of v.items) close nothing) c.replace-kids.ensures.value
    ∙ ap (λ b. node o.kind o.kept.start b (mark_parts o.kept.mark) (forest_of before) close nothing)
    (c.cut_off-slice.ensures (span_bytes (mark_parts o.kept.mark) (forest_of before) close) is)

-- and where it is
placed : (c : In_ok-push) → c.push.new.self.items ≡ c.in-Some.open.kept.before.items ++ c.node_of.result ∷ []
placed c = c.in_ok-push.ensures.items ∙ ap (λ v. v.items ++ c.node_of.result ∷ []) c.replace-kids.ensures.after

pub returns-clause-ends : goal.returns-clause-ends
returns-clause-ends c =
    let d = (goal.at.returns-clause-ends c).In_ok-push in
    ends_by_pop c.args.self.now.open_nodes.items c.pop.new.self.items c.in-Some.open c.args.self.now.kids.items c.push.new.self.items
    c.node_of.result (option_map mark_parts c.args.close)
    c.in-Some.ensures.items (placed d) (made (goal.at.returns-clause-ends c).After-node_of (front (goal.at.returns-clause-ends c).In-Some))

pub returns-clause-adjoins : goal.returns-clause-adjoins
returns-clause-adjoins c =
    let d = (goal.at.returns-clause-adjoins c).In_ok-push in
    let o = c.in-Some.open in
    let close = option_map mark_parts c.args.close in
    adjoins_end (span_of o) (reverse (map span_of c.pop.new.self.items)) (forest_of c.args.self.now.kids.items)
    (forest_of c.push.new.self.items) (view c.node_of.result) close c.args.rest.now
    (opened (goal.at.returns-clause-adjoins c).In-Some)
    (ap bytes_of (made (goal.at.returns-clause-adjoins c).After-node_of (front (goal.at.returns-clause-adjoins c).In-Some))
    ∙ span_is o.kind o.kept.start c.cut_off-slice.result.now (mark_parts o.kept.mark) (forest_of c.args.self.now.kids.items) close)
    (ap forest_of (placed d) ∙ forest_of_push o.kept.before.items c.node_of.result)
