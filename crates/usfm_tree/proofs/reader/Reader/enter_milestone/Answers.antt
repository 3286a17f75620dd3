use Rattle.std.proofs.Common.{◌≡◌, ℕ, ◌-◌, ◌++◌, ◌∙◌, ap, length, arith}
use Rattle.usfm_token.specs.View.{mark_parts}
use Rattle.usfm_tree.specs.Forest.{nothing, node, span_bytes, ◌then◌}
use Rattle.sty_sheet.specs.declared.kind.StyleKind.TheVariants as kinds
use Rattle.usfm_tree.specs.Loops.Stack.{opens_of}
use Rattle.usfm_tree.specs.Loops.ReaderViews.{frames_of, spans_of, sofar_of}
use Rattle.usfm_tree.proofs.SpanLemmas.{adjoins_put, adjoins_at, span_is}
use Rattle.usfm_tree.specs.Loops.TakenViews.{optional_text, text_of, close_mark}
use Rattle.usfm_tree.proofs.ReaderLemmas.{opens_of_frames, length_opens_in}
use Rattle.usfm_tree.proofs.TakenLemmas.{span_deep, span_node, milestone_front}
use Rattle.usfm_tree.proofs.reader.Reader.enter_milestone.Goals as goal
use Rattle.usfm_tree.proofs.reader.Reader.enter_milestone.Goals.{After-takes-taken}

-- what the node takes up, and what is left
front : (c : After-takes-taken) (place : ℕ)
    → c.args.at.now ≡ span_bytes (mark_parts c.args.mark) (optional_text place (text_of c.takes-taken.result))
    (close_mark c.takes-taken.result) ++ c.takes-taken.result.after.now
front c place =
    let t = c.takes-taken.result in
    milestone_front c.args.at.now c.args.rest.now (mark_parts c.args.mark) place (text_of t) (close_mark t) t.after.now c.requires.token
    (c.takes-taken.ensures c.args.end c.requires.within).1

pub cut_off-slice-requires : goal.cut_off-slice-requires
cut_off-slice-requires c =
    let t = c.takes-taken.result in (
      span_bytes (mark_parts c.args.mark) (optional_text 0 (text_of t)) (close_mark t),
      front
          (goal.at.cut_off-slice-requires c).After-takes-taken 0,
    )

pub returns-then-len-ge-DEEPEST-clause-enters : goal.returns-then-len-ge-DEEPEST-clause-enters
returns-then-len-ge-DEEPEST-clause-enters c =
    let size : length (opens_of (frames_of c.args.self.now))
    ≡ length c.args.self.now.open_nodes.items = ap length (opens_of_frames c.args.self.now.open_nodes.items)
    ∙ length_opens_in c.args.self.now.open_nodes.items in
    let k = c.in_ok-enter_leaf.ensures in
    span_deep c.args.start c.args.end (mark_parts c.args.mark) c.args.rest.now _ _ _ _ (omega arith) k.kids k.frames

pub returns-clause-enters : goal.returns-clause-enters
returns-clause-enters c =
    let size : length (opens_of (frames_of c.args.self.now))
    ≡ length c.args.self.now.open_nodes.items = ap length (opens_of_frames c.args.self.now.open_nodes.items)
    ∙ length_opens_in c.args.self.now.open_nodes.items in
    let k = c.in_ok-put.ensures in
    let t = c.takes-taken.result in
    span_node c.args.start c.args.end (mark_parts c.args.mark) c.args.rest.now t.after.now _ (close_mark t) _ _ _ _ (omega arith)
    (c.takes-taken.ensures c.args.end c.requires.within).0
    (k.kids ∙ ap (λ v. sofar_of c.args.self.now then v)
    (c.milestone_node.ensures
    ∙ ap (λ f. node kinds.Milestone c.args.start c.cut_off-slice.result.now (mark_parts c.args.mark) f
    (close_mark t) nothing) c.in_ok-kids.ensures
    ∙ ap (λ b. node kinds.Milestone c.args.start b (mark_parts c.args.mark)
    (optional_text (c.args.end - length c.args.rest.now) (text_of t)) (close_mark t) nothing) (c.cut_off-slice.ensures _
    (front (goal.at.returns-clause-enters c).After-takes-taken (c.args.end - length c.args.rest.now)))))
    k.frames

pub returns-clause-adjoins : goal.returns-clause-adjoins
returns-clause-adjoins c =
    let t = c.takes-taken.result in
    let place = c.args.end - length c.args.rest.now in
    let m = mark_parts c.args.mark in
    let kids = optional_text place (text_of t) in
    let span = front (goal.at.returns-clause-adjoins c).After-takes-taken place in
    adjoins_put (spans_of c.args.self.now) (spans_of c.put.new.self) (sofar_of c.args.self.now) (sofar_of c.put.new.self)
    (node kinds.Milestone c.args.start c.cut_off-slice.result.now m kids (close_mark t) nothing)
    (span_bytes m kids (close_mark t)) t.after.now
    (adjoins_at (spans_of c.args.self.now) (sofar_of c.args.self.now) c.args.at.now
    (span_bytes m kids (close_mark t) ++ t.after.now) c.requires.adjoins span)
    (span_is kinds.Milestone c.args.start c.cut_off-slice.result.now m kids (close_mark t))
    (c.in_ok-put.ensures.kids
    ∙ ap (λ v. sofar_of c.args.self.now then v)
    (c.milestone_node.ensures
    ∙ ap (λ f. node kinds.Milestone c.args.start c.cut_off-slice.result.now m f (close_mark t) nothing) c.in_ok-kids.ensures))
    c.in_ok-put.ensures.spans
