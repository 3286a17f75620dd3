use Rattle.std.proofs.Common.{Bor, ◌≡◌, ◌≤◌, ◌++◌, ◌-◌, List, ℕ, length, take, drop, ap, ◌∙◌, arith}
use Rattle.std.specs.List.{flat_map}
use Rattle.std.proofs.lemmas.Bool.Decides.{nat_tests}
use Rattle.usfm_ref.specs.Segments.{segment}
use Rattle.op_core.specs.Ops.{Operation}
use Rattle.op_core.specs.Shown.{pick, picked_text}
use Rattle.conflict_report.specs.Reports.{distinct_texts}
use Rattle.merged_file.specs.Remarks.{remarks_of, line_end, with_remarks}
use Rattle.merged_file.proofs.Marked.{walked, marked, two_or_more}
use Rattle.merged_file.proofs.remarks.push_marked.Goals as goal

pub returns-clause-marked : goal.returns-clause-marked
returns-clause-marked c =
    let g = segment c.args.book c.args.key in
    let made = c.args.made.now.items in
    let slice = c.as_slice.result.now in
    let distinct = c.in_ok-texts.field-0.distinct.items in
    let texts = distinct_texts c.args.cursor.now g in
    let others = take (length slice - 1) (drop 1 slice) in
    let text = c.in_ok-text.text.items in
    let picked : text ≡ picked_text (pick c.args.cursor.now g) = c.in_ok-text.ensures ∙ ap picked_text c.pick.ensures.picked in
    let some : 1 ≤ length others = grind (arith, nat_tests, c.if-is_empty.ensures) in
    let two : 2 ≤ length distinct = omega (arith, two_or_more slice some, ap length c.as_slice.ensures.value) in
    let told = λ (ops : List (Bor Operation)). flat_map (λ op. remarks_of g op.now) ops in
    let after = c.loop-op.invariant ∙ ap (λ (ops : List (Bor Operation)). c.extend_from_slice-2.new.self.items ++ told ops)
    (walked slice c.loop-op.op-index (omega arith) ∙ ap (drop 1) c.as_slice.ensures.value) in
    marked g made text c.extend_from_slice.new.self.items c.extend_from_slice-2.new.self.items c.loop-op.made.items distinct texts
    (c.in_ok-texts.ensures.distinct ∙ ap (λ (held : List Operation). distinct_texts held g) c.pick.ensures.same) two
    (c.in_ok-extend_from_slice.ensures.items ∙ ap (λ (bytes : List ℕ). made ++ bytes) c.deref.ensures.value)
    (c.in_ok-extend_from_slice-2.ensures.items ∙ ap (λ (bytes : List ℕ). c.extend_from_slice.new.self.items ++ bytes)
    (c.line_end.ensures ∙ ap line_end c.deref-2.ensures.value)) after
    ∙ ap (λ (bytes : List ℕ). made ++ with_remarks g bytes (drop 1 texts)) picked
