use Rattle.std.proofs.Common.{◌≡◌, ◌++◌, ◌∷◌, [], List, ℕ, OnOk, map, ap, sym, subst, arith, refl, rules, ◌∙◌}
use Rattle.std.specs.List.{flat_map}
use Rattle.std.proofs.lemmas.Str.Pattern.{strip_suffix_char, split_parts}
use Rattle.usfm_ref.specs.Segments.{segment}
use Rattle.merged_file.specs.Remarks.{remark, slashed, lines_of, lines_or_one}
use Rattle.merged_file.proofs.LineParts.{lines_begun, line_more, line_last}
use Rattle.merged_file.proofs.remarks.push_remarks.Goals as goal

pub lines-init : goal.lines-init
lines-init c =
    let f : List ℕ → List ℕ = remark (segment c.args.book c.args.key) c.args.op.now.id.name in
    let without = strip_suffix_char 10 c.text_or_empty-text.result.now c.strip_suffix.result c.strip_suffix.ensures.cases (omega arith) in
    let begun = lines_begun c.text_or_empty-text.result.now c.strip_suffix.result without c.unwrap_or-left.result
    c.text_or_empty-text.result refl c.unwrap_or-left.ensures in (
      search rules,
      ap (λ (lines : List (List ℕ)). c.args.made.now.items ++ flat_map f lines)
          (sym (ap (λ (t : List ℕ). lines_or_one (lines_of t)) (sym c.text_or_empty-text.ensures) ∙ begun)),
    )

pub lines-preserved : goal.lines-preserved
lines-preserved c =
    let f : List ℕ → List ℕ = remark (segment c.args.book c.args.key) c.args.op.now.id.name in
    let line = c.in-Some.line.now in
    let parts = rw c.in-Some.is at (split_parts 10 c.lines.left.now c.split_once.result c.split_once.ensures.cases (omega arith)) in
    let more = c.in_ok-push_remark.ensures ∙ ap (λ (begin : List ℕ). c.lines.made.items ++ (begin ++ (map slashed line ++ 10 ∷ [])))
    (c.deref.ensures ∙ c.in_ok-begin.ensures) in (
      search rules,
      line_more f c.lines.made.items c.push_remark.new.made.items _ c.lines.left.now line c.in-Some.later.now parts.0 parts.1
          more c.lines.invariant.1,
    )

pub returns : goal.returns
returns c =
    let f : List ℕ → List ℕ = remark (segment c.args.book c.args.key) c.args.op.now.id.name in
    let left = c.lines.left.now in
    let lacks = rw c.in_default.is at (split_parts 10 left c.split_once.result c.split_once.ensures.cases (omega arith)) in
    let more = subst (λ (begin : List ℕ). OnOk c.push_remark-2.result (c.push_remark-2.new.made.items
    ≡ c.lines.made.items ++ (begin ++ (map slashed left ++ 10 ∷ [])))) (c.deref-2.ensures ∙ c.in_ok-begin.ensures)
    c.push_remark-2.ensures in
    line_last f c.lines.made.items c.push_remark-2.new.made.items _ left c.push_remark-2.result lacks more c.lines.invariant.1
