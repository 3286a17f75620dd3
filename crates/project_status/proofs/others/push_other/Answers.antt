use Rattle.std.proofs.Common.{List, ℕ, ◌++◌, codes, append_assoc, ap, ◌∙◌}
use Rattle.bundle_codec.specs.Summaries.{NameRanges}
use Rattle.project_status.specs.Others.{lacks, lacked, other_line}
use Rattle.project_status.proofs.others.push_other.Goals as goal

pub returns : goal.returns
returns c =
    let text = c.args.text.now.items in
    let file = c.file-file.result.now in
    let one = c.lacks-lacks.result in
    let two = c.lacked-lacked.result in
    let is_one = c.lacks-lacks.ensures ∙ ap (λ (k : List NameRanges). lacks k c.args.set.now) c.known.ensures in
    let is_two = c.lacked-lacked.ensures ∙ ap (λ (k : List NameRanges). lacked k c.args.set.now) c.known-2.ensures in
    c.in_ok-push_count-2.ensures
    ∙ ap (λ (xs : List ℕ). xs ++ other_line (codes "lacked") file two) c.in_ok-push_count.ensures
    ∙ append_assoc text (other_line (codes "lacks") file one) (other_line (codes "lacked") file two)
    ∙ (λ i. text ++ (other_line (codes "lacks") (c.file-file.ensures i) (is_one i)
    ++ other_line (codes "lacked") (c.file-file.ensures i) (is_two i)))
