use Rattle.std.proofs.Common.{◌++◌, ◌∙◌, sym, ap, List, ℕ}
use Rattle.std.specs.List.{flat_map}
use Rattle.conflict_answers.specs.Answers.{view}
use Rattle.conflict_answers.specs.Spelling.{answer_lines, first_line, spelling}
use Rattle.conflict_answers.proofs.Appending.{flat_mapped}
use Rattle.conflict_answers.proofs.writing.spelled.Goals as goal

pub returns : goal.returns
unfolding spelling
returns c =
    c.in_ok-push_answers.ensures
    ∙ ap (λ (bs : List ℕ). bs ++ flat_map (λ a. answer_lines (view a)) c.args.answers.now)
    (c.in_ok-extend_from_slice.ensures.items ∙ ap (λ (bs : List ℕ). bs ++ first_line) c.new-bytes.ensures.items)
    ∙ ap (λ (bs : List ℕ). first_line ++ bs) (sym (flat_mapped answer_lines view c.args.answers.now))
