use Rattle.std.proofs.Common.{List, ℕ, ◌∷◌, [], ◌++◌, take, sym, ap, ◌∙◌}
use Rattle.std.specs.List.{flat_map}
use Rattle.std.proofs.lemmas.List.{flat_map_more, take_more}
use Rattle.project_status.specs.Others.{OtherParts, other_lines}
use Rattle.project_status.proofs.others.push_others.Goals as goal

pub loop-other-preserved : goal.loop-other-preserved
loop-other-preserved c =
    let text = c.args.text.now.items in
    let others = c.args.others.now in
    let n = c.loop-other.other-index in
    let other = c.other-item.result in
    let f = other_lines c.args.set.now in
    c.in_ok-push_other.ensures
    ∙ ap (λ (xs : List ℕ). xs ++ f other) c.loop-other.invariant
    ∙ flat_map_more f text (take n others) other
    ∙ ap (λ (os : List OtherParts). text ++ flat_map f os)
    (ap (λ (o : OtherParts). take n others ++ o ∷ []) c.other-item.is ∙ sym (take_more others n other c.loop-other-test.true))
