use Rattle.std.proofs.Common.{◌≡◌, ◌∙◌, ◌++◌, ◌∷◌, List, ℕ, IfOk, codes, string_bytes, subst}
use Rattle.op_core.specs.Ids.{Id}
use Rattle.merged_file.proofs.remarks.remark_begin.Goals as goal

pub returns : goal.returns
returns c =
    let begins = λ (reference : List ℕ) (id : Id). IfOk c.format.result
    (λ begin. string_bytes begin ≡ codes "\\rem conflict " ++ (reference ++ 32 ∷ (id.name ++ codes ": "))) in
    let reference = string_bytes c.in_ok-reference.reference in
    let written : begins reference (record { number = c.id.inside.number; name = c.text-name.result.now }) = c.format.ensures.ok in
    let with_id = subst (begins reference)
    ((λ i. record { number = c.id.inside.number; name = c.text-name.ensures.text i }) ∙ c.id.view_is ∙ c.id-id.ensures.id) written in
    subst (λ (bytes : List ℕ). begins bytes c.args.op.now.id) c.in_ok-reference.ensures with_id
