use Rattle.std.proofs.Common.{◌≡◌, ◌∙◌, ◌++◌, ◌∷◌, [], ℕ, List, IfOk, codes, length, string_bytes, subst}
use Rattle.std.specs.Fmt.{decimal}
use Rattle.op_core.specs.Ids.{Id}
use Rattle.conflict_report.proofs.part.text_line.Goals as goal

pub returns : goal.returns
returns c =
    let as_line = λ (id : Id) (count : ℕ). IfOk c.format.result
    (λ line. string_bytes line ≡ codes "text " ++ (decimal id.number ++ 32 ∷ (id.name ++ 32 ∷ (decimal count ++ 10 ∷ [])))) in
    let written : as_line (record { number = c.id.inside.number; name = c.text-name.result.now }) (length c.text_or_empty.result.now) =
    c.format.ensures.ok in
    let with_id = subst (λ (id : Id). as_line id (length c.text_or_empty.result.now))
    ((λ i. record { number = c.id.inside.number; name = c.text-name.ensures.text i }) ∙ c.id.view_is ∙ c.id-id.ensures.id) written in
    subst (λ (text : List ℕ). as_line c.args.op.now.id (length text)) c.text_or_empty.ensures with_id
