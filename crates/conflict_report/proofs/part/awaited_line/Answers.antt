use Rattle.std.proofs.Common.{◌≡◌, ◌∙◌, IfOk, string_bytes, subst}
use Rattle.op_core.specs.Ids.{Id}
use Rattle.conflict_report.specs.Reports as reports
use Rattle.conflict_report.proofs.part.awaited_line.Goals as goal

pub returns : goal.returns
returns c =
    let as_line = λ (id : Id). IfOk c.format.result (λ line. string_bytes line ≡ reports.awaited_line id) in
    let written : as_line (record { number = c.id.inside.number; name = c.text-name.result.now }) = c.format.ensures.ok in
    subst as_line ((λ i. record { number = c.id.inside.number; name = c.text-name.ensures.text i }) ∙ c.id.view_is) written
