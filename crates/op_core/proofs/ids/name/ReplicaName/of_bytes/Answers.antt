use Rattle.std.proofs.Common.{◌∙◌, sym}
use Rattle.op_core.proofs.IdOrders.Texts.{name_found, padded_name}
use Rattle.op_core.proofs.ids.name.ReplicaName.of_bytes.Goals as goal

pub invariant_of-result : goal.invariant_of-result
invariant_of-result c =
    rw c.copy_from_slice.ensures.after
    (padded_name c.args.text.now (sym c.is_name_text.ensures ∙ c.if-not-is_name_text.false))

pub returns-clause-name : goal.returns-clause-name
returns-clause-name c =
    rw c.copy_from_slice.ensures.after
    (name_found c.args.text.now (sym c.is_name_text.ensures ∙ c.if-not-is_name_text.false))
