use Rattle.std.proofs.Common.{subst, sym, IsTrue, List, ℕ}
use Rattle.op_core.specs.Names.{is_name}
use Rattle.op_core.proofs.IdOrders.Texts.{IsUtf8-from_name}
use Rattle.op_core.proofs.ids.name.ReplicaName.text.Goals as goal

pub from_utf8_unchecked-requires : goal.from_utf8_unchecked-requires
from_utf8_unchecked-requires c = IsUtf8-from_name c.as_bytes.result.now
    (subst (λ (t : List ℕ). IsTrue (is_name t)) (sym c.as_bytes.ensures.bytes) c.as_bytes.ensures.valid)
