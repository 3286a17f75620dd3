use Rattle.std.proofs.Common.{◌≡◌, Bool, false, take}
use Rattle.std.specs.List.{list_any}
use Rattle.usfm_ref.specs.Keys.{KeyParts}
use Rattle.op_core.specs.Loops.Searches.{AnswersAs}
use Rattle.op_core.proofs.index.place.any_key_beside.Given as goal

abbrev pub invariant-loop-register : goal.invariant-loop-register
invariant-loop-register g l = (p : KeyParts → Bool) → AnswersAs g.P.Fn p l.holds
    → list_any (λ r. p r.key) (take l.register-index l.registers) ≡ false
