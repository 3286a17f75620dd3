use Rattle.std.proofs.Common.{rules, of_calls}
use Rattle.std.specs.Ordering.{is_lt}
use Rattle.usfm_ref.specs.Keys.{key_cmp}
use Rattle.usfm_ref.proofs.Orders.{key_total}
use Rattle.usfm_ref.proofs.Sorted.{parted}
use Rattle.op_core.specs.declared.index.register.Register.{Register}
use Rattle.op_core.proofs.index.place.place_register.Goals as goal

pub returns-clause-place : goal.returns-clause-place
returns-clause-place c =
    c.place_by-at.ensures.place (λ (r : Register). is_lt (key_cmp r.key c.args.key)) (λ a r k. search (rules, of_calls))
    (parted key_cmp key_total (λ (r : Register). r.key) c.args.key c.args.registers.now c.requires.rising)
