use Rattle.std.proofs.Common.{sym, ap, ◌∙◌, arith}
use Rattle.std.specs.Ordering.{is_eq}
use Rattle.usfm_ref.specs.Keys.{key_cmp}
use Rattle.usfm_ref.proofs.Orders.{key_total}
use Rattle.usfm_ref.proofs.Sorted.{found_here, found_not, found_end, tied_back}
use Rattle.op_core.specs.declared.index.register.Register.{Register}
use Rattle.op_core.proofs.index.place.register_at.Goals.{then-at-registers+else-is_eq, else-at-registers}
use Rattle.op_core.proofs.index.place.register_at.Goals as goal

pub returns-then-is_eq-clause-found : goal.returns-then-is_eq-clause-found
returns-then-is_eq-clause-found c =
    sym (found_here key_cmp key_total
    (λ (r : Register). r.key) c.args.key c.args.registers.now c.place_register-at.result c.index-registers-at.result c.requires.rising
    c.place_register-at.ensures.place c.if-at-registers.true c.index-registers-at.is
    (tied_back key_cmp key_total c.index-registers-at.result.key c.args.key _
    (sym (c.is_eq.ensures ∙ ap is_eq c.order.ensures) ∙ c.if-is_eq.true)))

pub returns-clause-found : goal.returns-clause-found
returns-clause-found c = sym (elim c.if-at-registers.branch [
  | then-at-registers+else-is_eq w ↦ found_not key_cmp key_total
      (λ (r : Register). r.key) c.args.key c.args.registers.now c.place_register-at.result w.index-registers-at.result c.requires.rising
      c.place_register-at.ensures.place w.index-registers-at.is
      (tied_back key_cmp key_total w.index-registers-at.result.key c.args.key _
      (sym (w.is_eq.ensures ∙ ap is_eq w.order.ensures) ∙ w.if-is_eq.false))
  | else-at-registers w ↦ found_end key_cmp key_total
      (λ (r : Register). r.key) c.args.key c.args.registers.now c.place_register-at.result c.requires.rising
      c.place_register-at.ensures.place (omega arith)
])
