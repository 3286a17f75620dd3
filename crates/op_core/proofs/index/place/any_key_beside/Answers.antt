use Rattle.std.proofs.Common.{refl, sym, ap, ◌||◌, ◌∙◌, take_all}
use Rattle.std.specs.List.{list_any}
use Rattle.std.proofs.lemmas.List.Folds.{list_any_more}
use Rattle.op_core.specs.declared.index.register.Register.{Register}
use Rattle.op_core.proofs.index.place.any_key_beside.Goals as goal

pub loop-register-init : goal.loop-register-init
loop-register-init g c = λ p h. refl

pub loop-register-preserved : goal.loop-register-preserved
loop-register-preserved g c = λ p h.
    let of = λ (r : Register). p r.key in
    let fails = ap of (sym c.register-item.is) ∙ sym (h _ _ c.holds.ensures) ∙ c.if-holds.false in
    list_any_more of c.registers_of-registers.result.now c.loop-register.register-index c.register-item.result c.loop-register-test.true
    ∙ (λ i. c.loop-register.invariant p h i || fails i)

pub returns : goal.returns
returns g c = λ p h.
    let of = λ (r : Register). p r.key in
    sym (c.loop-register.invariant p h)
    ∙ ap (list_any of) (take_all c.loop-register.register-index c.registers_of-registers.result.now c.loop-register-test.false
    ∙ c.registers_of-registers.ensures.found)
