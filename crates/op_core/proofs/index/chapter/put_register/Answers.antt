use Rattle.std.proofs.Common.{ap, refl, ◌∙◌, ◌≡◌, true, is_ok, List}
use Rattle.std.specs.List.{insert}
use Rattle.std.proofs.lemmas.Bool.{cond-true}
use Rattle.usfm_ref.specs.Keys.{key_cmp}
use Rattle.usfm_ref.proofs.Orders.{key_total}
use Rattle.usfm_ref.proofs.Sorted.{place}
use Rattle.op_core.specs.declared.index.register.Register.{Register}
use Rattle.op_core.proofs.Indexed.Registers.{rise, insert_changes}
use Rattle.op_core.proofs.index.chapter.put_register.Goals as goal

pub place_register-at-requires : goal.place_register-at-requires
place_register-at-requires c = record { rising = ap rise (c.deref.ensures.value ∙ c.reserve_register.ensures.items) ∙ c.requires.rising }

pub returns-clause-ok : goal.returns-clause-ok
returns-clause-ok c =
    let went : is_ok c.insert.result ≡ true = ap is_ok c.unwrap.ensures in
    let same = c.reserve_register.ensures.items in
    let at = c.place_register-at.ensures.place
    ∙ ap (λ (rs : List Register). place key_cmp key_total (λ (r : Register). r.key) c.args.register.key rs)
    (c.deref.ensures.value ∙ same) in
    let items : c.insert.new.self.items ≡ insert c.args.registers.now.items c.place_register-at.result c.args.register =
    c.insert.ensures.items
    ∙ cond-true _ _ _ went ∙ ap (λ (rs : List Register). insert rs c.place_register-at.result c.args.register) same in
    rw items (insert_changes c.args.register.key c.args.registers.now.items c.place_register-at.result c.requires.rising at c.args.register
    c.requires.absent refl)
