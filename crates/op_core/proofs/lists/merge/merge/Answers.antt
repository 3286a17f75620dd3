use Rattle.std.proofs.Common.{sym, ap, ◌∙◌, ◌≡◌, [], List, is_ok, true, arith}
use Rattle.std.proofs.lemmas.Bool.{cond-true, eqb-true}
use Rattle.std.proofs.lemmas.List.{nil_from_length}
use Rattle.op_core.specs.Ops.{Operation}
use Rattle.op_core.specs.Sets.{join}
use Rattle.op_core.proofs.Sets.Fronts.{join_none}
use Rattle.op_core.proofs.Sets.Merging.{join_after}
use Rattle.op_core.proofs.lists.merge.merge.Goals as goal

pub returns-then-is_empty : goal.returns-then-is_empty
returns-then-is_empty c =
    let nil : c.args.ops.now.items
    ≡ [] = nil_from_length _
    (let none = eqb-true _ 0 (sym c.is_empty.ensures ∙ c.if-is_empty.true) in omega (arith, none, c.args.ops.now.ok.0)) in
    sym (ap (λ (held : List Operation). join held c.args.new.items) nil ∙ join_none c.args.new.items c.requires.new)

pub returns-then-from-len : goal.returns-then-from-len
returns-then-from-len c =
    let went : is_ok c.append.result ≡ true = ap is_ok c.unwrap.ensures in
    c.append.ensures.items ∙ cond-true _ _ _ went
    ∙ sym (join_after c.args.ops.now.items c.args.new.items c.args.from
    (omega (arith, c.args.ops.now.ok.0)) c.requires.ops c.requires.new c.requires.apart c.requires.before)
