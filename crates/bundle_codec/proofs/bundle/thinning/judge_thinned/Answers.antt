use Rattle.std.proofs.Common.{None, Some, List, sym, ap, subst, ◌∙◌}
use Rattle.op_core.specs.Ops.{Operation}
use Rattle.bundle_codec.specs.Views.{operations_in}
use Rattle.bundle_codec.specs.Loops.Thinning.{HoldsThinned, LeavesNamed, first_of}
use Rattle.bundle_codec.proofs.Unnamed.{judged_empty, judged_left}
use Rattle.bundle_codec.proofs.bundle.thinning.judge_thinned.Goals as goal

pub returns-then-is_empty : goal.returns-then-is_empty
returns-then-is_empty c =
    judged_empty (operations_in c.args.count c.args.bytes.now) c.in_ok-unnamed.unnamed c.requires.set.rising
    (subst (λ (ops : List Operation). HoldsThinned ops c.in_ok-unnamed.unnamed) c.new.ensures c.in_ok-unnamed.ensures.holds)
    (c.is_empty.ensures.0 c.if-is_empty.true)

pub returns-in-None : goal.returns-in-None
returns-in-None c =
    judged_left (operations_in c.args.count c.args.bytes.now) c.in_ok-unnamed.unnamed c.requires.set.rising
    (subst (λ (ops : List Operation). HoldsThinned ops c.in_ok-unnamed.unnamed) c.new.ensures c.in_ok-unnamed.ensures.holds)
    c.is_empty.result c.is_empty.ensures.1 c.if-is_empty.false c.remove_named.new.thinned
    (subst (λ (ops : List Operation). LeavesNamed ops c.in_ok-unnamed.unnamed c.remove_named.new.thinned) c.new-2.ensures
    c.remove_named.ensures)
    None
    (sym c.in-None.is ∙ c.first_of.ensures ∙ ap (first_of c.remove_named.new.thinned 1) c.new-3.ensures)

pub returns : goal.returns
returns c =
    judged_left (operations_in c.args.count c.args.bytes.now) c.in_ok-unnamed.unnamed c.requires.set.rising
    (subst (λ (ops : List Operation). HoldsThinned ops c.in_ok-unnamed.unnamed) c.new.ensures c.in_ok-unnamed.ensures.holds)
    c.is_empty.result c.is_empty.ensures.1 c.if-is_empty.false c.remove_named.new.thinned
    (subst (λ (ops : List Operation). LeavesNamed ops c.in_ok-unnamed.unnamed c.remove_named.new.thinned) c.new-2.ensures
    c.remove_named.ensures)
    (Some c.in-Some.place)
    (sym c.in-Some.is ∙ c.first_of.ensures ∙ ap (first_of c.remove_named.new.thinned 1) c.new-3.ensures)
