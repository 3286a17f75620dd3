use Rattle.std.proofs.Common.{◌≡◌, List, ℕ, ◌++◌, length, sym, subst, ◌∙◌, arith}
use Rattle.std.specs.List.{flat_map}
use Rattle.std.proofs.lemmas.List.{length-map}
use Rattle.op_core.specs.Ops.{Operation}
use Rattle.op_core.specs.Thinned.{thin, thinned_in}
use Rattle.op_core.proofs.Sets.Legal.{thin_legal}
use Rattle.op_core.proofs.ThinnedSets.Left.{IsOpSet-thin}
use Rattle.bundle_codec.specs.Spelling.{operation}
use Rattle.bundle_codec.specs.Loops.Naming.{HoldsNamed}
use Rattle.bundle_codec.proofs.Refronted.{begun, has_front_at, refronted_at}
use Rattle.bundle_codec.proofs.bundle.Bundle.thin_after.Goals as goal

-- after the bytes stand the front, and the operations of the thinned set
written : (held : List Operation) (before front grown bytes : List ℕ) → front ≡ before ++ begun → grown ≡ front
    → bytes ≡ grown ++ flat_map operation (thin held) → bytes ≡ (before ++ begun) ++ flat_map operation (thin held)
written held before front grown bytes begins same all = all ∙ (λ i. (same ∙ begins) i ++ flat_map operation (thin held))

pub push_thinned-requires : goal.push_thinned-requires
push_thinned-requires c =
    subst (λ (ops : List Operation). HoldsNamed ops c.in_ok-named.named) c.ops.ensures.items c.in_ok-named.ensures

pub set_front_at-requires : goal.set_front_at-requires
set_front_at-requires c =
    let all = written c.args.self.now c.args.bytes.items _ _ c.push_thinned.new.bytes.items c.in_ok-push_front.ensures
    c.in_ok-reserve.ensures.items c.in_ok-full.ensures.pushed in
    let here : c.len-at.result ≡ length c.args.bytes.items = omega (arith, c.len-at.ensures, c.args.bytes.ok.0) in
    let front = has_front_at c.args.bytes.items c.len-at.result here (thin c.args.self.now) c.push_thinned.new.bytes.items all in
    omega (arith, front, c.push_thinned.new.bytes.ok.0)

pub returns-clause-thin : goal.returns-clause-thin
returns-clause-thin c =
    let all = written c.args.self.now c.args.bytes.items _ _ c.push_thinned.new.bytes.items c.in_ok-push_front.ensures
    c.in_ok-reserve.ensures.items c.in_ok-full.ensures.pushed in
    let here : c.len-at.result ≡ length c.args.bytes.items = omega (arith, c.len-at.ensures, c.args.bytes.ok.0) in
    refronted_at c.args.bytes.items c.len-at.result here (thin c.args.self.now) c.push_thinned.new.bytes.items all
    c.in_ok-full.full c.len.result c.set_front_at.new.bytes.items c.in_ok-full.ensures.full
    (c.len.ensures ∙ sym (length-map c.args.self.now (thinned_in c.args.self.now))) c.set_front_at.ensures

pub returns-clause-set : goal.returns-clause-set
returns-clause-set c = IsOpSet-thin c.args.self.now c.ops.ensures.set

pub returns-clause-legal : goal.returns-clause-legal
returns-clause-legal c = thin_legal c.args.self.now c.ops.ensures.legal
