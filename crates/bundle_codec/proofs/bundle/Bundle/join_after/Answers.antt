use Rattle.std.proofs.Common.{◌≡◌, List, ℕ, ◌++◌, length, sym, ◌∙◌, arith}
use Rattle.std.specs.List.{flat_map}
use Rattle.op_core.specs.Ops.{Operation}
use Rattle.op_core.specs.Sets.{join, clash}
use Rattle.op_core.specs.Thinned.{all_full}
use Rattle.op_core.proofs.Sets.Union.{IsOpSet-join, agree_from_no_clash}
use Rattle.op_core.proofs.Sets.Legal.{join_legal}
use Rattle.bundle_codec.specs.Spelling.{operation}
use Rattle.bundle_codec.proofs.Refronted.{begun, has_front_at, refronted_at}
use Rattle.bundle_codec.proofs.bundle.Bundle.join_after.Goals as goal

-- after the bytes stand the front, and the operations of the union
written : (xs ys a b : List Operation) (before front grown bytes : List ℕ) → xs ≡ a → ys ≡ b → front ≡ before ++ begun → grown ≡ front
    → bytes ≡ grown ++ flat_map operation (join xs ys)
    → bytes ≡ (before ++ begun) ++ flat_map operation (join a b)
written xs ys a b before front grown bytes left right begins same all =
    all ∙ (λ i. (same ∙ begins) i ++ flat_map operation (join (left i) (right i)))

pub set_front_at-requires : goal.set_front_at-requires
set_front_at-requires c =
    let all = written _ _ c.args.self.now c.args.other.now c.args.bytes.items _ _ c.push_union.new.bytes.items c.ops.ensures.items
    c.ops-2.ensures.items c.in_ok-push_front.ensures c.in_ok-reserve.ensures.items c.in_ok-full.ensures.pushed in
    let here : c.len-at.result ≡ length c.args.bytes.items = omega (arith, c.len-at.ensures, c.args.bytes.ok.0) in
    let front = has_front_at c.args.bytes.items c.len-at.result here (join c.args.self.now c.args.other.now)
    c.push_union.new.bytes.items all in
    omega (arith, front, c.push_union.new.bytes.ok.0)

pub returns-clause-joined : goal.returns-clause-joined
returns-clause-joined c =
    let all = written _ _ c.args.self.now c.args.other.now c.args.bytes.items _ _ c.push_union.new.bytes.items c.ops.ensures.items
    c.ops-2.ensures.items c.in_ok-push_front.ensures c.in_ok-reserve.ensures.items c.in_ok-full.ensures.pushed in
    let full = c.in_ok-full.ensures.full ∙ (λ i. all_full (join (c.ops.ensures.items i) (c.ops-2.ensures.items i))) in
    let count = c.in_ok-full.ensures.count ∙ (λ i. length (join (c.ops.ensures.items i) (c.ops-2.ensures.items i))) in
    let here : c.len-at.result ≡ length c.args.bytes.items = omega (arith, c.len-at.ensures, c.args.bytes.ok.0) in
    refronted_at c.args.bytes.items c.len-at.result here (join c.args.self.now c.args.other.now) c.push_union.new.bytes.items all
    c.in_ok-full.full c.in_ok-full.count c.set_front_at.new.bytes.items full count c.set_front_at.ensures

pub returns-clause-set : goal.returns-clause-set
returns-clause-set c = IsOpSet-join c.args.self.now c.args.other.now c.ops.ensures.set c.ops-2.ensures.set

pub returns-clause-legal : goal.returns-clause-legal
returns-clause-legal c =
    let none = (λ i. clash (sym c.ops.ensures.items i) (sym c.ops-2.ensures.items i)) ∙ c.in_ok-full.ensures.agrees in
    join_legal c.args.self.now c.args.other.now c.ops.ensures.set.rising c.ops-2.ensures.set.rising c.ops.ensures.legal
    c.ops-2.ensures.legal (agree_from_no_clash c.args.self.now c.args.other.now none)
