use Rattle.std.proofs.Common.{ℕ, suc, ◌+◌, ◌≡◌, ◌-◌, List, length, take, drop, length-take, length-drop, Ok, arith, refl, sym, subst}
use Rattle.op_core.specs.Ops.{Operation}
use Rattle.bundle_codec.specs.Joining.{whole_at, RefusesWhole}
use Rattle.usfm_cli.specs.Combining.{bytes_of}
use Rattle.usfm_cli.specs.Loops.Gathered.{held_in, AreSoMany}
use Rattle.usfm_cli.proofs.Combined.{IsSoFar, far_start, far_on, next_of, refused_bytes, refused_set}
use Rattle.usfm_cli.proofs.combine.gather_each.Goals as goal

pub bundles-init : goal.bundles-init
bundles-init c = (record { rising = refl; each = tt }, refl, far_start (bytes_of c.args.bundles.now), omega arith)

pub returns-in-Err-clause-refused : goal.returns-in-Err-clause-refused
returns-in-Err-clause-refused c =
    let bundles = bytes_of c.args.bundles.now in
    let held = held_in c.bundles.gathered in
    let left = c.bundles.left.now in
    let bytes = c.bytes-item.result.items in
    let later = bytes_of (take (length left - 1) (drop 1 left)) in
    let next = next_of left c.bytes-item.result c.in-len1-up.len_at_least c.bytes-item.is in
    let far = subst (IsSoFar bundles c.bundles.at held) next c.bundles.invariant.2 in
    rw c.from.ensures (refused_bytes bundles c.bundles.at held bytes later far c.in-Err.fault
    (subst (λ (b : List ℕ). RefusesWhole b c.in-Err.fault) c.deref.ensures.value c.in-Err.ensures.exact))

pub returns-in-Err-receive-clause-refused : goal.returns-in-Err-receive-clause-refused
returns-in-Err-receive-clause-refused c =
    let bundles = bytes_of c.args.bundles.now in
    let held = held_in c.bundles.gathered in
    let left = c.bundles.left.now in
    let bytes = c.bytes-item.result.items in
    let later = bytes_of (take (length left - 1) (drop 1 left)) in
    let next = next_of left c.bytes-item.result c.in-len1-up.len_at_least c.bytes-item.is in
    let far = subst (IsSoFar bundles c.bundles.at held) next c.bundles.invariant.2 in
    rw c.from-in-Err-receive.ensures (refused_set bundles c.bundles.at held bytes later far c.in-Ok.bundle c.in-Err-receive.fault
    (subst (λ (b : List ℕ). whole_at b ≡ Ok c.in-Ok.bundle) c.deref.ensures.value c.in-Ok.ensures.exact)
    (c.in-Err-receive.ensures.refused c.bundles.at c.bundles.invariant.1))

pub bundles-preserved : goal.bundles-preserved
bundles-preserved c =
    let bundles = bytes_of c.args.bundles.now in
    let held = held_in c.bundles.gathered in
    let left = c.bundles.left.now in
    let rest = take (length left - 1) (drop 1 left) in
    let bytes = c.bytes-item.result.items in
    let more = c.in-Ok-receive.more in
    let next = next_of left c.bytes-item.result c.in-len1-up.len_at_least c.bytes-item.is in
    let far = subst (IsSoFar bundles c.bundles.at held) next c.bundles.invariant.2 in
    let on = far_on bundles c.bundles.at held bytes (bytes_of rest) far c.in-Ok.bundle
    (subst (λ (b : List ℕ). whole_at b ≡ Ok c.in-Ok.bundle) c.deref.ensures.value c.in-Ok.ensures.exact)
    c.in-Ok-receive.ensures.agrees in
    let one_more : suc c.bundles.at ≡ c.bundles.at + 1 = omega arith in (
      c.in-Ok-receive.ensures.set,
      subst (λ (k : ℕ). AreSoMany k more) one_more (c.in-Ok-receive.ensures.count c.bundles.at c.bundles.invariant.1),
      subst (λ (ops : List Operation). IsSoFar bundles (c.bundles.at + 1) ops (bytes_of rest)) (sym c.in-Ok-receive.ensures.ok) on,
      omega (arith, length-take (length left - 1) (drop 1 left), length-drop 1 left, c.bundles.invariant.3, c.in-len1-up.len_at_least),
    )
