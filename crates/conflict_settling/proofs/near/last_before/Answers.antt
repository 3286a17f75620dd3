use Rattle.std.proofs.Common.{rules, of_calls, arith, ◌<◌}
use Rattle.std.specs.Ordering.{is_lt}
use Rattle.std.proofs.lemmas.List.Sorted.{IsPartitionPoint-from_clause}
use Rattle.usfm_ref.specs.Keys.{KeyParts, key_cmp}
use Rattle.usfm_ref.proofs.Orders.{key_total}
use Rattle.usfm_ref.proofs.Sorted.{parted}
use Rattle.conflict_settling.proofs.Parted.{last_parted, none_parted}
use Rattle.conflict_settling.proofs.near.last_before.Goals as goal

pub returns-then-count-eq0 : goal.returns-then-count-eq0
returns-then-count-eq0 c =
    let p = λ (k : KeyParts). is_lt (key_cmp k c.args.key) in
    none_parted p c.args.keys.now c.partition_point-count.result c.if-count-eq0.true
    (IsPartitionPoint-from_clause p c.args.keys.now _ c.partition_point-count.ensures.partitioned
    (parted key_cmp key_total (λ (k : KeyParts). k) c.args.key c.args.keys.now c.requires.rising) (λ a r f k. search (rules, of_calls)))

pub returns : goal.returns
returns c =
    let p = λ (k : KeyParts). is_lt (key_cmp k c.args.key) in
    let n = c.partition_point-count.result in
    let some : 0 < n = omega (arith, c.if-count-eq0.false) in
    last_parted p c.args.keys.now n c.index-keys-count.result c.partition_point-count.ensures.bound some
    (IsPartitionPoint-from_clause p c.args.keys.now _ c.partition_point-count.ensures.partitioned
    (parted key_cmp key_total (λ (k : KeyParts). k) c.args.key c.args.keys.now c.requires.rising) (λ a r f k. search (rules, of_calls)))
    c.index-keys-count.is
