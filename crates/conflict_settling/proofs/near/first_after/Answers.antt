use Rattle.std.proofs.Common.{not, length, rules, of_calls, arith, ◌<◌, ◌≤◌}
use Rattle.std.specs.Ordering.{is_lt}
use Rattle.std.proofs.lemmas.List.Sorted.{IsPartitionPoint-from_clause}
use Rattle.usfm_ref.specs.Keys.{KeyParts, key_cmp}
use Rattle.conflict_settling.proofs.Parted.{first_parted, nothing_parted, parted_after}
use Rattle.conflict_settling.proofs.near.first_after.Goals as goal

pub returns-then-count-keys : goal.returns-then-count-keys
returns-then-count-keys c =
    let p = λ (k : KeyParts). is_lt (key_cmp c.args.key k) in
    let n = c.partition_point-count.result in
    let whole : length c.args.keys.now ≤ n = omega (arith, c.if-count-keys.true) in
    nothing_parted p c.args.keys.now n whole
    (IsPartitionPoint-from_clause (λ k. not (p k)) c.args.keys.now _ c.partition_point-count.ensures.partitioned
    (parted_after c.args.key c.args.keys.now c.requires.rising) (λ a r f k. search (rules, of_calls)))

pub returns : goal.returns
returns c =
    let p = λ (k : KeyParts). is_lt (key_cmp c.args.key k) in
    let n = c.partition_point-count.result in
    let within : n < length c.args.keys.now = omega (arith, c.if-count-keys.false, c.partition_point-count.ensures.bound) in
    first_parted p c.args.keys.now n c.index-keys-count.result within
    (IsPartitionPoint-from_clause (λ k. not (p k)) c.args.keys.now _ c.partition_point-count.ensures.partitioned
    (parted_after c.args.key c.args.keys.now c.requires.rising) (λ a r f k. search (rules, of_calls)))
    c.index-keys-count.is
