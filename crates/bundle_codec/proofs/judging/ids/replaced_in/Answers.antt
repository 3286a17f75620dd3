use Rattle.bundle_codec.proofs.Steps.{ids_count, ids_ok, ids_are}
use Rattle.bundle_codec.proofs.judging.ids.replaced_in.Goals as goal

pub u64_in-count-requires : goal.u64_in-count-requires
u64_in-count-requires c = ids_count c.args.bytes.now c.requires

pub after_ids_in-rest-requires : goal.after_ids_in-rest-requires
after_ids_in-rest-requires c = ids_ok c.args.bytes.now c.requires _ _ c.u64_in-count.ensures

pub returns-clause-value : goal.returns-clause-value
returns-clause-value c =
    ids_are c.args.bytes.now c.requires _ _ c.u64_in-count.ensures c.after_ids_in-rest.result.now c.after_ids_in-rest.ensures

pub returns-clause-readable : goal.returns-clause-readable
returns-clause-readable c = ids_ok c.args.bytes.now c.requires _ _ c.u64_in-count.ensures
