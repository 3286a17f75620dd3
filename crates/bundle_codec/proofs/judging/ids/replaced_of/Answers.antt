use Rattle.std.proofs.Common.{◌^◌, None, ap, ◌∙◌, arith}
use Rattle.std.specs.Int.{w64}
use Rattle.bundle_codec.specs.declared.fault.BundleFault.TheVariants.{Truncated}
use Rattle.bundle_codec.specs.Reading.{◌>>=◌, any, replaced_at, many_at, named_at, after_id}
use Rattle.bundle_codec.specs.Views.{id_view}
use Rattle.bundle_codec.proofs.FieldReaders.{number_reads, wide64}
use Rattle.bundle_codec.proofs.Seen.{replaced_seen}
use Rattle.bundle_codec.proofs.judging.ids.replaced_of.Goals as goal

pub returns : goal.returns
unfolding replaced_at
returns c =
    let count = (number_reads w64 (2 ^ 64) wide64 any Truncated).takes c.args.bytes.now c.in_ok-count.count c.in_ok-count.ids.now
    (λ i. omega (arith, c.type_inv.bytes i)) c.in_ok-count.ensures in
    ap (λ r. r >>= λ n. many_at (named_at c.args.bad (id_view c.args.own.now)) after_id n.0 None n.1) c.in_ok-count.ensures
    ∙ replaced_seen c.args.bad (id_view c.args.own.now) c.in_ok-count.count c.in_ok-count.ids.now c.in_ok-rest.rest.now count.0.rest_fits
    c.in_ok-rest.ensures
