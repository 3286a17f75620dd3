use Rattle.std.proofs.Common.{false, None, ◌∙◌, arith}
use Rattle.bundle_codec.specs.Spelling.{operation}
use Rattle.bundle_codec.specs.Views.{op_view}
use Rattle.bundle_codec.proofs.Seen.{left_fits, without_is}
use Rattle.bundle_codec.proofs.Spelled.{operation_reads}
use Rattle.bundle_codec.proofs.views.walk.operation_in.Goals as goal

pub overflow_sub-bytes : goal.overflow_sub-bytes
overflow_sub-bytes c =
    let t = (operation_reads false 0 None).takes c.args.bytes.now (op_view c.fields_in.result.0) c.fields_in.result.1.now
    (λ i. omega (arith, c.type_inv.bytes i)) c.fields_in.ensures.value in
    left_fits c.args.bytes.now (operation (op_view c.fields_in.result.0)) c.fields_in.result.1.now t.0.parts

pub new-requires : goal.new-requires
new-requires c =
    let t = (operation_reads false 0 None).takes c.args.bytes.now (op_view c.fields_in.result.0) c.fields_in.result.1.now
    (λ i. omega (arith, c.type_inv.bytes i)) c.fields_in.ensures.value in
    record {
      fits = t.1.1.1.0;
      ids = c.fields_in.ensures.ids;
      bytes_are = c.split_at.ensures.front
          ∙ without_is c.args.bytes.now (operation (op_view c.fields_in.result.0)) c.fields_in.result.1.now t.0.parts;
    }
