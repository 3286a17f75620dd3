-- What is seen of operations that are lent from a set or from the bytes of a bundle.
use Rattle.std.specs.Prelude.{List}
use Rattle.op_core.specs.Ops.{Operation}
use Rattle.bundle_codec.specs.declared.summaries.lent.One.{One}
use Rattle.bundle_codec.specs.declared.summaries.lent.One.TheVariants as one
use Rattle.bundle_codec.specs.declared.summaries.lent.Left.{Left}
use Rattle.bundle_codec.specs.declared.summaries.lent.Left.TheVariants as left

-- one operation
abbrev pub one_op : One → Operation
one_op (one.OfSet op) = op.now
one_op (one.OfBundle op) = op

-- those that are left of a walk
abbrev pub ops_left : Left → List Operation
ops_left (left.OfSet ops) = ops
ops_left (left.OfBundle ops) = ops
