use Rattle.std.proofs.lemmas.Bool.{and_parts}
use Rattle.op_core.specs.Names.{is_name}
use Rattle.op_core.specs.Ids.{is_number}
use Rattle.bundle_codec.proofs.judging.ids.made.Goals as goal

pub made_name-requires : goal.made_name-requires
made_name-requires c = (and_parts (is_number c.args.id.now.number) (is_name c.args.id.now.name.now) c.requires).1
