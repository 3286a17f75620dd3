use Rattle.std.proofs.Common.{sym}
use Rattle.usfm_token.proofs.Walk.{boundary_at_rest}
use Rattle.verse_cut.specs.Loops.Walks.{read_of}
use Rattle.verse_cut.proofs.cutter.before.Goals as goal

pub split_at-requires : goal.split_at-requires
split_at-requires c =
    boundary_at_rest c.args.from.now (read_of c.args.from.now c.args.rest.now) c.args.rest.now (sym c.requires) c.utf8.rest
