use Rattle.std.proofs.Common.{◌∙◌, ap}
use Rattle.usfm_tree.specs.Forest.{part_at}
use Rattle.usfm_tree.specs.Views.{view, forest_of}
use Rattle.usfm_tree.proofs.PlaceLemmas.{found_stands}
use Rattle.usfm_tree.proofs.tree.Tree.part.Goals as goal

pub returns-clause-stands : goal.returns-clause-stands
returns-clause-stands c =
    found_stands (λ n. view n.now) c.args.self.now.source.now c.args.path.now (forest_of c.args.self.now.kids.items) c.part_in.result
    c.args.self.now.stand (c.part_in.ensures ∙ ap (λ l. part_at c.args.path.now (forest_of l)) c.as_slice.ensures.value)
