use Rattle.std.proofs.Common.{◌∙◌, ap, sym, subst}
use Rattle.usfm_tree.specs.Forest.{leaves_of, bytes_of}
use Rattle.usfm_tree.specs.SheetViews.{styles_of}
use Rattle.usfm_tree.specs.Places.{Runs}
use Rattle.usfm_tree.proofs.PlaceLemmas.{tree_runs, parts_stand}
use Rattle.usfm_tree.specs.Views.{forest_of}
use Rattle.usfm_tree.proofs.LeavesLemmas.{tree_leaves, tree_bytes}
use Rattle.usfm_tree.proofs.tree.Tree.read.Goals as goal

pub invariant_of-result : goal.invariant_of-result
invariant_of-result c = record {
  stand = λ path g e. parts_stand c.args.source.now path (forest_of c.in_ok-kids.kids.items) g
      (subst (Runs 0) (sym c.in_ok-kids.ensures) (tree_runs (styles_of c.args.sheet.now) c.args.source.now))
      (ap bytes_of c.in_ok-kids.ensures ∙ tree_bytes (styles_of c.args.sheet.now) c.args.source.now) e;
  whole = ap leaves_of c.in_ok-kids.ensures ∙ tree_leaves (styles_of c.args.sheet.now) c.args.source.now;
}

pub returns-clause-leaves : goal.returns-clause-leaves
returns-clause-leaves c = ap bytes_of c.in_ok-kids.ensures ∙ tree_bytes (styles_of c.args.sheet.now) c.args.source.now

pub returns-clause-runs : goal.returns-clause-runs
returns-clause-runs c = subst (Runs 0) (sym c.in_ok-kids.ensures) (tree_runs (styles_of c.args.sheet.now) c.args.source.now)
