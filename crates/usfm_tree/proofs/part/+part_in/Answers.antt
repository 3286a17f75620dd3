use Rattle.std.proofs.Common.{◌≡◌, ◌∙◌, ap, sym, arith, eqb-true, false-eqb}
use Rattle.std.specs.Prelude.{option_and_then, Some}
use Rattle.std.specs.Option.{option_map}
use Rattle.usfm_tree.specs.Forest.{entry_at, part_at, kids_of}
use Rattle.usfm_tree.specs.Views.{view, forest_of}
use Rattle.usfm_tree.proofs.PartLemmas.{entry_in, entry_past, part_one, part_more, part_none}
use Rattle.usfm_tree.proofs.part.+part_in.Goals as goal
use Rattle.usfm_tree.proofs.part.+part_in.Goals.{In_ok-node}

found : {t : _} (c : In_ok-node t) → entry_at c.in_ok-place.place.now (forest_of c.args.nodes.now) ≡ Some (view c.in_ok-node.node.now)
found c = let b = c.in_ok-node.ensures.lookup in
    entry_in c.args.nodes.now c.in_ok-place.place.now c.in_ok-node.node.now c.in_ok-node.node.now (b.3.0) b.1

pub returns-in_err-node : goal.returns-in_err-node
returns-in_err-node t c =
    ap (option_map (λ n. view n.now)) c.from_residual-in_err-node.ensures
    ∙ sym (part_none c.args.path.now c.in_ok-place.rest.now c.in_ok-place.place.now
    (forest_of c.args.nodes.now) c.in_ok-place.ensures.cases.0
    (entry_past c.args.nodes.now c.in_ok-place.place.now c.in_err-node.ensures.lookup.3))

pub returns-then-is_empty : goal.returns-then-is_empty
returns-then-is_empty t c =
    sym (part_one c.args.path.now c.in_ok-place.rest.now c.in_ok-place.place.now
    (forest_of c.args.nodes.now) c.in_ok-place.ensures.cases.0 (eqb-true _ _ (sym c.if-is_empty.ensures))
    ∙ found (goal.at.returns-then-is_empty t c).In_ok-node)

pub returns : goal.returns
returns t c =
    c.part_in.ensures ∙ ap (part_at c.in_ok-place.rest.now) c.kids.ensures
    ∙ sym (part_more c.args.path.now c.in_ok-place.rest.now c.in_ok-place.place.now
    (forest_of c.args.nodes.now) c.in_ok-place.ensures.cases.0 (omega (arith, false-eqb _ 0 c.if-is_empty.ensures))
    ∙ ap (option_and_then (λ g. part_at c.in_ok-place.rest.now (kids_of g))) (found (goal.at.returns t c).In_ok-node))
