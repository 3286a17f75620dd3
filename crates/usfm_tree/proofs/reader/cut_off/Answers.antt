use Rattle.std.proofs.Common.{◌≡◌, ◌-◌, ◌∙◌, ap, subst, length, arith, length-append}
use Rattle.std.proofs.lemmas.Str.{IsCharBoundary-at_seam}
use Rattle.std.specs.Str.{IsCharBoundary}
use Rattle.usfm_tree.proofs.reader.cut_off.Goals as goal

pub split_at-requires : goal.split_at-requires
split_at-requires c =
    let x = c.requires.0 in
    let len = ap length c.requires.1 ∙ length-append x c.args.rest.now in
    let place : length x ≡ length c.args.from.now - length c.args.rest.now = omega (arith, len) in
    subst (IsCharBoundary c.args.from.now) place (IsCharBoundary-at_seam c.args.from.now x c.args.rest.now c.requires.1 c.utf8.rest)
