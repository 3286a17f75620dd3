use Rattle.std.proofs.Common.{◌≡◌, ◌≤◌, ◌-◌, [], drop, take, length, ap, sym, ◌∙◌, arith}
use Rattle.std.proofs.Math.ListN.{drop_of_length-le}
use Rattle.std.proofs.lemmas.List.{length-drop, take_all}
use Rattle.command_faults.specs.BookFronts as fronts
use Rattle.command_faults.proofs.book_fronts.seals_newer_bundle.Goals as goal

pub returns-in-Some : goal.returns-in-Some
returns-in-Some c =
    let front = c.args.front.now in
    let all = take_all (length front - 48) (drop 48 front) (omega (arith, length-drop 48 front)) in
    c.is_newer_bundle.ensures ∙ ap fronts.is_newer_bundle (c.in-Some.ensures.lookup.0.2 ∙ all)

pub returns-in-None : goal.returns-in-None
returns-in-None c =
    let short : length c.args.front.now ≤ 48 = omega (arith, c.in-None.ensures.lookup) in
    sym (ap fronts.is_newer_bundle (drop_of_length-le c.args.front.now short))
