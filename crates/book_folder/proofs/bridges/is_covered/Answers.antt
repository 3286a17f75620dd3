use Rattle.std.proofs.Common.{◌-◌, ◌<◌, List, None, length, slice_index_or, arith, sym, ap, ◌∙◌}
use Rattle.std.specs.Ordering.{is_le}
use Rattle.usfm_ref.specs.Keys.{KeyParts, key_cmp}
use Rattle.book_folder.proofs.BridgeLaws.{after_one, covered_at, farthest_length}
use Rattle.book_folder.proofs.bridges.is_covered.Goals as goal

pub bounds-far-before : goal.bounds-far-before
bounds-far-before c =
    let same = ap length c.requires.far ∙ farthest_length None c.args.pieces.now in
    let some = after_one c.count_before-before.result c.if-before-eq0.false in
    omega (arith, same, some, c.count_before-before.ensures.within)

pub returns : goal.returns
returns c =
    let n = c.count_before-before.result - 1 in
    let some = after_one c.count_before-before.result c.if-before-eq0.false in
    let within : n < length c.args.pieces.now = omega (arith, some, c.count_before-before.ensures.within) in
    let found = c.index-far-before.is
    ∙ ap (λ (keys : List KeyParts). slice_index_or keys n c.index-far-before.result) c.requires.far in
    c.is_up_to.ensures ∙ ap (λ k. is_le (key_cmp c.args.key k)) found
    ∙ sym (covered_at c.args.key c.args.pieces.now n c.index-far-before.result c.requires.rising
    (sym c.count_before-before.ensures.place ∙ some) within)
