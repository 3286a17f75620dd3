use Rattle.std.proofs.Common.{◌<◌, ◌∷◌, [], ◌++◌, ◌∙◌, ap, sym, List, ℕ, length, get_or, map, arith}
use Rattle.std.specs.List.{count_by}
use Rattle.usfm_ref.specs.Books.{same_bytes}
use Rattle.usfm_ref.specs.Rising.{rises_by}
use Rattle.usfm_ref.proofs.Sorted.{rises-rising}
use Rattle.op_core.specs.Names.{name_cmp}
use Rattle.project_status.specs.declared.makers.Maker.{Maker}
use Rattle.project_status.proofs.Names.{name_total, maker_more}
use Rattle.project_status.proofs.makers.makers_of.Goals as goal

pub counts-requires : goal.counts-requires
counts-requires c =
    ap (rises_by name_cmp (λ (n : List ℕ). n)) (c.deref.ensures.value ∙ c.in_ok-once.ensures)
    ∙ rises-rising name_cmp name_total c.args.names.now

pub loop-place-preserved : goal.loop-place-preserved
loop-place-preserved c =
    let names = c.args.names.now in
    let once = c.in_ok-once.once.items in
    let place = c.loop-place.place in
    let name = c.index.result.now in
    let n = c.index-in-loop-place.result.now in
    let f = λ (m : List ℕ). count_by (same_bytes m) names in
    let less : place < length once = omega (arith, c.loop-place-test.true, c.len-place-end.ensures, c.in_ok-once.once.ok.0) in
    c.in_ok-push.ensures.items
    ∙ ap (λ (makers : List Maker). makers ++ record { name = name; count = n } ∷ []) c.loop-place.invariant
    ∙ sym (maker_more names once place name n less c.index.ensures
    (c.index-in-loop-place.ensures
    ∙ ap (λ (ns : List ℕ). get_or ns place n) (c.in_ok-counts.ensures ∙ ap (map f) c.deref.ensures.value)))
