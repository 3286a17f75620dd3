use Rattle.std.proofs.Common.{◌≡◌, ◌<◌, ◌&&◌, true, false, not, List, length, take, get_or, arith, sym, ap, ◌∙◌}
use Rattle.std.specs.Prelude.{slice_set, slice_index_or}
use Rattle.std.specs.List.{list_any}
use Rattle.std.proofs.lemmas.List.{get_or_default, length-take}
use Rattle.op_core.specs.Ids.{same_id, ids_rise}
use Rattle.op_core.specs.Ops.{Operation, is_full, bare}
use Rattle.op_core.specs.Loops.Index.{register_of, shown_in}
use Rattle.op_core.specs.Thinned.{is_past, is_left_out, thinned_in}
use Rattle.op_core.proofs.Indexed.Kept.{shown_ids_rise}
use Rattle.op_core.proofs.ThinnedSets.Past.{walk_get, walk_length, walk_past, walk_stays, told_past, counts_more, counts_same, counts_within}
use Rattle.op_core.proofs.index.leave_past.Goals.{then-is_past+then-leave_text, else-is_past, else-is_past-via-then-is_past+else-leave_text, else-is_past-via-else-is_past}
use Rattle.op_core.proofs.index.leave_past.Goals as goal

pub is_past-requires-clause-rising : goal.is_past-requires-clause-rising
is_past-requires-clause-rising c =
    let g = (slice_index_or c.loop-i.ops c.loop-i.i c.index-ops-i.result).segment in
    ap ids_rise (c.requires.index.keeps.shown g) ∙ shown_ids_rise c.args.ops.now g c.requires.set.rising

pub overflow_add-count : goal.overflow_add-count
overflow_add-count c =
    let within = counts_within (is_left_out c.args.ops.now) (take c.loop-i.i c.args.ops.now) in
    let e = c.loop-i.invariant.count in
    let long = length-take c.loop-i.i c.args.ops.now in
    omega (arith, within, e, long)

pub loop-i-preserved : goal.loop-i-preserved
loop-i-preserved c =
    let s = c.args.ops.now in
    let i = c.loop-i.i in
    let o = c.index-ops-i.result in
    let h = c.loop-i.invariant.ops in
    let lt : i < length s = c.loop-i-test.true in
    let at : o ≡ get_or s i o = c.index-ops-i.is ∙ ap (λ (xs : List Operation). get_or xs i o) h ∙ walk_get (thinned_in s) s i o lt in
    let past = told_past s c.args.chapters.now i o c.is_past.result c.requires.set.rising c.requires.index lt at
    (c.is_past.ensures ∙ ap (λ (p : Operation). not (list_any (same_id p.id) (shown_in (register_of p.segment c.args.chapters.now))))
    (sym c.index-ops-i.is)) in
    let long = walk_length s c.loop-i.ops i h in
    let lt' : i < length c.loop-i.ops = omega (arith, lt, long) in
    elim c.if-is_past.branch [
      | then-is_past+then-leave_text w ↦
          let same : get_or c.loop-i.ops i w.index-ops-i-then-is_past.result ≡ o =
          get_or_default c.loop-i.ops i w.index-ops-i-then-is_past.result o lt'
          ∙ sym c.index-ops-i.is in
          let p : is_past s o ≡ true = sym past ∙ w.if-is_past.true in
          let f : is_full o ≡ true = ap is_full (sym same) ∙ sym w.leave_text.ensures.was ∙ w.if-leave_text.true in
          record {
            ops = w.ops-is ∙ ap (slice_set c.loop-i.ops i) (w.leave_text.ensures.bare ∙ ap bare same)
                ∙ walk_past s c.loop-i.ops i o lt at p h;
            count = w.count-is ∙ counts_more s i o c.loop-i.count lt at (λ j. p j && f j) c.loop-i.invariant.count;
          }
      | else-is_past w ↦ elim w.else-is_past.branch [
        | else-is_past-via-then-is_past+else-leave_text v ↦
            let same : get_or c.loop-i.ops i v.index-ops-i-then-is_past.result ≡ o =
            get_or_default c.loop-i.ops i v.index-ops-i-then-is_past.result o lt'
            ∙ sym c.index-ops-i.is in
            let p : is_past s o ≡ true = sym past ∙ v.if-is_past.true in
            let f : is_full o ≡ false = ap is_full (sym same) ∙ sym v.leave_text.ensures.was ∙ v.if-leave_text.false in
            record {
              ops = w.ops-is ∙ v.ops-is ∙ ap (slice_set c.loop-i.ops i) (v.leave_text.ensures.bare ∙ ap bare same)
                  ∙ walk_past s c.loop-i.ops i o lt at p h;
              count = w.count-is ∙ counts_same s i o c.loop-i.count lt at (λ j. p j && f j) c.loop-i.invariant.count;
            }
        | else-is_past-via-else-is_past v ↦
            let p : is_past s o ≡ false = sym past ∙ v.if-is_past.false in
            record {
              ops = w.ops-is ∙ v.ops-is ∙ walk_stays s c.loop-i.ops i o lt at p h;
              count = w.count-is ∙ counts_same s i o c.loop-i.count lt at (ap (λ b. b && is_full o) p) c.loop-i.invariant.count;
            }
      ]
    ]
