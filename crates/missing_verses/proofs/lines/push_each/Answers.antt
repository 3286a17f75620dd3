use Rattle.std.proofs.Common.{◌∙◌, ◌++◌, List, ℕ, Vec, Global, true, false, sym, ap}
use Rattle.missing_verses.specs.Lines.{verse_line}
use Rattle.missing_verses.proofs.Below.{below_none, append_none}
use Rattle.missing_verses.proofs.Runs.{single_more}
use Rattle.missing_verses.proofs.lines.push_each.Goals.{then-is_set+in_ok-push_run, else-is_set}
use Rattle.missing_verses.proofs.lines.push_each.Goals as goal

pub loop-number-init : goal.loop-number-init
loop-number-init c =
    let f = verse_line c.args.word.now c.args.chapter.now.book c.args.chapter.now.number c.args.flags.now in
    let bytes = c.args.bytes.now.items in
    sym (ap (λ (xs : List ℕ). bytes ++ xs) (below_none f) ∙ append_none bytes)

pub loop-number-preserved : goal.loop-number-preserved
loop-number-preserved c =
    let chapter = c.args.chapter.now in
    let n = c.loop-number.number in
    let old = c.loop-number.bytes.items in
    let more = single_more c.args.word.now chapter.book chapter.number c.args.flags.now n in
    elim c.if-is_set.branch [
      | then-is_set+in_ok-push_run w ↦
          more true (sym w.if-is_set.true ∙ c.is_set.ensures) c.args.bytes.now.items old _ c.loop-number.invariant
          (ap (λ (b : Vec ℕ Global). b.items) w.bytes-is ∙ w.in_ok-push_run.ensures)
      | else-is_set w ↦
          more false (sym w.if-is_set.false ∙ c.is_set.ensures) c.args.bytes.now.items old _ c.loop-number.invariant
          (ap (λ (b : Vec ℕ Global). b.items) w.bytes-is ∙ sym (append_none old))
    ]
