use Rattle.std.proofs.Common.{◌∙◌, ◌+◌, ◌++◌, List, ℕ, Vec, Global, true, false, cond, refl, sym, ap}
use Rattle.missing_verses.specs.Lines.{run_line, is_set}
use Rattle.missing_verses.proofs.Below.{below_none, append_none}
use Rattle.missing_verses.proofs.Runs.{first_more, lines_more}
use Rattle.missing_verses.proofs.lines.push_runs.Goals.{then-ends_run+in_ok-push_run, else-ends_run}
use Rattle.missing_verses.proofs.lines.push_runs.Goals as goal

pub loop-number-init : goal.loop-number-init
loop-number-init c =
    let f = run_line c.args.word.now c.args.chapter.now.book c.args.chapter.now.number c.args.flags.now in
    let bytes = c.args.bytes.now.items in
    (refl, sym (ap (λ (xs : List ℕ). bytes ++ xs) (below_none f) ∙ append_none bytes))

pub loop-number-preserved : goal.loop-number-preserved
loop-number-preserved c =
    let word = c.args.word.now in
    let chapter = c.args.chapter.now in
    let flags = c.args.flags.now in
    let n = c.loop-number.number in
    let old = c.loop-number.bytes.items in
    let inv = c.loop-number.invariant in
    let more = lines_more word chapter.book chapter.number flags n c.loop-number.first in (
      c.first_after-first.ensures ∙ ap (λ k. cond (is_set flags n) k (n + 1)) inv.0 ∙ sym (first_more flags n),
      elim c.if-ends_run.branch [
        | then-ends_run+in_ok-push_run w ↦
            more true (sym w.if-ends_run.true ∙ c.ends_run.ensures) inv.0 c.args.bytes.now.items old _ inv.1
            (ap (λ (b : Vec ℕ Global). b.items) w.bytes-is ∙ w.in_ok-push_run.ensures)
        | else-ends_run w ↦
            more false (sym w.if-ends_run.false ∙ c.ends_run.ensures) inv.0 c.args.bytes.now.items old _ inv.1
            (ap (λ (b : Vec ℕ Global). b.items) w.bytes-is ∙ sym (append_none old))
      ],
    )
