use Rattle.std.proofs.Common.{List, ℕ, true, false, ◌==◌, IsUtf8, take, ◌≡◌, ◌∙◌, ◌∷◌, [], ◌++◌}
use Rattle.std.proofs.Common.{◌+◌, ◌-◌, ◌<◌, ap, sym, length, chars, append-nil, append_assoc}
use Rattle.std.proofs.Common.{eqb-true, false-eqb, arith, length-append}
use Rattle.std.proofs.lemmas.List.{nil_from_length, map-append}
use Rattle.usfm_token.proofs.Walk.{boundary_at_rest}
use Rattle.concordance.specs.Passages.{Passage}
use Rattle.concordance.specs.Loops.RunReading.{front_bytes}
use Rattle.concordance.specs.Words.{runs_from}
use Rattle.concordance.specs.Loops.LeafViews.{passage_view, passages_view}
use Rattle.concordance.proofs.RunLemmas.{no_more, run_some, chars_some, next_run}
use Rattle.concordance.proofs.runs.push_runs.Goals as goal

pub returns-then-is_empty-clause-runs : goal.returns-then-is_empty-clause-runs
returns-then-is_empty-clause-runs c =
    let n = c.args.passage.start + (length c.args.passage.text.now - length c.loop-at.rest.now) in
    let none =
    no_more n c.loop-at.rest.now c.after_front-at.result.now c.after_front-at.ensures.rest
    (nil_from_length _ (eqb-true _ _ (sym c.if-is_empty.ensures))) in
    sym (append-nil (passages_view c.loop-at.runs.items)) ∙ ap (λ l. passages_view c.loop-at.runs.items ++ l) (sym none)
    ∙ c.loop-at.invariant.1.runs

pub split_at-requires : goal.split_at-requires
split_at-requires c =
    boundary_at_rest c.after_front-at.result.now _ c.after_front-rest.result.now
    c.after_front-rest.ensures.front c.after_front-rest.utf8

-- a character is where a text is not empty
some : (bs : List ℕ) → false ≡ (length bs == 0) → IsUtf8 bs → 0 < length (chars bs)
some bs e u = chars_some bs u (let n = false-eqb (length bs) 0 e in omega arith)

pub loop-at-smaller : goal.loop-at-smaller
loop-at-smaller c =
    let h = some c.after_front-at.result.now c.if-is_empty.ensures c.after_front-at.utf8 in
    let n = run_some (chars c.loop-at.rest.now) (chars c.after_front-at.result.now) (sym c.after_front-at.ensures.rest) h in
    let l =
    ap length c.after_front-at.ensures.front ∙ length-append (front_bytes false (chars c.loop-at.rest.now)) c.after_front-at.result.now in
    let m =
    ap length c.after_front-rest.ensures.front
    ∙ length-append (front_bytes true (chars c.after_front-at.result.now)) c.after_front-rest.result.now in
    omega arith

pub loop-at-preserved : goal.loop-at-preserved
loop-at-preserved c =
    let h = some c.after_front-at.result.now c.if-is_empty.ensures c.after_front-at.utf8 in
    let l =
    ap length c.after_front-at.ensures.front ∙ length-append (front_bytes false (chars c.loop-at.rest.now)) c.after_front-at.result.now in
    let m =
    ap length c.after_front-rest.ensures.front
    ∙ length-append (front_bytes true (chars c.after_front-at.result.now)) c.after_front-rest.result.now in
    let next =
    next_run c.args.passage.start
    (length c.args.passage.text.now) c.loop-at.rest.now c.after_front-at.result.now c.after_front-rest.result.now
    c.loop-at.invariant.1.within
    c.after_front-at.ensures.front c.after_front-at.ensures.rest c.after_front-rest.ensures.front c.after_front-rest.ensures.rest h in
    let later =
    runs_from false (c.args.passage.start + (length c.args.passage.text.now - length c.after_front-rest.result.now))
    (chars c.after_front-rest.result.now) in
    let run : Passage =
    record {
      start = c.args.passage.start + (length c.args.passage.text.now - length c.after_front-at.result.now);
      text = take (length c.after_front-at.result.now - length c.after_front-rest.result.now) c.after_front-at.result.now;
    } in
    let all_spellings : passages_view c.push.new.self.items ≡ passages_view c.loop-at.runs.items ++ run ∷ [] =
    ap passages_view c.in_ok-push.ensures.items ∙ map-append passage_view c.loop-at.runs.items _
    ∙ ap (λ (t : List ℕ). passages_view c.loop-at.runs.items ++ (let one : Passage = record { start = run.start; text = t } in one)
    ∷ []) c.split_at.ensures.front in (
      c.after_front-rest.utf8,
      record {
        whole = c.loop-at.invariant.1.whole;
        within = let w = c.loop-at.invariant.1.within in omega arith;
        runs =
            ap (λ l. l ++ later) all_spellings ∙ append_assoc (passages_view c.loop-at.runs.items) (run ∷ []) later
            ∙ ap (λ l. passages_view c.loop-at.runs.items ++ l) (sym next) ∙ c.loop-at.invariant.1.runs;
      },
    )
