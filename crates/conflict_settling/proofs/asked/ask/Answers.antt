use Rattle.std.proofs.Common.{◌++◌, Bor, List, map, ap, subst, ◌∙◌}
use Rattle.usfm_ref.specs.Segments.{segment}
use Rattle.op_core.specs.Ops.{Operation, own_text}
use Rattle.op_core.specs.Lists.{ids_of}
use Rattle.conflict_report.specs.Reports.{distinct_texts, repeated_texts}
use Rattle.conflict_settling.specs.Asked.{IsQuestionOf}
use Rattle.conflict_settling.proofs.Joined.{ids_now, texts_now}
use Rattle.conflict_settling.proofs.asked.ask.Goals as goal

pub returns : goal.returns
returns c =
    let shown = c.in_ok-shown.shown in
    let g = segment c.args.book c.args.key in
    let held = c.cursor.ensures ∙ c.set.ensures in
    let d = c.in_ok-shown.ensures.distinct ∙ ap (λ (ops : List Operation). distinct_texts ops g) held in
    let r = c.in_ok-shown.ensures.repeated ∙ ap (λ (ops : List Operation). repeated_texts ops g) held in
    record {
      segment = λ i. g;
      ids = c.in_ok-ids.ensures ∙ (λ i. ids_now shown.distinct.items i ++ ids_now shown.repeated.items i)
          ∙ (λ i. ids_of (d i) ++ ids_of (r i));
      texts = c.in_ok-texts.ensures
          ∙ ap (λ (ops : List (Bor Operation)). map (λ op. own_text op.now) ops) c.deref.ensures.value
          ∙ texts_now shown.distinct.items ∙ ap (λ (ops : List Operation). map own_text ops) d;
      question = subst (λ (ops : List Operation). IsQuestionOf c.args.replica.now.held g c.args.left c.args.manner ops
          (repeated_texts c.args.replica.now.held g) c.in_ok-question.question.items) d
          (subst (λ (ops : List Operation). IsQuestionOf c.args.replica.now.held g c.args.left c.args.manner
          (map (λ op. op.now) shown.distinct.items) ops c.in_ok-question.question.items) r c.in_ok-question.ensures);
    }
