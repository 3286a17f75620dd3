use Rattle.std.proofs.Common.{◌++◌, Bor, List, map, sym, ap, subst, ◌∙◌}
use Rattle.std.specs.List.{flat_map}
use Rattle.std.proofs.lemmas.List.Folds.{flat_map-map}
use Rattle.usfm_ref.specs.Segments.{segment}
use Rattle.op_core.specs.Ops.{Operation}
use Rattle.op_core.specs.Shown.{Pick, pick}
use Rattle.conflict_settling.specs.Before.{text_before}
use Rattle.conflict_settling.specs.Entries.{EntryView, AreEntriesOf, views}
use Rattle.conflict_settling.specs.Filled.{HeldBook}
use Rattle.conflict_settling.specs.Questions.{head_line, before_lines, entry_lines, repeated_line, choice_line}
use Rattle.conflict_settling.proofs.Joined.{five}
use Rattle.conflict_settling.proofs.asked.question_of.Goals as goal

pub returns : goal.returns
returns c =
    let g = segment c.args.book c.args.key in
    let held = c.args.replica.now.held in
    let entries = c.in_ok-entries.entries.items in
    let lines = λ (p : Pick) (es : List EntryView). flat_map (entry_lines c.args.manner p) es in
    let distinct = map (λ op. op.now) c.args.shown.now.distinct.items in
    let numbered = c.in_ok-numbers.ensures ∙ c.deref-3.ensures.value in
    record {
      entries = views entries;
      are = subst (λ (ops : List (Bor Operation)). AreEntriesOf (map (λ op. op.now) ops) (views entries)) c.deref.ensures.value
          c.in_ok-entries.ensures;
      bytes_are = five c.new-bytes.result.items c.push_head.new.bytes.items c.push_before.new.bytes.items
          c.push_entries.new.bytes.items c.push_repeated.new.bytes.items c.push_choice.new.bytes.items
          (head_line g c.args.left) (before_lines (text_before held g)) (lines (pick held g) (views entries))
          (flat_map (repeated_line distinct) (map (λ op. op.now) c.args.shown.now.repeated.items)) choice_line
          c.new-bytes.ensures.items c.in_ok-push_head.ensures
          (c.in_ok-push_before.ensures
          ∙ ap (λ text. c.push_head.new.bytes.items ++ before_lines text)
          (c.before-2.ensures ∙ ap (λ (t : HeldBook). text_before t.held (segment t.book c.args.key)) c.in_ok-texts.ensures))
          (c.in_ok-push_entries.ensures
          ∙ (λ i. c.push_before.new.bytes.items ++ lines (c.pick.ensures i) (views (c.deref-2.ensures.value i))))
          (c.in_ok-push_repeated.ensures
          ∙ (λ i. c.push_entries.new.bytes.items
          ++ flat_map (λ op. repeated_line (map (λ op. op.now) (numbered i)) op.now) (c.deref-4.ensures.value i))
          ∙ ap (λ bytes. c.push_entries.new.bytes.items ++ bytes)
          (sym (flat_map-map (repeated_line distinct) (λ op. op.now) c.args.shown.now.repeated.items)))
          c.in_ok-push_choice.ensures;
    }
