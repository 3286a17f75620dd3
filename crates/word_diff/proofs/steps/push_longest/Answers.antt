use Rattle.std.proofs.Common.{◌≡◌, ℕ, ◌+◌, ◌-◌, ◌<◌, ◌≤◌, Bool, true, false, List, [], ◌∷◌, ◌++◌, length, take, drop, get_or, sym, ap, ◌∙◌, subst, arith, refl, inl, inr, ◌⊎◌, Bor}
use Rattle.std.proofs.lemmas.List.{map_push}
use Rattle.std.proofs.lemmas.Result.{on_ok_weaker}
use Rattle.word_diff.specs.declared.part.Kind.TheVariants.{Kept, Removed, Added}
use Rattle.word_diff.specs.declared.part.Part.{Part}
use Rattle.word_diff.specs.Parts.{Span, span, spans}
use Rattle.word_diff.specs.Steps.{AddsEach}
use Rattle.word_diff.specs.Table.{common_len}
use Rattle.word_diff.specs.Words.{same_word, texts}
use Rattle.word_diff.proofs.EndLemmas.{no_text, length-texts, end_texts, text_at}
use Rattle.word_diff.proofs.Walks.{Walked, walked_none, walked_kept, walked_removed, walked_added, walked_all}
use Rattle.word_diff.proofs.steps.push_longest.Goals as goal
use Rattle.word_diff.proofs.steps.push_longest.Goals.{then-loop-i-test+else-j-new_len, else-loop-i-test}

tested : (old new : List (Bor (List ℕ))) (i j : ℕ) (b : Bool) → i < length old → j < length new
    → same_word (get_or old i no_text).now (get_or new j no_text).now ≡ b
    → same_word (get_or (texts old) i []) (get_or (texts new) j []) ≡ b
tested old new i j b in_old in_new is = sym (λ k. same_word (text_at old i in_old k) (text_at new j in_new k)) ∙ is

-- a walk goes on by one part
pushed : (before : List Span) (items now : List Part) (part : Part) (xs ys : List (List ℕ)) (i j : ℕ) → now ≡ items ++ part ∷ []
    → Walked before (spans items ++ span part ∷ []) xs ys i j → Walked before (spans now) xs ys i j
pushed before items now part xs ys i j is w =
    subst (λ (l : List Span). Walked before l xs ys i j) (sym (ap spans is ∙ map_push span items part)) w

pub loop-i-init : goal.loop-i-init
loop-i-init c = walked_none (spans c.args.steps.now.items) (texts c.args.old.now) (texts c.args.new.now)

pub loop-i-preserved-then-eq : goal.loop-i-preserved-then-eq
loop-i-preserved-then-eq c =
    let old = c.args.old.now in
    let new = c.args.new.now in
    let i = c.loop-i.i in
    let j = c.loop-i.j in
    let part : Part = record { kind = Kept; text = get_or old i no_text } in
    pushed _ c.loop-i.steps.items c.push.new.self.items part (texts old) (texts new) (i + 1) (j + 1) c.in_ok-push.ensures.items
    (walked_kept _ _ (texts old) (texts new) i j (span part) c.loop-i.invariant
    (omega (arith, length-texts old)) (omega (arith, length-texts new))
    (tested old new i j true c.loop-i-test.true c.if-j-new_len.true (sym c.eq.ensures
    ∙ c.if-eq.true)) refl (text_at old i c.loop-i-test.true))

pub loop-i-preserved-then-len_from : goal.loop-i-preserved-then-len_from
loop-i-preserved-then-len_from c =
    let old = c.args.old.now in
    let new = c.args.new.now in
    let i = c.loop-i.i in
    let j = c.loop-i.j in
    let part : Part = record { kind = Removed; text = get_or old i no_text } in
    let no_less : common_len (drop i (texts old)) (drop (j + 1) (texts new)) ≤ common_len (drop (i + 1) (texts old)) (drop j (texts new)) =
    omega (arith, c.len_from.ensures, c.len_from-else-eq.ensures, c.if-len_from.true) in
    pushed _ c.loop-i.steps.items c.push-then-len_from.new.self.items part (texts old) (texts new) (i + 1) j c.in_ok-push-2.ensures.items
    (walked_removed _ _ (texts old) (texts new) i j (span part) c.loop-i.invariant
    (omega (arith, length-texts old)) (omega (arith, length-texts new))
    (tested old new i j false c.loop-i-test.true c.if-j-new_len.true (sym c.eq.ensures
    ∙ c.if-eq.false)) no_less refl (text_at old i c.loop-i-test.true))

pub loop-i-preserved : goal.loop-i-preserved
loop-i-preserved c =
    let old = c.args.old.now in
    let new = c.args.new.now in
    let i = c.loop-i.i in
    let j = c.loop-i.j in
    let part : Part = record { kind = Added; text = get_or new j no_text } in
    let less : common_len (drop (i + 1) (texts old)) (drop j (texts new)) < common_len (drop i (texts old)) (drop (j + 1) (texts new)) =
    omega (arith, c.len_from.ensures, c.len_from-else-eq.ensures, c.if-len_from.false) in
    pushed _ c.loop-i.steps.items c.push-else-len_from.new.self.items part (texts old) (texts new) i (j + 1) c.in_ok-push-3.ensures.items
    (walked_added _ _ (texts old) (texts new) i j (span part) c.loop-i.invariant
    (omega (arith, length-texts old)) (omega (arith, length-texts new))
    (tested old new i j false c.loop-i-test.true c.if-j-new_len.true (sym c.eq.ensures
    ∙ c.if-eq.false)) less refl (text_at new j c.if-j-new_len.true))

pub returns : goal.returns
returns c =
    let over : (length (texts c.args.old.now) ≤ c.loop-i.i) ⊎ (length (texts c.args.new.now) ≤ c.loop-i.j) = elim c.loop-i-test.branch [
      | then-loop-i-test+else-j-new_len w ↦ inr (omega (arith, w.if-j-new_len.false, length-texts c.args.new.now))
      | else-loop-i-test w ↦ inl (omega (arith, w.loop-i-test.false, length-texts c.args.old.now))
    ] in
    let old = c.args.old.now in
    let new = c.args.new.now in
    let start = spans c.args.steps.now.items in
    let walked = spans c.loop-i.steps.items in
    let removed = spans c.push_each.new.steps.items in
    let added = spans c.push_each-2.new.steps.items in
    let r : AddsEach walked removed Removed (drop c.loop-i.i (texts old)) =
    subst (AddsEach walked removed Removed) (end_texts old c.loop-i.i) c.in_ok-push_each.ensures in
    on_ok_weaker c.push_each-2.result
    (λ (a : AddsEach removed added Added (texts (take (length new - c.loop-i.j) (drop c.loop-i.j new)))).
    walked_all start walked removed added (texts old) (texts new) c.loop-i.i c.loop-i.j c.loop-i.invariant over r
    (subst (AddsEach removed added Added) (end_texts new c.loop-i.j) a))
    c.push_each-2.ensures
