use Rattle.std.proofs.Common.{◌≡◌, ℕ, ◌++◌, ◌∷◌, [], List, take, get_or, sym, ap, ◌∙◌, arith, append_assoc}
use Rattle.std.proofs.lemmas.List.{map_push, map_more}
use Rattle.word_diff.specs.declared.part.Part.{Part}
use Rattle.word_diff.specs.Parts.{Span, span, spans}
use Rattle.word_diff.specs.Words.{texts}
use Rattle.word_diff.proofs.EndLemmas.{no_text, length-texts, text_at}
use Rattle.word_merge.specs.Steps.{each}
use Rattle.word_merge.proofs.both.push_each.Goals as goal

pub loop-text-preserved : goal.loop-text-preserved
loop-text-preserved c =
    let words = c.args.words.now in
    let ws = texts words in
    let i = c.loop-text.text-index in
    let kind = c.args.kind in
    let before = spans c.args.made.now.items in
    let part : Part = record { kind = kind; text = get_or words i no_text } in
    let here : span part ≡ record { kind = kind; bytes = get_or ws i [] } = ap (λ (w : List ℕ). record { kind = kind; bytes = w })
    (text_at words i c.loop-text-test.true) in
    ap spans c.in_ok-push.ensures.items ∙ map_push span c.loop-text.made.items part
    ∙ (λ k. c.loop-text.invariant k ++ here k ∷ [])
    ∙ append_assoc before (each kind (take i ws)) (record { kind = kind; bytes = get_or ws i [] } ∷ [])
    ∙ ap (λ (l : List Span). before ++ l)
    (sym (map_more (λ (w : List ℕ). record { kind = kind; bytes = w }) ws i [] (omega (arith, length-texts words, c.loop-text-test.true))))
