use Rattle.std.proofs.Common.{◌≡◌, ◌<◌, true, false, Bool, List, ℕ, Bor, length, get_or, [], sym, ◌∙◌, arith}
use Rattle.word_diff.specs.Words.{same_word, texts}
use Rattle.word_diff.proofs.EndLemmas.{no_text, length-texts, text_at, front_more, front_stops, front_right}
use Rattle.word_diff.proofs.ends.front_len.Goals as goal

tested : (old new : List (Bor (List ℕ))) (n : ℕ) (b : Bool) → n < length old → n < length new
    → same_word (get_or old n no_text).now (get_or new n no_text).now ≡ b
    → same_word (get_or (texts old) n []) (get_or (texts new) n []) ≡ b
tested old new n b in_old in_new is = sym (λ i. same_word (text_at old n in_old i) (text_at new n in_new i)) ∙ is

pub loop-len-preserved : goal.loop-len-preserved
loop-len-preserved c =
    let old = c.args.old.now in
    let new = c.args.new.now in
    let n = c.loop-len.len in (
      omega arith,
      omega arith,
      front_more (texts old) (texts new) n _ (omega (arith, length-texts old)) (omega (arith, length-texts new))
          (tested old new n true c.loop-len-test.true c.if-len-new.true (sym c.eq.ensures ∙ c.if-eq.true)) c.loop-len.invariant.2,
    )

pub returns-else-eq : goal.returns-else-eq
returns-else-eq c =
    let old = c.args.old.now in
    let new = c.args.new.now in
    let n = c.loop-len.len in
    front_stops (texts old) (texts new) n _ (omega (arith, length-texts old)) (omega (arith, length-texts new))
    (tested old new n false c.loop-len-test.true c.if-len-new.true (sym c.eq.ensures ∙ c.if-eq.false)) c.loop-len.invariant.2

pub returns-else-len-new : goal.returns-else-len-new
returns-else-len-new c =
    front_right (texts c.args.old.now) (texts c.args.new.now) c.loop-len.len _ (omega (
      arith,
      length-texts c.args.new.now,
    )) c.loop-len.invariant.2
