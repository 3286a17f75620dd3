use Rattle.std.proofs.Common.{◌≡◌, ◌-◌, ◌<◌, true, false, Bool, List, ℕ, Bor, length, reverse, get_or, [], sym, ◌∙◌, arith}
use Rattle.std.proofs.lemmas.List.{length-reverse}
use Rattle.word_diff.specs.Words.{same_word, texts}
use Rattle.word_diff.proofs.EndLemmas.{no_text, length-texts, text_at_end, front_more, front_stops, front_right}
use Rattle.word_diff.proofs.ends.end_len.Goals as goal

tested : (old new : List (Bor (List ℕ))) (n : ℕ) (b : Bool) → n < length old → n < length new
    → same_word (get_or old (length old - 1 - n) no_text).now (get_or new (length new - 1 - n) no_text).now ≡ b
    → same_word (get_or (reverse (texts old)) n []) (get_or (reverse (texts new)) n []) ≡ b
tested old new n b in_old in_new is = sym (λ i. same_word (text_at_end old n in_old i) (text_at_end new n in_new i)) ∙ is

long : (list : List (Bor (List ℕ))) → length (reverse (texts list)) ≡ length list
long list = length-reverse (texts list) ∙ length-texts list

pub loop-len-preserved : goal.loop-len-preserved
loop-len-preserved c =
    let old = c.args.old.now in
    let new = c.args.new.now in
    let n = c.loop-len.len in (
      omega arith,
      omega arith,
      front_more (reverse (texts old)) (reverse (texts new)) n _ (omega (arith, long old)) (omega (arith, long new))
          (tested old new n true c.loop-len-test.true c.if-len-new_len.true (sym c.eq.ensures ∙ c.if-eq.true)) c.loop-len.invariant.2,
    )

pub returns-else-eq : goal.returns-else-eq
returns-else-eq c =
    let old = c.args.old.now in
    let new = c.args.new.now in
    let n = c.loop-len.len in
    front_stops (reverse (texts old)) (reverse (texts new)) n _ (omega (arith, long old)) (omega (arith, long new))
    (tested old new n false c.loop-len-test.true c.if-len-new_len.true (sym c.eq.ensures ∙ c.if-eq.false)) c.loop-len.invariant.2

pub returns-else-len-new_len : goal.returns-else-len-new_len
returns-else-len-new_len c =
    front_right (reverse (texts c.args.old.now)) (reverse (texts c.args.new.now)) c.loop-len.len _ (omega (arith, long c.args.new.now))
    c.loop-len.invariant.2
