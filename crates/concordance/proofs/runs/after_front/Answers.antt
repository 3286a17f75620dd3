use Rattle.std.proofs.Common.{◌≡◌, ◌∙◌, ◌∷◌, [], ap, sym, chars, subst, IsUtf8}
use Rattle.std.specs.Str.Iter.{chars_rest}
use Rattle.std.proofs.lemmas.Str.{chars_past_char, chars-nil}
use Rattle.std.proofs.lemmas.List.{nil_from_length}
use Rattle.concordance.specs.Loops.RunReading.{rest_after}
use Rattle.concordance.proofs.RunLemmas.{reads_more, like_test, unlike_test, after_more, after_none}
use Rattle.concordance.proofs.runs.after_front.Goals as goal

pub loop-c-preserved : goal.loop-c-preserved
loop-c-preserved c =
    let e = c.in-Some.ensures.steps.0 in
    let are : chars (chars_rest c.loop-c.chars) ≡ c.in-Some.c ∷ chars (chars_rest c.next.new.self) =
    chars_past_char _ (chars_rest c.next.new.self) c.in-Some.c (subst IsUtf8 c.as_str-rest.ensures c.as_str-rest.utf8) e in
    let like = like_test c.is_word_char.result c.args.is_word c.in-Some.c c.is_word_char.ensures c.if-is_word_char-is_word.true in
    record {
      front =
          reads_more c.args.is_word c.args.text.now (chars_rest c.loop-c.chars)
          (chars_rest c.next.new.self) c.in-Some.c e are like c.loop-c.invariant.front;
      after =
          sym (after_more c.args.is_word c.in-Some.c (chars (chars_rest c.next.new.self)) like) ∙ ap (rest_after c.args.is_word) (sym are)
          ∙ c.loop-c.invariant.after;
    }

pub returns-in_default-clause-rest : goal.returns-in_default-clause-rest
returns-in_default-clause-rest c =
    let e = c.in-Some.ensures.steps.0 in
    let are : chars (chars_rest c.loop-c.chars) ≡ c.in-Some.c ∷ chars (chars_rest c.next.new.self) =
    chars_past_char _ (chars_rest c.next.new.self) c.in-Some.c (subst IsUtf8 c.as_str-rest.ensures c.as_str-rest.utf8) e in
    let unlike = unlike_test c.is_word_char.result c.args.is_word c.in-Some.c c.is_word_char.ensures c.if-is_word_char-is_word.false in
    ap chars c.as_str-rest.ensures ∙ are ∙ sym (after_none c.args.is_word c.in-Some.c (chars (chars_rest c.next.new.self)) unlike)
    ∙ ap (rest_after c.args.is_word) (sym are) ∙ c.loop-c.invariant.after

pub returns-in_default-2-clause-rest : goal.returns-in_default-2-clause-rest
returns-in_default-2-clause-rest c =
    let none : chars (chars_rest c.loop-c.chars) ≡ [] = ap chars (nil_from_length _ c.in_default.ensures.steps.0.0) ∙ chars-nil in
    ap chars c.as_str-rest.ensures ∙ none ∙ ap (rest_after c.args.is_word) (sym none) ∙ c.loop-c.invariant.after
