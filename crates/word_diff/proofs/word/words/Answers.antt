use Rattle.std.proofs.Common.{◌≡◌, ◌++◌, length, sym, ap, ◌∙◌, arith}
use Rattle.std.proofs.lemmas.List.{append-nil, nil_from_length}
use Rattle.std.proofs.lemmas.Bool.Decides.{nat_tests}
use Rattle.word_diff.specs.Words.{texts, words_of}
use Rattle.word_diff.proofs.WordLemmas.{words_of-nil}
use Rattle.word_diff.proofs.WordLaws.{word_shorter}
use Rattle.word_diff.proofs.word.words.Goals as goal

pub loop-rest-smaller : goal.loop-rest-smaller
loop-rest-smaller c = word_shorter _ _ _ c.split_word.ensures

pub returns : goal.returns
returns c =
    let done : length c.loop-rest.rest.now ≡ 0 = grind (arith, nat_tests) in
    let read = texts c.loop-rest.words.items in
    sym (append-nil read) ∙ ap (λ l. read ++ l) (sym words_of-nil ∙ ap words_of (sym (nil_from_length _ done)))
    ∙ c.loop-rest.invariant.1
