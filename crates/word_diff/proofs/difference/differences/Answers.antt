use Rattle.std.proofs.Common.{◌≡◌, ℕ, Bool, List, [], ◌∷◌, ◌++◌, sym, refl, ap, ◌∙◌}
use Rattle.std.specs.Global.{Vec}
use Rattle.std.specs.List.{flat_map}
use Rattle.std.proofs.lemmas.Result.{IfOk-weaker}
use Rattle.word_diff.specs.declared.part.Kind.{Kind}
use Rattle.word_diff.specs.declared.part.Part.{Part}
use Rattle.word_diff.specs.Joins.{Joins}
use Rattle.word_diff.specs.Kinds.{is_new, is_old}
use Rattle.word_diff.specs.Parts.{Span, spans, texts_of, words_by}
use Rattle.word_diff.specs.Words.{joined, texts, words_of}
use Rattle.word_diff.proofs.WordLaws.{joined-append, joined-words_of}
use Rattle.word_diff.proofs.difference.differences.Goals as goal

-- texts join to what their words join to
words_join : (list : List (List ℕ)) → joined (flat_map words_of list) ≡ joined list
words_join [] = refl
words_join (t ∷ ts) = joined-append (words_of t) (flat_map words_of ts) ∙ (λ i. joined-words_of t i ++ words_join ts i)

-- a side's parts join to its text where they are made of its words
side_joins : (p : Kind → Bool) (parts : List Span) (text : List ℕ) → words_by p parts ≡ words_of text → joined (texts_of p parts) ≡ text
side_joins p parts text are = sym (words_join (texts_of p parts)) ∙ ap joined are ∙ joined-words_of text

pub returns-clause-old_text : goal.returns-clause-old_text
returns-clause-old_text c =
    IfOk-weaker c.join_neighbours.result _ _
    (λ (list : Vec Part) (is : Joins (spans list.items) (spans c.deref-3.result.now)). side_joins is_old (spans list.items) c.args.old.now
    (is.old ∙ ap (λ (l : List Part). texts_of is_old (spans l)) c.deref-3.ensures.value ∙ c.in_ok-steps.ensures.old
    ∙ ap texts c.deref.ensures.value ∙ c.in_ok-old_words.ensures))
    c.join_neighbours.ensures

pub returns-clause-new_text : goal.returns-clause-new_text
returns-clause-new_text c =
    IfOk-weaker c.join_neighbours.result _ _
    (λ (list : Vec Part) (is : Joins (spans list.items) (spans c.deref-3.result.now)). side_joins is_new (spans list.items) c.args.new.now
    (is.new ∙ ap (λ (l : List Part). texts_of is_new (spans l)) c.deref-3.ensures.value ∙ c.in_ok-steps.ensures.new
    ∙ ap texts c.deref-2.ensures.value ∙ c.in_ok-new_words.ensures))
    c.join_neighbours.ensures
