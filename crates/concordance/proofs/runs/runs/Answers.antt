use Rattle.std.proofs.Common.{◌≡◌, ◌∙◌, ◌+◌, ◌<◌, ◌++◌, List, [], ◌∷◌, ℕ, All, IsUtf8, length, take}
use Rattle.std.proofs.Common.{get_or, ap, sym, subst, append-nil}
use Rattle.std.specs.List.{flat_map}
use Rattle.std.proofs.lemmas.Grind.{flat_map-append}
use Rattle.std.proofs.lemmas.List.{map-append, take_more, take_all}
use Rattle.std.proofs.lemmas.List.Elements.{All-append, All-cons, All-nil}
use Rattle.concordance.specs.Passages as spec
use Rattle.concordance.specs.Loops.Reading.{IsText}
use Rattle.concordance.specs.Loops.LeafViews.{passage_view, passages_view}
use Rattle.concordance.specs.Words.{runs_in}
use Rattle.concordance.specs.declared.passage.Passage.{Passage}
use Rattle.concordance.proofs.Holding.{fits_at}
use Rattle.concordance.proofs.runs.runs.Goals as goal

pub push_runs-requires : goal.push_runs-requires
push_runs-requires c = fits_at c.args.passages.now c.loop-passage.passage-index _ c.requires c.loop-passage-test.true

-- one passage more
module _ (ps : List Passage) (i : ℕ) (d : Passage) (l : i < length ps) where
  one_more : passages_view (take (i + 1) ps) ≡ passages_view (take i ps) ++ passage_view (get_or ps i d) ∷ []
  one_more = ap passages_view (take_more ps i d l) ∙ map-append passage_view (take i ps) (get_or ps i d ∷ [])

  text_more : All IsText (passages_view (take i ps)) → IsUtf8 (get_or ps i d).text.now → All IsText (passages_view (take (i + 1) ps))
  text_more h u =
      subst (All IsText) (sym one_more)
      (All-append IsText (passages_view (take i ps)) (passage_view (get_or ps i d) ∷ []) h
      (All-cons IsText (passage_view (get_or ps i d)) [] u (All-nil IsText)))

  runs_more : (found found' : List spec.Passage) → found ≡ flat_map runs_in (passages_view (take i ps)) → found' ≡ found
      ++ runs_in (passage_view (get_or ps i d)) → found' ≡ flat_map runs_in (passages_view (take (i + 1) ps))
  runs_more found found' h push =
      push ∙ (λ j. h j ++ sym (append-nil (runs_in (passage_view (get_or ps i d)))) j)
      ∙ sym (ap (flat_map runs_in) one_more ∙ flat_map-append runs_in (passages_view (take i ps)) (passage_view (get_or ps i d) ∷ []))

pub loop-passage-preserved : goal.loop-passage-preserved
loop-passage-preserved c = record {
  text =
      text_more c.args.passages.now c.loop-passage.passage-index _ c.loop-passage-test.true
      c.loop-passage.invariant.text c.in_ok-push_runs.ensures.utf8;
  found =
      runs_more c.args.passages.now c.loop-passage.passage-index _ c.loop-passage-test.true (passages_view c.loop-passage.found.items)
      (passages_view c.push_runs.new.runs.items) c.loop-passage.invariant.found c.in_ok-push_runs.ensures.runs;
}

pub returns-clause-text : goal.returns-clause-text
returns-clause-text c =
    subst (λ (ps : List Passage). All IsText (passages_view ps))
    (take_all c.loop-passage.passage-index c.args.passages.now c.loop-passage-test.false) c.loop-passage.invariant.text
