use Rattle.std.proofs.Common.{length, ◌∙◌, ap, map, drop, ◌∷◌, ◌-◌, List, sym, take_all}
use Rattle.std.proofs.Common.{length-drop, arith}
use Rattle.concordance.specs.Hits.{HitParts, keyed}
use Rattle.concordance.specs.Loops.LeafViews.{passages_view, pieces_left}
use Rattle.concordance.proofs.KeyedLemmas.{keyed_step}
use Rattle.concordance.specs.declared.passage.Passage.{Passage}
use Rattle.concordance.proofs.keyed.KeyedIterator.next.Goals as goal

pub returns-clause-steps : goal.returns-clause-steps
returns-clause-steps c =
    keyed_step (pieces_left c.args.self.now.places)
    (pieces_left c.key_at-key.new.self) c.args.self.now.passages.now c.in_ok-start.field-0.now c.key_at-key.result
    c.in_ok-start.ensures.item.3.0 c.in_ok-start.ensures.item.1 c.args.self.now.held c.key_at-key.ensures.same c.key_at-key.ensures.value
    ∙ ap (λ (l : List Passage).
    (let one : HitParts = record {
      key = c.key_at-key.result;
      start = c.in_ok-start.field-0.now.start;
      text = c.in_ok-start.field-0.now.text.now;
    }
    in one)
    ∷ map (keyed (pieces_left c.key_at-key.new.self)) (passages_view l))
    (sym (take_all (length c.args.self.now.passages.now - 1) (drop 1 c.args.self.now.passages.now)
    (let l = length-drop 1 c.args.self.now.passages.now in omega arith)))
