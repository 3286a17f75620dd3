use Rattle.std.proofs.Common.{◌≡◌, ◌∙◌, ◌++◌, ◌+◌, ℕ, List, All, map, sym, ap, subst, refl, length}
use Rattle.std.proofs.Common.{slice_range, IsUtf8}
use Rattle.std.specs.Str.{IsCharBoundary}
use Rattle.memchr.specs.Find.{OccursAt, matches}
use Rattle.memchr.proofs.lemmas.CallerLemmas.{All-matches}
use Rattle.concordance.specs.Passages.{Passage}
use Rattle.concordance.specs.Loops.LeafViews.{passages_view}
use Rattle.concordance.proofs.Occurring.{boundary_before, boundary_after, one_more, head_occurs}
use Rattle.concordance.proofs.Occurring.{tail_occurs}
use Rattle.concordance.proofs.finding.push_occurrences.Goals as goal

pub loop-at-init : goal.loop-at-init
loop-at-init c =
    let its : c.into_iter-at-iterator.result ≡ matches c.args.passage.text.now c.args.finder.now 0 =
    c.into_iter-at-iterator.ensures.into_iter_gives ∙ c.find_iter-at-items.ensures.value
    ∙ ap (λ l. matches l c.args.finder.now 0) c.as_bytes.ensures.value in (
      tt,
      tt,
      record {
        found =
            ap (λ l. passages_view c.args.found.now.items
            ++ map (λ at. (let one : Passage = record { start = c.args.passage.start + at; text = c.args.finder.now } in one)) l) its;
        occur =
            subst (All (OccursAt c.args.passage.text.now c.args.finder.now)) (sym its)
            (All-matches c.args.passage.text.now c.args.finder.now 0);
      },
    )

pub part-text-requires-clause-start : goal.part-text-requires-clause-start
part-text-requires-clause-start c =
    boundary_before c.args.passage.text.now c.args.finder.now c.in-Some.at
    (subst IsUtf8 c.as_bytes.ensures.value c.as_bytes.ensures.utf8) c.requires.utf8 c.requires.some
    (head_occurs c.args.passage.text.now c.args.finder.now c.loop-at.at-iterator c.next.new.self c.in-Some.at
    c.in-Some.ensures.steps c.loop-at.invariant.2.occur)

pub part-text-requires-clause-end : goal.part-text-requires-clause-end
part-text-requires-clause-end c =
    subst (λ (n : List ℕ). IsCharBoundary c.args.passage.text.now (c.in-Some.at + length n)) (sym c.needle-len.ensures)
    (boundary_after c.args.passage.text.now c.args.finder.now c.in-Some.at
    (subst IsUtf8 c.as_bytes.ensures.value c.as_bytes.ensures.utf8) c.requires.utf8 c.requires.some
    (head_occurs c.args.passage.text.now c.args.finder.now c.loop-at.at-iterator c.next.new.self c.in-Some.at
    c.in-Some.ensures.steps c.loop-at.invariant.2.occur))

pub loop-at-preserved : goal.loop-at-preserved
loop-at-preserved c = (
  tt,
  tt,
  record {
    found =
        one_more c.args.passage.start c.in-Some.at c.args.passage.text.now c.args.finder.now c.loop-at.found.items
        c.push.new.self.items _ c.loop-at.at-iterator c.next.new.self _ c.in_ok-push.ensures.items c.in-Some.ensures.steps
        (head_occurs c.args.passage.text.now c.args.finder.now c.loop-at.at-iterator c.next.new.self c.in-Some.at
        c.in-Some.ensures.steps c.loop-at.invariant.2.occur)
        refl
        (c.part-text.ensures ∙ ap
        (λ (n : List ℕ). slice_range c.args.passage.text.now c.in-Some.at (c.in-Some.at + length n)) c.needle-len.ensures)
        c.loop-at.invariant.2.found;
    occur =
        tail_occurs c.args.passage.text.now c.args.finder.now c.loop-at.at-iterator c.next.new.self c.in-Some.at
        c.in-Some.ensures.steps c.loop-at.invariant.2.occur;
  },
)
