use Rattle.std.proofs.Common.{rules, ◌≡◌, ◌∙◌, refl, ap, sym, subst, arith, All, [], map, length}
use Rattle.std.specs.List.{flat_map}
use Rattle.std.proofs.lemmas.List.{nil_from_length}
use Rattle.std.proofs.lemmas.Iterator.Consumers.{YieldsList-from_first, map_from_collect}
use Rattle.sty_sheet.specs.Views.{records_of}
use Rattle.verse_cut.specs.Pieces.{pieces_of}
use Rattle.verse_cut.specs.Views.{pieces_view}
use Rattle.concordance.specs.Hits.{keyed, occurrences, hits_of}
use Rattle.concordance.specs.Loops.KeyedViews.{hits_left}
use Rattle.concordance.specs.Plain.{plain_leaves}
use Rattle.concordance.specs.Loops.Reading.{EndsWithin, hold_all}
use Rattle.concordance.specs.Loops.LeafViews.{passages_view}
use Rattle.concordance.specs.Views.{hit_view}
use Rattle.concordance.proofs.Holding.{all_fit, pieces_hold, found_apart, found_filled}
use Rattle.concordance.proofs.Absent.{no_hits}
use Rattle.concordance.proofs.Standing.{leaves_apart}
use Rattle.concordance.proofs.finding.hits_of.Goals.{After-deref-3}
use Rattle.concordance.proofs.finding.hits_of.Goals as goal

pub occurrences-requires-clause-fit : goal.occurrences-requires-clause-fit
occurrences-requires-clause-fit c =
    subst (All EndsWithin) (sym (ap passages_view c.deref.ensures.value ∙ c.in_ok-leaves.ensures))
    (all_fit c.args.text.now 0 (length c.args.text.now) (plain_leaves (records_of c.args.sheet.now) c.args.text.now)
    (leaves_apart (records_of c.args.sheet.now) c.args.text.now) (omega arith))

found : (c : After-deref-3) → passages_view c.deref-2.result.now
    ≡ flat_map (occurrences c.args.needle.now) (plain_leaves (records_of c.args.sheet.now) c.args.text.now)
found c =
    ap passages_view c.deref-2.ensures.value ∙ c.in_ok-found.ensures
    ∙ ap (flat_map (occurrences c.args.needle.now)) (ap passages_view c.deref.ensures.value ∙ c.in_ok-leaves.ensures)

pub new-requires-2 : goal.new-requires-2
new-requires-2 c =
    let sheet = records_of c.args.sheet.now in
    (λ i. hold_all (pieces_view (c.deref-3.ensures.value i)) (found c i))
    ∙ pieces_hold c.args.text.now (pieces_view c.in_ok-pieces.pieces.items) _ c.in_ok-pieces.ensures.cut
    (found_apart sheet c.args.text.now c.args.needle.now c.requires.some)
    (found_filled sheet c.args.text.now c.args.needle.now c.requires.some)

pub returns-then-not-occurs-clause-hits : goal.returns-then-not-occurs-clause-hits
returns-then-not-occurs-clause-hits c =
    ap (map hit_view) c.new.ensures.items
    ∙ no_hits c.args.text.now c.args.needle.now c.requires.some (c.if-not-occurs.ensures.no refl) (records_of c.args.sheet.now)

pub returns-then-is_empty-clause-hits : goal.returns-then-is_empty-clause-hits
unfolding hits_of
returns-then-is_empty-clause-hits c =
    let none : c.in_ok-found.found.items ≡ [] = nil_from_length c.in_ok-found.found.items (search rules) in
    ap (map hit_view) c.new-then-is_empty.ensures.items
    ∙ ap (λ ps. map (keyed (pieces_of c.args.text.now)) (passages_view ps)) (sym none)
    ∙ ap (map (keyed (pieces_of c.args.text.now)))
    (c.in_ok-found.ensures ∙ ap (flat_map (occurrences c.args.needle.now))
    (ap passages_view c.deref.ensures.value ∙ c.in_ok-leaves.ensures))

pub returns-clause-hits : goal.returns-clause-hits
unfolding hits_of
returns-clause-hits c =
    map_from_collect _ c.collect.ensures.ran (YieldsList-from_first hit_view hits_left _ (c.new-2.ensures
    ∙ (λ i. map (keyed ((ap pieces_view c.deref-3.ensures.value ∙ c.in_ok-pieces.ensures.value) i))
    (found (goal.at.returns-clause-hits c).After-deref-3 i))))
