use Rattle.std.proofs.Common.{◌≡◌, ◌∙◌, ap, sym, subst, arith, All, List, map, length}
use Rattle.std.specs.List.{flat_map}
use Rattle.std.specs.Prelude.{IfOk}
use Rattle.sty_sheet.specs.Views.{records_of}
use Rattle.verse_cut.specs.Pieces.{pieces_of}
use Rattle.verse_cut.specs.Views.{pieces_view}
use Rattle.concordance.specs.Loops.Groups.{all_spellings, composed}
use Rattle.concordance.specs.Loops.KeyedViews.{hits_left, spelled}
use Rattle.concordance.specs.Plain.{plain_leaves}
use Rattle.concordance.specs.Loops.Reading.{EndsWithin, IsText, hold_all}
use Rattle.concordance.specs.Loops.LeafViews.{passages_view}
use Rattle.concordance.specs.Words.{WordParts, runs_in, spelling_at, words_in, words_of}
use Rattle.concordance.proofs.Holding.{all_fit, pieces_hold}
use Rattle.concordance.proofs.RunPlaces.{all_runs_apart, all_runs_filled, runs_spelled}
use Rattle.concordance.proofs.Standing.{leaves_apart}
use Rattle.concordance.proofs.WordLists.{composed_same, words_same}
use Rattle.concordance.proofs.listing.words.Goals.{After-deref-3}
use Rattle.concordance.proofs.listing.words.Goals as goal

pub runs-requires : goal.runs-requires
runs-requires c =
    subst (All EndsWithin) (sym (ap passages_view c.deref.ensures.value ∙ c.in_ok-leaves.ensures))
    (all_fit c.args.text.now 0 (length c.args.text.now) (plain_leaves (records_of c.args.sheet.now) c.args.text.now)
    (leaves_apart (records_of c.args.sheet.now) c.args.text.now) (omega arith))

leaves : (c : After-deref-3) → passages_view c.deref.result.now ≡ plain_leaves (records_of c.args.sheet.now) c.args.text.now
leaves c = ap passages_view c.deref.ensures.value ∙ c.in_ok-leaves.ensures

found : (c : After-deref-3) → passages_view c.deref-2.result.now
    ≡ flat_map runs_in (plain_leaves (records_of c.args.sheet.now) c.args.text.now)
found c = ap passages_view c.deref-2.ensures.value ∙ c.in_ok-runs.ensures.runs ∙ ap (flat_map runs_in) (leaves c)

pub new-requires : goal.new-requires
new-requires c =
    let sheet = records_of c.args.sheet.now in
    (λ i. hold_all (pieces_view (c.deref-3.ensures.value i)) (found c i))
    ∙ pieces_hold c.args.text.now (pieces_view c.in_ok-pieces.pieces.items) _ c.in_ok-pieces.ensures.cut
    (all_runs_apart sheet c.args.text.now (subst (All IsText) (leaves c) c.in_ok-runs.ensures.text))
    (all_runs_filled (plain_leaves sheet c.args.text.now))

pub returns : goal.returns
unfolding words_of
returns c =
    let at = (goal.at.returns c).After-deref-3 in
    let sheet = records_of c.args.sheet.now in
    let text = c.args.text.now in
    let hits = map spelled (hits_left c.new.result) in
    let spelled_all : map composed hits ≡ map (spelling_at (pieces_of text)) (flat_map runs_in (plain_leaves sheet text)) =
    ap (λ h. map composed (map spelled h)) c.new.ensures
    ∙ runs_spelled (pieces_view c.deref-3.result.now) (passages_view c.deref-2.result.now)
    ∙ (λ i. map (spelling_at ((ap pieces_view c.deref-3.ensures.value ∙ c.in_ok-pieces.ensures.value) i)) (found at i)) in
    let all : words_in (all_spellings c.in_ok-sorted.sorted.entries) ≡ words_of sheet text =
    sym (words_same (map composed hits) (all_spellings c.in_ok-sorted.sorted.entries)
    (λ s. composed_same hits (all_spellings c.in_ok-by_run.by_run.entries) c.in_ok-by_run.ensures.spells s
    ∙ c.in_ok-groups.ensures.spells s ∙ c.in_ok-sorted.ensures.spells s))
    ∙ ap words_in spelled_all in
    subst (λ (ws : List WordParts). IfOk c.words_in.result (λ words. words.items ≡ ws)) all c.words_in.ensures
