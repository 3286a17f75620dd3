use Rattle.std.proofs.Common.{◌<◌, ◌∙◌, ◌++◌, ◌∷◌, [], ap, sym, subst, map, take, add-one}
use Rattle.std.proofs.lemmas.Bool.{false≢true}
use Rattle.std.proofs.lemmas.List.{map-append}
use Rattle.concordance.specs.Loops.FormViews.{form_bytes, forms_view}
use Rattle.concordance.specs.Loops.Groups.{form_at}
use Rattle.concordance.proofs.GroupSteps.{map_at}
use Rattle.concordance.proofs.listing.forms_of.Goals.{in-Some+in_ok-of+in_ok-push, in_default}
use Rattle.concordance.proofs.listing.forms_of.Goals as goal

pub loop-index-preserved : goal.loop-index-preserved
loop-index-preserved c =
    let runs = c.args.runs.now.entries in
    elim c.match-get_index.branch [
      | in-Some+in_ok-of+in_ok-push w ↦
          ap (λ fs. forms_view fs.items) w.forms-is ∙ ap forms_view w.in_ok-push.ensures.items
          ∙ map-append form_bytes c.loop-index.forms.items _
          ∙ (λ i. c.loop-index.invariant i ++ w.in_ok-of.ensures i ∷ [])
          ∙ sym (ap (λ n. map form_at (take n runs)) (add-one c.loop-index.index)
          ∙ map_at form_at runs c.loop-index.index (w.in-Some.run'.now, w.in-Some.field-0-1.now) (sym w.in-Some.ensures.entry))
      | in_default w ↦ absurd (false≢true (w.in_default.ensures.found.1
          (subst (λ n. c.loop-index.index < n) c.len-index-end.ensures.len c.loop-index-test.true)))
    ]
