use Rattle.std.proofs.Common.{◌≡◌, ◌<◌, ◌∙◌, [], ◌∷◌, suc, zero, ℕ, ap, sym, List, map, take}
use Rattle.std.proofs.Common.{length, slice_get, get_or, Some, add-one, arith, ◌||◌}
use Rattle.std.proofs.lemmas.Bool.{false≢true}
use Rattle.std.proofs.lemmas.List.{length-map}
use Rattle.concordance.specs.Loops.FormViews.{form_bytes}
use Rattle.concordance.specs.Loops.Groups.{Group, all_spellings, spellings_with, has_bare}
use Rattle.concordance.specs.Loops.Groups.{is_spelled, composed, form_at, SpellsBoth}
use Rattle.concordance.specs.declared.form.Form.{Form}
use Rattle.concordance.proofs.GroupSteps.{group_keyed}
use Rattle.concordance.proofs.WordLists.{composed_at, same_more}
use Rattle.concordance.proofs.listing.composed.Goals.{in-Some+in_ok-put_keys, in_default}
use Rattle.concordance.proofs.listing.composed.Goals as goal

-- forms in the places of their groups
form_here : (forms : List Form) (gs : List Group) (i : ℕ) (form : Form) (g : Group) → map form_bytes forms ≡ map form_at gs
    → i < length forms → form ≡ get_or forms i form → slice_get gs i ≡ Some g → form_bytes form ≡ form_at g
form_here [] gs i form g same below is at = absurd (omega arith)
form_here (f ∷ forms) [] i form g same below is at = cc
form_here (f ∷ forms) (h ∷ gs) zero form g same below is at =
    ap form_bytes is ∙ (let first : form_bytes f ≡ form_at h = cc in first) ∙ (let one : h ≡ g = cc in ap form_at one)
form_here (f ∷ forms) (h ∷ gs) (suc i) form g same below is at =
    form_here forms gs i form g (let rest : map form_bytes forms ≡ map form_at gs = cc in rest) (omega arith) is at

pub put_keys-requires-clause-some : goal.put_keys-requires-clause-some
put_keys-requires-clause-some c =
    let some =
    group_keyed c.args.runs.now.entries c.loop-index.index (c.in-Some.field-0-0.now, c.in-Some.keys.now) (sym c.in-Some.ensures.entry)
    c.requires.keyed in
    let same = ap length c.as_slice.ensures.value in omega arith

pub loop-index-preserved : goal.loop-index-preserved
loop-index-preserved c =
    let runs = c.args.runs.now.entries in
    let i = c.loop-index.index in
    let old = c.loop-index.groups.entries in
    elim c.match-get_index.branch [
      | in-Some+in_ok-put_keys w ↦
          (let g : Group = (w.in-Some.field-0-0.now, w.in-Some.keys.now) in
          let at = sym w.in-Some.ensures.entry in
          let form =
          w.text.ensures
          ∙ form_here c.args.forms.now runs i c.index-forms-index.result g c.requires.forms c.loop-index-test.true c.index-forms-index.is
          at in
          let also : SpellsBoth (all_spellings old) (spellings_with (form_at g) g.1.items) (all_spellings w.put_keys.new.groups.entries) =
          λ s. w.in_ok-put_keys.ensures.spells s
          ∙ (λ j. is_spelled s (all_spellings old) || is_spelled s (spellings_with (form j) (w.as_slice.ensures.value j))) in
          record {
            spells =
                λ s. ap (is_spelled s) (ap (λ n. map composed (all_spellings (take n runs))) (add-one i) ∙ composed_at runs i g at)
                ∙ same_more (map composed (all_spellings (take i runs))) (all_spellings old) (spellings_with (form_at g) g.1.items)
                (all_spellings w.put_keys.new.groups.entries) c.loop-index.invariant.spells also s
                ∙ ap (λ gs. is_spelled s (all_spellings gs.entries)) (sym w.groups-is);
            keyed = ap (λ gs. has_bare gs.entries) w.groups-is ∙ w.in_ok-put_keys.ensures.keyed;
          })
      | in_default w ↦
          (let forms = ap length c.requires.forms in
          let l = length-map c.args.forms.now form_bytes in
          let r = length-map runs form_at in
          let t = c.loop-index-test.true in
          absurd (false≢true (w.in_default.ensures.found.1 (let below : i < length runs = omega arith in below))))
    ]
