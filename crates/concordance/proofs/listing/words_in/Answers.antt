use Rattle.std.proofs.Common.{◌∙◌, ◌<◌, ◌++◌, ◌∷◌, [], ap, sym, subst, map, take, take_all, add-one}
use Rattle.std.proofs.Common.{arith}
use Rattle.std.proofs.lemmas.Bool.{false≢true}
use Rattle.usfm_ref.specs.Keys.{key_cmp}
use Rattle.usfm_ref.specs.Rising.{rising}
use Rattle.concordance.specs.Words.{WordParts}
use Rattle.concordance.proofs.GroupSteps.{map_at}
use Rattle.concordance.proofs.WordLists.{word_spelled, groups_words}
use Rattle.concordance.proofs.listing.words_in.Goals.{in-Some+in_ok-word_of+in_ok-push, in_default}
use Rattle.concordance.proofs.listing.words_in.Goals as goal

pub loop-index-preserved : goal.loop-index-preserved
loop-index-preserved c =
    let groups = c.args.groups.now.entries in
    elim c.match-get_index.branch [
      | in-Some+in_ok-word_of+in_ok-push w ↦
          ap (λ ws. ws.items) w.words-is ∙ w.in_ok-push.ensures.items
          ∙ (λ i. c.loop-index.invariant i
          ++ (let word : WordParts = record {
            form = w.in_ok-word_of.ensures.form i;
            keys = (w.in_ok-word_of.ensures.keys ∙ ap (rising key_cmp) w.deref.ensures.value) i;
          } in word) ∷ [])
          ∙ sym (ap (λ n. map word_spelled (take n groups)) (add-one c.loop-index.index)
          ∙ map_at word_spelled groups c.loop-index.index (w.in-Some.form.now, w.in-Some.keys.now) (sym w.in-Some.ensures.entry))
      | in_default w ↦ absurd (false≢true (w.in_default.ensures.found.1
          (subst (λ n. c.loop-index.index < n) c.len-index-end.ensures.len c.loop-index-test.true)))
    ]

pub returns : goal.returns
returns c =
    c.loop-index.invariant
    ∙ ap (map word_spelled) (take_all c.loop-index.index c.args.groups.now.entries
    (let l = c.len-index-end.ensures.len in let t = c.loop-index-test.false in omega arith))
    ∙ sym (groups_words c.args.groups.now.entries c.requires.rise c.requires.keyed)
