use Rattle.std.proofs.Common.{◌≡◌, ℕ, ◌+◌, ◌<◌, ◌^◌, Bool, List, [], ◌∷◌, ◌++◌, length, drop, get_or, sym, ap, ◌∙◌, subst, arith, refl, cond}
use Rattle.std.specs.Str.{IsCharBoundary}
use Rattle.std.proofs.lemmas.List.{map_push}
use Rattle.word_diff.specs.declared.part.Kind.TheVariants.{Kept}
use Rattle.word_diff.specs.declared.part.Part.{Part}
use Rattle.word_diff.specs.Kinds.{is_new, is_old}
use Rattle.word_diff.specs.Parts.{Span, span, spans}
use Rattle.word_diff.specs.Words.{joined}
use Rattle.word_diff.proofs.JoinLemmas.{run_of, Joining, OfTexts, joining_none, joined_fits, side_utf8, side_boundary}
use Rattle.word_diff.proofs.JoinSteps.{run_bytes, join_run, lent_is, after_is, run_at, run_within, run_part, run_after, run_positive, step_at}
use Rattle.word_diff.proofs.joining.join_neighbours.Goals as goal

abbrev no_part : Part
no_part = record { kind = Kept; text = record { ref_ptr = (0, 0); now = [] } }

pub loop-at-init : goal.loop-at-init
loop-at-init c = (
  c.utf8.old,
  c.utf8.new,
  omega arith,
  subst
      (λ (l : List Span). Joining l (spans c.args.steps.now)
      (spans c.args.steps.now) c.args.old.now c.args.new.now c.args.old.now c.args.new.now)
      (sym (ap spans c.new-parts.ensures.items))
      (joining_none (spans c.args.steps.now) c.args.old.now c.args.new.now c.requires.old_words c.requires.new_words c.requires.ordered),
)

pub overflow_add-end : goal.overflow_add-end
overflow_add-end c =
    let steps = c.args.steps.now in
    let at = c.loop-at.at in
    let k = (get_or steps at no_part).kind in
    let small : length steps < 2 ^ 64 = omega arith in
    omega (arith, c.run_len.ensures ∙ run_at k steps at, run_within k steps at c.loop-at.invariant.2, small)

pub slice_bounds-total_len-end : goal.slice_bounds-total_len-end
slice_bounds-total_len-end c =
    let steps = c.args.steps.now in
    let at = c.loop-at.at in
    let k = (get_or steps at no_part).kind in
    omega (arith, c.run_len.ensures ∙ run_at k steps at, run_within k steps at c.loop-at.invariant.2)

pub total_len-len-requires : goal.total_len-len-requires
total_len-len-requires c =
    let steps = c.args.steps.now in
    let old = c.args.old.now in
    let new = c.args.new.now in
    let at = c.loop-at.at in
    let k = (get_or steps at no_part).kind in
    let t : OfTexts (spans steps) old new = record { old_are = c.requires.old_words; new_are = c.requires.new_words } in
    let old_small : length old < 2 ^ 64 = omega arith in
    let new_small : length new < 2 ^ 64 = omega arith in
    let part = run_part k steps at c.run_len.result (c.run_len.ensures ∙ run_at k steps at) in
    omega (
      arith,
      ap length (ap joined part),
      joined_fits k (spans c.loop-at.parts.items) (spans (drop at steps)) (spans steps) old new _ _
          (2 ^ 64) t c.loop-at.invariant.3 old_small new_small,
    )

pub split_at-requires : goal.split_at-requires
split_at-requires c =
    let steps = c.args.steps.now in
    let at = c.loop-at.at in
    let k = (get_or steps at no_part).kind in
    let part = run_part k steps at c.run_len.result (c.run_len.ensures ∙ run_at k steps at) in
    let j = c.loop-at.invariant.3 in
    let len : c.len_on.result ≡ cond (is_old k) (length (joined (run_bytes k (spans (drop at steps))))) 0 =
    c.len_on.ensures ∙ (λ i. cond (c.is_old.ensures i) ((c.total_len-len.ensures
    ∙ ap (λ (l : List (List ℕ)). length (joined l)) part) i) 0) in
    subst (IsCharBoundary c.loop-at.old_rest.now) (sym len)
    (side_boundary is_old k (spans c.loop-at.parts.items) (spans (drop at steps)) (spans steps) c.args.old.now c.loop-at.old_rest.now
    j.old_left c.requires.old_words j.old_words c.utf8.old c.loop-at.invariant.0)

pub split_at-requires-in-loop-at : goal.split_at-requires-in-loop-at
split_at-requires-in-loop-at c =
    let steps = c.args.steps.now in
    let at = c.loop-at.at in
    let k = (get_or steps at no_part).kind in
    let part = run_part k steps at c.run_len.result (c.run_len.ensures ∙ run_at k steps at) in
    let j = c.loop-at.invariant.3 in
    let len : c.len_on-in-loop-at.result ≡ cond (is_new k) (length (joined (run_bytes k (spans (drop at steps))))) 0 =
    c.len_on-in-loop-at.ensures
    ∙ (λ i. cond (c.is_new.ensures i) ((c.total_len-len.ensures ∙ ap (λ (l : List (List ℕ)). length (joined l)) part) i) 0) in
    subst (IsCharBoundary c.loop-at.new_rest.now) (sym len)
    (side_boundary is_new k (spans c.loop-at.parts.items) (spans (drop at steps)) (spans steps) c.args.new.now c.loop-at.new_rest.now
    j.new_left c.requires.new_words j.new_words c.utf8.new c.loop-at.invariant.1)

pub loop-at-smaller : goal.loop-at-smaller
loop-at-smaller c =
    let steps = c.args.steps.now in
    let at = c.loop-at.at in
    let k = (get_or steps at no_part).kind in
    omega (
      arith,
      c.run_len.ensures ∙ run_at k steps at,
      run_within k steps at c.loop-at.invariant.2,
      run_positive steps at no_part c.loop-at-test.true,
      c.loop-at-test.true,
    )

pub loop-at-preserved : goal.loop-at-preserved
loop-at-preserved c =
    let steps = c.args.steps.now in
    let old = c.args.old.now in
    let new = c.args.new.now in
    let at = c.loop-at.at in
    let r = span (get_or steps at no_part) in
    let k = r.kind in
    let rest = spans (drop at steps) in
    let n_is = c.run_len.ensures ∙ run_at k steps at in
    let part = run_part k steps at c.run_len.result n_is in
    let j = c.loop-at.invariant.3 in
    let t : OfTexts (spans steps) old new = record { old_are = c.requires.old_words; new_are = c.requires.new_words } in
    let total : c.total_len-len.result ≡ length (joined (run_bytes k rest)) =
    c.total_len-len.ensures ∙ ap (λ (l : List (List ℕ)). length (joined l)) part in
    let old_len : c.len_on.result ≡ cond (is_old k) (length (joined (run_bytes k rest))) 0 =
    c.len_on.ensures ∙ (λ i. cond (c.is_old.ensures i) (total i) 0) in
    let new_len : c.len_on-in-loop-at.result ≡ cond (is_new k) (length (joined (run_bytes k rest))) 0 =
    c.len_on-in-loop-at.ensures ∙ (λ i. cond (c.is_new.ensures i) (total i) 0) in
    let text : c.lent-text.result.now ≡ joined (run_bytes k rest) =
    lent_is k rest c.loop-at.old_rest.now c.loop-at.new_rest.now c.split_at.result.0.now c.split_at-in-loop-at.result.0.now
    c.lent-text.result.now
    c.len_on.result c.len_on-in-loop-at.result j.old_left j.new_left old_len new_len c.split_at.ensures.front
    c.split_at-in-loop-at.ensures.front
    (c.lent-text.ensures
    ∙ ap (λ (b : Bool). cond b c.split_at.result.0.now c.split_at-in-loop-at.result.0.now) c.is_old-in-loop-at.ensures) in
    let x : Part = record { kind = k; text = c.lent-text.result } in
    let old_after = after_is is_old k rest c.loop-at.old_rest.now c.split_at.result.1.now c.len_on.result j.old_left old_len
    c.split_at.ensures.back in
    let new_after = after_is is_new k rest c.loop-at.new_rest.now c.split_at-in-loop-at.result.1.now c.len_on-in-loop-at.result
    j.new_left new_len
    c.split_at-in-loop-at.ensures.back in
    let joined_more : Joining (spans c.loop-at.parts.items ++ span x ∷ []) (drop (run_of k rest) rest) (spans steps) old new
    c.split_at.result.1.now c.split_at-in-loop-at.result.1.now =
    join_run r (spans (drop (at + 1) steps)) rest (spans c.loop-at.parts.items)
    (spans steps) old new c.loop-at.old_rest.now c.loop-at.new_rest.now
    c.split_at.result.1.now c.split_at-in-loop-at.result.1.now (span x)
    (step_at steps at no_part c.loop-at-test.true) t j refl text old_after new_after in
    let items : spans c.push.new.self.items ≡ spans c.loop-at.parts.items ++ span x ∷ [] =
    ap spans c.in_ok-push.ensures.items ∙ map_push span c.loop-at.parts.items x in (
      side_utf8 is_old k (spans c.loop-at.parts.items) rest
          (spans steps) old c.split_at.result.1.now t.old_are j.old_words c.utf8.old old_after,
      side_utf8 is_new k (spans c.loop-at.parts.items) rest
          (spans steps) new c.split_at-in-loop-at.result.1.now t.new_are j.new_words c.utf8.new new_after,
      omega (arith, n_is, run_within k steps at c.loop-at.invariant.2),
      subst (λ (l : List Span). Joining l (spans (drop (at + c.run_len.result) steps)) (spans steps) old new c.split_at.result.1.now
          c.split_at-in-loop-at.result.1.now) (sym items)
          (subst (λ (l : List Span). Joining (spans c.loop-at.parts.items ++ span x ∷ []) l (spans steps) old new c.split_at.result.1.now
          c.split_at-in-loop-at.result.1.now) (sym (run_after k steps at c.run_len.result n_is)) joined_more),
    )
