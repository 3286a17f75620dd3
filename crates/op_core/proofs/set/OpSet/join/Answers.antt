use Rattle.std.proofs.Common.{◌≡◌, true, None, ap, sym, subst, ◌∙◌, List, length, arith}
use Rattle.std.proofs.lemmas.Bool.{false≢true}
use Rattle.op_core.specs.Ids.{Id}
use Rattle.op_core.specs.Ops.{Operation}
use Rattle.op_core.specs.Sets.{rises, get, join, clash}
use Rattle.op_core.specs.NextIds.{is_among}
use Rattle.op_core.specs.Loops.Index.{AreApart}
use Rattle.op_core.specs.Thinned.{is_past, is_legal, thin_where, is_thinned_in}
use Rattle.op_core.proofs.Sets.Fresh.{fresh, fresh_rises, fresh_apart, length_join, some_new, none_new, nothing_fresh}
use Rattle.op_core.proofs.ThinnedSets.TwoSteps.{two_steps, past_between}
use Rattle.op_core.proofs.ThinnedSets.Left.{where_agree, length_where}
use Rattle.op_core.proofs.set.OpSet.join.Goals as goal

pub leave_thinned-requires : goal.leave_thinned-requires
leave_thinned-requires c = record {
  past = λ o g a.
      let s = c.self.inside.ops.items in
      let t = c.other.inside.ops.items in
      let n : clash s t ≡ None = sym (c.in_default.ensures ∙ (λ i. clash (c.deref.ensures.value i) (c.deref-2.ensures.value i))) in
      let nothing = sym (c.has_new.ensures ∙ (λ i. some_new (c.deref-3.ensures.value i) (c.deref-4.ensures.value i)))
      ∙ c.if-not-has_new.true in
      let same : join s (fresh s t) ≡ s = ap (join s) (nothing_fresh s t nothing) in
      let others = c.deref-then-not-has_new.ensures.value in
      ap (λ (xs : List Operation). is_past xs o) (sym same)
      ∙ past_between s t c.self.invariant.0.rising c.other.invariant.0.rising c.self.invariant.2 c.other.invariant.2 n o
      (ap (λ (xs : List Operation). get xs o.id) same ∙ g) (sym (ap (λ (xs : List Operation). is_thinned_in xs o.id) others) ∙ a);
}

pub returns-then-not-has_new-clause-ok : goal.returns-then-not-has_new-clause-ok
returns-then-not-has_new-clause-ok c =
    let s = c.self.inside.ops.items in
    let t = c.other.inside.ops.items in
    let n : clash s t ≡ None = sym (c.in_default.ensures ∙ (λ i. clash (c.deref.ensures.value i) (c.deref-2.ensures.value i))) in
    let nothing = sym (c.has_new.ensures ∙ (λ i. some_new (c.deref-3.ensures.value i) (c.deref-4.ensures.value i)))
    ∙ c.if-not-has_new.true in
    c.leave_thinned.ensures
    ∙ ap (λ (xs : List Operation). thin_where (is_thinned_in xs) s) c.deref-then-not-has_new.ensures.value
    ∙ ap (λ (xs : List Operation). thin_where (is_thinned_in t) (join s xs)) (sym (nothing_fresh s t nothing))
    ∙ sym (two_steps s t c.self.invariant.0.rising c.other.invariant.0.rising n).joins
    ∙ (λ i. join (c.self.view_is i) (c.other.view_is i))

pub returns-in_err-thinned-clause-held : goal.returns-in_err-thinned-clause-held
returns-in_err-thinned-clause-held c = λ held refused.
    let new = sym (c.has_new.ensures ∙ (λ i. some_new (c.deref-3.ensures.value i) (c.deref-4.ensures.value i))) ∙ c.if-not-has_new.false in
    absurd (false≢true (sym (none_new c.args.self.now c.args.other held) ∙ sym (λ i. some_new (c.self.view_is i) (c.other.view_is i))
    ∙ new))

pub returns-in_err-count-clause-held : goal.returns-in_err-count-clause-held
returns-in_err-count-clause-held c = λ held refused.
    let new = sym (c.has_new.ensures ∙ (λ i. some_new (c.deref-3.ensures.value i) (c.deref-4.ensures.value i))) ∙ c.if-not-has_new.false in
    absurd (false≢true (sym (none_new c.args.self.now c.args.other held) ∙ sym (λ i. some_new (c.self.view_is i) (c.other.view_is i))
    ∙ new))

pub join_rising-requires-clause-rising : goal.join_rising-requires-clause-rising
join_rising-requires-clause-rising c =
    let e = c.remove_held.ensures ∙ ap (λ (s : List Operation). fresh s c.other.inside.ops.items) c.deref-6.ensures.value in
    subst (λ (xs : List Operation). rises xs ≡ true) (sym e)
    (fresh_rises c.self.inside.ops.items c.other.inside.ops.items c.other.invariant.0.rising)

pub join_rising-requires-clause-apart : goal.join_rising-requires-clause-apart
join_rising-requires-clause-apart c =
    let e = c.remove_held.ensures ∙ ap (λ (s : List Operation). fresh s c.other.inside.ops.items) c.deref-6.ensures.value in
    subst (AreApart c.self.inside.ops.items) (sym e) (fresh_apart c.self.inside.ops.items c.other.inside.ops.items)

pub join_rising-requires-clause-legal : goal.join_rising-requires-clause-legal
join_rising-requires-clause-legal c =
    let s = c.self.inside.ops.items in
    let t = c.other.inside.ops.items in
    let n : clash s t ≡ None = sym (c.in_default.ensures ∙ (λ i. clash (c.deref.ensures.value i) (c.deref-2.ensures.value i))) in
    let e = c.remove_held.ensures ∙ ap (λ (xs : List Operation). fresh xs t) c.deref-6.ensures.value in
    subst (λ (xs : List Operation). is_legal (join s xs) ≡ true) (sym e)
    ((two_steps s t c.self.invariant.0.rising c.other.invariant.0.rising n).legal c.self.invariant.2 c.other.invariant.2)

pub leave_texts-requires : goal.leave_texts-requires
leave_texts-requires c = record {
  past = λ o g a.
      let s = c.self.inside.ops.items in
      let t = c.other.inside.ops.items in
      let n : clash s t ≡ None = sym (c.in_default.ensures ∙ (λ i. clash (c.deref.ensures.value i) (c.deref-2.ensures.value i))) in
      let e = c.remove_held.ensures ∙ ap (λ (xs : List Operation). fresh xs t) c.deref-6.ensures.value in
      let j : c.join_rising.new.self ≡ join s (fresh s t) = c.in_ok-count.ensures.ok ∙ ap (join s) e in
      let ids : is_among c.deref-7.result.now o.id ≡ is_thinned_in t o.id =
      ap (λ (ids : List Id). is_among ids o.id) c.deref-7.ensures.value
      ∙ c.in_ok-thinned.ensures o.id ∙ ap (λ (xs : List Operation). is_thinned_in xs o.id) c.deref-5.ensures.value in
      ap (λ (xs : List Operation). is_past xs o) j
      ∙ past_between s t c.self.invariant.0.rising c.other.invariant.0.rising c.self.invariant.2 c.other.invariant.2 n o
      (ap (λ (xs : List Operation). get xs o.id) (sym j) ∙ g) (sym ids ∙ a);
}

pub returns-clause-ok : goal.returns-clause-ok
returns-clause-ok c =
    let s = c.self.inside.ops.items in
    let t = c.other.inside.ops.items in
    let n : clash s t ≡ None = sym (c.in_default.ensures ∙ (λ i. clash (c.deref.ensures.value i) (c.deref-2.ensures.value i))) in
    let e = c.remove_held.ensures ∙ ap (λ (xs : List Operation). fresh xs t) c.deref-6.ensures.value in
    let j : c.join_rising.new.self ≡ join s (fresh s t) = c.in_ok-count.ensures.ok ∙ ap (join s) e in
    c.leave_texts.ensures
    ∙ where_agree (is_among c.deref-7.result.now) (is_thinned_in t) c.join_rising.new.self
    (λ q. ap (λ (ids : List Id). is_among ids q) c.deref-7.ensures.value ∙ c.in_ok-thinned.ensures q
    ∙ ap (λ (xs : List Operation). is_thinned_in xs q) c.deref-5.ensures.value)
    ∙ ap (thin_where (is_thinned_in t)) j
    ∙ sym (two_steps s t c.self.invariant.0.rising c.other.invariant.0.rising n).joins
    ∙ (λ i. join (c.self.view_is i) (c.other.view_is i))

pub returns-clause-count : goal.returns-clause-count
returns-clause-count c =
    let s = c.self.inside.ops.items in
    let t = c.other.inside.ops.items in
    let e = c.remove_held.ensures ∙ ap (λ (xs : List Operation). fresh xs t) c.deref-6.ensures.value in
    let grown = length_join s (fresh s t) c.self.invariant.0.rising (fresh_rises s t c.other.invariant.0.rising) (fresh_apart s t) in
    let now = ap length c.leave_texts.ensures ∙ length_where (is_among c.deref-7.result.now) c.join_rising.new.self
    ∙ ap length (c.in_ok-count.ensures.ok ∙ ap (join s) e) in
    let new = c.in_ok-count.ensures.count ∙ ap length e in
    let held = ap length c.self.view_is in
    omega (arith, grown, now, new, held)
