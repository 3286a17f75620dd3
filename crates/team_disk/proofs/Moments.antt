-- How a run of calls goes on, and what a crash leaves under the name of a file that is replaced.
use Rattle.std.proofs.Common.{◌≡◌, ◌⊎◌, inl, inr, ⊎_elim, ℕ, List, Option, refl, sym, ◌∙◌, subst, arith}
use Rattle.team_disk.specs.Disk.{Place, Files, Apart, SameBut, SameButTwo, MayPut, MayMove, Follows, Elapses, LeavesOnly, IsOneOrOther, Leaves}

module _ {D : Type 0} (moment : D → ℕ) (left_since : D → ℕ → Files → Type 0) where
  -- before the first call
  pub started : (old : D) (P : Files → Type 0) → ((c : Files) → left_since old (moment old) c → P c)
      → LeavesOnly moment left_since old old P
  started old P here = record { later = omega arith; each = here; before = λ t c le left. inl left }

  -- one call more, after which a crash leaves what has P
  pub goes_on : (old mid new : D) (P may_leave : Files → Type 0) → LeavesOnly moment left_since old mid P
      → Elapses (moment mid) (moment new) (left_since mid) (left_since new) may_leave
      → ((c : Files) → may_leave c → P c) → LeavesOnly moment left_since old new P
  goes_on old mid new P may_leave so_far time here = record {
    later = omega (arith, so_far.later, time.later);
    each = λ c left. ⊎_elim (so_far.each c) (here c) (time.nothing_else (moment old) c so_far.later left);
    before = λ t c le left. ⊎_elim (so_far.before t c le) (λ now. inr (here c now))
        (time.nothing_else t c (omega (arith, le, so_far.later)) left);
  }

-- one file or another at a place, of which the one was there at the start
module _ (place scratch : Place) (one other : Option (List ℕ)) (start : Files → Type 0) where
  -- the one is there still
  pub record IsOne (c : Files) : Type 0 where
    pub there : c place ≡ one
    pub others : (d : Files) × start d × SameButTwo place scratch d c

  pub is_one : (c : Files) → IsOne c → IsOneOrOther place scratch one other start c
  is_one c kept = record { there = inl kept.there; others = kept.others }

  pub at_start : Leaves place one start → (c : Files) → start c → IsOne c
  at_start settled c left = record { there = settled c left; others = (c, left, λ each a b. refl) }

  -- what is done at the scratch place alone changes nothing of it
  pub scratched : (mid new : Files → Type 0) → Apart place scratch → ((c : Files) → mid c → IsOne c) → Follows (SameBut scratch) mid new →
      (c : Files) → new c → IsOne c
  scratched mid new apart before follows c left =
      let from = follows c left in
      let kept = before from.0 from.1 in record {
        there = from.2 place apart ∙ kept.there;
        others = (kept.others.0, kept.others.1, λ each a b. from.2 each b ∙ kept.others.2 each a b);
      }

  pub scratched_after : (mid new : Files → Type 0) → Apart place scratch →
      ((c : Files) → mid c → IsOneOrOther place scratch one other start c) → Follows (SameBut scratch) mid new
      → (c : Files) → new c → IsOneOrOther place scratch one other start c
  scratched_after mid new apart before follows c left =
      let from = follows c left in
      let kept = before from.0 from.1 in record {
        there = subst (λ f. (f ≡ one) ⊎ (f ≡ other)) (sym (from.2 place apart)) kept.there;
        others = (kept.others.0, kept.others.1, λ each a b. from.2 each b ∙ kept.others.2 each a b);
      }

  -- the other gets the name
  pub put : (mid new : Files → Type 0) (file : Option (List ℕ)) → file ≡ other → ((c : Files) → mid c → IsOne c) → Follows
      (MayPut place file) mid new
      → (c : Files) → new c → IsOneOrOther place scratch one other start c
  put mid new file is before follows c left =
      let from = follows c left in
      let kept = before from.0 from.1 in record {
        there = ⊎_elim (λ stays. inl (stays ∙ kept.there)) (λ there. inr (there ∙ is)) from.2.there;
        others = (kept.others.0, kept.others.1, λ each a b. from.2.others each a ∙ kept.others.2 each a b);
      }

  pub moved : (mid new : Files → Type 0) (file : Option (List ℕ)) → file ≡ other → ((c : Files) → mid c → IsOne c) → Follows
      (MayMove scratch place file) mid new
      → (c : Files) → new c → IsOneOrOther place scratch one other start c
  moved mid new file is before follows c left =
      let from = follows c left in
      let kept = before from.0 from.1 in record {
        there = ⊎_elim (λ stays. inl (stays ∙ kept.there)) (λ there. inr (there ∙ is)) from.2.there;
        others = (kept.others.0, kept.others.1, λ each a b. from.2.others each b a ∙ kept.others.2 each a b);
      }
