-- Bundles joined either way, with themselves, and in both groupings.
use Rattle.std.proofs.Common.{◌≡◌, ◌<◌, ◌^◌, ℕ, ◌⊎◌, inl, inr, Bool, ◌&&◌, List, length, Option, Some, None, is_none, Result, Ok, Err, is_ok, IsTrue, refl, sym, ap, subst, ◌∙◌}
use Rattle.op_core.specs.Ids.{Id}
use Rattle.op_core.specs.Ops.{Operation}
use Rattle.op_core.specs.Sets.{IsOpSet, join, clash}
use Rattle.op_core.specs.Thinned.{is_legal, IsOf}
use Rattle.op_core.specs.Laws.{Joining, IsInOne, SameOperations, joined_or_clash, with_both, union_by, ThinnedAgree}
use Rattle.op_core.specs.Laws.Joining.{Part, Joined}
use Rattle.op_core.proofs.Sets.Union.{IsOpSet-join, join_assoc, join_itself, join_comm, no_clash_itself, agree_from_no_clash}
use Rattle.op_core.proofs.Sets.Clashes.{clash_comm}
use Rattle.op_core.proofs.Sets.Legal.{join_legal}
use Rattle.op_core.proofs.Sets.Joinings.{refused_alike}
use Rattle.op_core.proofs.Sets.Families.{family_joins}
use Rattle.bundle_codec.specs.declared.fault.JoinFault.{JoinFault}
use Rattle.bundle_codec.specs.declared.fault.JoinFault.TheVariants.{Clash}
use Rattle.bundle_codec.specs.Spelling.{bundle}
use Rattle.bundle_codec.specs.Joining.{IsBundle, of_both, union_or_clash, bundles_joined}
use Rattle.bundle_codec.specs.Laws.{then_joined, AnswerAlike, GiveTheSame, BothGive, IsBundleOf, IsHeld}
use Rattle.bundle_codec.proofs.Wholes.{whole_reads}

-- what joining two bundles gives, by their sets
pub joined_is : (x y : List ℕ) (a : IsBundle x) (b : IsBundle y) → bundles_joined x y ≡ union_or_clash a.ops b.ops (clash a.ops b.ops)
joined_is x y a b = λ i. of_both (whole_reads x a i) (whole_reads y b i)

-- ---- either way, and with itself

union_commutes : (a b : List Operation) → IsOpSet a → IsOpSet b → union_or_clash a b (clash a b) ≡ union_or_clash b a (clash b a)
union_commutes a b ha hb = by (clash a b) refl
  where
    turned : clash a b ≡ clash b a
    turned = clash_comm a b ha.rising hb.rising

    by : (r : Option Id) → clash a b ≡ r → union_or_clash a b (clash a b) ≡ union_or_clash b a (clash b a)
    by None e =
        ap (union_or_clash a b) e
        ∙ ap (λ (ops : List Operation). Ok (bundle ops)) (join_comm a b ha.rising hb.rising (agree_from_no_clash a b e))
        ∙ ap (union_or_clash b a) (sym e ∙ turned)
    by (Some id) e = ap (union_or_clash a b) e ∙ ap (union_or_clash b a) (sym e ∙ turned)

pub commutes : (x y : List ℕ) → IsBundle x → IsBundle y → bundles_joined x y ≡ bundles_joined y x
commutes x y a b = joined_is x y a b ∙ union_commutes a.ops b.ops a.set b.set ∙ sym (joined_is y x b a)

pub with_itself : (x : List ℕ) → IsBundle x → bundles_joined x x ≡ Ok x
with_itself x a =
    joined_is x x a a
    ∙ ap (union_or_clash a.ops a.ops) (no_clash_itself a.ops a.set.rising)
    ∙ ap (λ (ops : List Operation). Ok (bundle ops)) (join_itself a.ops a.set.rising)
    ∙ ap Ok (sym a.spelled)

-- ---- both groupings

-- the bundle of a union is a bundle
abbrev union_is : (a b : List Operation) → IsOpSet a → IsOpSet b → IsTrue (is_legal a) → IsTrue (is_legal b) → clash a b ≡ None
    → length (bundle (join a b)) < 2 ^ 64 → IsBundle (bundle (join a b))
union_is a b ha hb la lb none short = record {
  ops = join a b;
  set = IsOpSet-join a b ha hb;
  legal = join_legal a b ha.rising hb.rising la lb (agree_from_no_clash a b none);
  spelled = refl;
  short = short;
}

-- the answers of both groupings, by the clashes that they come to
module _ (a b c : List Operation) where
  abbrev pub left_of : Option Id → Option Id → Result (List ℕ) JoinFault
  left_of None later = union_or_clash (join a b) c later
  left_of (Some id) later = Err (Clash id)

  abbrev pub right_of : Option Id → Option Id → Result (List ℕ) JoinFault
  right_of None later = union_or_clash a (join b c) later
  right_of (Some id) later = Err (Clash id)

module _ (x y z : List ℕ) (a : IsBundle x) (b : IsBundle y) (c : IsBundle z) where
  grouped_left : IsHeld (bundles_joined x y)
      → then_joined (bundles_joined x y) (λ made. bundles_joined made z)
      ≡ left_of a.ops b.ops c.ops (clash a.ops b.ops) (clash (join a.ops b.ops) c.ops)
  grouped_left held = ap (λ r. then_joined r (λ made. bundles_joined made z)) (joined_is x y a b)
      ∙ by (clash a.ops b.ops) refl (subst IsHeld (joined_is x y a b) held)
    where
      by : (p : Option Id) → clash a.ops b.ops ≡ p → IsHeld (union_or_clash a.ops b.ops p)
          → then_joined (union_or_clash a.ops b.ops p) (λ made. bundles_joined made z)
          ≡ left_of a.ops b.ops c.ops p (clash (join a.ops b.ops) c.ops)
      by None e short =
          joined_is (bundle (join a.ops b.ops)) z (union_is a.ops b.ops a.set b.set a.legal b.legal e short) c
      by (Some id) e short = refl

  grouped_right : IsHeld (bundles_joined y z)
      → then_joined (bundles_joined y z) (λ made. bundles_joined x made)
      ≡ right_of a.ops b.ops c.ops (clash b.ops c.ops) (clash a.ops (join b.ops c.ops))
  grouped_right held = ap (λ r. then_joined r (λ made. bundles_joined x made)) (joined_is y z b c)
      ∙ by (clash b.ops c.ops) refl (subst IsHeld (joined_is y z b c) held)
    where
      by : (p : Option Id) → clash b.ops c.ops ≡ p → IsHeld (union_or_clash b.ops c.ops p)
          → then_joined (union_or_clash b.ops c.ops p) (λ made. bundles_joined x made)
          ≡ right_of a.ops b.ops c.ops p (clash a.ops (join b.ops c.ops))
      by None e short =
          joined_is x (bundle (join b.ops c.ops)) a (union_is b.ops c.ops b.set c.set b.legal c.legal e short)
      by (Some id) e short = refl

  -- what holds of the answers by the sets holds of those by the bytes
  pub grouped : (Q : Result (List ℕ) JoinFault → Result (List ℕ) JoinFault → Type 0)
      → Q (left_of a.ops b.ops c.ops (clash a.ops b.ops) (clash (join a.ops b.ops) c.ops))
      (right_of a.ops b.ops c.ops (clash b.ops c.ops) (clash a.ops (join b.ops c.ops)))
      → IsHeld (bundles_joined x y) → IsHeld (bundles_joined y z)
      → Q (then_joined (bundles_joined x y) (λ made. bundles_joined made z))
      (then_joined (bundles_joined y z) (λ made. bundles_joined x made))
  grouped Q h one other = rw (grouped_left one, grouped_right other) h

-- whatever the three sets, what both groupings give is the same
same_given : (a b c : List Operation) → IsOpSet a → IsOpSet b → IsOpSet c → (p q r s : Option Id)
    → GiveTheSame (left_of a b c p q) (right_of a b c r s)
same_given a b c ha hb hc (Some id) q r s = tt
same_given a b c ha hb hc None (Some id) r s = tt
same_given a b c ha hb hc None None (Some id) s = tt
same_given a b c ha hb hc None None None (Some id) = tt
same_given a b c ha hb hc None None None None = ap bundle (join_assoc a b c ha.rising hb.rising hc.rising)

pub gives_the_same : (x y z : List ℕ) → IsBundle x → IsBundle y → IsBundle z → IsHeld (bundles_joined x y) → IsHeld (bundles_joined y z)
    → GiveTheSame (then_joined (bundles_joined x y) (λ made. bundles_joined made z))
    (then_joined (bundles_joined y z) (λ made. bundles_joined x made))
gives_the_same x y z a b c = grouped x y z a b c GiveTheSame (same_given a.ops b.ops c.ops a.set b.set c.set _ _ _ _)

-- ---- of sets in which no id of a thinned operation has two operations

some_none : (id : Id) → Some id ≡ None → ⊥
some_none id h = cc h

module _ (a b c : List Operation) where
  abbrev left_first : Joining
  left_first = Joined (Joined (Part a) (Part b)) (Part c)

  abbrev right_first : Joining
  right_first = Joined (Part a) (Joined (Part b) (Part c))

  -- whether a grouping is answered, by the clashes that it comes to
  abbrev is_joined : Option Id → Option Id → Bool
  is_joined p q = is_none p && is_none q

  left_joined : (p q : Option Id) → clash a b ≡ p → clash (join a b) c ≡ q → is_ok (union_by left_first) ≡ is_joined p q
  left_joined p q ep eq =
      ap (λ r. is_ok (with_both (joined_or_clash a b r) (Ok c) (λ x y. joined_or_clash x y (clash x y)))) ep ∙ by p q eq
    where
      by : (p q : Option Id) → clash (join a b) c ≡ q
          → is_ok (with_both (joined_or_clash a b p) (Ok c) (λ x y. joined_or_clash x y (clash x y))) ≡ is_joined p q
      by None None eq = ap (λ r. is_ok (joined_or_clash (join a b) c r)) eq
      by None (Some id) eq = ap (λ r. is_ok (joined_or_clash (join a b) c r)) eq
      by (Some id) q eq = refl

  right_joined : (r s : Option Id) → clash b c ≡ r → clash a (join b c) ≡ s → is_ok (union_by right_first) ≡ is_joined r s
  right_joined r s er es =
      ap (λ r. is_ok (with_both (Ok a) (joined_or_clash b c r) (λ x y. joined_or_clash x y (clash x y)))) er ∙ by r s es
    where
      by : (r s : Option Id) → clash a (join b c) ≡ s
          → is_ok (with_both (Ok a) (joined_or_clash b c r) (λ x y. joined_or_clash x y (clash x y))) ≡ is_joined r s
      by None None es = ap (λ r. is_ok (joined_or_clash a (join b c) r)) es
      by None (Some id) es = ap (λ r. is_ok (joined_or_clash a (join b c) r)) es
      by (Some id) s es = refl

  same_operations : SameOperations left_first right_first
  same_operations = record { there = λ o. there o; back = λ o. back o }
    where
      there : (o : Operation) → IsInOne left_first o → IsInOne right_first o
      there o (inl (inl h)) = inl h
      there o (inl (inr h)) = inr (inl h)
      there o (inr h) = inr (inr h)

      back : (o : Operation) → IsInOne right_first o → IsInOne left_first o
      back o (inl h) = inl (inl h)
      back o (inr (inl h)) = inl (inr h)
      back o (inr (inr h)) = inr h

  alike : IsOpSet a → IsOpSet b → IsOpSet c → ThinnedAgree left_first → (p q r s : Option Id)
      → clash a b ≡ p → clash (join a b) c ≡ q → clash b c ≡ r → clash a (join b c) ≡ s
      → AnswerAlike (left_of a b c p q) (right_of a b c r s)
  alike ha hb hc agree p q r s ep eq er es =
      by p q r s (sym (left_joined p q ep eq) ∙ refused_alike left_first right_first ((ha, hb), hc) (ha, (hb, hc)) same_operations agree
      ∙ right_joined r s er es)
    where
      by : (p q r s : Option Id) → is_joined p q ≡ is_joined r s → AnswerAlike (left_of a b c p q) (right_of a b c r s)
      by (Some id) q (Some jd) s e = tt
      by (Some id) q None (Some jd) e = tt
      by (Some id) q None None e = cc e
      by None (Some id) (Some jd) s e = tt
      by None (Some id) None (Some jd) e = tt
      by None (Some id) None None e = cc e
      by None None (Some id) s e = cc e
      by None None None (Some id) e = cc e
      by None None None None e = ap bundle (join_assoc a b c ha.rising hb.rising hc.rising)

pub associates : (x y z : List ℕ) (a : IsBundle x) (b : IsBundle y) (c : IsBundle z)
    → ThinnedAgree (Joined (Joined (Part a.ops) (Part b.ops)) (Part c.ops)) → IsHeld (bundles_joined x y) → IsHeld (bundles_joined y z)
    → AnswerAlike (then_joined (bundles_joined x y) (λ made. bundles_joined made z))
    (then_joined (bundles_joined y z) (λ made. bundles_joined x made))
associates x y z a b c agree = grouped x y z a b c AnswerAlike
    (alike a.ops b.ops c.ops a.set b.set c.set agree _ _ _ _ refl refl refl refl)

-- ---- of sets of one family

pub of_one_family : (family : Id → Operation) (x y z : List ℕ) → IsBundleOf family x → IsBundleOf family y → IsBundleOf family z
    → IsHeld (bundles_joined x y) → IsHeld (bundles_joined y z)
    → BothGive (then_joined (bundles_joined x y) (λ made. bundles_joined made z))
    (then_joined (bundles_joined y z) (λ made. bundles_joined x made))
of_one_family family x y z a b c = grouped x y z a.is b.is c.is BothGive (by _ _ _ _ refl refl refl refl)
  where
    one : (clash a.is.ops b.is.ops ≡ None) × IsOf family (join a.is.ops b.is.ops)
    one = family_joins family a.is.ops b.is.ops a.of b.of

    other : (clash b.is.ops c.is.ops ≡ None) × IsOf family (join b.is.ops c.is.ops)
    other = family_joins family b.is.ops c.is.ops b.of c.of

    by : (p q r s : Option Id) → clash a.is.ops b.is.ops ≡ p → clash (join a.is.ops b.is.ops) c.is.ops ≡ q
        → clash b.is.ops c.is.ops ≡ r → clash a.is.ops (join b.is.ops c.is.ops) ≡ s
        → BothGive (left_of a.is.ops b.is.ops c.is.ops p q) (right_of a.is.ops b.is.ops c.is.ops r s)
    by (Some id) q r s ep eq er es = absurd (some_none id (sym ep ∙ one.0))
    by None (Some id) r s ep eq er es =
        absurd (some_none id (sym eq ∙ (family_joins family (join a.is.ops b.is.ops) c.is.ops one.1 c.of).0))
    by None None (Some id) s ep eq er es = absurd (some_none id (sym er ∙ other.0))
    by None None None (Some id) ep eq er es =
        absurd (some_none id (sym es ∙ (family_joins family a.is.ops (join b.is.ops c.is.ops) a.of other.1).0))
    by None None None None ep eq er es =
        ap bundle (join_assoc a.is.ops b.is.ops c.is.ops a.is.set.rising b.is.set.rising c.is.set.rising)
