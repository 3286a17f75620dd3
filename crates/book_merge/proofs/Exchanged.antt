-- What a union shows no more than that, and once the sides are exchanged.
use Rattle.std.proofs.Common.{◌≡◌, ℕ, Bool, true, false, List, [], ◌∷◌, map, reverse, refl, sym, ap, ◌∙◌, inl, inr}
use Rattle.usfm_ref.specs.Books.{same_bytes}
use Rattle.usfm_ref.specs.Segments.{segment}
use Rattle.usfm_ref.proofs.Orders.{same_bytes-is, same_bytes-refl}
use Rattle.op_core.specs.Ops.{Operation, own_text}
use Rattle.op_core.specs.Shown.{shown}
use Rattle.replica_state.specs.States.{State}
use Rattle.book_merge.specs.Laws.{ShowsAlone, ShowsBoth, UnionsShowNoOther, ExchangedShowTheSame, text_at, shown_texts}
use Rattle.book_merge.proofs.FewShown.{OneAtMost}
use Rattle.book_merge.proofs.UnionParts as made_of
use Rattle.book_merge.proofs.Unions.{unions_show_both, shown_base, base_one}

-- ---- what no union shows

two_alone : (text one other : List ℕ) → ShowsAlone text (one ∷ other ∷ []) → ⊥
two_alone text one other (inl e) = cc e
two_alone text one other (inr (e, none)) = cc e

pub unions_show_no_other : UnionsShowNoOther
unions_show_no_other base ours theirs = record {
  ours_lost = λ o t d s. cc (s.apart o t d);
  theirs_lost = λ o t d s. cc (s.apart o t d);
  theirs_picked = λ o t d s. let e = s.apart o t d in d (cc e);
  change_lost = λ o t s. let e = s.ours_alone o t in o (cc e);
  one_in_conflict = λ t o s. cc (s.theirs_alone t o);
  same_in_conflict = λ o t same s. cc (s.alike o t same);
  none_in_conflict = λ o t s. two_alone base theirs ours (s.neither o t);
}

-- ---- the sides exchanged

differ : (a b : List ℕ) → same_bytes a b ≡ false → a ≡ b → ⊥
differ a b e x = cc (sym e ∙ ap (same_bytes a) (sym x) ∙ same_bytes-refl a)

-- one text at most is the same backwards
one_backwards : (ops : List Operation) → OneAtMost ops → map (λ o. own_text o) ops ≡ reverse (map (λ o. own_text o) ops)
one_backwards [] one = refl
one_backwards (o ∷ []) one = refl
one_backwards (o ∷ p ∷ ops) (inl e) = cc e
one_backwards (o ∷ p ∷ ops) (inr (x, e)) = cc e

pub exchanged_show_the_same : ExchangedShowTheSame
exchanged_show_the_same base ours theirs book s t key u v =
    by (same_bytes mine was) refl (same_bytes other was) refl (same_bytes mine other) refl
  where
    was : List ℕ
    was = text_at base key

    mine : List ℕ
    mine = text_at ours key

    other : List ℕ
    other = text_at theirs key

    one : ShowsBoth was mine other (shown_texts s book key)
    one = unions_show_both base ours theirs book s key u

    two : ShowsBoth was other mine (shown_texts t book key)
    two = unions_show_both base theirs ours book t key v

    -- both are of one import of BASE
    same_base : (made_of.b base ours theirs book s u) ≡ (made_of.b base theirs ours book t v)
    same_base = cc (sym (made_of.p base ours theirs book s u).of_base ∙ (made_of.p base theirs ours book t v).of_base)

    neither : mine ≡ was → other ≡ was → shown_texts t book key ≡ reverse (shown_texts s book key)
    neither m o =
        ap (map (λ (x : Operation). own_text x))
        (shown_base base theirs ours book t v key o m
        ∙ ap (λ (b : State). shown b.held (segment book key)) (sym same_base))
        ∙ one_backwards (shown (made_of.b base ours theirs book s u).held (segment book key)) (base_one base ours theirs book s u key)
        ∙ ap (λ (ops : List Operation). reverse (map (λ (x : Operation). own_text x) ops))
        (sym (shown_base base ours theirs book s u key m o))

    by : (a : Bool) → same_bytes mine was ≡ a → (b : Bool) → same_bytes other was ≡ b → (c : Bool) → same_bytes mine other ≡ c
        → shown_texts t book key ≡ reverse (shown_texts s book key)
    by true e true f c g = neither (same_bytes-is mine was e) (same_bytes-is other was f)
    by true e false f c g =
        let m = same_bytes-is mine was e in
        two.ours_alone (differ other was f) m ∙ sym (ap reverse (one.theirs_alone (differ other was f) m))
    by false e true f c g =
        let o = same_bytes-is other was f in
        two.theirs_alone (differ mine was e) o ∙ sym (ap reverse (one.ours_alone (differ mine was e) o))
    by false e false f true g =
        let same = same_bytes-is mine other g in
        two.alike (differ other was f) (differ mine was e) (sym same) ∙ ap (λ (x : List ℕ). x ∷ []) (sym same)
        ∙ sym (ap reverse (one.alike (differ mine was e) (differ other was f) same))
    by false e false f false g =
        two.apart (differ other was f) (differ mine was e) (λ x. differ mine other g (sym x))
        ∙ sym (ap reverse (one.apart (differ mine was e) (differ other was f) (differ mine other g)))
