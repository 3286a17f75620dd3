-- The segments in conflict are those that the report lists texts of.
use Rattle.std.proofs.Common.{◌≡◌, ℕ, ◌≤◌, suc, Bool, true, false, not, cond, ◌||◌, nat_le, List, [], ◌∷◌}
use Rattle.std.proofs.Common.{length, filter, refl, sym, ap, ◌∙◌, arith}
use Rattle.std.specs.List.{list_any}
use Rattle.std.proofs.lemmas.Bool.{false≢true, or_right}
use Rattle.std.proofs.lemmas.Bool.Decides.{nat_tests}
use Rattle.std.proofs.lemmas.List.{length-reverse}
use Rattle.usfm_ref.specs.Books.{same_bytes}
use Rattle.usfm_ref.specs.Segments.{segment}
use Rattle.usfm_ref.specs.declared.segment.Segment.{Segment}
use Rattle.usfm_ref.proofs.Orders.{same_bytes-is, same_bytes-refl}
use Rattle.usfm_ref.proofs.Sorted.{rises_filter}
use Rattle.op_core.specs.Ids.{id_cmp}
use Rattle.op_core.specs.Lists.{keys_of}
use Rattle.op_core.specs.Ops.{Operation, own_text}
use Rattle.op_core.specs.Sets.{IsOpSet}
use Rattle.op_core.specs.Shown.{is_shown, last, shown, text_if_any}
use Rattle.op_core.proofs.IdOrders.Rising.{id_total}
use Rattle.conflict_report.specs.Reports.{is_repeated, distinct_texts}
use Rattle.conflict_report.proofs.Latest.{has_text, latest, latest_is}
use Rattle.project_status.specs.Numbers.{has_other_text, differ}
use Rattle.usfm_cli.specs.Copies.{ConflictsAreReported}

-- ---- texts that differ

-- fewer than two operations do not differ
pub few_agree : (ops : List Operation) → length ops ≤ 1 → differ ops ≡ false
few_agree [] l = refl
few_agree (o ∷ []) l = λ i. not (same_bytes-refl (own_text o) i) || false
few_agree (o ∷ p ∷ ops) l = absurd (omega arith)

-- where none of some operations has another text than this one, they have this one alone
one_text : (text other : List ℕ) (o : Operation) (ops : List Operation) → list_any (has_other_text text) (o ∷ ops) ≡ false
    → has_text other (o ∷ ops) ≡ same_bytes text other
one_text text other o [] h = by (same_bytes (own_text o) text) refl h
  where
    alone : (b : Bool) → (b || false) ≡ b
    alone true = refl
    alone false = refl

    by : (b : Bool) → same_bytes (own_text o) text ≡ b → (not b || false) ≡ false
        → (same_bytes (own_text o) other || false) ≡ same_bytes text other
    by false e h = absurd (false≢true (sym h))
    by true e h = ap (λ (t : List ℕ). same_bytes t other || false) (same_bytes-is (own_text o) text e) ∙ alone (same_bytes text other)
one_text text other o (p ∷ rest) h = by (one_text text other p rest) (same_bytes (own_text o) text) refl h
  where
    twice : (b : Bool) → (b || b) ≡ b
    twice true = refl
    twice false = refl

    by : (list_any (has_other_text text) (p ∷ rest) ≡ false → has_text other (p ∷ rest) ≡ same_bytes text other)
        → (b : Bool) → same_bytes (own_text o) text ≡ b → (not b || list_any (has_other_text text) (p ∷ rest)) ≡ false
        → (same_bytes (own_text o) other || has_text other (p ∷ rest)) ≡ same_bytes text other
    by later false e h = absurd (false≢true (sym h))
    by later true e h = (λ i. same_bytes (same_bytes-is (own_text o) text e i) other || later h i) ∙ twice (same_bytes text other)

-- one is kept
one_kept : (o : Operation) (ops : List Operation) → (n : ℕ) × (length (latest (o ∷ ops)) ≡ suc n)
one_kept o [] = (0, refl)
one_kept o (p ∷ ops) = by (one_kept p ops) (has_text (own_text o) (p ∷ ops))
  where
    by : (n : ℕ) × (length (latest (p ∷ ops)) ≡ suc n) → (b : Bool)
        → (n : ℕ) × (length (cond b (latest (p ∷ ops)) (o ∷ latest (p ∷ ops))) ≡ suc n)
    by rest true = rest
    by rest false = (length (latest (p ∷ ops)), refl)

-- operations differ where two are kept
two_kept : (ops : List Operation) → differ ops ≡ nat_le 2 (length (latest ops))
two_kept [] = refl
two_kept (o ∷ []) = few_agree (o ∷ []) (omega arith)
two_kept (o ∷ p ∷ ops) =
    by (two_kept (p ∷ ops)) (differ (p ∷ ops)) refl (same_bytes (own_text o) text) refl (has_text (own_text o) (p ∷ ops)) refl
  where
    text : List ℕ
    text = text_if_any (last (p ∷ ops))

    rest : List Operation
    rest = latest (p ∷ ops)

    kept : (n : ℕ) × (length rest ≡ suc n)
    kept = one_kept p ops

    by : differ (p ∷ ops) ≡ nat_le 2 (length rest) → (d : Bool) → differ (p ∷ ops) ≡ d → (s : Bool) → same_bytes (own_text o) text ≡ s
        → (h : Bool) → has_text (own_text o) (p ∷ ops) ≡ h
        → (not s || differ (p ∷ ops)) ≡ nat_le 2 (length (cond h rest (o ∷ rest)))
    by same true d s e true h = ap (λ b. not s || b) d ∙ or_right (not s) true refl ∙ sym d ∙ same
    by same true d s e false h =
        let two : nat_le 2 (length rest) ≡ true = sym same ∙ d in
        let more : nat_le 2 (suc (length rest)) ≡ true = grind (arith, nat_tests) in
        ap (λ b. not s || b) d ∙ or_right (not s) true refl ∙ sym more
    by same false d true e true h = same
    by same false d true e false h =
        let there : has_text (own_text o) (p ∷ ops) ≡ true =
        one_text text (own_text o) p ops d
        ∙ ap (λ (t : List ℕ). same_bytes text t) (same_bytes-is (own_text o) text e) ∙ same_bytes-refl text in
        absurd (false≢true (sym h ∙ there))
    by same false d false e true h =
        let is_its : text ≡ own_text o = same_bytes-is text (own_text o) (sym (one_text text (own_text o) p ops d) ∙ h) in
        let is : same_bytes (own_text o) text ≡ true = ap (same_bytes (own_text o)) is_its ∙ same_bytes-refl (own_text o) in
        absurd (false≢true (sym e ∙ is))
    by same false d false e false h =
        let n = kept.0 in
        let one : length rest ≡ suc n = kept.1 in
        let more : nat_le 2 (suc (length rest)) ≡ true = grind (arith, nat_tests) in
        sym more

-- ---- the conflicts of a set

module _ (held : List Operation) (set : IsOpSet held) where
  -- a segment is in conflict where the report lists texts of it
  pub is_listed : (g : Segment) → differ (shown held g) ≡ nat_le 2 (length (distinct_texts held g))
  is_listed g =
      two_kept (shown held g)
      ∙ ap (nat_le 2) (ap length (latest_is (shown held g)
      (rises_filter id_cmp id_total (λ (o : Operation). o.id) (is_shown held g) held set.rising))
      ∙ sym (length-reverse (filter (λ o. not (is_repeated (shown held g) o)) (shown held g))))

-- so are those of a book
pub listed_in : ConflictsAreReported
listed_in held book set = λ i. filter (λ key. is_listed held set (segment book key) i) (keys_of held book)
