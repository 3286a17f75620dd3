-- A set has one summary: two that cover the same ids are the same.
use Rattle.std.proofs.Common.{◌≡◌, ◌≢◌, ℕ, suc, ◌<◌, ◌≤◌, Bool, true, false, ◌&&◌, ◌||◌, ltb, List, [], ◌∷◌, refl, sym, ap, ◌∙◌, arith, inl, inr}
use Rattle.std.specs.declared.cmp.Ordering.{Ordering}
use Rattle.std.specs.declared.cmp.Ordering.TheVariants.{Less, Equal, Greater}
use Rattle.std.specs.Ordering.{is_lt, is_eq}
use Rattle.std.specs.List.{list_all, AllByRecursion}
use Rattle.std.proofs.lemmas.Bool.{and_parts, and_from, ltb-true, true≢false, cases_lt, false_from_ne_true, or_left}
use Rattle.usfm_ref.specs.Books.{same_bytes}
use Rattle.usfm_ref.specs.Rising.{rises_by}
use Rattle.usfm_ref.proofs.Orders.{same_bytes-is, same_bytes-refl}
use Rattle.usfm_ref.proofs.Sorted.{back, above_trans}
use Rattle.op_core.specs.Names.{name_cmp}
use Rattle.op_core.specs.Ids.{Id}
use Rattle.op_core.specs.Ops.{Operation}
use Rattle.bundle_codec.specs.declared.summaries.range.NumberRange.{NumberRange}
use Rattle.bundle_codec.specs.Summaries.{NameRanges, AreNameRanges, IsSummaryOf, is_range, are_apart, has_number, covers}
use Rattle.bundle_codec.proofs.SummaryReads.{range_bounds, name_total}
use Rattle.bundle_codec.proofs.Covered.{lies_in, lies_yes, lies_bounds, lies_not, same_tied, above_covers_none}
use Rattle.bundle_codec.proofs.Holding.{id_of}

or_rest : (a b : Bool) → a ≡ false → (a || b) ≡ b
or_rest a b e = ap (λ c. c || b) e

or_none : (a b : Bool) → b ≡ false → (a || b) ≡ a
or_none true b e = refl
or_none false b e = e

in_rest : (a b : Bool) → a ≡ false → (a || b) ≡ true → b ≡ true
in_rest a b e h = sym (or_rest a b e) ∙ h

-- ---- ranges

-- ranges that do not touch, each within its rules
record Right (rs : List NumberRange) : Type 0 where
  each : list_all is_range rs ≡ true
  apart : are_apart rs ≡ true

-- what lies in ranges that begin more than one above a number is above it so
from_above : (m : ℕ) (rs : List NumberRange) (n : ℕ) → list_all (λ (r : NumberRange). ltb (suc m) r.first) rs ≡ true
    → has_number rs n ≡ true → suc m < n
from_above m [] n h e = absurd (true≢false (sym e))
from_above m (r ∷ rs) n h e = by (lies_in n r) refl
    (and_parts (ltb (suc m) r.first) (list_all (λ (x : NumberRange). ltb (suc m) x.first) rs) h) (λ a b. from_above m rs n a b)
  where
    by : (b : Bool) → lies_in n r ≡ b → (ltb (suc m) r.first ≡ true) × (list_all (λ (x : NumberRange). ltb (suc m) x.first) rs ≡ true)
        → (list_all (λ (x : NumberRange). ltb (suc m) x.first) rs ≡ true → has_number rs n ≡ true → suc m < n) → suc m < n
    by true f p on = omega (arith, ltb-true _ _ p.0, (lies_bounds n r f).0)
    by false f p on = on p.1 (in_rest (lies_in n r) (has_number rs n) f e)

module _ (r : NumberRange) (rs : List NumberRange) (right : Right (r ∷ rs)) where
  first_right : (1 ≤ r.first) × ((r.first ≤ r.last) × (r.last ≤ 1000000000000000))
  first_right = range_bounds r (and_parts (is_range r) (list_all is_range rs) right.each).0

  rest_above : list_all (λ (x : NumberRange). ltb (suc r.last) x.first) rs ≡ true
  rest_above = (and_parts (list_all (λ (x : NumberRange). ltb (suc r.last) x.first) rs) (are_apart rs) right.apart).0

  rest_right : Right rs
  rest_right = record {
    each = (and_parts (is_range r) (list_all is_range rs) right.each).1;
    apart = (and_parts (list_all (λ (x : NumberRange). ltb (suc r.last) x.first) rs) (are_apart rs) right.apart).1;
  }

  has_first : has_number (r ∷ rs) r.first ≡ true
  has_first = or_left (lies_in r.first r) (has_number rs r.first) (lies_yes r.first r (omega arith) first_right.1.0)

  first_least : (n : ℕ) → has_number (r ∷ rs) n ≡ true → r.first ≤ n
  first_least n e = by (lies_in n r) refl
    where
      by : (b : Bool) → lies_in n r ≡ b → r.first ≤ n
      by true f = (lies_bounds n r f).0
      by false f = omega (arith, from_above r.last rs n rest_above (in_rest (lies_in n r) (has_number rs n) f e), first_right.1.0)

  -- the first range goes no further than a range with the same numbers around it
  ends_so : (n : ℕ) → r.last < n → n ≤ suc r.last → has_number (r ∷ rs) n ≡ true → ⊥
  ends_so n over near e =
      let out : lies_in n r ≡ false = lies_not n r (λ h. omega (arith, h.1, over)) in
      omega (arith, from_above r.last rs n rest_above (in_rest (lies_in n r) (has_number rs n) out e), near)

  -- the others have the numbers above its end
  rest_over : (n : ℕ) → r.last < n → has_number (r ∷ rs) n ≡ has_number rs n
  rest_over n over = or_rest (lies_in n r) (has_number rs n) (lies_not n r (λ h. omega (arith, h.1, over)))

  rest_under : (n : ℕ) → n ≤ r.last → has_number rs n ≡ false
  rest_under n under = false_from_ne_true (has_number rs n) (λ e. omega (arith, from_above r.last rs n rest_above e, under))

last_no_more : (r s : NumberRange) (rs ss : List NumberRange) → Right (r ∷ rs) → Right (s ∷ ss) → r.first ≡ s.first
    → ((n : ℕ) → has_number (r ∷ rs) n ≡ has_number (s ∷ ss) n) → s.last ≤ r.last
last_no_more r s rs ss a b f same = elim (cases_lt r.last s.last) [
  | inl lt ↦
      let inside : has_number (s ∷ ss) (suc r.last)
      ≡ true = or_left (lies_in (suc r.last) s) (has_number ss (suc r.last))
      (lies_yes (suc r.last) s (omega (arith, f, (first_right r rs a).1.0)) lt) in
      absurd (ends_so r rs a (suc r.last) (omega arith) (omega arith) (same (suc r.last) ∙ inside))
  | inr le ↦ le
]

same_ranges : (rs ss : List NumberRange) → Right rs → Right ss → ((n : ℕ) → has_number rs n ≡ has_number ss n) → rs ≡ ss
same_ranges [] [] a b same = refl
same_ranges [] (s ∷ ss) a b same = absurd (true≢false (sym (has_first s ss b) ∙ sym (same s.first)))
same_ranges (r ∷ rs) [] a b same = absurd (true≢false (sym (has_first r rs a) ∙ same r.first))
same_ranges (r ∷ rs) (s ∷ ss) a b same =
    let f : r.first ≡ s.first =
    omega (
      arith,
      first_least s ss b r.first (sym (same r.first) ∙ has_first r rs a),
      first_least r rs a s.first
          (same s.first ∙ has_first s ss b),
    ) in
    let l : r.last ≡ s.last = omega (arith, last_no_more r s rs ss a b f same, last_no_more s r ss rs b a (sym f) (λ n. sym (same n))) in
    let rest = same_ranges rs ss (rest_right r rs a) (rest_right s ss b) (λ n. elim (cases_lt r.last n) [
      | inl lt ↦ sym (rest_over r rs a n lt) ∙ same n ∙ rest_over s ss b n (omega (arith, lt, l))
      | inr le ↦ rest_under r rs a n le ∙ sym (rest_under s ss b n (omega (arith, le, l)))
    ]) in
    λ i. record { first = f i; last = l i } ∷ rest i

-- ---- names

abbrev Rises : List NameRanges → Type 0
Rises ks = rises_by name_cmp (λ (k : NameRanges). k.name) ks ≡ true

abbrev AllAfter : List ℕ → List NameRanges → Type 0
AllAfter q ks = list_all (λ (k : NameRanges). is_lt (name_cmp q k.name)) ks ≡ true

module _ (k : NameRanges) (ks : List NameRanges) (rises : Rises (k ∷ ks)) where
  after_first : AllAfter k.name ks
  after_first =
      (and_parts (list_all (λ (x : NameRanges). is_lt (name_cmp k.name x.name)) ks)
      (rises_by name_cmp (λ (x : NameRanges). x.name) ks) rises).0

  rest_rises : Rises ks
  rest_rises =
      (and_parts (list_all (λ (x : NameRanges). is_lt (name_cmp k.name x.name)) ks)
      (rises_by name_cmp (λ (x : NameRanges). x.name) ks) rises).1

  rest_none : (n : ℕ) → covers ks (id_of n k.name) ≡ false
  rest_none n = above_covers_none (id_of n k.name) ks after_first

  head_covers : (n : ℕ) → covers (k ∷ ks) (id_of n k.name) ≡ has_number k.ranges n
  head_covers n = or_none (same_bytes k.name k.name && has_number k.ranges n) (covers ks (id_of n k.name)) (rest_none n)
      ∙ ap (λ b. b && has_number k.ranges n) (same_bytes-refl k.name)

  others_cover : (id : Id) → same_bytes k.name id.name ≡ false → covers (k ∷ ks) id ≡ covers ks id
  others_cover id e = ap (λ b. (b && has_number k.ranges id.number) || covers ks id) e

right_of : (k : NameRanges) → AreNameRanges k → Right k.ranges
right_of k h = record { each = h.each; apart = h.apart }

some_number : (rs : List NumberRange) → rs ≢ [] → Right rs → (n : ℕ) × (has_number rs n ≡ true)
some_number [] some a = absurd (some refl)
some_number (r ∷ rs) some a = (r.first, has_first r rs a)

-- the first name is covered, and so no name of the other summary's alone comes after it
not_less : (k j : NameRanges) (ks js : List NameRanges) → AreNameRanges k → Rises (k ∷ ks) → Rises (j ∷ js)
    → ((id : Id) → covers (k ∷ ks) id ≡ covers (j ∷ js) id) → name_cmp k.name j.name ≡ Less → ⊥
not_less k j ks js h a b same less =
    let n = some_number k.ranges h.some (right_of k h) in
    let all : AllAfter k.name (j ∷ js) =
    and_from _ _ (ap is_lt less)
    (above_trans name_cmp name_total (λ (x : NameRanges). x.name) k.name j.name js less (after_first j js b)) in
    true≢false (sym n.1 ∙ sym (head_covers k ks a n.0) ∙ same (id_of n.0 k.name) ∙ above_covers_none (id_of n.0 k.name) (j ∷ js) all)

covered_first : (k : NameRanges) (ks : List NameRanges) → AreNameRanges k → Rises (k ∷ ks) → ((id : Id) → covers (k ∷ ks) id ≡ false) → ⊥
covered_first k ks h a none =
    let n = some_number k.ranges h.some (right_of k h) in
    true≢false (sym n.1 ∙ sym (head_covers k ks a n.0) ∙ none (id_of n.0 k.name))

first_name : (k j : NameRanges) (ks js : List NameRanges) → AreNameRanges k → AreNameRanges j → Rises (k ∷ ks) → Rises (j ∷ js)
    → ((id : Id) → covers (k ∷ ks) id ≡ covers (j ∷ js) id) → k.name ≡ j.name
first_name k j ks js h g a b same = by (name_cmp k.name j.name) refl
  where
    by : (o : Ordering) → name_cmp k.name j.name ≡ o → k.name ≡ j.name
    by Less e = absurd (not_less k j ks js h a b same e)
    by Equal e = sym (same_bytes-is j.name k.name (same_tied k.name j.name ∙ ap is_eq e))
    by Greater e =
        absurd (not_less j k js ks g b a (λ id. sym (same id)) (back name_cmp name_total (λ (x : List ℕ). x) k.name j.name Greater e))

same_names : (ks js : List NameRanges) → AllByRecursion AreNameRanges ks → AllByRecursion AreNameRanges js → Rises ks → Rises js
    → ((id : Id) → covers ks id ≡ covers js id) → ks ≡ js
same_names [] [] h g a b same = refl
same_names [] (j ∷ js) h g a b same = absurd (covered_first j js g.0 b (λ id. sym (same id)))
same_names (k ∷ ks) [] h g a b same = absurd (covered_first k ks h.0 a same)
same_names (k ∷ ks) (j ∷ js) h g a b same =
    let name = first_name k j ks js h.0 g.0 a b same in
    let ranges = same_ranges k.ranges j.ranges (right_of k h.0) (right_of j g.0)
    (λ n. sym (head_covers k ks a n) ∙ same (id_of n k.name) ∙ ap (λ (q : List ℕ). covers (j ∷ js) (id_of n q)) name
    ∙ head_covers j js b n) in
    let rest = same_names ks js h.1 g.1 (rest_rises k ks a) (rest_rises j js b)
    (λ id. tails k j ks js a b same name id (same_bytes k.name id.name) refl) in
    λ i. record { name = name i; ranges = ranges i } ∷ rest i
  where
    tails : (k j : NameRanges) (ks js : List NameRanges) → Rises (k ∷ ks) → Rises (j ∷ js)
        → ((id : Id) → covers (k ∷ ks) id ≡ covers (j ∷ js) id)
        → k.name ≡ j.name → (id : Id) (t : Bool) → same_bytes k.name id.name ≡ t → covers ks id ≡ covers js id
    tails k j ks js a b same name id true e =
        let is = same_bytes-is k.name id.name e in
        ap (λ (q : List ℕ). covers ks (id_of id.number q)) (sym is) ∙ rest_none k ks a id.number
        ∙ sym (ap (λ (q : List ℕ). covers js (id_of id.number q)) (sym is ∙ name) ∙ rest_none j js b id.number)
    tails k j ks js a b same name id false e =
        sym (others_cover k ks a id e) ∙ same id ∙ others_cover j js b id (ap (λ (q : List ℕ). same_bytes q id.name) (sym name) ∙ e)

pub same_summary : (held : List Operation) (a b : List NameRanges) → IsSummaryOf held a → IsSummaryOf held b → a ≡ b
same_summary held a b f g = same_names a b f.form.each g.form.each f.form.rising g.form.rising (λ id. f.exactly id ∙ sym (g.exactly id))
