-- Names that are lent, one after another.
use Rattle.std.proofs.Common.{◌≡◌, ◌≢◌, ℕ, ◌+◌, ◌-◌, ◌<◌, Bool, true, false, cond, Option, None, Some, MatchOption, refl, drop, List, [], ◌∷◌, ◌++◌, length, take, get_or, filter, map, ap, sym, ◌∙◌, arith, Bor, string_bytes, String, Global}
use Rattle.std.proofs.lemmas.List.{get_or-map, take-map, length-map, take_all, take_more, map_push}
use Rattle.std.specs.Cmp.Lexicographic.{slice_cmp}
use Rattle.std.specs.List.Sorted.{IsSorted}
use Rattle.std.specs.Ordering.{nat_cmp}
use Rattle.std.proofs.lemmas.List.Elements.{filter-append}
use Rattle.std.specs.Str.Pattern.{FindsTextSuffix, StripsSuffix}
use Rattle.kept_days.specs.Days.{AreInOrder, from_day, is_before, texts, to_go}

-- the first of some texts
texts-take : (n : ℕ) (days : List (Bor (List ℕ))) → texts (take n days) ≡ take n (texts days)
texts-take n days = sym (take-map (λ (t : Bor (List ℕ)). t.now) n days)

-- those that go
pub gone_are : (n : ℕ) (days : List (Bor (List ℕ))) → n ≡ length days - 400 → texts (take n days) ≡ to_go (texts days)
gone_are n days h =
    let e : n ≡ length (texts days) - 400 = omega (arith, h, length-map days (λ (t : Bor (List ℕ)). t.now)) in
    texts-take n days ∙ ap (λ (k : ℕ). take k (texts days)) e

abbrev bytes_of : List (String Global) → List (List ℕ)
bytes_of names = map (λ n. string_bytes n) names

-- the days of names, of which one more was looked at
pub days_more : (p : List ℕ → Bool) (names : List (String Global)) (i : ℕ) (name : String Global) (old more : List (List ℕ))
    → i < length names → name ≡ get_or names i name
    → more ≡ old ++ filter p (string_bytes name ∷ []) → old ≡ filter p (bytes_of (take i names))
    → more ≡ filter p (bytes_of (take (i + 1) names))
days_more p names i name old more l is pushed so =
    pushed ∙ ap (λ (days : List (List ℕ)). days ++ filter p (string_bytes name ∷ [])) so
    ∙ sym (filter-append p (bytes_of (take i names)) (string_bytes name ∷ []))
    ∙ ap (filter p) (sym (map_push (λ n. string_bytes n) (take i names) name)
    ∙ ap bytes_of (ap (λ (n : String Global). take i names ++ n ∷ []) is ∙ sym (take_more names i name l)))

abbrev pub no_text : Bor (List ℕ)
no_text = record { ref_ptr = (0, 0); now = [] }

-- the first of some days is not before the one that is asked for
pub from_here : (asked : List ℕ) (days : List (Bor (List ℕ))) (d : Bor (List ℕ)) → 0 < length days
    → is_before (get_or days 0 d).now asked ≡ false → from_day asked (texts days) ≡ texts days
unfolding from_day
from_here asked [] d some late = absurd (omega (arith, some))
from_here asked (day ∷ later) d some late =
    ap (λ (b : Bool). cond b (from_day asked (texts later)) (day.now ∷ texts later)) late

-- it is
pub from_later : (asked : List ℕ) (days : List (Bor (List ℕ))) (d : Bor (List ℕ)) → 0 < length days
    → is_before (get_or days 0 d).now asked ≡ true
    → from_day asked (texts days) ≡ from_day asked (texts (take (length days - 1) (drop 1 days)))
unfolding from_day
from_later asked [] d some early = absurd (omega (arith, some))
from_later asked (day ∷ later) d some early =
    ap (λ (b : Bool). cond b (from_day asked (texts later)) (day.now ∷ texts later)) early
    ∙ ap (λ (days : List (Bor (List ℕ))). from_day asked (texts days)) (sym (take_all (length (day ∷ later) - 1) later (omega arith)))

pub from_none : (asked : List ℕ) (days : List (Bor (List ℕ))) → length days ≡ 0 → from_day asked (texts days) ≡ texts days
unfolding from_day
from_none asked [] none = refl
from_none asked (day ∷ later) none = absurd (omega (arith, none))

-- what stands before an end, as `strip_suffix` answers it
pub before_text : (end s : List ℕ) (r : Option (Bor (List ℕ)))
    → MatchOption r (FindsTextSuffix end s None) (λ x. StripsSuffix (FindsTextSuffix end) s x.now)
    → MatchOption r ((front : List ℕ) → s ≢ front ++ end) (λ x. s ≡ x.now ++ end)
before_text end s None h = h
before_text end s (Some x) (k, h, e, l) = h.1 ∙ ap (λ (front : List ℕ). front ++ end) (sym e)

-- days that are lent in their order
pub in_order : (days : List (Bor (List ℕ))) → IsSorted (λ a b. slice_cmp nat_cmp a.now b.now) days → AreInOrder (texts days)
in_order days h k d a b =
    let late : k + 1 < length days = omega (arith, b, length-map days (λ (t : Bor (List ℕ)). t.now)) in
    (λ i. is_before (get_or-map (λ (t : Bor (List ℕ)). t.now) days (k + 1) no_text d late i)
    (get_or-map (λ (t : Bor (List ℕ)). t.now) days k no_text d (omega (arith, late)) i))
    ∙ h k no_text a late
