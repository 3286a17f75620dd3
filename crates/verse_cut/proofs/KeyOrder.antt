-- The order of keys: what comes before what, and what that says of chapters.
use Rattle.std.proofs.Common.{◌≡◌, ◌≤◌, ℕ, Bool, true, false, not, ◌||◌, ◌&&◌, ◌==◌, cond, nat_lt, refl, sym, ap, ◌∙◌, arith}
use Rattle.std.specs.declared.cmp.Ordering.{Ordering}
use Rattle.std.specs.declared.cmp.Ordering.TheVariants.{Less, Equal, Greater}
use Rattle.std.specs.Ordering.{is_lt, ordering_then, ordering_reverse}
use Rattle.std.specs.Cmp.{tied_itself}
use Rattle.std.proofs.lemmas.Bool.{not-true}
use Rattle.std.proofs.lemmas.Bool.Decides.{nat_tests}
use Rattle.usfm_ref.specs.Keys.{KeyParts, key_cmp, place_cmp, book_head, head_of, same_key, same_place}
use Rattle.usfm_ref.specs.declared.key.Place.{Place}
use Rattle.usfm_ref.specs.declared.key.Place.TheVariants.{Head, Verse}
use Rattle.usfm_ref.proofs.Orders.{key_total, key_exact}
use Rattle.usfm_ref.proofs.Sorted.{is_less}
use Rattle.verse_cut.specs.Keys.{key_below}

-- what is below a key is below all greater ones
pub below_trans : (a b c : KeyParts) → key_below a b ≡ true → key_below b c ≡ true → key_below a c ≡ true
below_trans a b c p q = ap is_lt (key_total.trans a b c (is_less _ p) (is_less _ q))

-- what is not below one key comes before all that the key comes before
pub below_weak : (a b c : KeyParts) → key_below a b ≡ false → key_below a c ≡ true → key_below b c ≡ true
below_weak a b c p q = by (key_cmp a b) refl
  where
    by : (r : Ordering) → key_cmp a b ≡ r → key_below b c ≡ true
    by Less e = absurd (let too : key_below a b ≡ true = ap is_lt e in cc)
    by Equal e = ap (λ (k : KeyParts). key_below k c) (sym (key_exact a b e)) ∙ q
    by Greater e = below_trans b a c (ap is_lt (key_total.antisymm b a ∙ ap ordering_reverse e)) q

-- no key is below itself
pub below_self : (a : KeyParts) → key_below a a ≡ false
below_self a = ap is_lt (tied_itself key_total a)

-- the order, as tests on numbers
tests : (less same : Bool) (r : Ordering) → is_lt (ordering_then (cond less Less (cond same Equal Greater)) r) ≡ less || (same && is_lt r)
tests true same r = refl
tests false true r = refl
tests false false r = refl

-- one key is below another by its chapter, or in one chapter by its place
pub key_below-is : (a b : KeyParts)
    → key_below a b ≡ nat_lt a.chapter b.chapter || (a.chapter == b.chapter && is_lt (place_cmp a.place b.place))
key_below-is a b = tests (nat_lt a.chapter b.chapter) (a.chapter == b.chapter) (place_cmp a.place b.place)

-- a lower key has no greater chapter
pub below_chapter : (a b : KeyParts) → key_below a b ≡ true → a.chapter ≤ b.chapter
below_chapter a b p =
    let t : nat_lt a.chapter b.chapter || (a.chapter == b.chapter && is_lt (place_cmp a.place b.place)) ≡ true = sym (key_below-is a b)
    ∙ p in
    grind (arith, nat_tests)

-- a key that is not lower has no smaller chapter
pub not_below_chapter : (a b : KeyParts) → key_below a b ≡ false → b.chapter ≤ a.chapter
not_below_chapter a b p =
    let t : nat_lt a.chapter b.chapter || (a.chapter == b.chapter && is_lt (place_cmp a.place b.place)) ≡ false = sym (key_below-is a b)
    ∙ p in
    grind (arith, nat_tests)

-- no place comes before a chapter's head
pub nothing_before_head : (x : Place) → is_lt (place_cmp x Head) ≡ false
nothing_before_head Head = refl
nothing_before_head (Verse n l) = refl

-- no key comes before the head of its chapter
pub not_below_own_head : (k : KeyParts) → key_below k (head_of k) ≡ false
not_below_own_head k =
    let none : is_lt (place_cmp k.place Head) ≡ false = nothing_before_head k.place in
    let t = key_below-is k (head_of k) in
    t ∙ ap (λ e. nat_lt k.chapter k.chapter || (k.chapter == k.chapter && e)) none
    ∙ later (nat_lt k.chapter k.chapter) (k.chapter == k.chapter) (irreflexive k.chapter)
  where
    irreflexive : (n : ℕ) → nat_lt n n ≡ false
    irreflexive n = grind (arith, nat_tests)

    later : (x y : Bool) → x ≡ false → x || (y && false) ≡ false
    later true y h = absurd (cc)
    later false true h = refl
    later false false h = refl

head_or_after : (x : Place) → is_lt (place_cmp Head x) ≡ not (same_place x Head)
head_or_after Head = refl
head_or_after (Verse n l) = refl

-- every key but the book head itself comes after it
pub above_book_head : (k : KeyParts) → key_below book_head k ≡ not (same_key k book_head)
above_book_head k =
    key_below-is book_head k ∙ ap (λ e. nat_lt 0 k.chapter || (0 == k.chapter && e)) (head_or_after k.place) ∙ by (same_place k.place Head)
  where
    by : (e : Bool) → nat_lt 0 k.chapter || (0 == k.chapter && not e) ≡ not (k.chapter == 0 && e)
    by true = grind (arith, nat_tests)
    by false = grind (arith, nat_tests)

-- a key after the book head is another one
pub not_book_head : (k : KeyParts) → key_below book_head k ≡ true → same_key k book_head ≡ false
not_book_head k h = not-true (same_key k book_head) (sym (above_book_head k) ∙ h)
