-- Tokens of which none has a key above another, and the tokens of a text that fits.
use Rattle.std.proofs.Common.{◌≡◌, ℕ, ◌+◌, max, Bool, true, false, not, cond, List, [], ◌∷◌, ◌++◌, length, get_or, codes, Option, None, Some, option_map, sym, refl, ap, ◌∙◌, subst, ⊎_elim, arith, append_assoc, length-append, ◌||◌, add-zero}
use Rattle.std.proofs.lemmas.Bool.{and_parts, and_from, not-true}
use Rattle.std.proofs.lemmas.List.Elements.{All-nil, All-head, All-tail, All-cons}
use Rattle.std.specs.List.{All}
use Rattle.std.specs.Str.{bytes_eq}
use Rattle.usfm_ref.specs.Keys.{KeyParts, book_head, chapter_head, is_head}
use Rattle.usfm_ref.specs.Numbers.{chapter_in, verse_in}
use Rattle.usfm_ref.specs.declared.key.Place.{Place}
use Rattle.usfm_ref.specs.declared.key.Place.TheVariants.{Head, Verse}
use Rattle.usfm_ref.specs.declared.number.VerseMark.{VerseMark}
use Rattle.usfm_ref.proofs.Orders.{same_key-is, same_key-refl}
use Rattle.usfm_token.specs.Tokens.{Lexeme, mark, words, slice_of, joined, tokens_of, BeginsWithNoText, AreLexemes}
use Rattle.usfm_token.proofs.Walk.{each-tokens_of, first_not_empty}
use Rattle.verse_cut.specs.Keys.{key_below, verse_key, mark_key, text_after}
use Rattle.verse_cut.specs.Marks.{Keyed, keyed_marks, with_key, opening}
use Rattle.verse_cut.specs.Fits.{LeadsWith, FitsKey}
use Rattle.verse_cut.specs.Reading.{key_of, Later, goes_on, opens_at, cut_from, not_above, is_quiet, is_key, leads}
use Rattle.verse_cut.proofs.MarkLaws.{chapter_after, keyed_from, keyed_marks-from, below_in_force, rising, opening-from}

-- the first is quiet, and the others are
pub quiet_parts : (k : KeyParts) (t : Lexeme) (ts : List Lexeme) → is_quiet k (t ∷ ts) ≡ true
    → (not_above k (key_of k.chapter t ts) ≡ true) × (is_quiet k ts ≡ true)
quiet_parts k t ts h = and_parts (not_above k (key_of k.chapter t ts)) (is_quiet k ts) h

text_after-append : (ts us : List Lexeme) → BeginsWithNoText us → text_after (ts ++ us) ≡ text_after ts
text_after-append [] [] h = refl
text_after-append [] (mark m ∷ us) h = refl
text_after-append [] (words t ∷ us) h = absurd h
text_after-append (mark m ∷ ts) us h = refl
text_after-append (words t ∷ ts) us h = refl

-- the key of a token before a seam is not changed by what follows the seam
pub key_of-append : (c : ℕ) (t : Lexeme) (ts us : List Lexeme) → BeginsWithNoText us → key_of c t (ts ++ us) ≡ key_of c t ts
key_of-append c (words t) ts us h = refl
key_of-append c (mark m) ts us h = ap (mark_key c m) (text_after-append ts us h)

-- what one token does, by its key
abbrev pub by_key : KeyParts → ℕ → List ℕ → ℕ → List Lexeme → Option KeyParts → Later
by_key g at bytes next ts o = elim o [
  | None ↦ goes_on bytes (cut_from g next ts)
  | Some q ↦ cond (key_below g q) (opens_at q at bytes (cut_from q next ts)) (goes_on bytes (cut_from g next ts))
]

-- a token whose key is not above goes to the open piece
pub stays : (g : KeyParts) (at : ℕ) (bytes : List ℕ) (next : ℕ) (ts : List Lexeme) (o : Option KeyParts) → not_above g o ≡ true
    → by_key g at bytes next ts o ≡ goes_on bytes (cut_from g next ts)
stays g at bytes next ts None n = refl
stays g at bytes next ts (Some q) n =
    ap (λ b. cond b (opens_at q at bytes (cut_from q next ts)) (goes_on bytes (cut_from g next ts))) (not-true (key_below g q) n)

-- tokens of which none is above the greatest key go to the open piece
pub quiet_goes_on : (k : KeyParts) (ts us : List Lexeme) (at : ℕ) → BeginsWithNoText us → is_quiet k ts ≡ true
    → cut_from k at (ts ++ us) ≡ goes_on (joined ts) (cut_from k (at + length (joined ts)) us)
quiet_goes_on k [] us at h q = ap (λ a. cut_from k a us) (sym (add-zero at))
quiet_goes_on k (t ∷ ts) us at h q =
    let parts = quiet_parts k t ts q in
    stays k at (slice_of t) (at + length (slice_of t)) (ts ++ us) (key_of k.chapter t (ts ++ us))
    (ap (not_above k) (key_of-append k.chapter t ts us h) ∙ parts.0)
    ∙ ap (goes_on (slice_of t)) (quiet_goes_on k ts us (at + length (slice_of t)) h parts.1)
    ∙ ap (λ a. goes_on (slice_of t) (goes_on (joined ts) (far a))) place
    ∙ (λ i. (
      sym (append_assoc (slice_of t) (joined ts) (far (at + length (slice_of t ++ joined ts))).0) i,
      (far
          (at + length (slice_of t ++ joined ts))).1,
    ))
  where
    far : ℕ → Later
    far a = cut_from k a us

    place : at + length (slice_of t) + length (joined ts) ≡ at + length (slice_of t ++ joined ts)
    place = omega (arith, length-append (slice_of t) (joined ts))

-- ---- the key of the first mark

-- the key of a head is read in any chapter, and that of a verse in its own
pub key_in_force : (k : KeyParts) (c : ℕ) (t : Lexeme) (ts : List Lexeme) → key_of k.chapter t ts ≡ Some k
    → (is_head k.place ≡ false → c ≡ k.chapter) → key_of c t ts ≡ Some k
key_in_force k c (words t) ts h same = absurd (cc)
key_in_force k c (mark m) ts h same = by k.place refl
  where
    head_by : k.place ≡ Head → (e f g : Bool) (n : Option ℕ) (v : Option VerseMark)
        → cond e None (cond f (option_map chapter_head n) (cond g (option_map (verse_key k.chapter) v) None)) ≡ Some k
        → cond e None (cond f (option_map chapter_head n) (cond g (option_map (verse_key c) v) None)) ≡ Some k
    head_by is true f g n v h = h
    head_by is false true g n v h = h
    head_by is false false false n v h = h
    head_by is false false true n None h = absurd (cc)
    head_by is false false true n (Some v) h =
        absurd (let verse : Verse v.number v.letter ≡ k.place = cc in let head : Verse v.number v.letter ≡ Head = verse ∙ is in cc)

    by : (p : Place) → k.place ≡ p → key_of c (mark m) ts ≡ Some k
    by (Verse n a) is = ap (λ x. key_of x (mark m) ts) (same (ap is_head is)) ∙ h
    by Head is = head_by is (m.nested || m.closing) (bytes_eq m.name (codes "c")) (bytes_eq m.name (codes "v"))
        (chapter_in (text_after ts)) (verse_in (text_after ts)) h

is_key-is : (k : KeyParts) (o : Option KeyParts) → is_key k o ≡ true → o ≡ Some k
is_key-is k None h = absurd (cc)
is_key-is k (Some q) h = ap Some (same_key-is q k h)

is_key-from : (k : KeyParts) (o : Option KeyParts) → o ≡ Some k → is_key k o ≡ true
is_key-from k o h = ap (is_key k) h ∙ same_key-refl k

-- tokens that lead with a key: the first has it, and the others are quiet
pub leads_parts : (k : KeyParts) (t : Lexeme) (ts : List Lexeme) → leads k (t ∷ ts) ≡ true
    → (key_of k.chapter t ts ≡ Some k) × (is_quiet k ts ≡ true)
leads_parts k t ts h =
    let p = and_parts (is_key k (key_of k.chapter t ts)) (is_quiet k ts) h in (is_key-is k (key_of k.chapter t ts) p.0, p.1)

-- a token of the key and quiet ones after it lead with it
pub leads_from : (k : KeyParts) (t : Lexeme) (ts : List Lexeme) → key_of k.chapter t ts ≡ Some k → is_quiet k ts ≡ true
    → leads k (t ∷ ts) ≡ true
leads_from k t ts h q = and_from (is_key k (key_of k.chapter t ts)) (is_quiet k ts) (is_key-from k (key_of k.chapter t ts) h) q

-- ---- what is quiet, by its marks

abbrev NoneAbove : KeyParts → List Keyed → Type 0
NoneAbove k ms = All (λ later. key_below k later.key ≡ false) ms

rising-none : (k : KeyParts) (ms : List Keyed) → NoneAbove k ms → rising k ms ≡ []
rising-none k [] h = refl
rising-none k (m ∷ ms) h =
    ap (λ b. cond b (m ∷ rising m.key ms) (rising k ms)) (All-head (λ later. key_below k later.key ≡ false) m ms h)
    ∙ rising-none k ms (All-tail (λ later. key_below k later.key ≡ false) m ms h)

none-rising : (k : KeyParts) (ms : List Keyed) → rising k ms ≡ [] → NoneAbove k ms
none-rising k [] h = All-nil (λ later. key_below k later.key ≡ false)
none-rising k (m ∷ ms) h = by (none-rising k ms) (key_below k m.key) refl h
  where
    by : (rising k ms ≡ [] → NoneAbove k ms) → (e : Bool) → key_below k m.key ≡ e → cond e (m ∷ rising m.key ms) (rising k ms) ≡ []
        → NoneAbove k (m ∷ ms)
    by go true is h = absurd (cc)
    by go false is h = All-cons (λ later. key_below k later.key ≡ false) m ms is (go h)

rising_quiet : (k : KeyParts) (at : ℕ) (ts : List Lexeme) → rising k (keyed_from k.chapter at ts) ≡ [] → is_quiet k ts ≡ true
rising_quiet k at [] h = refl
rising_quiet k at (t ∷ ts) h =
    let p = by (key_of k.chapter t ts) (rising_quiet k (at + length (slice_of t)) ts) h in
    and_from (not_above k (key_of k.chapter t ts)) (is_quiet k ts) p.0 p.1
  where
    by : (o : Option KeyParts) → (rising k (keyed_from k.chapter (at + length (slice_of t)) ts) ≡ [] → is_quiet k ts ≡ true)
        → rising k (with_key o at (keyed_from (chapter_after k.chapter o) (at + length (slice_of t)) ts)) ≡ []
        → (not_above k o ≡ true) × (is_quiet k ts ≡ true)
    by None go h = (refl, go h)
    by (Some q) go h = by_test (key_below k q) refl h
      where
        by_test : (e : Bool) → key_below k q ≡ e
            → cond e (record { key = q; at = at } ∷ rising q (keyed_from (max k.chapter q.chapter) (at + length (slice_of t)) ts))
            (rising k (keyed_from (max k.chapter q.chapter) (at + length (slice_of t)) ts)) ≡ []
            → (not (key_below k q) ≡ true) × (is_quiet k ts ≡ true)
        by_test true is h = absurd (cc)
        by_test false is h =
            (ap not is, go (ap (λ c. rising k (keyed_from c (at + length (slice_of t)) ts)) (sym (below_in_force k q is)) ∙ h))

-- of quiet tokens no mark rises
pub quiet_rising : (k : KeyParts) (at : ℕ) (ts : List Lexeme) → is_quiet k ts ≡ true → rising k (keyed_from k.chapter at ts) ≡ []
quiet_rising k at [] h = refl
quiet_rising k at (t ∷ ts) h =
    let p = quiet_parts k t ts h in by (quiet_rising k (at + length (slice_of t)) ts p.1) (key_of k.chapter t ts) p.0
  where
    by : rising k (keyed_from k.chapter (at + length (slice_of t)) ts) ≡ [] → (o : Option KeyParts) → not_above k o ≡ true
        → rising k (with_key o at (keyed_from (chapter_after k.chapter o) (at + length (slice_of t)) ts)) ≡ []
    by go None n = go
    by go (Some q) n =
        let below = not-true (key_below k q) n in
        ap (λ b. cond b (record { key = q; at = at } ∷ rising q (keyed_from (max k.chapter q.chapter) (at + length (slice_of t)) ts))
        (rising k (keyed_from (max k.chapter q.chapter) (at + length (slice_of t)) ts))) below
        ∙ ap (λ c. rising k (keyed_from c (at + length (slice_of t)) ts)) (below_in_force k q below)
        ∙ go

-- no mark of a text opens a piece where its tokens are quiet to the book head
pub head_quiet : (s : List ℕ) → opening (keyed_marks 0 s) ≡ [] → is_quiet book_head (tokens_of s) ≡ true
head_quiet s h = rising_quiet book_head 0 (tokens_of s) (sym (opening-from s) ∙ h)

-- in a text that is quiet at the head of the book no mark opens a piece
pub quiet_head : (s : List ℕ) → is_quiet book_head (tokens_of s) ≡ true → opening (keyed_marks 0 s) ≡ []
quiet_head s h = opening-from s ∙ quiet_rising book_head 0 (tokens_of s) h

-- ---- a text that a mark leads

-- a mark with a key that is at 0 comes after no token
leads_place : (k : KeyParts) (c at : ℕ) (ts : List Lexeme) → LeadsWith k (keyed_from c at ts) → at ≡ 0
leads_place k c at [] h = absurd h
leads_place k c at (t ∷ ts) h = by (key_of c t ts) (λ l. let e = leads_place k c (at + length (slice_of t)) ts l in omega arith) h
  where
    by : (o : Option KeyParts) → (LeadsWith k (keyed_from c (at + length (slice_of t)) ts) → at ≡ 0)
        → LeadsWith k (with_key o at (keyed_from (chapter_after c o) (at + length (slice_of t)) ts)) → at ≡ 0
    by None go h = go h
    by (Some q) go h = h.0

own_in_force : (k : KeyParts) → max k.chapter k.chapter ≡ k.chapter
own_in_force k = omega arith

leads_tokens : (k : KeyParts) (ts : List Lexeme) → AreLexemes ts → LeadsWith k (keyed_from k.chapter 0 ts) → leads k ts ≡ true
leads_tokens k [] each h = absurd h
leads_tokens k (t ∷ ts) each h = let p = by (key_of k.chapter t ts) h in leads_from k t ts p.0 p.1
  where
    by : (o : Option KeyParts) → LeadsWith k (with_key o 0 (keyed_from (chapter_after k.chapter o) (0 + length (slice_of t)) ts))
        → (o ≡ Some k) × (is_quiet k ts ≡ true)
    by None h = let e = leads_place k k.chapter (0 + length (slice_of t)) ts h in absurd (omega (arith, first_not_empty t ts each))
    by (Some q) h =
        let none : rising k (keyed_from (max k.chapter q.chapter) (0 + length (slice_of t)) ts) ≡ [] = rising-none k _ h.2 in (
          ap Some h.1,
          rising_quiet k (0 + length (slice_of t)) ts
              (ap (λ c. rising k (keyed_from c (0 + length (slice_of t)) ts))
              (sym (ap (λ (x : KeyParts). max k.chapter x.chapter) h.1 ∙ own_in_force k)) ∙ none),
        )

-- what is read as leading with a key does so
pub tokens_lead : (k : KeyParts) (ts : List Lexeme) → leads k ts ≡ true → LeadsWith k (keyed_from k.chapter 0 ts)
tokens_lead k [] h = absurd (cc)
tokens_lead k (t ∷ ts) h =
    let p = leads_parts k t ts h in
    subst (λ o. LeadsWith k (with_key o 0 (keyed_from (chapter_after k.chapter o) (0 + length (slice_of t)) ts))) (sym p.0) (
      refl,
      refl,
      none-rising k _
          (ap (λ c. rising k (keyed_from c (0 + length (slice_of t)) ts)) (own_in_force k)
          ∙ quiet_rising k (0 + length (slice_of t)) ts p.1),
    )

-- a text leads with a key where its tokens do
pub lead_with : (k : KeyParts) (s : List ℕ) → leads k (tokens_of s) ≡ true → LeadsWith k (keyed_marks k.chapter s)
lead_with k s h = subst (LeadsWith k) (sym (keyed_marks-from k.chapter s)) (tokens_lead k (tokens_of s) h)

-- what leads with a key is read so
pub with_lead : (k : KeyParts) (s : List ℕ) → LeadsWith k (keyed_marks k.chapter s) → leads k (tokens_of s) ≡ true
with_lead k s h = leads_tokens k (tokens_of s) (each-tokens_of s) (subst (LeadsWith k) (keyed_marks-from k.chapter s) h)

-- a text that fits a key and is not empty leads with it
pub fits_leads : (k : KeyParts) (b : ℕ) (bs : List ℕ) → FitsKey k (b ∷ bs) → leads k (tokens_of (b ∷ bs)) ≡ true
fits_leads k b bs h = ⊎_elim (λ e. absurd (cc)) (λ l. with_lead k (b ∷ bs) l) h

-- a text that a mark begins has a backslash at its front
pub leads_byte : (k : KeyParts) (ts : List Lexeme) → leads k ts ≡ true → get_or (joined ts) 0 0 ≡ 92
leads_byte k [] h = absurd (cc)
leads_byte k (mark m ∷ ts) h = refl
leads_byte k (words w ∷ ts) h = absurd (cc)
