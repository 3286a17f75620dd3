-- Each reader of the fields of an operation reads exactly what is spelled so.
use Rattle.std.proofs.Common.{◌≡◌, ℕ, zero, suc, ◌+◌, ◌^◌, ◌<◌, Bool, true, not, ◌&&◌, eqb, leb, ltb, List, [], ◌∷◌, ◌++◌, length, Option, Some, None, Ok, refl, sym, ap, subst, ◌∙◌, arith, inl, inr, lit<}
use Rattle.std.specs.Int.{w16, w64, to_be_bytes}
use Rattle.std.specs.List.{list_all}
use Rattle.std.proofs.lemmas.Bool.{leb-true, and_parts, and_from, or_cases, or_right, eqb-true}
use Rattle.std.proofs.lemmas.List.{append-nil}
use Rattle.usfm_ref.specs.declared.key.Place.{Place}
use Rattle.usfm_ref.specs.declared.key.Place.TheVariants.{Head, Verse}
use Rattle.usfm_ref.specs.Keys.{KeyParts, is_place, is_key, is_letter}
use Rattle.op_core.specs.Names.{is_name, is_name_char}
use Rattle.op_core.specs.Ids.{Id, is_number, is_id, names_fall}
use Rattle.op_core.specs.Ops.{or_empty}
use Rattle.bundle_codec.specs.declared.fault.BundleFault.{BundleFault}
use Rattle.bundle_codec.specs.declared.fault.BundleFault.TheVariants.{Truncated, BadTag}
use Rattle.bundle_codec.specs.Spelling.{id, letter, place, key, ids, counted_text, body}
use Rattle.bundle_codec.specs.Reading.{◌>>=◌, any, is_name_length, id_at, is_verse, is_letter_byte, place_of, place_at, key_at, comes_after, named_at, after_id, replaced_at, counted_text_at, is_tag, text_after, body_at}
use Rattle.bundle_codec.proofs.Readers.{Each, Takes, Reads, bind_ok, ok_is, cut_made, cut_as, step, ends, checked, reads_as, many_reads}
use Rattle.bundle_codec.proofs.FieldReaders.{byte_reads, block_reads, number_reads, wide16, wide64}
use Rattle.bundle_codec.proofs.RisingIds.{Climbs, rises-from_climbs, climbs-from_rises}

-- ---- an id

pub name_length : (name : List ℕ) → is_name name ≡ true → is_name_length (length name) ≡ true
name_length name h = (and_parts (is_name_length (length name)) (list_all is_name_char name) h).0

pub number_below : (n : ℕ) → is_number n ≡ true → n < 2 ^ 64
number_below n h = omega (arith, leb-true n 1000000000000000 (and_parts (leb 1 n) (leb n 1000000000000000) h).1)

pub id_reads : (bad : BundleFault) → Reads (id_at bad) id (λ i. is_id i ≡ true)
unfolding id_at
id_reads bad =
    reads_as id (λ i. is_id i ≡ true)
    (step (λ (i : Id). i.number) (number_reads w64 (2 ^ 64) wide64 is_number bad) (λ number.
    step (λ (i : Id). length i.name) (byte_reads is_name_length bad) (λ len.
    step (λ (i : Id). i.name) (block_reads len is_name bad) (λ name.
    ends (record { number = number; name = name }))
    (λ name i _ e. ap (λ (j : Id). j.name) (sym e)))
    (λ len i _ f. f.0.0))
    (λ number i _ f. ap (λ (j : Id). j.number) (sym f.1.1)))
    (λ i f. and_from _ _ f.0.1 f.1.1.0.1)
    (λ i f. let p = and_parts (is_number i.number) (is_name i.name) f in
    ((number_below i.number p.0, p.0), (name_length i.name p.1, ((refl, p.1), refl))))
    (λ i f. ap (λ (w : List ℕ). to_be_bytes w64 i.number ++ (length i.name ∷ w)) (append-nil i.name))

-- ---- ids that are named as replaced

-- an id that may be after those before it
abbrev pub IsNamed : Id → Option Id → Id → Type 0
IsNamed own before i = (is_id i ≡ true) × ((comes_after before i && ltb i.number own.number) ≡ true)

pub named_reads : (bad : BundleFault) (own : Id) (before : Option Id) → Reads (named_at bad own before) id (IsNamed own before)
unfolding named_at
named_reads bad own before =
    reads_as id (IsNamed own before)
    (step (λ (i : Id). i) (id_reads bad) (λ i. checked (comes_after before i && ltb i.number own.number) bad (ends i)) (λ i c _ f. sym f.1))
    (λ i f. (f.0, f.1.0))
    (λ i f. (f.0, (f.1, refl)))
    (λ i f. append-nil (id i))

-- what may be named as replaced by the operation of an id
abbrev pub AreNamed : Id → List Id → Type 0
AreNamed own named = (length named < 2 ^ 64) × ((list_all is_id named ≡ true) × (names_fall own named ≡ true))

each_climbs : (own : Id) (before : Option Id) (named : List Id) → Each (IsNamed own) after_id before named → Climbs (λ i. i) before named
each_climbs own before [] e = tt
each_climbs own before (i ∷ named) e =
    ((and_parts (comes_after before i) (ltb i.number own.number) e.0.1).0, each_climbs own (Some i) named e.1)

each_is_id : (own : Id) (before : Option Id) (named : List Id) → Each (IsNamed own) after_id before named → list_all is_id named ≡ true
each_is_id own before [] e = refl
each_is_id own before (i ∷ named) e = and_from _ _ e.0.0 (each_is_id own (Some i) named e.1)

each_falls : (own : Id) (before : Option Id) (named : List Id) → Each (IsNamed own) after_id before named
    → list_all (λ (n : Id). ltb n.number own.number) named ≡ true
each_falls own before [] e = refl
each_falls own before (i ∷ named) e =
    and_from _ _ (and_parts (comes_after before i) (ltb i.number own.number) e.0.1).1 (each_falls own (Some i) named e.1)

each_named : (own : Id) (before : Option Id) (named : List Id) → list_all is_id named ≡ true → Climbs (λ i. i) before named
    → list_all (λ (n : Id). ltb n.number own.number) named ≡ true → Each (IsNamed own) after_id before named
each_named own before [] a c b = tt
each_named own before (i ∷ named) a c b =
    let p = and_parts (is_id i) (list_all is_id named) a in
    let q = and_parts (ltb i.number own.number) (list_all (λ (n : Id). ltb n.number own.number) named) b in
    ((p.0, and_from _ _ c.0 q.0), each_named own (Some i) named p.1 c.1 q.1)

pub replaced_reads : (bad : BundleFault) (own : Id) → Reads (replaced_at bad own) ids (AreNamed own)
unfolding replaced_at
replaced_reads bad own =
    reads_as ids (AreNamed own)
    (step (λ (named : List Id). length named) (number_reads w64 (2 ^ 64) wide64 any Truncated) (λ count.
    many_reads (named_at bad own) after_id id (IsNamed own) (named_reads bad own) count None)
    (λ count named _ f. f.0))
    (λ named f. (
      f.0.0,
      (
        each_is_id own None named f.1.1,
        and_from _ _
            (rises-from_climbs (λ i. i) None named (each_climbs own None named f.1.1)) (each_falls own None named f.1.1),
      ),
    ))
    (λ named f. let p = and_parts _ (list_all (λ (n : Id). ltb n.number own.number) named) f.1.1 in
    ((f.0, refl), (refl, each_named own None named f.1.0 (climbs-from_rises (λ i. i) named p.0) p.1)))
    (λ named f. refl)

-- ---- a key

pub kind_of : Place → ℕ
kind_of Head = 0
kind_of (Verse n l) = 1

pub verse_of : Place → ℕ
verse_of Head = 0
verse_of (Verse n l) = n

pub letter_of : Place → ℕ
letter_of Head = 0
letter_of (Verse n l) = letter l

place_kind : (k v l : ℕ) (p : Place) → leb k 1 ≡ true → place_of k v l ≡ p → kind_of p ≡ k
unfolding kind_of
place_kind zero v l p le e = ap kind_of (sym e)
place_kind (suc zero) v zero p le e = ap kind_of (sym e)
place_kind (suc zero) v (suc l) p le e = ap kind_of (sym e)
place_kind (suc (suc k)) v l p le e = absurd (omega (arith, leb-true _ _ le))

place_verse : (k v l : ℕ) (p : Place) → is_verse k v ≡ true → place_of k v l ≡ p → verse_of p ≡ v
unfolding verse_of
place_verse zero v l p h e = ap verse_of (sym e) ∙ sym (eqb-true v 0 h)
place_verse (suc k) v zero p h e = ap verse_of (sym e)
place_verse (suc k) v (suc l) p h e = ap verse_of (sym e)

place_letter : (k v l : ℕ) (p : Place) → is_letter_byte k l ≡ true → place_of k v l ≡ p → letter_of p ≡ l
unfolding letter_of
place_letter zero v zero p h e = ap letter_of (sym e)
place_letter zero v (suc l) p h e =
    elim (or_cases (eqb (suc l) 0) (eqb 0 1 && is_letter (Some (suc l))) h) [
      | inl z ↦ absurd (omega (arith, eqb-true (suc l) 0 z))
      | inr z ↦ let one : eqb 0 1 ≡ true = (and_parts (eqb 0 1) (is_letter (Some (suc l))) z).0 in absurd cc
    ]
place_letter (suc k) v zero p h e = ap letter_of (sym e)
place_letter (suc k) v (suc l) p h e = ap letter_of (sym e)

-- what the three bytes and the place that is made of them say of each other
abbrev pub IsRead : Place → Type 0
IsRead p = (leb (kind_of p) 1 ≡ true)
    × (((verse_of p < 2 ^ 16) × (is_verse (kind_of p) (verse_of p) ≡ true))
    × ((is_letter_byte (kind_of p) (letter_of p) ≡ true) × (place_of (kind_of p) (verse_of p) (letter_of p) ≡ p)))

lettered : (n c : ℕ) → is_letter_byte 1 c ≡ true → place_of 1 n c ≡ Verse n (Some c) → is_letter (Some c) ≡ true
lettered n zero h e = absurd cc
lettered n (suc c) h e =
    elim (or_cases (eqb (suc c) 0) (eqb 1 1 && is_letter (Some (suc c))) h) [
      | inl z ↦ absurd (omega (arith, eqb-true (suc c) 0 z))
      | inr z ↦ (and_parts (eqb 1 1) (is_letter (Some (suc c))) z).1
    ]

letter_again : (n c : ℕ) → is_letter (Some c) ≡ true → (is_letter_byte 1 c ≡ true) × (place_of 1 n c ≡ Verse n (Some c))
letter_again n zero h = absurd cc
letter_again n (suc c) h = (or_right _ _ h, refl)

place_to : (p : Place) → IsRead p → is_place p ≡ true
unfolding kind_of verse_of letter_of
place_to Head f = refl
place_to (Verse n None) f = f.1.0.1
place_to (Verse n (Some c)) f = and_from _ _ (and_parts (leb n 999) true f.1.0.1).0 (lettered n c f.1.1.0 f.1.1.1)

verse_below : (n : ℕ) → leb n 999 ≡ true → n < 2 ^ 16
verse_below n h = omega (arith, leb-true n 999 h)

pub place_from : (p : Place) → is_place p ≡ true → IsRead p
unfolding kind_of verse_of letter_of
place_from Head f = (refl, ((lit< tt, refl), (refl, refl)))
place_from (Verse n None) f = (refl, ((verse_below n (and_parts (leb n 999) true f).0, f), (refl, refl)))
place_from (Verse n (Some c)) f =
    let p = and_parts (leb n 999) (is_letter (Some c)) f in
    let a = letter_again n c p.1 in
    (refl, ((verse_below n p.0, and_from _ _ p.0 refl), (a.0, a.1)))

pub place_spelled : (p : Place) → (kind_of p ∷ []) ++ (to_be_bytes w16 (verse_of p) ++ ((letter_of p ∷ []) ++ [])) ≡ place p
unfolding kind_of verse_of letter_of
place_spelled Head = refl
place_spelled (Verse n l) = refl

pub place_reads : (bad : BundleFault) → Reads (place_at bad) place (λ p. is_place p ≡ true)
unfolding place_at
place_reads bad =
    reads_as place (λ p. is_place p ≡ true)
    (step kind_of (byte_reads (λ b. leb b 1) bad) (λ kind.
    step verse_of (number_reads w16 (2 ^ 16) wide16 (is_verse kind) bad) (λ verse.
    step letter_of (byte_reads (is_letter_byte kind) bad) (λ letter.
    ends (place_of kind verse letter))
    (λ letter p h e. place_letter kind verse letter p h e))
    (λ verse p h f. place_verse kind verse (letter_of p) p h.1 f.1))
    (λ kind p h f. place_kind kind (verse_of p) (letter_of p) p h f.1.1))
    place_to place_from (λ p f. place_spelled p)

pub key_below : (k : KeyParts) → is_key k.chapter k.place ≡ true → k.chapter < 2 ^ 16
key_below k f = verse_below k.chapter (and_parts (leb k.chapter 999) (is_place k.place) f).0

pub key_reads : (bad : BundleFault) → Reads (key_at bad) key (λ k. is_key k.chapter k.place ≡ true)
unfolding key_at
key_reads bad =
    reads_as key (λ k. is_key k.chapter k.place ≡ true)
    (step (λ (k : KeyParts). k.chapter) (number_reads w16 (2 ^ 16) wide16 (λ n. is_key n Head) bad) (λ chapter.
    step (λ (k : KeyParts). k.place) (place_reads bad) (λ place.
    ends (record { chapter = chapter; place = place }))
    (λ place k _ e. ap (λ (j : KeyParts). j.place) (sym e)))
    (λ chapter k _ f. ap (λ (j : KeyParts). j.chapter) (sym f.1)))
    (λ k f. and_from _ _ (and_parts (leb k.chapter 999) true f.0.1).0 f.1.0)
    (λ k f. let p = and_parts (leb k.chapter 999) (is_place k.place) f in
    ((verse_below k.chapter p.0, and_from _ _ p.0 refl), (p.1, refl)))
    (λ k f. ap (λ (w : List ℕ). to_be_bytes w16 k.chapter ++ w) (append-nil (place k.place)))

-- ---- the text

pub counted_text_reads : Reads counted_text_at counted_text (λ text. length text < 2 ^ 64)
unfolding counted_text_at
counted_text_reads =
    reads_as counted_text (λ text. length text < 2 ^ 64)
    (step (λ (text : List ℕ). length text) (number_reads w64 (2 ^ 64) wide64 any Truncated) (λ len. block_reads len any Truncated)
    (λ len text _ f. f.0))
    (λ text f. f.0.0)
    (λ text f. ((f, refl), (refl, refl)))
    (λ text f. refl)

-- the tag before a text, if there is one
abbrev pub tag_of : Option (List ℕ) → ℕ
tag_of None = 0
tag_of (Some text) = 1

-- what follows the tag
abbrev pub after_tag : Option (List ℕ) → List ℕ
after_tag None = []
after_tag (Some text) = counted_text text

-- a text that a tag says to follow, or none
abbrev Follows_tag : ℕ → Option (List ℕ) → Type 0
Follows_tag zero text = None ≡ text
Follows_tag (suc tag) None = ⊥
Follows_tag (suc tag) (Some text) = length text < 2 ^ 64

-- a text after its tag
text_after_reads : (tag : ℕ) → Reads (text_after tag) after_tag (Follows_tag tag)
text_after_reads zero = reads_as after_tag (Follows_tag zero) (ends None) (λ text f. f) (λ text f. f) (λ text f. ap after_tag f)
text_after_reads (suc tag) = record {
  takes = λ bytes x rest fits e.
      let a = bind_ok (counted_text_at bytes) (λ text. Ok (Some text.0, text.1)) (x, rest) e in
      let t = counted_text_reads.takes bytes a.0.0 a.0.1 fits a.1 in
      subst (λ (y : Option (List ℕ) × List ℕ). Takes bytes (after_tag y.0) y.1 × Follows_tag (suc tag) y.0)
      (ok_is (Some a.0.0, a.0.1) (x, rest) a.2) t;
  again = λ x rest f. again x rest f;
  cut = λ a b x rest e.
      let f = bind_ok (counted_text_at (a ++ b)) (λ text. Ok (Some text.0, text.1)) (x, rest) e in
      cut_as (text_after (suc tag)) a b (Some f.0.0) x f.0.1 rest (ok_is (Some f.0.0, f.0.1) (x, rest) f.2)
      (cut_made counted_text_at Some a b f.0.0 f.0.1 (counted_text_reads.cut a b f.0.0 f.0.1 f.1));
}
  where
    again : (x : Option (List ℕ)) (rest : List ℕ) → Follows_tag (suc tag) x → text_after (suc tag) (after_tag x ++ rest) ≡ Ok (x, rest)
    again None rest f = absurd f
    again (Some text) rest f = ap (λ r. r >>= λ t. Ok (Some t.0, t.1)) (counted_text_reads.again text rest f)

-- what may follow the replaced ids in a format
abbrev pub IsBody : Bool → Option (List ℕ) → Type 0
IsBody full text = (is_tag full (tag_of text) ≡ true) × (length (or_empty text) < 2 ^ 64)

tag_follows : (full : Bool) (tag : ℕ) (text : Option (List ℕ)) → is_tag full tag ≡ true → Follows_tag tag text → tag_of text ≡ tag
tag_follows full zero None h f = refl
tag_follows full zero (Some text) h f = ap tag_of (sym f)
tag_follows full (suc zero) None h f = absurd f
tag_follows full (suc zero) (Some text) h f = refl
tag_follows full (suc (suc tag)) None h f = absurd f
tag_follows full (suc (suc tag)) (Some text) h f =
    elim (or_cases (eqb (suc (suc tag)) 1) (not full && eqb (suc (suc tag)) 0) h) [
      | inl e ↦ absurd (omega (arith, eqb-true (suc (suc tag)) 1 e))
      | inr e ↦ absurd (omega (arith, eqb-true (suc (suc tag)) 0 (and_parts (not full) (eqb (suc (suc tag)) 0) e).1))
    ]

short_text : (text : Option (List ℕ)) → Follows_tag (tag_of text) text → length (or_empty text) < 2 ^ 64
short_text None f = lit< tt
short_text (Some text) f = f

text_again : (text : Option (List ℕ)) → length (or_empty text) < 2 ^ 64 → Follows_tag (tag_of text) text
text_again None f = refl
text_again (Some text) f = f

pub body_spelled : (text : Option (List ℕ)) → tag_of text ∷ after_tag text ≡ body text
body_spelled None = refl
body_spelled (Some text) = refl

pub body_reads : (full : Bool) (k : ℕ) → Reads (body_at full k) body (IsBody full)
unfolding body_at
body_reads full k =
    reads_as body (IsBody full)
    (step tag_of (byte_reads (is_tag full) (BadTag k)) text_after_reads (λ tag text h f. tag_follows full tag text h f))
    (λ text f. (f.0, short_text text f.1))
    (λ text f. (f.0, text_again text f.1))
    (λ text f. body_spelled text)
