-- The ids of a line, word by word.
use Rattle.std.proofs.Common.{◌≡◌, ℕ, Bool, true, false, not, cond, ◌&&◌, ◌||◌, List, [], ◌∷◌, ◌++◌, Option, Some, None, refl, sym, ap, subst, ◌∙◌, arith, append_assoc}
use Rattle.std.specs.BTreeSet.{BTreeSet, contains}
use Rattle.std.specs.List.{list_all}
use Rattle.std.specs.Ordering.{is_eq}
use Rattle.std.proofs.lemmas.Bool.{and_parts, and_from, or_left, or_right, not-true}
use Rattle.std.proofs.lemmas.List.{append-nil}
use Rattle.std.proofs.lemmas.List.Folds.{list_all-append, list_any-append}
use Rattle.op_core.specs.Equal.{id_from_same, same_id-refl}
use Rattle.op_core.specs.Ids.{Id, id_cmp, id_text, is_id, same_id}
use Rattle.op_core.specs.NextIds.{is_among}
use Rattle.op_core.proofs.IdOrders.Rising.{same_id-cmp}
use Rattle.conflict_answers.specs.Answers.{are_apart}
use Rattle.conflict_answers.specs.Spelling.{id_texts}
use Rattle.conflict_answers.specs.Loops.Cuts.{Lacks, after_word}
use Rattle.conflict_answers.proofs.Plain.{id_plain, plain_lacks}

-- the words of ids, if there are any
abbrev pub words_of : List Id → Option (List ℕ)
words_of [] = None
words_of (id ∷ ids) = Some (id_text id ++ id_texts ids)

words_are : (ids : List Id) → id_texts ids ≡ after_word (words_of ids)
words_are [] = refl
words_are (id ∷ ids) = refl

texts_append : (xs ys : List Id) → id_texts (xs ++ ys) ≡ id_texts xs ++ id_texts ys
texts_append [] ys = refl
texts_append (x ∷ xs) ys =
    ap (λ (bs : List ℕ). 32 ∷ (id_text x ++ bs)) (texts_append xs ys)
    ∙ ap (λ (bs : List ℕ). 32 ∷ bs) (sym (append_assoc (id_text x) (id_texts xs) (id_texts ys)))

-- ids are the same either way round
same_turned : (a b : Id) → same_id a b ≡ same_id b a
same_turned a b = by (same_id a b) refl (same_id b a) refl
  where
    by : (p : Bool) → same_id a b ≡ p → (q : Bool) → same_id b a ≡ q → same_id a b ≡ same_id b a
    by true e q f = e ∙ sym (subst (λ (x : Id). same_id x a ≡ true) (id_from_same a b e) (same_id-refl a))
    by false e true f = subst (λ (x : Id). same_id x b ≡ true) (id_from_same b a f) (same_id-refl b) ∙ sym f
    by false e false f = e ∙ sym f

-- ---- ids that stand apart

not_either : (a b : Bool) → (a || b) ≡ false → (a ≡ false) × (b ≡ false)
not_either true b e = cc
not_either false b e = (refl, e)

-- with one that is new they still do
apart_more : (ids : List Id) (id : Id) → are_apart ids ≡ true → is_among ids id ≡ false → are_apart (ids ++ id ∷ []) ≡ true
apart_more [] id h n = refl
apart_more (x ∷ ids) id h n =
    let both = and_parts (not (is_among ids x)) (are_apart ids) h in
    let no = not_either (same_id id x) (is_among ids id) n in
    and_from (not (is_among (ids ++ id ∷ []) x)) (are_apart (ids ++ id ∷ []))
    (ap not (list_any-append (same_id x) ids (id ∷ [])
    ∙ (λ i. not-true (is_among ids x) both.0 i || ((same_turned x id ∙ no.0) i || false))))
    (apart_more ids id both.1 no.1)

-- one that is there already does not
apart_not : (ids : List Id) (id : Id) (others : List Id) → are_apart (ids ++ id ∷ others) ≡ true → is_among ids id ≡ true → ⊥
apart_not [] id others h n = cc
apart_not (x ∷ ids) id others h n = by (same_id id x) refl (λ m. apart_not ids id others both.1 m) n
  where
    both : (not (is_among (ids ++ id ∷ others) x) ≡ true) × (are_apart (ids ++ id ∷ others) ≡ true)
    both = and_parts (not (is_among (ids ++ id ∷ others) x)) (are_apart (ids ++ id ∷ others)) h

    by : (b : Bool) → same_id id x ≡ b → (is_among ids id ≡ true → ⊥) → (b || is_among ids id) ≡ true → ⊥
    by true e on n =
        let here : is_among (ids ++ id ∷ others) x ≡ true
        = list_any-append (same_id x) ids (id ∷ others)
        ∙ or_right (is_among ids x) (same_id x id || is_among others x)
        (or_left (same_id x id) (is_among others x) (same_turned x id ∙ e)) in
        let not_here = not-true (is_among (ids ++ id ∷ others) x) both.0 in
        cc
    by false e on n = on n

-- ---- the walk

-- ids that were read, and all lists of ids that the words spell begin with them
pub record HasIds (words : List ℕ) (ids : List Id) (seen : BTreeSet Id) (left : Option (List ℕ)) : Type 0 where
  pub text : 32 ∷ words ≡ id_texts ids ++ after_word left
  pub valid : list_all is_id ids ≡ true
  pub apart : are_apart ids ≡ true
  pub only : (all : List Id) → list_all is_id all ≡ true → are_apart all ≡ true → 32 ∷ words ≡ id_texts all
      → (later : List Id) × ((all ≡ ids ++ later) × (id_texts later ≡ after_word left))
  pub holds : (q : Id) → contains id_cmp seen q ≡ is_among ids q

module _ (words : List ℕ) (ids : List Id) (seen : BTreeSet Id) (rest : List ℕ) (has : HasIds words ids seen (Some rest))
    (word : List ℕ) (later : Option (List ℕ)) (cut : rest ≡ word ++ after_word later)
    (one : (x : List ℕ) (y : Option (List ℕ)) → Lacks 32 x → rest ≡ x ++ after_word y → (x ≡ word) × (y ≡ later)) where
  -- the next of ids that the words spell
  record Next (all : List Id) : Type 0 where
    id : Id
    others : List Id
    all_is : all ≡ ids ++ id ∷ others
    word_is : word ≡ id_text id
    valid : is_id id ≡ true
    later_is : words_of others ≡ later

  next_is : (all : List Id) → list_all is_id all ≡ true → are_apart all ≡ true → 32 ∷ words ≡ id_texts all → Next all
  next_is all v a e = let found = has.only all v a e in by found.0 found.1.0 found.1.1
    where
      by : (l : List Id) → all ≡ ids ++ l → id_texts l ≡ 32 ∷ rest → Next all
      by [] f g = cc
      by (i ∷ others) f g =
          let h : id_text i ++ id_texts others ≡ rest = cc in
          let w : list_all is_id (ids ++ i ∷ others) ≡ true = subst (λ (xs : List Id). list_all is_id xs ≡ true) f v in
          let both = and_parts (list_all is_id ids) (is_id i && list_all is_id others) (sym (list_all-append is_id ids (i ∷ others)) ∙ w) in
          let valid = (and_parts (is_id i) (list_all is_id others) both.1).0 in
          let once = one (id_text i) (words_of others) (plain_lacks 32 (id_text i) (omega arith) (id_plain i valid))
          (sym h ∙ ap (λ (bs : List ℕ). id_text i ++ bs) (words_are others)) in
          record { id = i; others = others; all_is = f; word_is = sym once.0; valid = valid; later_is = once.1 }

  -- where the word is no id, the words spell none
  pub no_id : ((id : Id) → is_id id ≡ true → word ≡ id_text id → ⊥) → (all : List Id) → list_all is_id all ≡ true
      → are_apart all ≡ true → 32 ∷ words ≡ id_texts all → ⊥
  no_id none all v a e = let n = next_is all v a e in none n.id n.valid n.word_is

  module _ (id : Id) (is : word ≡ id_text id) (valid : is_id id ≡ true) (only : (x : Id) → is_id x ≡ true → word ≡ id_text x → id ≡ x) where
    -- where it stands there twice, they spell none either
    pub twice : is_among ids id ≡ true → (all : List Id) → list_all is_id all ≡ true → are_apart all ≡ true → 32 ∷ words ≡ id_texts all → ⊥
    twice h all v a e =
        let n = next_is all v a e in
        apart_not ids n.id n.others (sym (ap are_apart n.all_is) ∙ a) (sym (ap (is_among ids) (only n.id n.valid n.word_is)) ∙ h)

    text_on : 32 ∷ words ≡ id_texts (ids ++ id ∷ []) ++ after_word later
    text_on =
        has.text ∙ ap (λ (bs : List ℕ). id_texts ids ++ 32 ∷ bs) (cut ∙ ap (λ (bs : List ℕ). bs ++ after_word later) is)
        ∙ sym
        (ap (λ (bs : List ℕ). bs ++ after_word later) (texts_append ids (id ∷ []))
        ∙ append_assoc (id_texts ids) (id_texts (id ∷ [])) (after_word later)
        ∙ ap (λ (bs : List ℕ). id_texts ids ++ 32 ∷ (bs ++ after_word later)) (append-nil (id_text id)))

    -- one id further
    pub has_next : (after : BTreeSet Id) → is_among ids id ≡ false
        → ((q : Id) → contains id_cmp after q ≡ cond (is_eq (id_cmp id q)) true (contains id_cmp seen q))
        → HasIds words (ids ++ id ∷ []) after later
    has_next after new updates = record {
      text = text_on;
      valid =
          list_all-append is_id ids (id ∷ [])
          ∙ and_from (list_all is_id ids) (is_id id && true) has.valid (and_from (is_id id) true valid refl);
      apart = apart_more ids id has.apart new;
      only = λ all v a e. on all (next_is all v a e);
      holds = holds;
    }
      where
        on : (all : List Id) → Next all → (l : List Id) × ((all ≡ (ids ++ id ∷ []) ++ l) × (id_texts l ≡ after_word later))
        on all n = (
          n.others,
          (
            n.all_is ∙ ap (λ (x : Id). ids ++ x ∷ n.others) (sym (only n.id n.valid n.word_is))
                ∙ sym (append_assoc ids (id ∷ []) n.others),
            words_are n.others ∙ ap after_word n.later_is,
          ),
        )

        either : (b d : Bool) → cond b true d ≡ (d || (b || false))
        either true true = refl
        either true false = refl
        either false true = refl
        either false false = refl

        holds : (q : Id) → contains id_cmp after q ≡ is_among (ids ++ id ∷ []) q
        holds q =
            updates q ∙ either (is_eq (id_cmp id q)) (contains id_cmp seen q)
            ∙ (λ i. has.holds q i || ((sym (same_id-cmp id q) ∙ same_turned id q) i || false))
            ∙ sym (list_any-append (same_id q) ids (id ∷ []))

pub only_ids : (words : List ℕ) (ids : List Id) (seen : BTreeSet Id) → HasIds words ids seen None → (all : List Id)
    → list_all is_id all ≡ true → are_apart all ≡ true → 32 ∷ words ≡ id_texts all → ids ≡ all
only_ids words ids seen has all v a e = let found = has.only all v a e in by found.0 found.1.0 found.1.1
  where
    by : (l : List Id) → all ≡ ids ++ l → id_texts l ≡ [] → ids ≡ all
    by [] f g = sym (f ∙ append-nil ids)
    by (i ∷ others) f g = cc
