-- The walk over a file of answers.
use Rattle.std.proofs.Common.{◌≡◌, ◌≢◌, ◌≤◌, ◌<◌, ◌+◌, ◌-◌, ◌⊎◌, ℕ, ◌==◌, true, false, not, List, [], ◌∷◌, ◌++◌, length, take, codes, Option, Some, None, IfSome, MatchOption, Bor, inl, inr, refl, sym, ap, subst, ◌∙◌, arith, append_assoc, length-append}
use Rattle.std.specs.List.{list_all}
use Rattle.std.proofs.lemmas.Bool.{and_parts, and_from, or_left, eq-eqb}
use Rattle.std.proofs.lemmas.List.{append-nil, append_cancel_left, take-append-le, take_all}
use Rattle.std.proofs.lemmas.List.Folds.{list_all-append}
use Rattle.usfm_ref.specs.References.{key_text, ref_text}
use Rattle.usfm_ref.specs.declared.segment.Segment.{Segment}
use Rattle.op_core.specs.Ids.{Id, id_text, is_id}
use Rattle.conflict_answers.specs.Answers.{AnswerParts, AreAnswers, view, views, Chosen, taken, own, not_now, IsAnswer, IsConflict, MayBeChosen, MayBeRemark}
use Rattle.conflict_answers.specs.declared.answer.Answer.{Answer}
use Rattle.conflict_answers.specs.Spelling.{answer_lines, all_lines, chosen_lines, conflict_text, first_line, id_texts, remark_lines, spelling}
use Rattle.conflict_answers.specs.Reading.{IsBadLine, after_answers, IsLongest, line_after}
use Rattle.conflict_answers.specs.Loops.Cuts.{Lacks}
use Rattle.conflict_answers.specs.Loops.Walk.{HasRead, IsOrShorter, Reaches, here, before, beyond, is_more}
use Rattle.conflict_answers.proofs.Plain.{book_plain, id_plain, key_plain, plain_lacks}

-- ---- the line of a conflict

pub lacks_append : (c : ℕ) (xs ys : List ℕ) → Lacks c xs → Lacks c ys → Lacks c (xs ++ ys)
lacks_append c xs ys hx hy =
    list_all-append (λ b. not (b == c)) xs ys
    ∙ and_from (list_all (λ b. not (b == c)) xs) (list_all (λ b. not (b == c)) ys) hx hy

ids_lack : (ids : List Id) → list_all is_id ids ≡ true → Lacks 10 (id_texts ids)
ids_lack [] h = refl
ids_lack (id ∷ ids) h =
    let both = and_parts (is_id id) (list_all is_id ids) h in
    lacks_append 10 (id_text id) (id_texts ids) (plain_lacks 10 (id_text id) (omega arith) (id_plain id both.0)) (ids_lack ids both.1)

-- it has no line feed
pub conflict_lacks : (g : Segment) (ids : List Id) → IsConflict g ids → Lacks 10 (conflict_text g ids)
conflict_lacks g ids is =
    let key : Lacks 10 (key_text g.key) = plain_lacks 10 (key_text g.key) (omega arith) (key_plain g.key is.key) in
    let book : Lacks 10 g.book = plain_lacks 10 g.book (omega arith) (book_plain g.book is.book) in
    lacks_append 10 (ref_text g.book g.key) (id_texts ids) (lacks_append 10 g.book (codes " " ++ key_text g.key) book key)
    (ids_lack ids is.valid)

-- an answer is its line, and what follows it
pub lines_are : (a : AnswerParts) (rest : List ℕ) → answer_lines a ++ rest
    ≡ conflict_text a.segment a.ids ++ 10 ∷ (chosen_lines a.chosen ++ (remark_lines a.remark ++ rest))
lines_are a rest =
    append_assoc (conflict_text a.segment a.ids) (10 ∷ (chosen_lines a.chosen ++ remark_lines a.remark)) rest
    ∙ ap (λ (xs : List ℕ). conflict_text a.segment a.ids ++ 10 ∷ xs) (append_assoc (chosen_lines a.chosen) (remark_lines a.remark) rest)

-- ---- what follows it

first : List ℕ → ℕ
first [] = 0
first (b ∷ bs) = b

more_first : (bs : List ℕ) → first bs ≡ 116 → is_more bs ≡ true
unfolding first
more_first [] e = absurd (omega (arith, e))
more_first (b ∷ bs) e = or_left (b == 116) (b == 114) (eq-eqb b 116 e)

begins_later : (x y : List ℕ) → length y ≤ length (x ++ y)
begins_later x y = let l = length-append x y in omega (arith, l)

abbrev More : List ℕ → List ℕ → Type 0
More rest after = (length after ≤ length rest) × (is_more rest ≡ true)

module _ (ids : List Id) (bytes found after : List ℕ) (c : Chosen) (m : Option (List ℕ)) (rest : List ℕ)
    (c' : Chosen) (m' : Option (List ℕ))
    (read_choice : bytes ≡ chosen_lines c' ++ found) (read_remark : found ≡ remark_lines m' ++ after)
    (one_choice : (c : Chosen) (x : List ℕ) → MayBeChosen ids c → bytes ≡ chosen_lines c ++ x → ((c ≡ c') × (x ≡ found)) ⊎ (c ≡ not_now))
    (one_remark : (m : Option (List ℕ)) (x : List ℕ) → MayBeRemark m → found ≡ remark_lines m ++ x → ((m ≡ m') × (x ≡ after)) ⊎ (m ≡ None))
    (may : MayBeChosen ids c) (may_remark : MayBeRemark m) (is : bytes ≡ chosen_lines c ++ (remark_lines m ++ rest)) where
  remark_end : (o : Option (List ℕ)) → m' ≡ o → m ≡ None → rest ≡ found → ((m ≡ m') × (rest ≡ after)) ⊎ More rest after
  remark_end None o n e = inl (n ∙ sym o, e ∙ read_remark ∙ ap (λ (k : Option (List ℕ)). remark_lines k ++ after) o)
  remark_end (Some t) o n e =
      let f : rest ≡ remark_lines (Some t) ++ after = e ∙ read_remark ∙ ap (λ (k : Option (List ℕ)). remark_lines k ++ after) o in
      let l = begins_later (remark_lines (Some t)) after in
      let g = ap length f in
      inr (omega (arith, l, g), ap is_more f)

  remark_part : remark_lines m ++ rest ≡ found → ((m ≡ m') × (rest ≡ after)) ⊎ More rest after
  remark_part e = elim (one_remark m rest may_remark (sym e)) [
    | inl both ↦ inl both
    | inr n ↦ remark_end m' refl n (sym (ap (λ (k : Option (List ℕ)). remark_lines k ++ rest) n) ∙ e)
  ]

  -- where something was chosen, and nothing of it is an answer's, the answer ends before it
  with_t : first bytes ≡ 116 → (o : Option (List ℕ)) → bytes ≡ remark_lines o ++ rest → More rest after
  unfolding first
  with_t t (Some text) e = let f : first bytes ≡ 114 = ap first e in absurd (omega (arith, t, f))
  with_t t None e =
      let l = begins_later (chosen_lines c') found in
      let k = begins_later (remark_lines m') after in
      let n = ap length read_choice in
      let o = ap length read_remark in
      let p = ap length e in
      (omega (arith, l, k, n, o, p), more_first rest (sym (ap first e) ∙ t))

  by_found : (d : Chosen) → c' ≡ d → c ≡ not_now → bytes ≡ remark_lines m ++ rest
      → ((c ≡ c') × ((m ≡ m') × (rest ≡ after))) ⊎ More rest after
  unfolding first
  by_found (taken id) d n e = inr (with_t (ap first read_choice ∙ ap (λ (k : Chosen). first (chosen_lines k ++ found)) d) m e)
  by_found (own text) d n e = inr (with_t (ap first read_choice ∙ ap (λ (k : Chosen). first (chosen_lines k ++ found)) d) m e)
  by_found not_now d n e =
      elim (remark_part (sym e ∙ read_choice ∙ ap (λ (k : Chosen). chosen_lines k ++ found) d)) [
        | inl both ↦ inl (n ∙ sym d, both)
        | inr more ↦ inr more
      ]

  -- what is read after a conflict is all that an answer has, or more
  pub part : ((c ≡ c') × ((m ≡ m') × (rest ≡ after))) ⊎ More rest after
  part = elim (one_choice c (remark_lines m ++ rest) may is) [
    | inl both ↦ by_remark both.0 (remark_part both.1)
    | inr n ↦ by_found c' refl n (is ∙ ap (λ (k : Chosen). chosen_lines k ++ (remark_lines m ++ rest)) n)
  ]
    where
      by_remark : c ≡ c' → ((m ≡ m') × (rest ≡ after)) ⊎ More rest after → ((c ≡ c') × ((m ≡ m') × (rest ≡ after))) ⊎ More rest after
      by_remark e (inl both) = inl (e, both)
      by_remark e (inr more) = inr more

-- an answer that was read, by its parts
pub read_is : (a : AnswerParts) (rest : List ℕ) (g : Segment) (ids : List Id) (c : Chosen) (m : Option (List ℕ)) (after : List ℕ)
    → g ≡ a.segment → ids ≡ a.ids → ((a.chosen ≡ c) × ((a.remark ≡ m) × (rest ≡ after))) ⊎ More rest after
    → IsOrShorter a rest (record { segment = g; ids = ids; chosen = c; remark = m }) after
read_is a rest g ids c m after of over (inl both) =
    inl ((λ i. record { segment = sym of i; ids = sym over i; chosen = both.0 i; remark = both.1.0 i }), both.1.1)
read_is a rest g ids c m after of over (inr more) = inr more

-- ---- from one answer to the next

all_append : (xs ys : List AnswerParts) → AreAnswers xs → AreAnswers ys → AreAnswers (xs ++ ys)
all_append [] ys hx hy = hy
all_append (x ∷ xs) ys hx hy = (hx.0, all_append xs ys hx.1 hy)

lines_append : (xs ys : List AnswerParts) → all_lines (xs ++ ys) ≡ all_lines xs ++ all_lines ys
lines_append [] ys = refl
lines_append (x ∷ xs) ys =
    ap (λ (bs : List ℕ). answer_lines x ++ bs) (lines_append xs ys) ∙ sym (append_assoc (answer_lines x) (all_lines xs) (all_lines ys))

begins_c : (a : AnswerParts) (later : List AnswerParts) (after : List ℕ) → is_more (all_lines (a ∷ later) ++ after) ≡ false
begins_c a later after = refl

some_line : (a : AnswerParts) (rest : List ℕ) → answer_lines a ++ rest ≢ []
some_line a rest e = cc

-- before the first answer
pub has_begun : (bytes rest : List ℕ) → bytes ≡ first_line ++ rest → HasRead bytes [] rest
unfolding spelling
has_begun bytes rest e = record {
  are = tt;
  begins = e;
  reaches = λ others after are f.
      by others after are
      (append_cancel_left first_line rest (all_lines others ++ after) (sym e ∙ f ∙ append_assoc first_line (all_lines others) after));
}
  where
    by : (others : List AnswerParts) (after : List ℕ) → AreAnswers others → rest ≡ all_lines others ++ after → Reaches [] rest others after
    by [] after are f = here refl (sym f)
    by (a ∷ later) after are f = beyond a later are.0 are.1 refl (f ∙ append_assoc (answer_lines a) (all_lines later) after)

module _ (bytes : List ℕ) (read : List AnswerParts) (rest : List ℕ) (has : HasRead bytes read rest) where
  -- one answer further
  module _ (a : AnswerParts) (after : List ℕ) (is : IsAnswer a) (at : rest ≡ answer_lines a ++ after)
      (one : (b : AnswerParts) (x : List ℕ) → IsAnswer b → rest ≡ answer_lines b ++ x → IsOrShorter b x a after) where
    longer : (x : List ℕ) → x ≡ rest → (length after ≤ length x) × (x ≢ [])
    longer x e =
        let l = begins_later (answer_lines a) after in
        let n = ap length (e ∙ at) in
        (omega (arith, l, n), λ no. some_line a after (sym (e ∙ at) ∙ no))

    goes_on : (others : List AnswerParts) (x : List ℕ) (b : AnswerParts) (later : List AnswerParts) → AreAnswers later
        → others ≡ read ++ b ∷ later → IsOrShorter b (all_lines later ++ x) a after → Reaches (read ++ a ∷ []) after others x
    goes_on others x b [] are o (inl both) =
        here (o ∙ ap (λ (d : AnswerParts). read ++ d ∷ []) both.0) both.1
    goes_on others x b (d ∷ later) are o (inl both) =
        beyond d later are.0 are.1
        (o ∙ ap (λ (d' : AnswerParts). read ++ d' ∷ d ∷ later) both.0 ∙ sym (append_assoc read (a ∷ []) (d ∷ later)))
        (sym both.1 ∙ append_assoc (answer_lines d) (all_lines later) x)
    goes_on others x b [] are o (inr more) = before more.0 (λ no. let m = sym (ap is_more no) ∙ more.1 in cc)
    goes_on others x b (d ∷ later) are o (inr more) = let m = sym (begins_c d later x) ∙ more.1 in cc

    by_reach : (others : List AnswerParts) (x : List ℕ) → Reaches read rest others x → Reaches (read ++ a ∷ []) after others x
    by_reach others x (here o r) = let l = longer x r in before l.0 l.1
    by_reach others x (before l n) = let k = longer rest refl in before (omega (arith, k.0, l)) n
    by_reach others x (beyond b later vb vl o r) = goes_on others x b later vl o (one b (all_lines later ++ x) vb r)

    spelled_on : spelling read ++ rest ≡ spelling (read ++ a ∷ []) ++ after
    unfolding spelling
    spelled_on =
        ap (λ (xs : List ℕ). (first_line ++ all_lines read) ++ xs) at
        ∙ sym (append_assoc (first_line ++ all_lines read) (answer_lines a) after)
        ∙ ap (λ (xs : List ℕ). xs ++ after) (append_assoc first_line (all_lines read) (answer_lines a)
        ∙ ap (λ (xs : List ℕ). first_line ++ xs) (ap (λ (xs : List ℕ). all_lines read ++ xs) (sym (append-nil (answer_lines a)))
        ∙ sym (lines_append read (a ∷ []))))

    pub has_more : HasRead bytes (read ++ a ∷ []) after
    has_more = record {
      are = all_append read (a ∷ []) has.are (is, tt);
      begins = has.begins ∙ spelled_on;
      reaches = λ others x are e. by_reach others x (has.reaches others x are e);
    }

  -- ---- at the end

  pub all_read : rest ≡ [] → bytes ≡ spelling read
  all_read e = has.begins ∙ ap (λ (xs : List ℕ). spelling read ++ xs) e ∙ append-nil (spelling read)

  -- what was spelled was read
  pub read_again : rest ≡ [] → (answers : List AnswerParts) → AreAnswers answers → bytes ≡ spelling answers → read ≡ answers
  read_again e answers are f = by (has.reaches answers [] are (f ∙ sym (append-nil (spelling answers))))
    where
      by : Reaches read rest answers [] → read ≡ answers
      by (here o r) = sym o
      by (before l n) = absurd (n refl)
      by (beyond b later vb vl o r) = absurd (some_line b (all_lines later ++ []) (sym r ∙ e))

  -- ---- at a line of no known form

  module _ (some : rest ≢ []) (none : (b : AnswerParts) (x : List ℕ) → IsAnswer b → rest ≡ answer_lines b ++ x → ⊥) where
    longest : IsLongest bytes read rest
    longest = record {
      are = has.are;
      begins = has.begins;
      longest = λ others after are e. by others after (has.reaches others after are e);
    }
      where
        by : (others : List AnswerParts) (after : List ℕ) → Reaches read rest others after → length rest ≤ length after
        by others after (here o r) = let l = ap length r in omega (arith, l)
        by others after (before l n) = l
        by others after (beyond b later vb vl o r) = absurd (none b (all_lines later ++ after) vb r)

    front_is : take (length bytes - length rest) bytes ≡ spelling read
    front_is =
        let l = ap length has.begins ∙ length-append (spelling read) rest in
        let n : length bytes - length rest ≡ length (spelling read) = omega (arith, l) in
        (λ i. take (n i) (has.begins i)) ∙ take-append-le (length (spelling read)) (spelling read) rest (omega arith)
        ∙ take_all (length (spelling read)) (spelling read) (omega arith)

    pub bad_line : (line : ℕ) → line ≡ line_after (take (length bytes - length rest) bytes) → IsBadLine bytes line
    bad_line line e = after_answers read rest longest some (e ∙ ap line_after front_is)

    -- such bytes are no spelling
    pub no_spelling : (answers : List AnswerParts) → AreAnswers answers → bytes ≡ spelling answers → ⊥
    no_spelling answers are f = by (has.reaches answers [] are (f ∙ sym (append-nil (spelling answers))))
      where
        by : Reaches read rest answers [] → ⊥
        by (here o r) = some (sym r)
        by (before l n) = n refl
        by (beyond b later vb vl o r) = none b (all_lines later ++ []) vb r

-- ---- as the loop has it

-- an answer takes a line at least
pub shorter : (a : AnswerParts) (rest after : List ℕ) → rest ≡ answer_lines a ++ after → length after < length rest
shorter a rest after at =
    let all = ap length at ∙ length-append (answer_lines a) after in
    let some : 0 < length (answer_lines a) = omega arith in
    omega (arith, all, some)

-- answers that were read, and one more
pub views_more : (read : List Answer) (a : Answer) → views (read ++ a ∷ []) ≡ views read ++ view a ∷ []
views_more [] a = refl
views_more (x ∷ read) a = ap (λ (vs : List AnswerParts). view x ∷ vs) (views_more read a)

-- what is read of an answer at a front, where nothing else begins there
abbrev pub IsOne : List ℕ → Option (Answer × Bor (List ℕ)) → Type 0
IsOne rest r = (b : AnswerParts) (x : List ℕ) → IsAnswer b → rest ≡ answer_lines b ++ x
    → MatchOption r ⊥ (λ y. IsOrShorter b x (view y.0) y.1.now)

pub no_answer : (rest : List ℕ) (r : Option (Answer × Bor (List ℕ))) → r ≡ None → IsOne rest r
    → (b : AnswerParts) (x : List ℕ) → IsAnswer b → rest ≡ answer_lines b ++ x → ⊥
no_answer rest r none one b x is at =
    subst (λ (o : Option (Answer × Bor (List ℕ))). MatchOption o ⊥ (λ y. IsOrShorter b x (view y.0) y.1.now)) none (one b x is at)

-- of an answer that was read there, what its reader says
pub answer_is : (rest : List ℕ) (r : Option (Answer × Bor (List ℕ))) (a : Answer) (after : Bor (List ℕ)) → r ≡ Some (a, after)
    → IfSome r (λ y. rest ≡ answer_lines (view y.0) ++ y.1.now) → rest ≡ answer_lines (view a) ++ after.now
answer_is rest r a after some h =
    subst (λ (o : Option (Answer × Bor (List ℕ))). IfSome o (λ y. rest ≡ answer_lines (view y.0) ++ y.1.now)) some h

pub answer_may : (r : Option (Answer × Bor (List ℕ))) (a : Answer) (after : Bor (List ℕ)) → r ≡ Some (a, after)
    → IfSome r (λ y. IsAnswer (view y.0)) → IsAnswer (view a)
answer_may r a after some h = subst (λ (o : Option (Answer × Bor (List ℕ))). IfSome o (λ y. IsAnswer (view y.0))) some h

pub one_answer : (rest : List ℕ) (r : Option (Answer × Bor (List ℕ))) (a : Answer) (after : Bor (List ℕ)) → r ≡ Some (a, after)
    → IsOne rest r → (b : AnswerParts) (x : List ℕ) → IsAnswer b → rest ≡ answer_lines b ++ x → IsOrShorter b x (view a) after.now
one_answer rest r a after some one b x is at =
    subst (λ (o : Option (Answer × Bor (List ℕ))). MatchOption o ⊥ (λ y. IsOrShorter b x (view y.0) y.1.now)) some (one b x is at)
