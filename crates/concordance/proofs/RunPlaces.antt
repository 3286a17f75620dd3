-- Where the runs of a text are: apart within their passages, and none is empty.
use Rattle.std.proofs.Common.{◌≡◌, ℕ, ◌+◌, Bool, true, false, List, [], ◌∷◌, ◌++◌, All, length}
use Rattle.std.proofs.Common.{refl, sym, ap, subst, ◌∙◌, arith, append_assoc, append-nil}
use Rattle.std.proofs.Common.{length-append}
use Rattle.std.specs.List.{flat_map}
use Rattle.std.specs.Prelude.{chars, encode_utf8, encode_utf8_all, map}
use Rattle.std.proofs.lemmas.List.Elements.{All-head, All-tail}
use Rattle.std.proofs.lemmas.Str.{encodes-chars}
use Rattle.sty_sheet.specs.Records.{Record}
use Rattle.verse_cut.specs.Pieces.{PieceParts}
use Rattle.concordance.specs.Hits.{keyed}
use Rattle.concordance.specs.Passages.{Passage}
use Rattle.concordance.specs.Plain.{plain_leaves}
use Rattle.concordance.specs.Loops.Reading.{IsText}
use Rattle.concordance.specs.Loops.RunReading.{is_like, rest_after, front_bytes}
use Rattle.concordance.specs.Loops.Groups.{composed}
use Rattle.concordance.specs.Loops.KeyedViews.{spelled}
use Rattle.concordance.specs.Words.{is_word_char, runs_from, runs_in, spelling_at}
use Rattle.concordance.proofs.Holding.{Filled, filled_each}
use Rattle.concordance.proofs.RunLemmas.{one_step, char_some, bytes_more, bytes_none, after_more}
use Rattle.concordance.proofs.RunLemmas.{after_none}
use Rattle.concordance.proofs.Standing.{Stands, Apart, apart_from, apart_to, apart_append}
use Rattle.concordance.proofs.Standing.{stands_within, leaves_apart}

abbrev bytes_at : ℕ → List ℕ → Passage
bytes_at n bytes = record { start = n; text = bytes }

-- the characters at the front, and those after them
front_rest : (w : Bool) (cs : List ℕ) → encode_utf8_all cs ≡ front_bytes w cs ++ encode_utf8_all (rest_after w cs)
front_rest w [] = refl
front_rest w (c ∷ cs) = by (front_rest w cs) (is_like w c) refl
  where
    by : encode_utf8_all cs ≡ front_bytes w cs ++ encode_utf8_all (rest_after w cs) → (b : Bool) → is_like w c ≡ b
        → encode_utf8_all (c ∷ cs) ≡ front_bytes w (c ∷ cs) ++ encode_utf8_all (rest_after w (c ∷ cs))
    by rest true e =
        ap (λ l. encode_utf8 c ++ l) rest ∙ sym (append_assoc (encode_utf8 c) (front_bytes w cs) (encode_utf8_all (rest_after w cs)))
        ∙ (λ i. sym (bytes_more w c cs e) i ++ encode_utf8_all (sym (after_more w c cs e) i))
    by rest false e = λ i. sym (bytes_none w c cs e) i ++ encode_utf8_all (sym (after_none w c cs e) i)

-- from where on runs begin, in characters that come after a word character or not
abbrev first_place : Bool → ℕ → List ℕ → ℕ
first_place false n cs = n
first_place true n cs = n + length (front_bytes true cs)

apart_after : (s : List ℕ) (w : Bool) (n : ℕ) (cs : List ℕ) → Stands s (bytes_at n (encode_utf8_all cs))
    → Apart s (first_place w n cs) (n + length (encode_utf8_all cs)) (runs_from w n cs)
apart_after s w n [] h = tt
apart_after s w n (c ∷ cs) h =
    let here : Stands s (bytes_at (n + length (encode_utf8 c)) (encode_utf8_all cs)) =
    stands_within s (bytes_at n (encode_utf8_all (c ∷ cs))) (bytes_at (n + length (encode_utf8 c)) (encode_utf8_all cs))
    (encode_utf8 c) [] h (ap (λ l. encode_utf8 c ++ l) (sym (append-nil (encode_utf8_all cs)))) refl in
    by w (apart_after s true (n + length (encode_utf8 c)) cs here) (apart_after s false (n + length (encode_utf8 c)) cs here)
    (is_word_char c) refl
  where
    whole : length (encode_utf8_all (c ∷ cs)) ≡ length (encode_utf8 c) + length (encode_utf8_all cs)
    whole = length-append (encode_utf8 c) (encode_utf8_all cs)

    ends : (low : ℕ) (ps : List Passage) → Apart s low (n + length (encode_utf8 c) + length (encode_utf8_all cs)) ps
        → Apart s low (n + length (encode_utf8_all (c ∷ cs))) ps
    ends low ps a =
        apart_to s low (n + length (encode_utf8 c) + length (encode_utf8_all cs)) (n + length (encode_utf8_all (c ∷ cs))) ps
        (let l = whole in omega arith) a

    front_is : is_word_char c ≡ true → length (front_bytes true (c ∷ cs)) ≡ length (encode_utf8 c) + length (front_bytes true cs)
    front_is e = ap length (bytes_more true c cs e) ∙ length-append (encode_utf8 c) (front_bytes true cs)

    none_is : is_word_char c ≡ false → length (front_bytes true (c ∷ cs)) ≡ 0
    none_is e = ap length (bytes_none true c cs e)

    by : (w : Bool)
        → Apart s (n + length (encode_utf8 c) + length (front_bytes true cs)) (n + length (encode_utf8 c) + length (encode_utf8_all cs))
        (runs_from true (n + length (encode_utf8 c)) cs)
        → Apart s (n + length (encode_utf8 c)) (n + length (encode_utf8 c) + length (encode_utf8_all cs))
        (runs_from false (n + length (encode_utf8 c)) cs)
        → (b : Bool) → is_word_char c ≡ b
        → Apart s (first_place w n (c ∷ cs)) (n + length (encode_utf8_all (c ∷ cs))) (runs_from w n (c ∷ cs))
    by false inside outside true e =
        let run = front_bytes true (c ∷ cs) in
        let rest = encode_utf8_all (rest_after true (c ∷ cs)) in
        let l = front_is e in
        let m : length (encode_utf8_all (c ∷ cs)) ≡ length run + length rest =
        ap length (front_rest true (c ∷ cs)) ∙ length-append run rest in
        subst (Apart s n (n + length (encode_utf8_all (c ∷ cs)))) (sym (one_step false n c cs true e)) (
          omega arith,
          stands_within s (bytes_at n (encode_utf8_all (c ∷ cs))) (bytes_at n run) [] rest h (front_rest true (c ∷ cs)) (omega arith),
          omega arith,
          ends (n + length run) _ (apart_from s (n + length run) (n + length (encode_utf8 c) + length (front_bytes true cs)) _ _
              (omega arith) inside),
        )
    by false inside outside false e =
        subst (Apart s n (n + length (encode_utf8_all (c ∷ cs)))) (sym (one_step false n c cs false e))
        (ends n _ (apart_from s n (n + length (encode_utf8 c)) _ _ (omega arith) outside))
    by true inside outside true e =
        let l = front_is e in
        subst (Apart s (n + length (front_bytes true (c ∷ cs))) (n + length (encode_utf8_all (c ∷ cs)))) (sym (one_step true n c cs true e))
        (ends (n + length (front_bytes true (c ∷ cs))) _
        (apart_from s _ (n + length (encode_utf8 c) + length (front_bytes true cs)) _ _ (omega arith) inside))
    by true inside outside false e =
        let l = none_is e in
        subst (Apart s (n + length (front_bytes true (c ∷ cs))) (n + length (encode_utf8_all (c ∷ cs))))
        (sym (one_step true n c cs false e))
        (ends (n + length (front_bytes true (c ∷ cs))) _ (apart_from s _ (n + length (encode_utf8 c)) _ _ (omega arith) outside))

runs_apart : (s : List ℕ) (p : Passage) → IsText p → Stands s p → Apart s p.start (p.start + length p.text) (runs_in p)
runs_apart s p u h =
    let e = encodes-chars p.text u in
    subst (λ (t : List ℕ). Apart s p.start (p.start + length t) (runs_in p)) e
    (apart_after s false p.start (chars p.text) (subst (λ (t : List ℕ). Stands s (bytes_at p.start t)) (sym e) h))

each_apart : (s : List ℕ) (low high : ℕ) (ps : List Passage) → All IsText ps → Apart s low high ps → Apart s low high (flat_map runs_in ps)
each_apart s low high [] u a = tt
each_apart s low high (p ∷ ps) u a =
    let b = a.0 in let e = a.2 in
    apart_append s low (p.start + length p.text) high (runs_in p) (flat_map runs_in ps) (omega arith) e
    (apart_from s low p.start (p.start + length p.text) (runs_in p) b (runs_apart s p (All-head IsText p ps u) a.1))
    (each_apart s (p.start + length p.text) high ps (All-tail IsText p ps u) a.3)

-- the runs of a text do not overlap in it
pub all_runs_apart : (sheet : List Record) (s : List ℕ) → All IsText (plain_leaves sheet s)
    → Apart s 0 (length s) (flat_map runs_in (plain_leaves sheet s))
all_runs_apart sheet s u = each_apart s 0 (length s) (plain_leaves sheet s) u (leaves_apart sheet s)

-- ---- none is empty

filled_after : (w : Bool) (n : ℕ) (cs : List ℕ) → Filled (runs_from w n cs)
filled_after w n [] = tt
filled_after w n (c ∷ cs) =
    by w (filled_after true (n + length (encode_utf8 c)) cs) (filled_after false (n + length (encode_utf8 c)) cs) (is_word_char c) refl
  where
    by : (w : Bool) → Filled (runs_from true (n + length (encode_utf8 c)) cs)
        → Filled (runs_from false (n + length (encode_utf8 c)) cs) → (b : Bool) → is_word_char c ≡ b → Filled (runs_from w n (c ∷ cs))
    by false inside outside true e =
        let l = ap length (bytes_more true c cs e) ∙ length-append (encode_utf8 c) (front_bytes true cs) in
        let some = char_some c in
        subst Filled (sym (one_step false n c cs true e)) (omega arith, inside)
    by false inside outside false e = subst Filled (sym (one_step false n c cs false e)) outside
    by true inside outside true e = subst Filled (sym (one_step true n c cs true e)) inside
    by true inside outside false e = subst Filled (sym (one_step true n c cs false e)) outside

-- no run of passages is empty
pub all_runs_filled : (ps : List Passage) → Filled (flat_map runs_in ps)
all_runs_filled ps = filled_each runs_in ps (λ p. filled_after false p.start (chars p.text))

-- ---- spellings

-- runs with their keys, composed, are the spellings of the definition
pub runs_spelled : (pieces : List PieceParts) (ps : List Passage)
    → map composed (map spelled (map (keyed pieces) ps)) ≡ map (spelling_at pieces) ps
runs_spelled pieces [] = refl
runs_spelled pieces (p ∷ ps) = ap (λ l. spelling_at pieces p ∷ l) (runs_spelled pieces ps)
