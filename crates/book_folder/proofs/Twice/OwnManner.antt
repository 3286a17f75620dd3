-- A text in its own manner is as it is, where its lines end in one manner; and the pieces of a base's export are as the base has them.
use Rattle.std.proofs.Common.{◌≡◌, ◌++◌, ◌∷◌, [], ◌==◌, ◌&&◌, ◌||◌, ◌+◌, not, ℕ, Bool, true, false, List, cond, length, map, take, drop, refl, sym, ap, ◌∙◌}
use Rattle.std.specs.List.{AllByRecursion, flat_map, list_any}
use Rattle.std.proofs.lemmas.Bool.{and_parts, cond-false, cond-true, eqb-true, false≢true, or_parts}
use Rattle.std.proofs.lemmas.List.{take-append-drop}
use Rattle.std.proofs.lemmas.List.Folds.{list_any-append}
use Rattle.usfm_ref.specs.Books.{same_bytes}
use Rattle.usfm_ref.specs.Keys.{KeyParts, book_head}
use Rattle.usfm_ref.specs.Segments.{segment}
use Rattle.usfm_ref.proofs.Orders.{same_bytes-is}
use Rattle.verse_cut.specs.Fits.{byte_order_mark}
use Rattle.verse_cut.specs.Joins.{KeyText, at_book_head, filled, pieces_from}
use Rattle.verse_cut.specs.Pieces.{pieces_of}
use Rattle.verse_cut.specs.Reading.{after_bom, is_empty}
use Rattle.op_core.specs.CutsBack.{keyed_text, later_texts, picked_at}
use Rattle.op_core.specs.Export.{export}
use Rattle.op_core.specs.Ops.{Operation, own_text}
use Rattle.op_core.specs.Sets.{IsOpSet}
use Rattle.op_core.specs.Shown.{Pick, Line, Greatest, Empty, pick, picked_text}
use Rattle.op_core.proofs.Exports.CutsBack.{exports_cut_back}
use Rattle.op_core.proofs.FilteredLists.{kept_each}
use Rattle.book_folder.specs.AsWritten.{are_alike}
use Rattle.book_folder.specs.Likes.{like, line_ends, in_line_ends, with_ends, without_cr, each_lf_has_cr}
use Rattle.book_folder.specs.Restored.{coming_ends, front_of, in_manner_of, restored_by, restored_piece}
use Rattle.book_folder.specs.declared.likes.LineEnds.TheVariants.{Lf, CrLf, Mixed}

-- ---- a text without a CR

-- with LF as its ends it is itself
pub ended : (text : List ℕ) → flat_map (λ b. cond (b == 10) (10 ∷ []) (b ∷ [])) text ≡ text
ended [] = refl
ended (b ∷ text) = by (b == 10) refl ∙ ap (λ (t : List ℕ). b ∷ t) (ended text)
  where
    more : List ℕ
    more = flat_map (λ b. cond (b == 10) (10 ∷ []) (b ∷ [])) text

    by : (c : Bool) → (b == 10) ≡ c → cond c (10 ∷ []) (b ∷ []) ++ more ≡ b ∷ more
    by true e = ap (λ n. n ∷ more) (sym (eqb-true b 10 e))
    by false e = refl

-- no CR is taken from it
pub none_taken : (text : List ℕ) → list_any (λ b. b == 13) text ≡ false → without_cr text ≡ text
unfolding without_cr
none_taken [] h = refl
none_taken (b ∷ []) h = refl
none_taken (b ∷ c ∷ text) h =
    let p = or_parts (b == 13) (list_any (λ b. b == 13) (c ∷ text)) h in
    ap (λ x. cond (x && (c == 10)) (without_cr (c ∷ text)) (b ∷ without_cr (c ∷ text))) p.0
    ∙ ap (λ (t : List ℕ). b ∷ t) (none_taken (c ∷ text) p.1)

lf_same : (text : List ℕ) → list_any (λ b. b == 13) text ≡ false → with_ends (10 ∷ []) text ≡ text
lf_same text h = ap (flat_map (λ b. cond (b == 10) (10 ∷ []) (b ∷ []))) (none_taken text h) ∙ ended text

-- ---- a text in which each LF has a CR before it

-- whether a text begins with an LF
abbrev begins_lf : List ℕ → Bool
begins_lf [] = false
begins_lf (b ∷ text) = b == 10

abbrev end_of : ℕ → List ℕ
end_of b = cond (b == 10) (13 ∷ 10 ∷ []) (b ∷ [])

-- an LF at the front gets its end
lf_first : (text : List ℕ) → flat_map end_of (without_cr (10 ∷ text)) ≡ 13 ∷ 10 ∷ flat_map end_of (without_cr text)
unfolding without_cr
lf_first [] = refl
lf_first (b ∷ text) = refl

not_lf : (b : ℕ) (text : List ℕ) → (b == 10) ≡ false → end_of b ++ text ≡ b ∷ text
not_lf b text e = ap (λ c. cond c (13 ∷ 10 ∷ []) (b ∷ []) ++ text) e

-- after another byte than a CR it begins with none
crlf_first : (before : ℕ) (text : List ℕ) → (before == 13) ≡ false → each_lf_has_cr before text ≡ true → (d : Bool) → begins_lf text ≡ d
    → begins_lf text ≡ false
unfolding each_lf_has_cr
crlf_first before [] other h d e = refl
crlf_first before (b ∷ text) other h true e =
    let p = and_parts (not (b == 10) || (before == 13)) (each_lf_has_cr b text) h in
    absurd (false≢true ((λ i. not (sym e i) || sym other i) ∙ p.0))
crlf_first before (b ∷ text) other h false e = e

crlf_same : (before : ℕ) (text : List ℕ) → begins_lf text ≡ false → each_lf_has_cr before text ≡ true
    → flat_map end_of (without_cr text) ≡ text
unfolding without_cr each_lf_has_cr
crlf_same before [] free h = refl
crlf_same before (b ∷ []) free h = not_lf b [] free
crlf_same before (b ∷ c ∷ text) free h =
    by (c == 10) refl (and_parts (not (b == 10) || (before == 13)) (each_lf_has_cr b (c ∷ text)) h).1
    (λ f g. crlf_same 10 text f g) (λ f g. crlf_same b (c ∷ text) f g)
  where
    has_cr : (d : Bool) → (c == 10) ≡ true → (not (c == 10) || d) ≡ true → d ≡ true
    has_cr true e h = refl
    has_cr false e h = absurd (false≢true (ap (λ y. not y || false) (sym e) ∙ h))

    Same : List ℕ → Type 0
    Same t = flat_map end_of (without_cr t) ≡ t

    by : (d : Bool) → (c == 10) ≡ d → each_lf_has_cr b (c ∷ text) ≡ true
        → (begins_lf text ≡ false → each_lf_has_cr 10 text ≡ true → Same text)
        → ((c == 10) ≡ false → each_lf_has_cr b (c ∷ text) ≡ true → Same (c ∷ text)) → Same (b ∷ c ∷ text)
    by true e g after next =
        let p = and_parts (not (c == 10) || (b == 13)) (each_lf_has_cr c text) g in
        let cr : (b == 13) ≡ true = has_cr (b == 13) e p.0 in
        let is_lf : c ≡ 10 = eqb-true c 10 e in
        let is_cr : b ≡ 13 = eqb-true b 13 cr in
        let on : each_lf_has_cr 10 text ≡ true = ap (λ n. each_lf_has_cr n text) (sym is_lf) ∙ p.1 in
        ap (flat_map end_of) (cond-true _ _ _ (λ i. cr i && e i))
        ∙ ap (λ n. flat_map end_of (without_cr (n ∷ text))) is_lf
        ∙ lf_first text
        ∙ ap (λ (t : List ℕ). 13 ∷ 10 ∷ t) (after (crlf_first 10 text refl on (begins_lf text) refl) on)
        ∙ (λ i. sym is_cr i ∷ sym is_lf i ∷ text)
    by false e g after next =
        ap (flat_map end_of) (cond-false _ _ _ (ap (λ y. (b == 13) && y) e ∙ none (b == 13)))
        ∙ not_lf b (flat_map end_of (without_cr (c ∷ text))) free
        ∙ ap (λ (t : List ℕ). b ∷ t) (next e g)
      where
        none : (x : Bool) → (x && false) ≡ false
        none true = refl
        none false = refl

-- ---- a text in its own manner

front_back : (text : List ℕ) → front_of text ++ after_bom text ≡ text
front_back text = by (same_bytes (take 3 text) byte_order_mark) refl
  where
    by : (b : Bool) → same_bytes (take 3 text) byte_order_mark ≡ b → cond b byte_order_mark [] ++ cond b (drop 3 text) text ≡ text
    by true e = ap (λ (t : List ℕ). t ++ drop 3 text) (sym (same_bytes-is (take 3 text) byte_order_mark e)) ∙ take-append-drop 3 text
    by false e = refl

-- what follows the front has no CR, if the text has none
no_cr_after : (text : List ℕ) → list_any (λ b. b == 13) text ≡ false → list_any (λ b. b == 13) (after_bom text) ≡ false
no_cr_after text h = by (same_bytes (take 3 text) byte_order_mark)
  where
    by : (b : Bool) → list_any (λ b. b == 13) (cond b (drop 3 text) text) ≡ false
    by true =
        (or_parts (list_any (λ b. b == 13) (take 3 text)) (list_any (λ b. b == 13) (drop 3 text))
        (sym (list_any-append (λ b. b == 13) (take 3 text) (drop 3 text)) ∙ ap (list_any (λ b. b == 13)) (take-append-drop 3 text) ∙ h)).1
    by false = h

crlf_after : (text : List ℕ) → each_lf_has_cr 0 text ≡ true → with_ends (13 ∷ 10 ∷ []) (after_bom text) ≡ after_bom text
unfolding each_lf_has_cr
crlf_after text h = by (same_bytes (take 3 text) byte_order_mark) refl
  where
    by : (b : Bool) → same_bytes (take 3 text) byte_order_mark ≡ b
        → flat_map end_of (without_cr (cond b (drop 3 text) text)) ≡ cond b (drop 3 text) text
    by true e =
        let whole : byte_order_mark ++ drop 3 text ≡ text =
        ap (λ (t : List ℕ). t ++ drop 3 text) (sym (same_bytes-is (take 3 text) byte_order_mark e)) ∙ take-append-drop 3 text in
        let on : each_lf_has_cr 191 (drop 3 text) ≡ true = ap (each_lf_has_cr 0) whole ∙ h in
        crlf_same 191 (drop 3 text) (crlf_first 191 (drop 3 text) refl on (begins_lf (drop 3 text)) refl) on
    by false e = crlf_same 0 text (crlf_first 0 text refl h (begins_lf text) refl) h

-- a text whose lines end in one manner is as it is in its own manner
pub own_manner : (text : List ℕ) → are_alike (line_ends text) ≡ true → in_manner_of text text ≡ text
own_manner text h =
    by (list_any (λ b. b == 10) text && each_lf_has_cr 0 text) refl (list_any (λ b. b == 13) text) refl h ∙ front_back text
  where
    by : (b : Bool) → (list_any (λ b. b == 10) text && each_lf_has_cr 0 text) ≡ b → (c : Bool) → list_any (λ b. b == 13) text ≡ c
        → are_alike (cond b CrLf (cond c Mixed Lf)) ≡ true
        → front_of text ++ in_line_ends (coming_ends (cond b CrLf (cond c Mixed Lf))) (after_bom text) ≡ front_of text ++ after_bom text
    by true e c f h =
        ap (λ (t : List ℕ). front_of text ++ t)
        (crlf_after text (and_parts (list_any (λ b. b == 10) text) (each_lf_has_cr 0 text) e).1)
    by false e true f h = cc h
    by false e false f h = ap (λ (t : List ℕ). front_of text ++ t) (lf_same (after_bom text) (no_cr_after text f))

-- ---- pieces as a base has them

-- what is picked stays where it is restored
restored_same : (p : Pick) → restored_by p (picked_text p) ≡ picked_text p
restored_same (Greatest o) = by (like (own_text o) (own_text o))
  where
    by : (b : Bool) → cond b (own_text o) (own_text o) ≡ own_text o
    by true = refl
    by false = refl
restored_same (Line chapter) = refl
restored_same Empty = refl

module _ (base : List Operation) (book : List ℕ) where
  -- a text is what is picked at its key
  abbrev IsPicked : KeyText → Type 0
  IsPicked t = t.text ≡ picked_at base book t.key

  picked_each : (keys : List KeyParts) → AllByRecursion IsPicked (map (keyed_text base book) keys)
  picked_each [] = tt
  picked_each (k ∷ keys) = (refl, picked_each keys)

  restored_each : (at : ℕ) (ts : List KeyText) → AllByRecursion IsPicked ts
      → map (restored_piece base book) (pieces_from at ts) ≡ pieces_from at ts
  restored_each at [] h = refl
  restored_each at (t ∷ ts) h = λ i.
      record { key = t.key; start = at; text = same i } ∷ restored_each (at + length t.text) ts h.1 i
    where
      same : restored_by (pick base (segment book t.key)) t.text ≡ t.text
      same =
          ap (restored_by (pick base (segment book t.key))) h.0
          ∙ restored_same (pick base (segment book t.key))
          ∙ sym h.0

  -- the pieces of the base's export are as the base has them
  pub export_restored : IsOpSet base → map (restored_piece base book) (pieces_of (export base book)) ≡ pieces_of (export base book)
  export_restored set =
      let head = at_book_head (picked_at base book book_head) in
      let later = later_texts base book in
      let cut = exports_cut_back base book set in
      ap (map (restored_piece base book)) cut
      ∙ restored_each 0 (head ∷ filled later)
      (refl, kept_each IsPicked (λ t. not (is_empty t.text)) later (picked_each _))
      ∙ sym cut
