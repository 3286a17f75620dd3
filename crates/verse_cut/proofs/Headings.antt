-- Headings, read from the left.
use Rattle.std.proofs.Common.{◌≡◌, ℕ, Bool, true, false, ◌&&◌, ◌↔◌, cond, List, [], ◌∷◌, ◌++◌, length, take, drop, codes, Option, None, Some, Result, Ok, Err, IfOk, sym, refl, ap, ◌∙◌, subst, take-append-drop}
use Rattle.std.proofs.lemmas.Bool.{and_parts, and_from, cond-true}
use Rattle.std.proofs.lemmas.List.{take_at, drop_at}
use Rattle.usfm_ref.proofs.Codes.{code_length}
use Rattle.usfm_ref.specs.Books.{is_book_code, same_bytes}
use Rattle.usfm_ref.specs.Numbers.{is_blank}
use Rattle.usfm_ref.proofs.Orders.{same_bytes-is, same_bytes-refl}
use Rattle.verse_cut.specs.Fits.{byte_order_mark, BeginsWithId, ends_code, IsHeaded}
use Rattle.verse_cut.specs.Reading.{after_bom, begins_blank, id_at, after_id, code_leads, code_after, is_headed, leading_book, book_or_bad, book_at, book_in}
use Rattle.verse_cut.specs.declared.fault.BookFault.{BookFault}
use Rattle.verse_cut.specs.declared.fault.BookFault.TheVariants.{NoId}

-- `\id`, a blank, and what comes after
record IsId (bytes after : List ℕ) : Type 0 where
  blank : ℕ
  is_blank : is_blank blank ≡ true
  bytes_are : bytes ≡ codes "\\id" ++ blank ∷ after

id_at-some : (bytes after : List ℕ) → id_at bytes ≡ Some after → IsId bytes after
id_at-some bytes after h = by (same_bytes (take 3 bytes) (codes "\\id") && begins_blank (drop 3 bytes)) refl h
  where
    parts : (rest : List ℕ) → drop 3 bytes ≡ rest → same_bytes (take 3 bytes) (codes "\\id") ≡ true → begins_blank rest ≡ true
        → drop 4 bytes ≡ after → IsId bytes after
    parts [] r e b d = absurd (cc)
    parts (x ∷ rest) r e b d = record {
      blank = x;
      is_blank = b;
      bytes_are = sym (take-append-drop 3 bytes)
          ∙ (λ i. same_bytes-is (take 3 bytes) (codes "\\id") e i ++ (r ∙ ap (λ l. x ∷ l) (after_is ∙ d)) i);
    }
      where
        after_is : rest ≡ drop 4 bytes
        after_is = ap (drop 1) (sym r) ∙ drop_more bytes
          where
            drop_more : (l : List ℕ) → drop 1 (drop 3 l) ≡ drop 4 l
            drop_more [] = refl
            drop_more (a ∷ []) = refl
            drop_more (a ∷ b ∷ []) = refl
            drop_more (a ∷ b ∷ c ∷ l) = refl

    by : (e : Bool) → same_bytes (take 3 bytes) (codes "\\id") && begins_blank (drop 3 bytes) ≡ e
        → cond e (Some (drop 4 bytes)) None ≡ Some after → IsId bytes after
    by true e h =
        let p = and_parts (same_bytes (take 3 bytes) (codes "\\id")) (begins_blank (drop 3 bytes)) e in
        parts (drop 3 bytes) refl p.0 p.1 cc
    by false e h = absurd (cc)

id_at-of : (blank : ℕ) (after : List ℕ) → is_blank blank ≡ true → id_at (codes "\\id" ++ blank ∷ after) ≡ Some after
id_at-of blank after h = cond-true _ _ _ h

-- what is read after an `\id` comes after one
pub after_id-some : (text after : List ℕ) → after_id text ≡ Some after → BeginsWithId text after
unfolding after_id
after_id-some text after h = by (same_bytes (take 3 text) byte_order_mark) refl h
  where
    by : (e : Bool) → same_bytes (take 3 text) byte_order_mark ≡ e → id_at (cond e (drop 3 text) text) ≡ Some after
        → BeginsWithId text after
    by true e h =
        let id = id_at-some (drop 3 text) after h in
        record {
          marked = true;
          blank = id.blank;
          is_blank = id.is_blank;
          text_is = sym (take-append-drop 3 text) ∙ (λ i. same_bytes-is (take 3 text) byte_order_mark e i ++ id.bytes_are i);
        }
    by false e h =
        let id = id_at-some text after h in record { marked = false; blank = id.blank; is_blank = id.is_blank; text_is = id.bytes_are }

-- what comes after an `\id` is read
pub after_id-of : (text after : List ℕ) → BeginsWithId text after → after_id text ≡ Some after
unfolding after_id
after_id-of text after h = ap (λ t. id_at (after_bom t)) h.text_is ∙ by h.marked
  where
    by : (marked : Bool) → id_at (after_bom (cond marked byte_order_mark [] ++ (codes "\\id" ++ h.blank ∷ after))) ≡ Some after
    by true = id_at-of h.blank after h.is_blank
    by false = id_at-of h.blank after h.is_blank

-- ---- the code of a book

code_leads-is : (code bytes : List ℕ) → code_leads code bytes ≡ true
    → (bytes ≡ code ++ drop (length code) bytes) × (ends_code (drop (length code) bytes) ≡ true)
code_leads-is code bytes h =
    let p = and_parts (same_bytes (take (length code) bytes) code) (ends_code (drop (length code) bytes)) h in (
      sym (take-append-drop (length code) bytes)
          ∙ ap (λ l. l ++ drop (length code) bytes) (same_bytes-is (take (length code) bytes) code p.0),
      p.1,
    )

code_leads-of : (code rest : List ℕ) → ends_code rest ≡ true → code_leads code (code ++ rest) ≡ true
code_leads-of code rest h =
    and_from (same_bytes (take (length code) (code ++ rest)) code) (ends_code (drop (length code) (code ++ rest)))
    (ap (λ l. same_bytes l code) (take_at code rest (length code) refl) ∙ same_bytes-refl code)
    (ap ends_code (drop_at code rest (length code) refl) ∙ h)

-- a text that is read as headed by a book is
pub is_headed-is : (book text : List ℕ) → is_headed book text ≡ true → IsHeaded book text
is_headed-is book text h = by (after_id text) refl h
  where
    by : (o : Option (List ℕ)) → after_id text ≡ o → code_after book o ≡ true → IsHeaded book text
    by None e h = absurd (cc)
    by (Some bytes) e h =
        let p = code_leads-is book bytes h in
        record {
          rest = drop (length book) bytes;
          begins = after_id-some text (book ++ drop (length book) bytes) (e ∙ ap Some p.0);
          ends = p.1;
        }

-- a text that is headed by a book is read so
pub is_headed-of : (book text : List ℕ) → IsHeaded book text → is_headed book text ≡ true
is_headed-of book text h = ap (code_after book) (after_id-of text (book ++ h.rest) h.begins) ∙ code_leads-of book h.rest h.ends

leading_book-some : (text bytes book : List ℕ) → BeginsWithId text bytes → leading_book bytes ≡ Some book → IsHeaded book text
leading_book-some text bytes book begins h = by (is_book_code (take 3 bytes) && ends_code (drop 3 bytes)) refl h
  where
    by : (e : Bool) → is_book_code (take 3 bytes) && ends_code (drop 3 bytes) ≡ e → cond e (Some (take 3 bytes)) None ≡ Some book
        → IsHeaded book text
    by true e h =
        let p = and_parts (is_book_code (take 3 bytes)) (ends_code (drop 3 bytes)) e in
        let is : take 3 bytes ≡ book = cc in
        record {
          rest = drop 3 bytes;
          begins = subst (BeginsWithId text) (sym (take-append-drop 3 bytes) ∙ ap (λ l. l ++ drop 3 bytes) is) begins;
          ends = p.1;
        }
    by false e h = absurd (cc)

book_or_bad-ok : (o : Option (List ℕ)) (book : List ℕ) → book_or_bad o ≡ Ok book → o ≡ Some book
book_or_bad-ok None book h = absurd (cc)
book_or_bad-ok (Some b) book h = cc

-- what is read after `\id` has one
never_no_id : (o : Option (List ℕ)) → book_or_bad o ≡ Err NoId → ⊥
never_no_id None h = absurd (cc)
never_no_id (Some b) h = absurd (cc)

-- a book that is read is headed so
pub book_reads : (text : List ℕ) (r : Result (List ℕ) BookFault) → r ≡ book_in text → IfOk r (λ book. IsHeaded book text)
unfolding book_in
book_reads text (Ok book) e = by (after_id text) refl (sym e)
  where
    by : (o : Option (List ℕ)) → after_id text ≡ o → book_at o ≡ Ok book → IsHeaded book text
    by None b h = absurd (cc)
    by (Some bytes) b h = leading_book-some text bytes book (after_id-some text bytes b) (book_or_bad-ok (leading_book bytes) book h)
book_reads text (Err fault) e = tt

-- a text that is headed so is read as that book
pub book_only : (text : List ℕ) (r : Result (List ℕ) BookFault) → r ≡ book_in text → (book : List ℕ) → is_book_code book ≡ true
    → IsHeaded book text → r ≡ Ok book
unfolding book_in
book_only text r e book code h =
    let three = code_length book code in
    let front : take 3 (book ++ h.rest) ≡ book = take_at book h.rest 3 three in
    let test = and_from (is_book_code (take 3 (book ++ h.rest))) (ends_code (drop 3 (book ++ h.rest))) (ap is_book_code front ∙ code)
    (ap ends_code (drop_at book h.rest 3 three) ∙ h.ends) in
    e ∙ ap book_at (after_id-of text (book ++ h.rest) h.begins) ∙ ap book_or_bad (cond-true _ _ _ test ∙ ap Some front)

-- that there is no `\id` is answered exactly where the text begins with none
pub book_no_id : (text : List ℕ) (r : Result (List ℕ) BookFault) → r ≡ book_in text
    → (r ≡ Err NoId) ↔ ((after : List ℕ) → BeginsWithId text after → ⊥)
unfolding book_in
book_no_id text r e = (
  λ h after begins. let there : book_at (Some after) ≡ Err NoId = ap book_at (sym (after_id-of text after begins)) ∙ sym e ∙ h in
      never_no_id (leading_book after) there,
  λ none. e ∙ by (after_id text) refl none,
)
  where
    by : (o : Option (List ℕ)) → after_id text ≡ o → ((after : List ℕ) → BeginsWithId text after → ⊥) → book_at o ≡ Err NoId
    by None b none = refl
    by (Some bytes) b none = absurd (none bytes (after_id-some text bytes b))

-- no book is read where no `\id` is
pub book_in-none : (text : List ℕ) → after_id text ≡ None → Err NoId ≡ book_in text
unfolding book_in
book_in-none text h = ap book_at (sym h)

-- after an `\id` the book is read that leads what follows, or that none does
pub book_in-some : (text bytes : List ℕ) → after_id text ≡ Some bytes → book_or_bad (leading_book bytes) ≡ book_in text
unfolding book_in
book_in-some text bytes h = ap book_at (sym h)
