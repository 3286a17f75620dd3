use Rattle.std.proofs.Common.{◌≡◌, ◌∷◌, ◌++◌, ◌∙◌, ℕ, List, Some, true, ap, sym}
use Rattle.usfm_ref.specs.Books.{is_book_code}
use Rattle.usfm_ref.specs.References.{key_text}
use Rattle.conflict_answers.specs.Loops.Cuts.{both_now}
use Rattle.conflict_answers.proofs.Choices.{same_parts}
use Rattle.conflict_answers.proofs.Readers.{book_lacks, key_lacks, missed, none_is, ref_told, some_is}
use Rattle.conflict_answers.proofs.conflict.segment_in.Goals as goal

pub returns-in_err-code-clause-only : goal.returns-in_err-code-clause-only
returns-in_err-code-clause-only c g rest is e =
    let after = key_text g.key ++ 32 ∷ rest in
    absurd
    (missed both_now c.cut.result (g.book, after) c.in_err-code.was
    (c.cut.ensures.only g.book after (book_lacks g.book is.book) (e ∙ ref_told g.book g.key rest)))

pub returns-in_err-place-clause-only : goal.returns-in_err-place-clause-only
returns-in_err-place-clause-only c g rest is e =
    let after = key_text g.key ++ 32 ∷ rest in
    let first = same_parts c.in_ok-code.code.now g.book c.in_ok-code.more.now after
    (c.in_ok-code.ensures.only g.book after (book_lacks g.book is.book) (e ∙ ref_told g.book g.key rest)) in
    absurd
    (missed both_now c.cut-2.result (key_text g.key, rest) c.in_err-place.was
    (c.cut-2.ensures.only (key_text g.key) rest (key_lacks g.key is.key) first.1))

pub returns-in_err-book-clause-only : goal.returns-in_err-book-clause-only
returns-in_err-book-clause-only c g rest is e =
    let after = key_text g.key ++ 32 ∷ rest in
    let first = same_parts c.in_ok-code.code.now g.book c.in_ok-code.more.now after
    (c.in_ok-code.ensures.only g.book after (book_lacks g.book is.book) (e ∙ ref_told g.book g.key rest)) in
    let coded : is_book_code c.in_ok-code.code.now ≡ true = ap is_book_code first.0 ∙ is.book in
    absurd (none_is c.book_in.result c.in_ok-code.code.now c.in_err-book.was (c.book_in.ensures.only coded))

pub returns-in_err-key-clause-only : goal.returns-in_err-key-clause-only
returns-in_err-key-clause-only c g rest is e =
    let after = key_text g.key ++ 32 ∷ rest in
    let first = same_parts c.in_ok-code.code.now g.book c.in_ok-code.more.now after
    (c.in_ok-code.ensures.only g.book after (book_lacks g.book is.book) (e ∙ ref_told g.book g.key rest)) in
    let second = same_parts c.in_ok-place.place.now (key_text g.key) c.in_ok-place.rest.now rest
    (c.in_ok-place.ensures.only (key_text g.key) rest (key_lacks g.key is.key) first.1) in
    absurd (none_is c.key_in.result g.key c.in_err-key.was (c.key_in.ensures.only g.key is.key second.0))

pub returns-clause-spelled : goal.returns-clause-spelled
returns-clause-spelled c =
    let book = c.in_ok-book.ensures.spelled in
    let place = c.in_ok-key.ensures.spelled in
    c.in_ok-code.ensures.cut
    ∙ (λ i. book i ++ 32 ∷ (c.in_ok-place.ensures.cut ∙ ap (λ (bs : List ℕ). bs ++ 32 ∷ c.in_ok-place.rest.now) place) i)
    ∙ sym (ref_told c.in_ok-book.book c.in_ok-key.key c.in_ok-place.rest.now)

pub returns-clause-valid : goal.returns-clause-valid
returns-clause-valid c = record { book = c.in_ok-book.ensures.valid; key = c.in_ok-key.ensures.valid }

pub returns-clause-only : goal.returns-clause-only
returns-clause-only c g rest is e =
    let after = key_text g.key ++ 32 ∷ rest in
    let first = same_parts c.in_ok-code.code.now g.book c.in_ok-code.more.now after
    (c.in_ok-code.ensures.only g.book after (book_lacks g.book is.book) (e ∙ ref_told g.book g.key rest)) in
    let second = same_parts c.in_ok-place.place.now (key_text g.key) c.in_ok-place.rest.now rest
    (c.in_ok-place.ensures.only (key_text g.key) rest (key_lacks g.key is.key) first.1) in
    let coded : is_book_code c.in_ok-code.code.now ≡ true = ap is_book_code first.0 ∙ is.book in
    let book = some_is c.in_ok-book.book c.in_ok-code.code.now (c.in_ok-book.ensures.only coded) in
    let key = some_is c.in_ok-key.key g.key (c.in_ok-key.ensures.only g.key is.key second.0) in
    λ i. Some (record { book = (book ∙ first.0) i; key = key i }, second.1 i)
