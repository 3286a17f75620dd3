use Rattle.std.proofs.Common.{◌∷◌, ◌++◌, ◌∙◌, ℕ, List, Some, length, ap, sym, arith}
use Rattle.std.specs.Option.{option_map}
use Rattle.usfm_ref.specs.References.{ref_text}
use Rattle.conflict_answers.proofs.Choices.{same_parts}
use Rattle.conflict_answers.proofs.Readers.{missed, nothing_is, some_is, words_begin}
use Rattle.conflict_answers.proofs.conflict.conflict_in.Goals as goal

pub returns-in_default-clause-only : goal.returns-in_default-clause-only
returns-in_default-clause-only c g ids is e =
    let words = words_begin ids is.two in
    absurd
    (nothing_is (g, words.0)
    (c.in_default.ensures.only g words.0 (record { book = is.book; key = is.key })
    (e ∙ ap (λ (bs : List ℕ). ref_text g.book g.key ++ bs) words.1)))

pub returns-in_default-2-clause-only : goal.returns-in_default-2-clause-only
returns-in_default-2-clause-only c g ids is e =
    let words = words_begin ids is.two in
    let at = same_parts c.in-Some.segment g c.in-Some.words.now words.0
    (c.in-Some.ensures.only g words.0 (record { book = is.book; key = is.key })
    (e ∙ ap (λ (bs : List ℕ). ref_text g.book g.key ++ bs) words.1)) in
    absurd
    (missed (λ v. v.items) c.in_ok-ids.field-0 ids c.in_default-2.is
    (c.in_ok-ids.ensures.only ids is.valid is.apart (ap (λ (bs : List ℕ). 32 ∷ bs) at.1 ∙ sym words.1)))

pub returns-then-len-lt2-clause-only : goal.returns-then-len-lt2-clause-only
returns-then-len-lt2-clause-only c g ids is e =
    let words = words_begin ids is.two in
    let at = same_parts c.in-Some.segment g c.in-Some.words.now words.0
    (c.in-Some.ensures.only g words.0 (record { book = is.book; key = is.key })
    (e ∙ ap (λ (bs : List ℕ). ref_text g.book g.key ++ bs) words.1)) in
    let found = c.in_ok-ids.ensures.only ids is.valid is.apart (ap (λ (bs : List ℕ). 32 ∷ bs) at.1 ∙ sym words.1) in
    let same = some_is c.in-Some-2.ids.items ids (sym (ap (option_map (λ v. v.items)) c.in-Some-2.is) ∙ found) in
    let many = ap length same in
    absurd (omega (arith, is.two, many, c.len.ensures, c.if-len-lt2.true))

pub returns-clause-only : goal.returns-clause-only
returns-clause-only c g ids is e =
    let words = words_begin ids is.two in
    let at = same_parts c.in-Some.segment g c.in-Some.words.now words.0
    (c.in-Some.ensures.only g words.0 (record { book = is.book; key = is.key })
    (e ∙ ap (λ (bs : List ℕ). ref_text g.book g.key ++ bs) words.1)) in
    let found = c.in_ok-ids.ensures.only ids is.valid is.apart (ap (λ (bs : List ℕ). 32 ∷ bs) at.1 ∙ sym words.1) in
    let same = some_is c.in-Some-2.ids.items ids (sym (ap (option_map (λ v. v.items)) c.in-Some-2.is) ∙ found) in
    λ i. Some (at.0 i, same i)
