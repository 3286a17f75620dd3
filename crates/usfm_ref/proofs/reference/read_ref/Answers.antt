use Rattle.std.proofs.Common.{◌≡◌, ◌∙◌, ◌<◌, take, drop, length, false, refl, sym, ap}
use Rattle.std.proofs.lemmas.Bool.{false_from_ne_true, false≢true}
use Rattle.usfm_ref.specs.Books.{is_book_code}
use Rattle.usfm_ref.proofs.Spellings.{ref_reads, ref_only, ref_in-no_code, ref_in-code, short_no_code}
use Rattle.usfm_ref.proofs.reference.read_ref.Goals as goal

pub returns-in_default-clause-value : goal.returns-in_default-clause-value
returns-in_default-clause-value c =
    let short : length c.args.text.now < 3 = rw (← c.as_bytes.ensures.value) c.in_default.ensures.cases in
    sym (ref_in-no_code c.args.text.now (short_no_code c.args.text.now short))

pub returns-in_default-of_code-clause-value : goal.returns-in_default-of_code-clause-value
returns-in_default-of_code-clause-value c =
    let code : c.in-Some.code.now ≡ take 3 c.args.text.now = c.in-Some.ensures.cases.0 ∙ ap (take 3) c.as_bytes.ensures.value in
    let none : is_book_code c.in-Some.code.now
    ≡ false = false_from_ne_true _ (λ is. false≢true (c.in_default-of_code.ensures.accepts.1 is)) in
    sym (ref_in-no_code c.args.text.now (ap is_book_code (sym code) ∙ none))

pub returns-in-Some-key_after-clause-value : goal.returns-in-Some-key_after-clause-value
returns-in-Some-key_after-clause-value c =
    let code : c.in-Some.code.now ≡ take 3 c.args.text.now = c.in-Some.ensures.cases.0 ∙ ap (take 3) c.as_bytes.ensures.value in
    let after : c.in-Some.after.now ≡ drop 3 c.args.text.now = c.in-Some.ensures.cases.1 ∙ ap (drop 3) c.as_bytes.ensures.value in
    rw c.in-Some-of_code.ensures.book
    (sym (ref_in-code c.args.text.now _ _ _ code after (c.in-Some-of_code.ensures.accepts.0 refl) c.in-Some-key_after.ensures))

pub returns-in-Some-key_after-clause-reads : goal.returns-in-Some-key_after-clause-reads
returns-in-Some-key_after-clause-reads c = ref_reads _ _ (returns-in-Some-key_after-clause-value c)

pub returns-in-Some-key_after-clause-only : goal.returns-in-Some-key_after-clause-only
returns-in-Some-key_after-clause-only c = ref_only _ _ (returns-in-Some-key_after-clause-value c)

pub returns-in-None-clause-value : goal.returns-in-None-clause-value
returns-in-None-clause-value c =
    let code : c.in-Some.code.now ≡ take 3 c.args.text.now = c.in-Some.ensures.cases.0 ∙ ap (take 3) c.as_bytes.ensures.value in
    let after : c.in-Some.after.now ≡ drop 3 c.args.text.now = c.in-Some.ensures.cases.1 ∙ ap (drop 3) c.as_bytes.ensures.value in
    sym (ref_in-code c.args.text.now _ _ _ code after (c.in-Some-of_code.ensures.accepts.0 refl) c.in-None.ensures)

pub returns-in-None-clause-only : goal.returns-in-None-clause-only
returns-in-None-clause-only c = ref_only _ _ (returns-in-None-clause-value c)
