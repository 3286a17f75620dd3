use Rattle.std.proofs.Common.{◌≡◌, ◌∙◌, true, false, cond, Some, is_some, sym, subst, Bor, List, ℕ}
use Rattle.std.specs.BTreeMap.{get}
use Rattle.std.specs.Ordering.{is_eq}
use Rattle.usfm_ref.specs.Segments.{segment}
use Rattle.book_folder.specs.Taking.{stood_view}
use Rattle.book_folder.specs.StoodTexts.{Texts}
use Rattle.book_folder.proofs.TextsUnder.{cmp_is, put_new, put_none}
use Rattle.book_folder.proofs.stood_texts.put_text.Goals as goal

pub returns-then-contains_key : goal.returns-then-contains_key
returns-then-contains_key c =
    let s = stood_view c.args.one.now in
    put_none c.args.texts.now s
    (subst (λ cmp. is_some (get cmp c.args.texts.now (segment s.book s.key)) ≡ true) cmp_is
    (sym c.contains_key.ensures ∙ c.if-contains_key.true))

pub returns-in-Ok : goal.returns-in-Ok
returns-in-Ok c =
    let s = stood_view c.args.one.now in
    let m : Texts = c.args.texts.now in
    let n : Texts = c.insert.new.self in
    let t : Bor (List ℕ) = c.as_str.result in
    put_new m n s t c.as_str.ensures.value
    (subst (λ cmp. is_some (get cmp m (segment s.book s.key)) ≡ false) cmp_is (sym c.contains_key.ensures ∙ c.if-contains_key.false))
    (λ q. subst (λ cmp. get cmp n q ≡ cond (is_eq (cmp (segment s.book s.key) q)) (Some t) (get cmp m q)) cmp_is
    (c.in-Ok.ensures.updates.0 q))
