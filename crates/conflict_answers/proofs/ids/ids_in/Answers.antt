use Rattle.std.proofs.Common.{◌≡◌, ◌∙◌, Bor, List, ℕ, Bool, true, false, not, None, Some, Option, refl, sym, ap, subst}
use Rattle.std.specs.Option.{option_map}
use Rattle.std.proofs.lemmas.Bool.{not-true}
use Rattle.op_core.specs.Ids.{Id}
use Rattle.conflict_answers.proofs.Words.{HasIds, has_next, no_id, only_ids, twice}
use Rattle.conflict_answers.proofs.ids.ids_in.Goals as goal

is_there : (b : Bool) → not b ≡ false → b ≡ true
is_there true e = refl
is_there false e = cc

pub returns-in_default-id_in-clause-only : goal.returns-in_default-id_in-clause-only
returns-in_default-id_in-clause-only c all v a e =
    let has = subst
    (λ (o : Option (Bor (List ℕ))). HasIds c.args.words.now c.words.ids.items c.words.seen (option_map (λ b. b.now) o)) c.in-Some.is
    c.words.invariant in
    absurd
    (no_id c.args.words.now c.words.ids.items c.words.seen c.in-Some.rest.now has c.first_word.result.0.now
    (option_map (λ b. b.now) c.first_word.result.1) c.first_word.ensures.cut c.first_word.ensures.only
    (λ id w f. let bad : None ≡ Some id = c.in_default-id_in.ensures.only id w f in cc) all v a e)

pub returns-then-not-is_new-clause-only : goal.returns-then-not-is_new-clause-only
returns-then-not-is_new-clause-only c all v a e =
    let has = subst
    (λ (o : Option (Bor (List ℕ))). HasIds c.args.words.now c.words.ids.items c.words.seen (option_map (λ b. b.now) o)) c.in-Some.is
    c.words.invariant in
    let id = c.in-Some-id_in.id in
    let there = sym (has.holds id) ∙ is_there _ (sym c.in_ok-is_new.ensures.added ∙ c.if-not-is_new.true) in
    absurd
    (twice c.args.words.now c.words.ids.items c.words.seen c.in-Some.rest.now has c.first_word.result.0.now
    (option_map (λ b. b.now) c.first_word.result.1) c.first_word.ensures.cut c.first_word.ensures.only id
    c.in-Some-id_in.ensures.spelled c.in-Some-id_in.ensures.valid
    (λ x w f. let same : Some id ≡ Some x = c.in-Some-id_in.ensures.only x w f in cc) there all v a e)

pub words-preserved : goal.words-preserved
words-preserved c =
    let has = subst
    (λ (o : Option (Bor (List ℕ))). HasIds c.args.words.now c.words.ids.items c.words.seen (option_map (λ b. b.now) o)) c.in-Some.is
    c.words.invariant in
    let id = c.in-Some-id_in.id in
    let new = sym (has.holds id) ∙ not-true _ (sym c.in_ok-is_new.ensures.added ∙ c.if-not-is_new.false) in
    subst
    (λ (xs : List Id). HasIds c.args.words.now xs c.insert.new.self (option_map (λ b. b.now) c.first_word.result.1))
    (sym c.in_ok-push.ensures.items)
    (has_next c.args.words.now c.words.ids.items c.words.seen c.in-Some.rest.now has c.first_word.result.0.now
    (option_map (λ b. b.now) c.first_word.result.1) c.first_word.ensures.cut c.first_word.ensures.only id
    c.in-Some-id_in.ensures.spelled c.in-Some-id_in.ensures.valid
    (λ x w f. let same : Some id ≡ Some x = c.in-Some-id_in.ensures.only x w f in cc) c.insert.new.self new
    c.in_ok-is_new.ensures.updates.0)

pub returns-clause-only : goal.returns-clause-only
returns-clause-only c all v a e =
    let has = subst
    (λ (o : Option (Bor (List ℕ))). HasIds c.args.words.now c.words.ids.items c.words.seen (option_map (λ b. b.now) o)) c.in_default.is
    c.words.invariant in
    ap Some (only_ids c.args.words.now c.words.ids.items c.words.seen has all v a e)
