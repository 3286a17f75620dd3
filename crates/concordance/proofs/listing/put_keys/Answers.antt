use Rattle.std.proofs.Common.{◌≡◌, ◌∙◌, ◌++◌, ◌∷◌, [], ap, sym, subst, refl, false, Option, None}
use Rattle.std.proofs.Common.{Some, is_some, List}
use Rattle.std.proofs.lemmas.Bool.{false≢true}
use Rattle.indexmap.proofs.CallerLemmas.{insert_entry-new}
use Rattle.concordance.specs.Loops.Groups.{Group, all_spellings, spellings_with, has_bare}
use Rattle.concordance.specs.Loops.Groups.{SpellsBoth}
use Rattle.concordance.proofs.GroupSteps.{put_spelled, new_spelled, put_keyed, new_keyed, text_eq}
use Rattle.concordance.proofs.listing.put_keys.Goals as goal

none_of : {X : Type 0} (o : Option X) → false ≡ is_some o → o ≡ None
none_of None h = refl
none_of (Some x) h = absurd (false≢true h)

pub returns-in_ok-extend_from_slice-in-Some-clause-spells : goal.returns-in_ok-extend_from_slice-in-Some-clause-spells
returns-in_ok-extend_from_slice-in-Some-clause-spells c =
    put_spelled c.args.groups.now.entries c.in-Some.at c.args.form c.index_mut.result.now c.extend_from_slice.new.self c.args.keys.now
    c.in-Some.ensures.index c.index_mut.ensures.value c.in_ok-extend_from_slice-in-Some.ensures.items

pub returns-in_ok-extend_from_slice-in-Some-clause-keyed : goal.returns-in_ok-extend_from_slice-in-Some-clause-keyed
returns-in_ok-extend_from_slice-in-Some-clause-keyed c =
    put_keyed c.args.groups.now.entries c.in-Some.at c.extend_from_slice.new.self c.index_mut.result.now.items c.args.keys.now
    c.in_ok-extend_from_slice-in-Some.ensures.items c.requires.some c.requires.keyed

pub returns-in_ok-insert-in-None-clause-spells : goal.returns-in_ok-insert-in-None-clause-spells
returns-in_ok-insert-in-None-clause-spells c =
    let is : c.insert.new.self.entries ≡ c.args.groups.now.entries ++ (c.args.form, c.in_ok-keys-in-None.keys) ∷ [] =
    c.in_ok-insert-in-None.ensures.entries
    ∙ insert_entry-new text_eq c.args.groups.now c.args.form c.in_ok-keys-in-None.keys (none_of _ c.in-None.ensures.found) in
    subst (λ (gs : List Group). SpellsBoth (all_spellings c.args.groups.now.entries) (spellings_with c.args.form.now c.args.keys.now)
    (all_spellings gs)) (sym is)
    (new_spelled c.args.groups.now.entries c.args.form c.in_ok-keys-in-None.keys c.args.keys.now c.in_ok-keys-in-None.ensures.items)

pub returns-in_ok-insert-in-None-clause-keyed : goal.returns-in_ok-insert-in-None-clause-keyed
returns-in_ok-insert-in-None-clause-keyed c =
    let is : c.insert.new.self.entries ≡ c.args.groups.now.entries ++ (c.args.form, c.in_ok-keys-in-None.keys) ∷ [] =
    c.in_ok-insert-in-None.ensures.entries
    ∙ insert_entry-new text_eq c.args.groups.now c.args.form c.in_ok-keys-in-None.keys (none_of _ c.in-None.ensures.found) in
    ap has_bare is
    ∙ new_keyed c.args.groups.now.entries c.args.form c.in_ok-keys-in-None.keys c.args.keys.now c.in_ok-keys-in-None.ensures.items
    c.requires.some
    c.requires.keyed
