-- What one more change makes of the files of a disk in memory, and of those that it has had.
use Rattle.std.proofs.Common.{◌≡◌, ◌≢◌, ◌⊎◌, inl, inr, ⊎_elim, ℕ, zero, suc, nat_eq, ◌+◌, ◌≤◌, ◌<◌, Bool, true, false, List, [], ◌∷◌, ◌++◌, length, take, Option, Some, None, if◌then◌else◌, refl, sym, ◌∙◌, ap, subst, arith, length-append}
use Rattle.std.proofs.lemmas.Bool.{and_parts, and_from, eqb-true, eq-eqb, cases_lt}
use Rattle.std.proofs.lemmas.List.{take_all, append-nil}
use Rattle.std.specs.Cmp.Lexicographic.{pointwise}
use Rattle.team_disk.specs.Disk.{Place, Files, at, as_read, Apart, SameBut, SameButTwo, Written, MayPut, MayMove, Follows, Elapses}
use Rattle.team_disk.specs.Memory.{files_of, changed, after, HadBeen, Left, Same, is_at, is_left}
use Rattle.team_disk.specs.Places.{same_folder}
use Rattle.team_disk.proofs.PlaceLemmas.{same_bytes-is, same_bytes-refl, same_folder-is, same_folder-refl, told}
use Rattle.team_disk.specs.declared.memory.Change.{Change}
use Rattle.team_disk.specs.declared.memory.StoredPlace.{StoredPlace}

-- where a place that is kept is
abbrev pub place_of : StoredPlace → Place
place_of stored = at stored.folder stored.name.items

-- it is at its place
pub at_its_place : (stored : StoredPlace) → is_at stored (place_of stored) ≡ true
at_its_place stored = and_from _ _ (same_folder-refl stored.folder) (same_bytes-refl stored.name.items)

-- and at no other
pub at_no_other : (stored : StoredPlace) (place : Place) → is_at stored place ≡ true → place ≡ place_of stored
at_no_other stored place h =
    let p = and_parts (same_folder stored.folder place.folder) (pointwise nat_eq stored.name.items place.name) h in
    λ i. record {
      folder = sym (same_folder-is stored.folder place.folder p.0) i;
      name = sym (same_bytes-is stored.name.items place.name p.1) i;
    }

-- elsewhere it is not
pub not_at : (stored : StoredPlace) (place : Place) → Apart place (place_of stored) → is_at stored place ≡ false
not_at stored place apart = elim (told (is_at stored place)) [
  | inl is ↦ absurd (apart (at_no_other stored place is))
  | inr is ↦ is
]

-- the last change is the one that counts
pub changed_push : (file : Option (List ℕ)) (changes : List Change) (change : Change) (place : Place)
    → changed file (changes ++ change ∷ []) place ≡ after change place (changed file changes place)
changed_push file [] change place = refl
changed_push file (first ∷ changes) change place = changed_push (after first place file) changes change place

-- what a change makes of what is at its place, at the one that it takes the file from, and elsewhere
after_there : (change : Change) (file : Option (List ℕ)) → after change (place_of change.place) file ≡ as_read change.bytes
after_there change file = ap (λ b. if b then as_read change.bytes else if is_left change.left (place_of change.place) then None else file)
    (at_its_place change.place)

after_left : (change : Change) (stored : StoredPlace) (file : Option (List ℕ)) → change.left ≡ Some stored → Apart (place_of stored)
    (place_of change.place)
    → after change (place_of stored) file ≡ None
after_left change stored file is apart =
    ap (λ b. if b then as_read change.bytes else if is_left change.left (place_of stored) then None else file)
    (not_at change.place (place_of stored) apart)
    ∙ ap (λ l. if is_left l (place_of stored) then None else file) is
    ∙ ap (λ b. if b then None else file) (at_its_place stored)

after_elsewhere : (change : Change) (place : Place) (file : Option (List ℕ)) → Apart place (place_of change.place)
    → is_left change.left place ≡ false
    → after change place file ≡ file
after_elsewhere change place file apart is =
    ap (λ b. if b then as_read change.bytes else if is_left change.left place then None else file) (not_at change.place place apart)
    ∙ ap (λ b. if b then None else file) is

-- a change puts its file at its place
pub written_push : (changes : List Change) (change : Change) (place : Place) → place_of change.place ≡ place → change.left ≡ None
    → Written place (as_read change.bytes) (files_of changes) (files_of (changes ++ change ∷ []))
written_push changes change place at_place no_left = record {
  there = subst (λ p. files_of (changes ++ change ∷ []) p ≡ as_read change.bytes) at_place
      (changed_push None changes change (place_of change.place) ∙ after_there change (files_of changes (place_of change.place)));
  others = λ each apart. changed_push None changes change each
      ∙ after_elsewhere change each (files_of changes each) (subst (λ p. Apart each p) (sym at_place) apart)
      (ap (λ l. is_left l each) no_left);
}

-- a renaming puts it there, takes it from where it was, and changes nothing else
pub record Renamed (from_place to_place : Place) (file : Option (List ℕ)) (old new : Files) : Type 0 where
  pub there : new to_place ≡ file
  pub gone : new from_place ≡ None
  pub others : SameButTwo from_place to_place old new

pub renamed_push : (changes : List Change) (change : Change) (stored : StoredPlace) (from_place to_place : Place)
    → place_of change.place ≡ to_place → place_of stored ≡ from_place → change.left ≡ Some stored → Apart from_place to_place
    → Renamed from_place to_place (as_read change.bytes) (files_of changes) (files_of (changes ++ change ∷ []))
renamed_push changes change stored from_place to_place at_to at_from is_from apart = record {
  there = subst (λ p. files_of (changes ++ change ∷ []) p ≡ as_read change.bytes) at_to
      (changed_push None changes change (place_of change.place) ∙ after_there change (files_of changes (place_of change.place)));
  gone = subst (λ p. files_of (changes ++ change ∷ []) p ≡ None) at_from
      (changed_push None changes change (place_of stored)
      ∙ after_left change stored (files_of changes (place_of stored)) is_from (λ same. apart (sym at_from ∙ same ∙ at_to)));
  others = λ each a b. changed_push None changes change each
      ∙ after_elsewhere change each (files_of changes each) (λ same. b (same ∙ at_to))
      (ap (λ l. is_left l each) is_from ∙ not_at stored each (λ same. a (same ∙ at_from)));
}

take_before : (k : ℕ) (changes more : List Change) → k ≤ length changes → take k (changes ++ more) ≡ take k changes
take_before zero changes more le = refl
take_before (suc k) [] more le = absurd (omega arith)
take_before (suc k) (c ∷ changes) more le = ap (λ (l : List Change). c ∷ l) (take_before k changes more (omega arith))

-- time goes on with one more change
pub elapses_push : (old new : List Change) (change : Change) → new ≡ old ++ change ∷ []
    → Elapses (length old) (length new) (λ t c. HadBeen old t c) (λ t c. HadBeen new t c) (λ c. Same c (files_of new))
elapses_push old new change is = record {
  later = omega (arith, ap length is, length-append old (change ∷ []));
  nothing_else = λ t c le left. elim (cases_lt (length old) left.0) [
    | inl late ↦ inr (λ each. left.3 each ∙ ap (λ (l : List Change). files_of l each)
        (take_all left.0 new (omega (arith, late, ap length is, length-append old (change ∷ [])))))
    | inr early ↦ inl (
      left.0,
      left.1,
      early,
      λ each. left.3 each ∙ ap (λ (l : List Change). files_of (take left.0 l) each) is ∙ ap
          (λ (l : List Change). files_of l each) (take_before left.0 old (change ∷ []) early),
    )
  ];
  keeps = λ t c le left. (
    left.0,
    left.1,
    omega (arith, left.2, ap length is, length-append old (change ∷ [])),
    λ each. left.3 each ∙ sym (ap (λ (l : List Change). files_of (take left.0 l) each) is ∙ ap (λ (l : List Change). files_of l each)
        (take_before left.0 old (change ∷ []) left.2)),
  );
}

module _ (old new : List Change) where
  -- nothing was changed
  pub stays_put : (place : Place) (file : Option (List ℕ)) → new ≡ old → Follows (MayPut place file) (Left old) (Left new)
  stays_put place file is c left = (
    files_of old,
    λ each. refl,
    record {
      there = inl (left place ∙ ap (λ (l : List Change). files_of l place) is);
      others = λ each apart. left each ∙ ap (λ (l : List Change). files_of l each) is;
    },
  )

  pub stays_moved : (from_place to_place : Place) (file : Option (List ℕ)) → new ≡ old → Follows (MayMove from_place to_place file)
      (Left old) (Left new)
  stays_moved from_place to_place file is c left = (
    files_of old,
    λ each. refl,
    record {
      there = inl (left to_place ∙ ap (λ (l : List Change). files_of l to_place) is);
      others = λ each a b. left each ∙ ap (λ (l : List Change). files_of l each) is;
    },
  )

  -- one change was made
  pub puts : (place : Place) (file : Option (List ℕ)) → Written place file (files_of old) (files_of new) → Follows (MayPut place file)
      (Left old) (Left new)
  puts place file written c left = (
    files_of old,
    λ each. refl,
    record {
      there = inr (left place ∙ written.there);
      others = λ each apart. left each ∙ written.others each apart;
    },
  )

  -- a file was renamed
  pub moves : (from_place to_place : Place) (file : Option (List ℕ)) → Renamed from_place to_place file (files_of old) (files_of new)
      → Follows (MayMove from_place to_place file) (Left old) (Left new)
  moves from_place to_place file renamed c left = (
    files_of old,
    λ each. refl,
    record {
      there = inr (left to_place ∙ renamed.there);
      others = λ each a b. left each ∙ renamed.others each a b;
    },
  )
