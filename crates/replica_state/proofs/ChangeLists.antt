-- Lists of changes as code walks them.
use Rattle.std.proofs.Common.{◌≡◌, ℕ, zero, suc, ◌+◌, ◌<◌, Bool, true, false, cond, List, [], ◌∷◌, ◌++◌, map, filter, take, drop, length, get_or}
use Rattle.std.proofs.Common.{Option, Some, None, Ok, arith, refl, sym, ap, subst, ◌∙◌}
use Rattle.std.specs.List.{AllByRecursion}
use Rattle.std.specs.Option.{option_or}
use Rattle.std.proofs.lemmas.List.{map-append}
use Rattle.usfm_ref.specs.Keys.{KeyParts}
use Rattle.op_core.specs.Ops.{Operation}
use Rattle.op_core.proofs.Indexed.Enrolled.{at_item, more_items}
use Rattle.op_core.proofs.Walk.{kept_yes, kept_no}
use Rattle.replica_state.specs.States.{State}
use Rattle.replica_state.specs.Edits.{first_number}
use Rattle.replica_state.specs.Changes.{ChangeParts, edits_from, edits_by, edits_or, change_fault, first_fault, change_view, changes_view}
use Rattle.replica_state.specs.Steps.{with_ops, edited_all}
use Rattle.replica_state.specs.declared.change.Change.{Change}
use Rattle.replica_state.specs.declared.fault.EditFault.{EditFault}
use Rattle.replica_state.proofs.Changes.{edits_count}

-- what holds of all changes holds of one of them
pub holds_at : (P : ChangeParts → Type 0) (xs : List Change) (i : ℕ) (x : Change) → i < length xs → x ≡ get_or xs i x
    → AllByRecursion P (changes_view xs) → P (change_view x)
holds_at P [] i x l is h = absurd (omega arith)
holds_at P (y ∷ xs) zero x l is h = subst (λ (z : Change). P (change_view z)) (sym is) h.0
holds_at P (y ∷ xs) (suc i) x l is h = holds_at P xs i x (omega arith) is h.1

-- ---- the first fault

or_assoc : {X : Type 0} (a b c : Option X) → option_or (option_or a b) c ≡ option_or a (option_or b c)
or_assoc None b c = refl
or_assoc (Some x) b c = refl

fault_of_both : (held : List Operation) (book : List ℕ) (xs ys : List ChangeParts)
    → first_fault held book (xs ++ ys) ≡ option_or (first_fault held book xs) (first_fault held book ys)
fault_of_both held book [] ys = refl
fault_of_both held book (c ∷ xs) ys =
    ap (option_or (change_fault held book c)) (fault_of_both held book xs ys) ∙ sym (or_assoc (change_fault held book c) _ _)

module _ (held : List Operation) (book : List ℕ) (xs : List Change) (i : ℕ) (x : Change) (l : i < length xs) (is : x ≡ get_or xs i x)
    (none : first_fault held book (changes_view (take i xs)) ≡ None) where
  pub no_more_fault : None ≡ change_fault held book (change_view x) → first_fault held book (changes_view (take (i + 1) xs)) ≡ None
  no_more_fault e =
      ap (λ (ys : List Change). first_fault held book (changes_view ys)) (more_items xs i x l is)
      ∙ ap (first_fault held book) (map-append change_view (take i xs) (x ∷ []))
      ∙ fault_of_both held book (changes_view (take i xs)) (change_view x ∷ [])
      ∙ (λ j. option_or (none j) (option_or (sym e j) None))

  pub fault_here : (fault : EditFault) → Some fault ≡ change_fault held book (change_view x)
      → Some fault ≡ first_fault held book (changes_view xs)
  fault_here fault e =
      sym (ap (λ (ys : List Change). first_fault held book (changes_view ys)) (at_item xs i x l is)
      ∙ ap (first_fault held book) (map-append change_view (take i xs) (x ∷ drop (i + 1) xs))
      ∙ fault_of_both held book (changes_view (take i xs)) (changes_view (x ∷ drop (i + 1) xs))
      ∙ (λ j. option_or (none j) (option_or (sym e j) (first_fault held book (changes_view (drop (i + 1) xs))))))

-- ---- the changes of the keys that pass a test

module _ (p : KeyParts → Bool) (f : KeyParts → ChangeParts) (keys : List KeyParts) (i : ℕ) (key : KeyParts) (l : i < length keys)
    (is : key ≡ get_or keys i key) (changes : List Change) (made : changes_view changes ≡ map f (filter p (take i keys))) where
  pub change_pushed : (x : Change) → Some (change_view x) ≡ cond (p key) (Some (f key)) None
      → changes_view (changes ++ x ∷ []) ≡ map f (filter p (take (i + 1) keys))
  change_pushed x e = by (p key) refl e
    where
      by : (b : Bool) → p key ≡ b → Some (change_view x) ≡ cond b (Some (f key)) None
          → changes_view (changes ++ x ∷ []) ≡ map f (filter p (take (i + 1) keys))
      by true h e =
          let same : change_view x ≡ f key = cc e in
          map-append change_view changes (x ∷ []) ∙ (λ j. made j ++ same j ∷ [])
          ∙ sym (map-append f (filter p (take i keys)) (key ∷ [])) ∙ ap (map f) (kept_yes p keys i key l is h)
      by false h e = cc e

  pub change_skipped : None ≡ cond (p key) (Some (f key)) None → changes_view changes ≡ map f (filter p (take (i + 1) keys))
  change_skipped e = by (p key) refl e
    where
      by : (b : Bool) → p key ≡ b → None ≡ cond b (Some (f key)) None → changes_view changes ≡ map f (filter p (take (i + 1) keys))
      by true h e = cc e
      by false h e = made ∙ ap (map f) (kept_no p keys i key l is h)

-- ---- the edits that are made

-- the step of edits of changes by a number that is the first for them
pub made_is : {F : Type 0} (full : F) (before s t : State) (book : List ℕ) (changes made : List ChangeParts) (first count n : ℕ)
    → made ≡ changes
    → Some first ≡ first_number s.held count → count ≡ length made → t ≡ with_ops s (edits_from first s book made) → n ≡ length made
    → edited_all before s (edits_or full s book changes) ≡ record { after = t; answer = Ok n }
made_is full before s t book changes made first count n same given counted is many =
    ap (λ (cs : List ChangeParts). edited_all before s (edits_or full s book cs)) (sym same)
    ∙ ap (λ (f : Option ℕ). edited_all before s (edits_by full f s book made)) (ap (first_number s.held) (sym counted) ∙ sym given)
    ∙ (λ i. record { after = sym is i; answer = Ok ((edits_count s book first made ∙ sym many) i) })
