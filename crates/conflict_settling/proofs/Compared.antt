-- Entries that are gathered one after another.
use Rattle.std.proofs.Common.{Bor, ◌≡◌, ℕ, zero, suc, ◌+◌, ◌<◌, List, [], ◌∷◌, ◌++◌, length, map, Some, option_map, get_or, refl, sym, ap, subst, ◌∙◌, length-append}
use Rattle.std.specs.Prelude.{max}
use Rattle.std.specs.List.{slice_get}
use Rattle.std.proofs.lemmas.List.{map-append}
use Rattle.std.proofs.lemmas.Option.{slice_get-map, slice_get_read}
use Rattle.word_diff.specs.declared.part.Part.{Part}
use Rattle.op_core.specs.Ops.{Operation}
use Rattle.conflict_settling.specs.Entries.{EntryView, IsDifference, IsEntryAt, text_of, view, views}
use Rattle.conflict_settling.specs.declared.sides.Entry.{Entry}

-- what holds of each item by its index holds with one item more
pub each_more : {X : Type 0} (P : ℕ → X → Type 0) (xs : List X) (x : X)
    → ((k : ℕ) (e : X) → slice_get xs k ≡ Some e → P k e) → P (length xs) x
    → (k : ℕ) (e : X) → slice_get (xs ++ x ∷ []) k ≡ Some e → P k e
each_more P [] x h is zero e f = subst (P zero) (by f) is
  where
    by : Some x ≡ Some e → x ≡ e
    by f = cc
each_more P [] x h is (suc k) e f = cc f
each_more P (y ∷ xs) x h is zero e f = h zero e f
each_more P (y ∷ xs) x h is (suc k) e f = each_more (λ n. P (suc n)) xs x (λ n. h (suc n)) is k e f

-- the entry of the operation at an index, with what differs between two texts
pub entry_is : (ops : List (Bor Operation)) (at : ℕ) (op : Bor Operation) (parts : List Part) (first other : List ℕ)
    → at < length ops → op ≡ get_or ops at op → first ≡ text_of (map (λ o. o.now) ops) 0 → other ≡ text_of (map (λ o. o.now) ops) (max at 1)
    → IsDifference first other parts
    → IsEntryAt (map (λ o. o.now) ops) at (record { number = at + 1; op = op.now; parts = parts })
entry_is ops at op parts first other within is f g d = record {
  number = refl;
  op = slice_get-map (λ (o : Bor Operation). o.now) ops at
      ∙ ap (option_map (λ (o : Bor Operation). o.now)) (slice_get_read ops (length ops) at op refl within is);
  compared = subst (λ (t : List ℕ). IsDifference t (text_of (map (λ o. o.now) ops) (max at 1)) parts) f
      (subst (λ (t : List ℕ). IsDifference first t parts) g d);
}

-- entries with one more are those of one operation more
pub entries_more : (ops : List Operation) (at : ℕ) (entries after : List Entry) (x : Entry) → after ≡ entries ++ x ∷ []
    → length (views entries) ≡ at → ((k : ℕ) (e : EntryView) → slice_get (views entries) k ≡ Some e → IsEntryAt ops k e)
    → IsEntryAt ops at (view x)
    → (length (views after) ≡ at + 1) × ((k : ℕ) (e : EntryView) → slice_get (views after) k ≡ Some e → IsEntryAt ops k e)
entries_more ops at entries after x more count each is =
    let views_are : views after ≡ views entries ++ view x ∷ [] = ap views more ∙ map-append view entries (x ∷ []) in (
      ap length views_are ∙ length-append (views entries) (view x ∷ []) ∙ ap (λ n. n + 1) count,
      λ k e h. each_more (IsEntryAt ops) (views entries) (view x) each (subst (λ n. IsEntryAt ops n (view x)) (sym count) is) k e
          (ap (λ (es : List EntryView). slice_get es k) (sym views_are) ∙ h),
    )
