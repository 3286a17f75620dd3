-- Conflicts that are gathered one after another.
use Rattle.std.proofs.Common.{◌≡◌, ℕ, ◌+◌, ◌<◌, List, [], ◌∷◌, ◌++◌, length, map, Some, get_or, refl, sym, ap, subst, ◌∙◌, length-append}
use Rattle.std.specs.List.{slice_get}
use Rattle.std.proofs.lemmas.List.{map-append}
use Rattle.std.proofs.lemmas.Option.{slice_get_read}
use Rattle.usfm_ref.specs.declared.segment.Segment.{Segment}
use Rattle.op_core.specs.Ops.{Operation}
use Rattle.conflict_settling.proofs.Compared.{each_more}
use Rattle.project_page.specs.Parts.{ConflictView, IsConflictAt, IsConflictOf, conflict_view}
use Rattle.project_page.specs.declared.parts.PageConflict.{PageConflict}

-- conflicts with one more are those of one segment more
pub conflicts_more : (held : List Operation) (gs : List Segment) (at : ℕ) (g : Segment) (cs after : List PageConflict) (c : PageConflict)
    → after ≡ cs ++ c ∷ [] → length (map conflict_view cs) ≡ at → at < length gs → g ≡ get_or gs at g
    → ((k : ℕ) (d : ConflictView) → slice_get (map conflict_view cs) k ≡ Some d → IsConflictAt held gs k d)
    → IsConflictOf held g (conflict_view c)
    → (length (map conflict_view after) ≡ at + 1)
    × ((k : ℕ) (d : ConflictView) → slice_get (map conflict_view after) k ≡ Some d → IsConflictAt held gs k d)
conflicts_more held gs at g cs after c more count within read each is =
    let seen : map conflict_view after ≡ map conflict_view cs ++ conflict_view c ∷ [] =
    ap (map conflict_view) more ∙ map-append conflict_view cs (c ∷ []) in
    let here : IsConflictAt held gs at (conflict_view c) = (g, slice_get_read gs (length gs) at g refl within read, is) in (
      ap length seen ∙ length-append (map conflict_view cs) (conflict_view c ∷ []) ∙ ap (λ n. n + 1) count,
      λ k d h. each_more (IsConflictAt held gs) (map conflict_view cs) (conflict_view c) each
          (subst (λ n. IsConflictAt held gs n (conflict_view c)) (sym count) here) k d
          (ap (λ (ds : List ConflictView). slice_get ds k) (sym seen) ∙ h),
    )
