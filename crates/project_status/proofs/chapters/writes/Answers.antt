use Rattle.std.proofs.Common.{◌≡◌, ◌==◌, ◌&&◌, ◌||◌, ℕ, Bool, true, false, cond, List, [], ◌∷◌, refl, ap, ◌∙◌}
use Rattle.std.specs.List.{list_any}
use Rattle.project_status.specs.declared.verses.Verse.{Verse}
use Rattle.project_status.specs.Progress.{writes, in_chapter}
use Rattle.project_status.proofs.chapters.writes.Goals as goal

-- one of a chapter's verses passes, if one of all does that is of the chapter
any_in : (p : Verse → Bool) (c : ℕ) (vs : List Verse) → list_any (λ v. v.chapter == c && p v) vs ≡ list_any p (in_chapter c vs)
any_in p c [] = refl
any_in p c (v ∷ vs) = by (v.chapter == c) (any_in p c vs)
  where
    by : (b : Bool) → list_any (λ w. w.chapter == c && p w) vs ≡ list_any p (in_chapter c vs)
        → ((b && p v) || list_any (λ w. w.chapter == c && p w) vs)
        ≡ list_any p (cond b (v ∷ in_chapter c vs) (in_chapter c vs))
    by true e = ap (λ r. p v || r) e
    by false e = e

pub returns : goal.returns
returns c = c.is_any_written.ensures ∙ any_in (writes c.args.number) c.args.chapter c.args.verses.now
