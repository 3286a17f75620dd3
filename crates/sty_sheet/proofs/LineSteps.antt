-- The lines that an iterator has left, one after the other.
use Rattle.std.proofs.Common.{◌≡◌, ℕ, ◌≤◌, Bool, true, false, cond, List, [], ◌∷◌, length, drop, None, Some, sym, refl, arith, length-drop}
use Rattle.std.specs.Iterator.{AlwaysYields}
use Rattle.std.specs.Str.Iter.{lines_steps}
use denote.Ref.{Bor}
use Rattle.std.specs.declared.str.Lines.{Lines}
use Rattle.sty_sheet.specs.Lines.{begins, after_feff}

feff_by : (bs : List ℕ) (t : Bool) → length (cond t (drop 3 bs) bs) ≤ length bs
feff_by bs true = omega (arith, length-drop 3 bs)
feff_by bs false = omega arith

-- without a U+FEFF in front no more bytes are left
pub feff_le : (bs : List ℕ) → length (after_feff bs) ≤ length bs
feff_le bs = feff_by bs (begins (239 ∷ 187 ∷ 191 ∷ []) bs)

-- a line that an iterator gives is the first of those that it has left
pub next_line : (ls : List (List ℕ)) (s t : Lines) (x : Bor (List ℕ)) → AlwaysYields lines_steps (λ y. y.now) s ls
    → lines_steps s (Some x) t → (rest : List (List ℕ)) × (ls ≡ x.now ∷ rest) × AlwaysYields lines_steps (λ y. y.now) t rest
next_line [] s t x yields steps = absurd (yields x t steps)
next_line (y ∷ ys) s t x yields steps = (ys, (λ i. sym ((yields.1 x t steps).0) i ∷ ys), (yields.1 x t steps).1)

-- where it gives none, none is left
pub no_line : (ls : List (List ℕ)) (s t : Lines) → AlwaysYields lines_steps (λ y. y.now) s ls → lines_steps s None t → ls ≡ []
no_line [] s t yields steps = refl
no_line (y ∷ ys) s t yields steps = absurd (yields.0 t steps)
