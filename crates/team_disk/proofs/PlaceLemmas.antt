-- Whether two places are one.
use Rattle.std.proofs.Common.{◌≡◌, ◌⊎◌, inl, inr, ℕ, nat_eq, Bool, true, false, List, [], ◌∷◌, refl, sym, ◌∙◌, ap}
use Rattle.std.proofs.lemmas.Bool.{and_parts, and_from, eqb-true, eq-eqb}
use Rattle.std.specs.Cmp.Lexicographic.{pointwise}
use Rattle.team_disk.specs.Disk.{Place, Apart, at}
use Rattle.team_disk.specs.Places.{same_folder}
use Rattle.team_disk.specs.declared.disk.Folder.{Folder}
use Rattle.team_disk.specs.declared.disk.Folder.TheVariants.{Books, Own, Project, Box}

-- texts of a name
pub same_bytes-is : (a b : List ℕ) → pointwise nat_eq a b ≡ true → a ≡ b
same_bytes-is [] [] h = refl
same_bytes-is [] (y ∷ b) h = cc
same_bytes-is (x ∷ a) [] h = cc
same_bytes-is (x ∷ a) (y ∷ b) h =
    let p = and_parts (nat_eq x y) (pointwise nat_eq a b) h in
    λ i. eqb-true x y p.0 i ∷ same_bytes-is a b p.1 i

pub same_bytes-refl : (a : List ℕ) → pointwise nat_eq a a ≡ true
same_bytes-refl [] = refl
same_bytes-refl (x ∷ a) = and_from _ _ (eq-eqb x x refl) (same_bytes-refl a)

-- folders
pub same_folder-is : (a b : Folder) → same_folder a b ≡ true → a ≡ b
same_folder-is Books Books h = refl
same_folder-is Own Own h = refl
same_folder-is Project Project h = refl
same_folder-is Box Box h = refl
same_folder-is Books Own h = cc
same_folder-is Books Project h = cc
same_folder-is Books Box h = cc
same_folder-is Own Books h = cc
same_folder-is Own Project h = cc
same_folder-is Own Box h = cc
same_folder-is Project Books h = cc
same_folder-is Project Own h = cc
same_folder-is Project Box h = cc
same_folder-is Box Books h = cc
same_folder-is Box Own h = cc
same_folder-is Box Project h = cc

pub same_folder-refl : (a : Folder) → same_folder a a ≡ true
same_folder-refl Books = refl
same_folder-refl Own = refl
same_folder-refl Project = refl
same_folder-refl Box = refl

pub told : (b : Bool) → (b ≡ true) ⊎ (b ≡ false)
told true = inl refl
told false = inr refl

true_is_not_false : true ≡ false → ⊥
true_is_not_false h = cc

-- what is in the program's folder is no file of the books' folder
pub own_apart : (each : Place) (name : List ℕ) → each.folder ≡ Own → Apart each (at Books name)
own_apart each name own same =
    true_is_not_false (ap (λ (f : Folder). same_folder Own f) (sym own ∙ ap (λ (p : Place). p.folder) same))
