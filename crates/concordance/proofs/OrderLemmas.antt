-- The order of spellings: it is total, and tells apart what differs.
use Rattle.std.proofs.Common.{◌≡◌, ℕ, List, refl}
use Rattle.std.specs.declared.cmp.Ordering.{Ordering}
use Rattle.std.specs.declared.cmp.Ordering.TheVariants.{Less, Equal, Greater}
use Rattle.std.specs.Ordering.{ordering_then}
use Rattle.std.specs.Cmp.{IsTotalOrder}
use Rattle.std.specs.Cmp.Lexicographic.{nat_list_cmp_total}
use Rattle.std.specs.FinMap.{slice_cmp-IsAntisymmetric, nat_cmp-IsAntisymmetric}
use Rattle.std.proofs.lemmas.Cmp.{on_total, then_total}
use Rattle.usfm_ref.specs.Keys.{key_cmp}
use Rattle.usfm_ref.proofs.Orders.{key_total, key_exact, then_parts}
use Rattle.concordance.specs.Words.{Spelling, form_cmp}
use Rattle.concordance.specs.Loops.SpellingOrder.{spelling_cmp}

-- forms are in a total order
pub form_total : IsTotalOrder form_cmp
form_total = nat_list_cmp_total

-- forms that compare as equal are one form
pub form_exact : (a b : List ℕ) → form_cmp a b ≡ Equal → a ≡ b
form_exact a b h = slice_cmp-IsAntisymmetric nat_cmp-IsAntisymmetric a b h

-- spellings are in a total order
pub spelling_total : IsTotalOrder spelling_cmp
spelling_total = then_total (on_total (λ (s : Spelling). s.form) form_total) (on_total (λ (s : Spelling). s.key) key_total)

-- spellings that compare as equal are one spelling
pub spelling_exact : (a b : Spelling) → spelling_cmp a b ≡ Equal → a ≡ b
spelling_exact a b h =
    let p = then_parts (form_cmp a.form b.form) (key_cmp a.key b.key) h in
    λ i. record { form = form_exact a.form b.form p.0 i; key = key_exact a.key b.key p.1 i }
