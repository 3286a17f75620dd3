use Rattle.std.proofs.Common.{◌≡◌, ◌↔◌, Bool, true, false, IsTrue, List, ℕ, map, drop, refl, sym, ap, subst, ◌∙◌}
use Rattle.std.specs.Char.{to_ascii_lowercase}
use Rattle.std.proofs.lemmas.Bool.{false≢true}
use Rattle.usfm_ref.specs.Books.{same_bytes}
use Rattle.usfm_ref.proofs.Orders.{same_bytes-is, same_bytes-refl}
use Rattle.usfm_cli.proofs.remarks.ends_in.Goals as goal

-- a test that holds exactly of equal texts is the test of their bytes
is_same_bytes : (b : Bool) (x y : List ℕ) → IsTrue b ↔ (x ≡ y) → b ≡ same_bytes x y
is_same_bytes true x y h = sym (subst (λ (z : List ℕ). same_bytes x z ≡ true) (h.0 refl) (same_bytes-refl x))
is_same_bytes false x y h = by (same_bytes x y) refl
  where
    by : (t : Bool) → same_bytes x y ≡ t → false ≡ t
    by true e = absurd (false≢true (h.1 (same_bytes-is x y e)))
    by false e = refl

pub returns : goal.returns
returns c =
    let ending = map to_ascii_lowercase c.args.ending.now in
    is_same_bytes c.eq_ignore_ascii_case.result (map to_ascii_lowercase c.split_at.result.1.now) ending c.eq_ignore_ascii_case.ensures.test
    ∙ ap (λ (end : List ℕ). same_bytes (map to_ascii_lowercase end) ending)
    (c.split_at.ensures.back ∙ ap (λ (n : ℕ). drop n c.args.name.now) c.saturating_sub.ensures)
