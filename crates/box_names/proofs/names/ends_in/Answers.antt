use Rattle.std.proofs.Common.{◌≡◌, ◌↔◌, Bool, true, false, IsTrue, List, ℕ, map, drop, refl, sym, ap, ◌∙◌}
use Rattle.std.specs.Char.{to_ascii_lowercase}
use Rattle.std.specs.Str.{bytes_eq}
use Rattle.std.proofs.lemmas.Bool.{false_from_ne_true}
use Rattle.std.proofs.lemmas.Slice.Eq.{bytes_eq-Decides}
use Rattle.box_names.proofs.names.ends_in.Goals as goal

-- a test that holds exactly of equal texts is the test of their bytes
is_bytes_eq : (b : Bool) (x y : List ℕ) → IsTrue b ↔ (x ≡ y) → b ≡ bytes_eq x y
is_bytes_eq true x y h = sym ((bytes_eq-Decides x y).1 (h.0 refl))
is_bytes_eq false x y h = sym (false_from_ne_true (bytes_eq x y) (λ e. cc (h.1 ((bytes_eq-Decides x y).0 e))))

pub returns : goal.returns
returns c =
    let ending = map to_ascii_lowercase c.args.ending.now in
    is_bytes_eq c.eq_ignore_ascii_case.result (map to_ascii_lowercase c.split_at.result.1.now) ending c.eq_ignore_ascii_case.ensures.test
    ∙ ap (λ (end : List ℕ). bytes_eq (map to_ascii_lowercase end) ending)
    (c.split_at.ensures.back ∙ ap (λ (n : ℕ). drop n c.args.name.now) c.saturating_sub.ensures)
