-- The front of a project file: what is spelled is read, and what is read is spelled so.
use Rattle.std.proofs.Common.{◌≡◌, ℕ, Bool, true, false, ◌&&◌, eqb, leb, List, [], ◌∷◌, ◌++◌, length, take, drop, Some, None, IsTrue, refl, sym, ap, subst, ◌∙◌, arith}
use Rattle.std.specs.List.{starts_with}
use Rattle.std.proofs.lemmas.Bool.{and_parts, leb-true, le-leb}
use Rattle.std.proofs.lemmas.Bool.Decides.{Decides-eqb}
use Rattle.std.proofs.lemmas.Option.{cond_some}
use Rattle.std.proofs.lemmas.List.{take_at, drop_at, take-append-drop, length-append, length-take-le}
use Rattle.std.proofs.lemmas.Slice.Eq.{starts_is}
use Rattle.op_core.specs.Names.{is_name}
use Rattle.bundle_codec.specs.Reading.{AreBytes}
use Rattle.bundle_codec.proofs.Readers.{AreBytes-drop}
use Rattle.project_file.specs.Projects.{magic, name_at, front_at}

-- a name after the magic and its length, and what follows it
pub record IsFront (bytes name rest : List ℕ) : Type 0 where
  pub spelled : bytes ≡ magic ++ (length name ∷ (name ++ rest))
  pub valid : IsTrue (is_name name)

-- ---- what is spelled is read

name_again : (name rest : List ℕ) → IsTrue (is_name name) → name_at (length name ∷ (name ++ rest)) ≡ Some (name, rest)
name_again name rest h =
    let front : take (length name) (name ++ rest) ≡ name = take_at name rest (length name) refl in
    let later : drop (length name) (name ++ rest) ≡ rest = drop_at name rest (length name) refl in
    let fits : leb (length name) (length (name ++ rest)) ≡ true = le-leb _ _ (omega (arith, length-append name rest)) in
    rw (fits, front, later, h) refl

-- the front of a project is read as the name that it was written for
pub front_again : (name rest : List ℕ) → IsTrue (is_name name) → front_at (magic ++ (length name ∷ (name ++ rest))) ≡ Some (name, rest)
unfolding front_at magic
front_again name rest h = name_again name rest h

-- ---- what is read is spelled so

name_is : (bytes name rest : List ℕ) → name_at bytes ≡ Some (name, rest) → (bytes ≡ length name ∷ (name ++ rest)) × IsTrue (is_name name)
name_is [] name rest e = cc e
name_is (n ∷ bytes) name rest e =
    let p = cond_some (leb n (length bytes) && is_name (take n bytes)) (take n bytes, drop n bytes) (name, rest) e in
    let tests = and_parts (leb n (length bytes)) (is_name (take n bytes)) p.0 in
    let front : take n bytes ≡ name = ap (λ (x : List ℕ × List ℕ). x.0) p.1 in
    let later : drop n bytes ≡ rest = ap (λ (x : List ℕ × List ℕ). x.1) p.1 in
    let long : length name ≡ n = ap length (sym front) ∙ length-take-le n bytes (leb-true n (length bytes) tests.0) in
    (λ i. sym long i ∷ (sym (take-append-drop n bytes) ∙ (λ i. front i ++ later i)) i, ap is_name (sym front) ∙ tests.1)

past_magic : (begins : Bool) (bytes name rest : List ℕ) → starts_with eqb bytes magic ≡ begins → front_at bytes ≡ Some (name, rest)
    → IsFront bytes name rest
unfolding front_at
past_magic true bytes name rest h e =
    let named = name_is (drop (length magic) bytes) name rest (rw h at e) in
    let begins : bytes ≡ magic ++ drop (length magic) bytes = (starts_is Decides-eqb bytes magic (starts_with eqb bytes magic) refl).0 h in
    record { spelled = begins ∙ ap (λ (w : List ℕ). magic ++ w) named.0; valid = named.1 }
past_magic false bytes name rest h e = let none : None ≡ Some (name, rest) = rw h at e in cc none

-- what is read as the front of a project is spelled so
pub front_is : (bytes name rest : List ℕ) → front_at bytes ≡ Some (name, rest) → IsFront bytes name rest
front_is bytes name rest e = past_magic (starts_with eqb bytes magic) bytes name rest refl e

-- ---- bytes

-- what follows the front of bytes are bytes
pub bytes_after : (bytes name rest : List ℕ) → AreBytes bytes → IsFront bytes name rest → AreBytes rest
unfolding magic
bytes_after bytes name rest fits f =
    let whole : AreBytes (magic ++ (length name ∷ (name ++ rest))) = subst AreBytes f.spelled fits in
    let later : AreBytes (name ++ rest) = AreBytes-drop 9 (magic ++ (length name ∷ (name ++ rest))) whole in
    subst AreBytes (drop_at name rest (length name) refl) (AreBytes-drop (length name) (name ++ rest) later)
