-- The numbers of texts, in a map by the texts.
use Rattle.std.specs.Prelude.{◌≡◌, ℕ, List, Option, Some, if◌then◌else◌}
use Rattle.std.specs.Borrow.{Bor}
use Rattle.std.specs.BTreeMap.{BTreeMap, get_by}
use Rattle.std.specs.Cmp.Lexicographic.{slice_cmp}
use Rattle.std.specs.Ordering.{nat_cmp}
use Rattle.usfm_ref.specs.Books.{same_bytes}
use Rattle.op_core.specs.Ops.{Operation}
use Rattle.conflict_settling.specs.Questions.{number_from}

-- numbers by texts
abbrev pub Numbers : Type 0
Numbers = BTreeMap (Bor (List ℕ)) ℕ

-- the number under a text
abbrev pub number_under : Numbers → List ℕ → Option ℕ
number_under by_text text = get_by (λ k. slice_cmp nat_cmp text k.now) by_text

-- under a text is the number that is put, and under each other one what was
abbrev pub PutsNumber : Numbers → List ℕ → ℕ → Numbers → Type 0
PutsNumber before text number after =
    (q : List ℕ) →
    number_under after q ≡ (if same_bytes text q then Some number else number_under before q)

-- under each text is the number of the first operation that has it
abbrev pub HasNumbers : List Operation → Numbers → Type 0
HasNumbers ops by_text = (text : List ℕ) → number_under by_text text ≡ number_from 1 ops text
