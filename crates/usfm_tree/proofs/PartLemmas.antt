-- The parts of nodes that are side by side.
use Rattle.std.proofs.Common.{◌≡◌, ◌<◌, ◌≤◌, get_or, ℕ, zero, suc, List, [], ◌∷◌, length, None, Some, sym, refl, ap, ◌∙◌, subst, arith}
use Rattle.std.specs.Prelude.{option_and_then}
use Rattle.usfm_tree.specs.Forest.{Forest, nothing, ◌then◌, entry_at, part_at, kids_of}
use Rattle.usfm_tree.specs.Views.{view, forest_of, node_step, parts_step, Parts}
use Rattle.usfm_tree.specs.declared.node.Node.{Node}
use Rattle.usfm_tree.specs.declared.node.Node.TheOpen.{Node-F, Text, Para, Char, Note, Milestone, Leaf}
use Rattle.usfm_tree.specs.declared.node.Node.TheFolds.{fold_out-Node}

-- a node is one entry
abbrev IsOne : Forest → Type 0
IsOne f = (rest : Forest) → (entry_at zero (f then rest) ≡ Some f) × ((i : ℕ) → entry_at (suc i) (f then rest) ≡ entry_at i rest)

step_is_one : (x : Node-F Forest Parts) → IsOne (node_step x)
step_is_one (Text t) rest = (refl, λ i. refl)
step_is_one (Para b) rest = (refl, λ i. refl)
step_is_one (Char b) rest = (refl, λ i. refl)
step_is_one (Note b) rest = (refl, λ i. refl)
step_is_one (Milestone b) rest = (refl, λ i. refl)
step_is_one (Leaf l) rest = (refl, λ i. refl)

view_is_one : (n : Node) → IsOne (view n)
view_is_one n = subst IsOne (sym (fold_out-Node Forest Parts node_step parts_step n)) (step_is_one _)

entry_none : (i : ℕ) → entry_at i nothing ≡ None
entry_none zero = refl
entry_none (suc i) = refl

-- after the last node there is no entry
pub entry_past : (ns : List Node) (i : ℕ) → length ns ≤ i → entry_at i (forest_of ns) ≡ None
entry_past [] i h = entry_none i
entry_past (n ∷ ns) zero h = absurd (omega arith)
entry_past (n ∷ ns) (suc i) h = (view_is_one n (forest_of ns)).1 i ∙ entry_past ns i (omega arith)

-- an entry is the node of its index
pub entry_in : (ns : List Node) (i : ℕ) (n d : Node) → i < length ns → n ≡ get_or ns i d → entry_at i (forest_of ns) ≡ Some (view n)
entry_in [] i n d h e = absurd (omega arith)
entry_in (m ∷ ns) zero n d h e = (view_is_one m (forest_of ns)).0 ∙ ap (λ x. Some (view x)) (sym e)
entry_in (m ∷ ns) (suc i) n d h e = (view_is_one m (forest_of ns)).1 i ∙ entry_in ns i n d (omega arith) e

-- a path of one step leads to an entry
pub part_one : (path js : List ℕ) (i : ℕ) (f : Forest) → path ≡ i ∷ js → length js ≡ 0 → part_at path f ≡ entry_at i f
part_one path [] i f h e = ap (λ p. part_at p f) h
part_one path (j ∷ js) i f h e = absurd (omega arith)

-- a longer one leads on among the kids of an entry
pub part_more : (path js : List ℕ) (i : ℕ) (f : Forest) → path ≡ i ∷ js → 0 < length js
    → part_at path f ≡ option_and_then (λ g. part_at js (kids_of g)) (entry_at i f)
part_more path [] i f h e = absurd (omega arith)
part_more path (j ∷ js) i f h e = ap (λ p. part_at p f) h

-- where no entry is, no path leads on
pub part_none : (path js : List ℕ) (i : ℕ) (f : Forest) → path ≡ i ∷ js → entry_at i f ≡ None → part_at path f ≡ None
part_none path [] i f h e = ap (λ p. part_at p f) h ∙ e
part_none path (j ∷ js) i f h e = ap (λ p. part_at p f) h ∙ ap (option_and_then (λ g. part_at (j ∷ js) (kids_of g))) e
