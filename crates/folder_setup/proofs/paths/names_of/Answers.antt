use Rattle.std.proofs.Common.{◌≡◌, ◌++◌, ◌∙◌, ap, sym, arith, rules, append_assoc}
use Rattle.folder_setup.specs.Paths.{name_if, names_of, names_view}
use Rattle.folder_setup.proofs.PathNames.{names_of_first, names_of_last}
use Rattle.folder_setup.proofs.paths.names_of.Goals as goal

-- the names before a name, that one, and those of what is left of the path are those of all
pub names-preserved : goal.names-preserved
names-preserved c =
    let made = names_view c.names.names.items in
    let name = c.in-Some.name.now in
    let rest = names_of c.in-Some.rest.now in
    let at = c.in-Some.ensures.byte (omega arith) (λ w o h. h) in
    let left : name_if name ++ rest ≡ names_of c.names.left.now =
    (λ i. name_if (at.0 i) ++ names_of (at.1 i)) ∙ sym (names_of_first c.names.left.now at.2) in (
      search rules,
      ap (λ n. n ++ rest) c.in_ok-push_if.ensures ∙ append_assoc made (name_if name) rest
          ∙ ap (λ n. made ++ n) left ∙ c.names.invariant.1,
    )

pub returns : goal.returns
returns c =
    let made = names_view c.names.names.items in
    let none = c.in_default.ensures.byte (omega arith) (λ w o h. h) in
    c.in_ok-push_if-2.ensures ∙ ap (λ n. made ++ n) (sym (names_of_last c.names.left.now none)) ∙ c.names.invariant.1
