use Rattle.std.proofs.Common.{◌≡◌, ◌<◌, ◌∙◌, ◌++◌, ◌∷◌, [], None, Some, List, Option, length, ap, sym, subst, arith, length-append}
use Rattle.std.specs.Option.{option_map}
use Rattle.std.proofs.lemmas.Bool.{false≢true}
use Rattle.std.specs.Prelude.{option_to_list, IsSome}
use Rattle.usfm_token.specs.View.{mark_parts}
use Rattle.usfm_tree.specs.Reading as reading
use Rattle.usfm_tree.specs.Loops.ReaderViews.{open_view, opens_in}
use Rattle.usfm_tree.specs.Loops.RoleViews.{role_view}
use Rattle.usfm_tree.specs.Loops.Stack.{closing_mark}
use Rattle.usfm_tree.specs.StepViews.{Unwinds}
use Rattle.usfm_tree.specs.declared.open.Open.{Open}
use Rattle.usfm_tree.proofs.ReaderLemmas.{opens_in_last}
use Rattle.usfm_tree.proofs.StepLemmas.{unwinds_more, unwinds_closed}
use Rattle.usfm_tree.proofs.unwind.unwind.Goals.{After-closing}
use Rattle.usfm_tree.proofs.unwind.unwind.Goals as goal

popped : {A : Type 0} (xs ys : List A) (o : Option A) → IsSome o → xs ≡ ys ++ option_to_list o → (a : A) × (xs ≡ ys ++ a ∷ [])
popped xs ys None some h = absurd (false≢true some)
popped xs ys (Some a) some h = (a, h)

one_popped : (c : After-closing) → (o : Open (Unit {0})) × (c.loop-count.open_nodes.items ≡ c.pop.new.self.items ++ o ∷ [])
one_popped c =
    popped c.loop-count.open_nodes.items c.pop.new.self.items c.pop.result
    (c.pop.ensures.variant.1 (omega (arith, c.loop-count.invariant.within))) c.pop.ensures.items

-- the innermost open node, and those around it
front : (c : After-closing) → (o : reading.Open) × (opens_in c.loop-count.open_nodes.items ≡ o ∷ opens_in c.pop.new.self.items)
front c =
    let one = one_popped c in
    (open_view one.0, opens_in_last c.loop-count.open_nodes.items c.pop.new.self.items one.0 one.1)

-- what it is that ends, by its count
ended_is : (c : After-closing) → c.loop-count.count ≡ reading.ended ((front c).0 ∷ opens_in c.pop.new.self.items) (role_view c.args.role)
ended_is c = c.loop-count.invariant.counted ∙ ap (λ os. reading.ended os (role_view c.args.role)) (front c).1

open_before : (c : After-closing) → Unwinds c.args.role (opens_in c.args.open_nodes.now.items) c.loop-count.without_mark None
    ((front c).0 ∷ opens_in c.pop.new.self.items)
open_before c =
    let F : List reading.Open → Type 0 =
    λ os. Unwinds c.args.role (opens_in c.args.open_nodes.now.items) c.loop-count.without_mark None os in
    subst F (front c).1 c.loop-count.invariant.unwinds

some_end : (c : After-closing) → 0 < reading.ended ((front c).0 ∷ opens_in c.pop.new.self.items) (role_view c.args.role)
some_end c = let is = ended_is c in omega arith

pub returns-in-Some-clause-unwinds : goal.returns-in-Some-clause-unwinds
returns-in-Some-clause-unwinds c =
    let d = (goal.at.returns-in-Some-clause-unwinds c).After-closing in
    unwinds_closed c.args.role (opens_in c.args.open_nodes.now.items) c.loop-count.without_mark (front d).0
    (opens_in c.pop.new.self.items) (open_before d) (some_end d) (mark_parts c.in-Some.mark)
    (ap (closing_mark (role_view c.args.role)) (sym (ended_is d)) ∙ sym c.closing.ensures
    ∙ ap (option_map mark_parts) c.in-Some.is)

pub loop-count-preserved : goal.loop-count-preserved
loop-count-preserved c =
    let d = (goal.at.loop-count-preserved c).After-closing in
    let sum = c.loop-count.invariant.sum in
    let one = one_popped d in
    let shorter = ap length one.1 ∙ length-append c.pop.new.self.items (one.0 ∷ []) in
    let next = c.ended-count-in-loop-count.ensures.within in
    let items = ap length c.as_slice-in-loop-count.ensures.value in
    record {
      unwinds =
          unwinds_more c.args.role (opens_in c.args.open_nodes.now.items) c.loop-count.without_mark (front d).0
          (opens_in c.pop.new.self.items) (open_before d) (some_end d)
          (ap (closing_mark (role_view c.args.role)) (sym (ended_is d)) ∙ sym c.closing.ensures
          ∙ ap (option_map mark_parts) c.in_default.is);
      counted =
          c.ended-count-in-loop-count.ensures.value
          ∙ ap (λ ns. reading.ended (opens_in ns) (role_view c.args.role)) c.as_slice-in-loop-count.ensures.value;
      within = omega arith;
      sum = omega arith;
      capacity = c.pop.ensures.capacity ∙ c.loop-count.invariant.capacity;
    }
