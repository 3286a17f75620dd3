use Rattle.std.proofs.Common.{◌≡◌, ◌-◌, ◌∙◌, ◌∷◌, true, is_ok, ap, sym, subst, length, arith}
use Rattle.std.proofs.lemmas.Bool.{cond-true}
use Rattle.sty_sheet.specs.Views.{record_of}
use Rattle.sty_sheet.specs.declared.kind.StyleKind.TheVariants as kinds
use Rattle.usfm_token.specs.View.{mark_parts}
use Rattle.usfm_tree.specs.Forest.{Forest}
use Rattle.usfm_tree.specs.Events.{words, single, begins, ends, events_before}
use Rattle.usfm_tree.specs.Reading as reading
use Rattle.usfm_tree.specs.Loops.ReaderViews.{opens_in}
use Rattle.usfm_tree.specs.Loops.RoleViews.{role_view}
use Rattle.usfm_tree.specs.StepViews.{placed_text}
use Rattle.usfm_tree.specs.Loops.TakenViews.{optional_text, text_of, close_mark}
use Rattle.usfm_tree.proofs.ReaderLemmas.{opens_in_push, length_opens_in}
use Rattle.usfm_tree.proofs.RoleLemmas.{OpensNoMilestone, role_opens}
use Rattle.usfm_tree.proofs.StepLemmas.{Becomes, becomes_text, becomes_alone, becomes_stray, becomes_deep, becomes_node, becomes_deep_span, becomes_milestone, placed_is}
use Rattle.usfm_tree.proofs.unwind.enter.Goals as goal

pub returns-in-Plain-clause-enters : goal.returns-in-Plain-clause-enters
returns-in-Plain-clause-enters c =
    let rest = c.args.rest.now in
    let os = opens_in c.args.open_nodes.now.items in
    let b = c.in-Plain.text.now in
    let F : reading.Role → Type 0 = λ r. Becomes r c.args.start c.args.end rest rest os os (λ later. words c.args.start b ∷ later) in
    subst F (sym (ap role_view c.in-Plain.is)) (becomes_text c.args.start c.args.end rest os b)

pub returns-in-Alone-clause-enters : goal.returns-in-Alone-clause-enters
returns-in-Alone-clause-enters c =
    let rest = c.args.rest.now in
    let os = opens_in c.args.open_nodes.now.items in
    let m = mark_parts c.in-Alone.mark in
    let F : reading.Role → Type 0 = λ r. Becomes r c.args.start c.args.end rest rest os os (λ later. single m ∷ later) in
    subst F (sym (ap role_view c.in-Alone.is)) (becomes_alone c.args.start c.args.end rest os m)

pub returns-in-Closes-clause-enters : goal.returns-in-Closes-clause-enters
returns-in-Closes-clause-enters c =
    let rest = c.args.rest.now in
    let os = opens_in c.args.open_nodes.now.items in
    let m = mark_parts c.in-Closes.mark in
    let is = ap role_view c.in-Closes.is in
    let F : reading.Role → Type 0 = λ r. Becomes r c.args.start c.args.end rest rest os os (λ later. single m ∷ later) in
    subst F (sym is) (becomes_stray c.args.start c.args.end rest os m (ap (reading.ended os) (sym is) ∙ c.requires.settled))

pub returns-then-len-ge-DEEPEST-clause-enters : goal.returns-then-len-ge-DEEPEST-clause-enters
returns-then-len-ge-DEEPEST-clause-enters c =
    let rest = c.args.rest.now in
    let os = opens_in c.args.open_nodes.now.items in
    let m = mark_parts c.in-Opens.mark in
    let is = ap role_view c.in-Opens.is in
    let size = length_opens_in c.args.open_nodes.now.items in
    let F : reading.Role → Type 0 = λ r. Becomes r c.args.start c.args.end rest rest os os (λ later. single m ∷ later) in
    subst F (sym is)
    (becomes_deep c.args.start c.args.end rest os c.in-Opens.kind (record_of c.in-Opens.style.now).closer m
    (ap (reading.ended os) (sym is) ∙ c.requires.settled) (omega arith))

pub returns-else-len-ge-DEEPEST-clause-enters : goal.returns-else-len-ge-DEEPEST-clause-enters
returns-else-len-ge-DEEPEST-clause-enters c =
    let rest = c.args.rest.now in
    let os = opens_in c.args.open_nodes.now.items in
    let new_os = opens_in c.push.new.self.items in
    let m = mark_parts c.in-Opens.mark in
    let kind = c.in-Opens.kind in
    let closer = (record_of c.in-Opens.style.now).closer in
    let is = ap role_view c.in-Opens.is in
    let size = length_opens_in c.args.open_nodes.now.items in
    let went : is_ok c.push.result ≡ true = ap is_ok c.unwrap.ensures in
    let pushed =
    ap opens_in (c.push.ensures.items ∙ cond-true _ _ _ went) ∙ opens_in_push c.args.open_nodes.now.items _
    ∙ (λ i. (let one : reading.Open = record { kind = kind; nested = c.nested.ensures i; closer = c.closer.ensures i } in one) ∷ os) in
    let F : reading.Role → Type 0 = λ r. Becomes r c.args.start c.args.end rest rest os new_os (λ later. begins kind m ∷ later) in
    subst F (sym is)
    (becomes_node c.args.start c.args.end rest os kind closer m new_os (ap (reading.ended os) (sym is) ∙ c.requires.settled)
    (omega arith) pushed)

pub returns-then-len-ge-DEEPEST-2-clause-enters : goal.returns-then-len-ge-DEEPEST-2-clause-enters
returns-then-len-ge-DEEPEST-2-clause-enters c =
    let rest = c.args.rest.now in
    let os = opens_in c.args.open_nodes.now.items in
    let m = mark_parts c.in-Spans.mark in
    let size = length_opens_in c.args.open_nodes.now.items in
    let F : reading.Role → Type 0 = λ r. Becomes r c.args.start c.args.end rest rest os os (λ later. single m ∷ later) in
    subst F (sym (ap role_view c.in-Spans.is)) (becomes_deep_span c.args.start c.args.end rest os m (omega arith))

pub returns-else-len-ge-DEEPEST-2-clause-enters : goal.returns-else-len-ge-DEEPEST-2-clause-enters
returns-else-len-ge-DEEPEST-2-clause-enters c =
    let rest = c.args.rest.now in
    let os = opens_in c.args.open_nodes.now.items in
    let m = mark_parts c.in-Spans.mark in
    let t = c.takes-taken.result in
    let place = c.args.end - length rest in
    let size = length_opens_in c.args.open_nodes.now.items in
    let F : reading.Role → Type 0 =
    λ r. Becomes r c.args.start c.args.end rest t.after.now os os
    (λ later. begins kinds.Milestone m ∷ events_before (optional_text place (text_of t)) (ends (close_mark t) ∷ later)) in
    let G : Forest → Type 0 =
    λ f. Becomes (role_view c.args.role) c.args.start c.args.end rest t.after.now os os
    (λ later. begins kinds.Milestone m ∷ events_before f (ends (close_mark t) ∷ later)) in
    subst G (sym (ap placed_text c.placed-text.ensures ∙ placed_is place t.text))
    (subst F (sym (ap role_view c.in-Spans.is))
    (becomes_milestone c.args.start c.args.end rest os m place (text_of t) (close_mark t) t.after.now (omega arith)
    (c.takes-taken.ensures c.args.end c.requires.within).0))

pub returns-else-len-ge-DEEPEST-clause-whole_milestones : goal.returns-else-len-ge-DEEPEST-clause-whole_milestones
returns-else-len-ge-DEEPEST-clause-whole_milestones c =
    λ styles token is. subst OpensNoMilestone (is ∙ ap role_view c.in-Opens.is) (role_opens styles token)
