use Rattle.std.proofs.Common.{List, ◌∷◌, [], ◌++◌, None, Some, Vec, Global, is_some, sym, ap, ◌∙◌}
use Rattle.std.specs.BTreeMap.{BTreeMap, is_at}
use Rattle.std.specs.Map.{lookup}
use Rattle.op_core.specs.Ids.{Id, id_cmp}
use Rattle.segment_history.proofs.Replacing.{put_under, as_entries}
use Rattle.segment_history.proofs.replacers.add_under.Goals as goal

pub returns-in-Some : goal.returns-in-Some
returns-in-Some c =
    put_under c.args.by c.args.id c.args.made.now (c.get_mut.follows.lender c.push.new.self) (Some c.in-Some.ids.now) c.push.new.self
    (sym c.in-Some.ensures.value) c.in_ok-push.ensures.items
    ((c.get_mut.follows.holds c.push.new.self).3 (ap is_some (sym c.in-Some.ensures.value))).0

pub returns : goal.returns
returns c =
    as_entries c.args.by c.args.id c.get_mut.follows.lender-at-none c.args.made.now c.insert.new.self
    (ap (λ (m : BTreeMap Id (Vec Id Global)). m.entries) c.get_mut.follows.holds-at-none)
    (put_under c.args.by c.args.id c.get_mut.follows.lender-at-none c.insert.new.self None c.push-2.new.self
    (ap (λ (m : BTreeMap Id (Vec Id Global)). lookup (is_at (id_cmp c.args.id)) m.entries) c.get_mut.follows.holds-at-none
    ∙ sym c.in_default.ensures.value)
    (c.in_ok-push-2.ensures.items ∙ ap (λ (xs : List Id). xs ++ c.args.by ∷ []) c.new-ids.ensures.items)
    c.in_ok-insert.ensures.updates.0)
