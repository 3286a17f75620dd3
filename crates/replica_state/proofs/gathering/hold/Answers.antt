use Rattle.std.proofs.Common.{Some, None, sym, ap, ◌∙◌}
use Rattle.std.specs.BTreeMap.{values, insert_entry}
use Rattle.op_core.specs.Ids.{id_cmp}
use Rattle.op_core.specs.Sets.{differs}
use Rattle.op_core.proofs.Sets.Union.{put_held}
use Rattle.bundle_codec.proofs.Merges.{lent_some}
use Rattle.replica_state.specs.Loops.Gathering.{by_id}
use Rattle.replica_state.proofs.Gathered.{held_at, inserted_new, inserted_thinned, differs_not, differs_from}
use Rattle.replica_state.proofs.gathering.hold.Goals as goal
use Rattle.replica_state.proofs.gathering.hold.Goals.{in-Some+else-not-agrees+else-is_some, in_default}

pub returns-then-not-agrees-clause-refused : goal.returns-then-not-agrees-clause-refused
returns-then-not-agrees-clause-refused c =
    let held = held_at c.args.ops.now.entries (values c.args.ops.now) c.id-id.result c.args.view.id (Some c.in-Some.held.now)
    c.requires.entries c.id-id.ensures.id c.in-Some.ensures.value in (
      c.id-id.ensures.id,
      differs_from (values c.args.ops.now) c.args.view c.in-Some.held.now held (sym c.agrees.ensures ∙ c.if-not-agrees.true),
    )

pub returns-then-is_some-clause-ok : goal.returns-then-is_some-clause-ok
returns-then-is_some-clause-ok c =
    let held = held_at c.args.ops.now.entries (values c.args.ops.now) c.id-id.result c.args.view.id (Some c.in-Some.held.now)
    c.requires.entries c.id-id.ensures.id c.in-Some.ensures.value in
    let full = sym (lent_some c.text.result c.args.view.text c.text.ensures) ∙ sym c.is_some.ensures ∙ c.if-is_some.true in
    c.requires.entries
    ∙ ap by_id (sym (put_held c.args.view c.in-Some.held.now (values c.args.ops.now) c.requires.rising held full))

pub returns-then-is_some-clause-agrees : goal.returns-then-is_some-clause-agrees
returns-then-is_some-clause-agrees c =
    let held = held_at c.args.ops.now.entries (values c.args.ops.now) c.id-id.result c.args.view.id (Some c.in-Some.held.now)
    c.requires.entries c.id-id.ensures.id c.in-Some.ensures.value in
    differs_not (values c.args.ops.now) c.args.view c.in-Some.held.now held (sym c.agrees.ensures ∙ c.if-not-agrees.false)

pub returns-in-Ok-clause-ok : goal.returns-in-Ok-clause-ok
returns-in-Ok-clause-ok c =
    let ops = values c.args.ops.now in
    c.in-Ok.ensures.entries ∙ (λ i. insert_entry id_cmp (c.requires.entries i) (c.id-id.ensures.id i) c.args.view)
    ∙ (elim c.match-get.branch [
      | in-Some+else-not-agrees+else-is_some w ↦
          let held = held_at c.args.ops.now.entries ops c.id-id.result c.args.view.id (Some w.in-Some.held.now)
          c.requires.entries c.id-id.ensures.id w.in-Some.ensures.value in
          inserted_thinned c.args.view w.in-Some.held.now ops held (sym w.agrees.ensures ∙ w.if-not-agrees.false)
          (sym (lent_some w.text.result c.args.view.text w.text.ensures) ∙ sym w.is_some.ensures ∙ w.if-is_some.false)
      | in_default w ↦
          inserted_new c.args.view ops
          (held_at c.args.ops.now.entries ops c.id-id.result c.args.view.id None c.requires.entries c.id-id.ensures.id
          w.in_default.ensures.value)
    ])

pub returns-in-Ok-clause-agrees : goal.returns-in-Ok-clause-agrees
returns-in-Ok-clause-agrees c =
    let ops = values c.args.ops.now in
    elim c.match-get.branch [
      | in-Some+else-not-agrees+else-is_some w ↦
          let held = held_at c.args.ops.now.entries ops c.id-id.result c.args.view.id (Some w.in-Some.held.now)
          c.requires.entries c.id-id.ensures.id w.in-Some.ensures.value in
          differs_not ops c.args.view w.in-Some.held.now held (sym w.agrees.ensures ∙ w.if-not-agrees.false)
      | in_default w ↦
          ap (λ r. differs r c.args.view)
          (held_at c.args.ops.now.entries ops c.id-id.result c.args.view.id None c.requires.entries c.id-id.ensures.id
          w.in_default.ensures.value)
    ]

pub returns-in-Err-clause-refused : goal.returns-in-Err-clause-refused
returns-in-Err-clause-refused c =
    held_at c.args.ops.now.entries (values c.args.ops.now) c.id-id.result c.args.view.id None c.requires.entries c.id-id.ensures.id
    (sym c.in-Err.ensures.absent)
