use Rattle.std.proofs.Common.{◌≡◌, ◌∷◌, ◌-◌, ap, sym, ◌∙◌, length, arith}
use Rattle.op_core.specs.Ids.{Id}
use Rattle.bundle_codec.specs.declared.fault.BundleFault.TheVariants.{Truncated}
use Rattle.bundle_codec.specs.Reading.{id_at}
use Rattle.bundle_codec.specs.Views.{found, each_id_at}
use Rattle.bundle_codec.proofs.Steps.{each_none, each_one, each_rest, each_next}
use Rattle.bundle_codec.proofs.judging.ids.ReplacedIdsIterator.next.Goals.{After-made}
use Rattle.bundle_codec.proofs.judging.ids.ReplacedIdsIterator.next.Goals as goal

pub returns-then-self-eq0-clause-steps : goal.returns-then-self-eq0-clause-steps
returns-then-self-eq0-clause-steps c =
    let e = sym c.self.view_is ∙ each_none (id_at Truncated) c.self.inside.left c.self.inside.bytes.now c.if-self-eq0.true in (e, e)

pub id_in-requires : goal.id_in-requires
id_in-requires c = each_one (id_at Truncated) c.self.inside.left c.self.inside.bytes.now c.if-self-eq0.false c.self.invariant

pub invariant_of-self : goal.invariant_of-self
invariant_of-self c =
    each_rest (id_at Truncated) c.self.inside.left c.self.inside.bytes.now c.if-self-eq0.false c.self.invariant _ _ c.id_in.ensures.value

-- the ids are the one that was given, and those that are left
goes_on : (c : After-made) → c.args.self.now ≡ c.made.result ∷ found (each_id_at (c.self.inside.left - 1) c.id_in.result.1.now)
goes_on c =
    sym c.self.view_is
    ∙ each_next (id_at Truncated) c.self.inside.left c.self.inside.bytes.now c.if-self-eq0.false c.self.invariant _ _ c.id_in.ensures.value
    ∙ ap (λ (i : Id). i ∷ found (each_id_at (c.self.inside.left - 1) c.id_in.result.1.now)) (sym c.made.ensures)

pub returns-clause-steps : goal.returns-clause-steps
returns-clause-steps c = goes_on (goal.at.returns-clause-steps c).After-made

pub returns-clause-goes : goal.returns-clause-goes
returns-clause-goes c =
    let e = goes_on (goal.at.returns-clause-goes c).After-made in
    record { on = λ _. (tt, tt, omega (arith, ap length e)); keeps = tt; rests = λ _. tt }
