use Rattle.std.proofs.Common.{◌++◌, ◌∷◌, [], filter, map, arith, ap, ◌∙◌, string_bytes}
use Rattle.std.proofs.lemmas.List.{take_all}
use Rattle.kept_days.specs.Days.{is_day, texts}
use Rattle.kept_days.proofs.Names.{days_more}
use Rattle.kept_days.proofs.days.day_names.Goals as goal

pub loop-name-preserved : goal.loop-name-preserved
loop-name-preserved c =
    days_more is_day c.args.names.now c.loop-name.name-index c.name-item.result (texts c.loop-name.days.items)
    (texts c.push_if_day.new.days.items) c.loop-name-test.true c.name-item.is
    (c.in_ok-push_if_day.ensures ∙ ap (λ b. texts c.loop-name.days.items ++ filter is_day (b ∷ [])) c.deref.ensures)
    c.loop-name.invariant

pub returns : goal.returns
returns c =
    c.loop-name.invariant
    ∙ ap (λ names. filter is_day (map (λ n. string_bytes n) names))
    (take_all c.loop-name.name-index c.args.names.now (omega (arith, c.loop-name-test.false)))
