use Rattle.std.proofs.Common.{◌≡◌, true, sym, ap, ◌∙◌}
use Rattle.std.specs.Result.{result_ok}
use Rattle.std.proofs.lemmas.Fmt.{parse-decimal}
use Rattle.op_core.specs.Ids.{starts_plainly}
use Rattle.op_core.proofs.IdOrders.IdTexts.{decimal_is_plain, read_is_written}
use Rattle.conflict_answers.proofs.chosen.number_from_1.Goals as goal

pub returns-then-not-starts_plainly-clause-only :
    goal.returns-then-not-starts_plainly-clause-only
returns-then-not-starts_plainly-clause-only c number positive short written =
    let plain : starts_plainly c.args.text.now ≡ true = rw written (decimal_is_plain number positive short) in
    let not_plain = sym c.if-not-starts_plainly.true ∙ (c.starts_plainly.ensures ∙ ap starts_plainly c.as_bytes.ensures.value) in
    cc

pub returns-clause-reads : goal.returns-clause-reads
returns-clause-reads c =
    let plain = sym (ap starts_plainly c.as_bytes.ensures.value) ∙ (sym c.starts_plainly.ensures ∙ c.if-not-starts_plainly.false) in
    rw c.ok.ensures.value (read_is_written c.args.text.now c.parse.result plain c.parse.ensures.value.0)

pub returns-clause-only : goal.returns-clause-only
returns-clause-only c number positive short written =
    c.ok.ensures.value ∙ ap result_ok (parse-decimal 64 number c.args.text.now c.parse.result short short written c.parse.ensures.value.0)
