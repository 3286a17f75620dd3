use Rattle.std.proofs.Common.{sym, ap, drop, ◌∙◌, arith}
use Rattle.std.specs.Prelude.{Ok}
use Rattle.std.proofs.lemmas.Result.{err_from_is_err_and}
use Rattle.bare_stream.proofs.Parts.{bared_on, bared_end, refused_fault, first_of_left}
use Rattle.bare_stream.proofs.stream.bared.Goals as goal

pub returns-in_err-seal-clause-refused : goal.returns-in_err-seal-clause-refused
returns-in_err-seal-clause-refused c =
    let fault = err_from_is_err_and c.from_residual.result c.from_residual.ensures.1 in
    rw (fault.1, fault.2) (refused_fault c.args.bytes.items c.parts.bytes.items c.split_at.result.1.now c.parts.kept c.parts.at
    c.in_err-seal.field-0.0 c.parts.invariant.2 (omega arith) (c.split_at.ensures.back ∙ ap (drop c.parts.at) c.deref.ensures.value)
    c.in_err-seal.ensures.refused)

pub parts-preserved : goal.parts-preserved
parts-preserved c =
    let now = c.parts.bytes.items in
    let left = c.split_at.ensures.back ∙ ap (drop c.parts.at) c.deref.ensures.value in
    let on = bared_on c.args.bytes.items now c.move_part.new.bytes.items c.parts.kept c.parts.at c.in_ok-seal.seal c.in_ok-seal.count
    c.parts.invariant.2 (omega arith) c.in_ok-seal.ensures.some
    (first_of_left c.split_at.result.1.now (drop c.parts.at now) c.in_ok-seal.seal c.in_ok-seal.count left c.in_ok-seal.ensures.ok)
    c.move_part.ensures.moved c.move_part.ensures.rest in
    (omega arith, omega (arith, c.in_ok-seal.ensures.within, c.move_part.ensures.len), on)

pub returns-clause-ok : goal.returns-clause-ok
returns-clause-ok c =
    bared_end c.args.bytes.items c.parts.bytes.items c.parts.kept c.parts.at c.parts.invariant.2 (omega arith)
    ∙ ap Ok (sym c.truncate.ensures.items)
