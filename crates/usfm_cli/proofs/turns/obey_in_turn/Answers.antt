use Rattle.std.proofs.Common.{◌≡◌, ap, arith, length}
use Rattle.std.proofs.lemmas.List.{length-map}
use Rattle.usfm_cli.specs.Turns.{bytes_of}
use Rattle.usfm_cli.proofs.InTurn.{one_done, one_refused}
use Rattle.usfm_cli.proofs.turns.obey_in_turn.Goals as goal

pub loop-command-preserved : goal.loop-command-preserved
loop-command-preserved c =
    one_done c.args.replica.now c.args.commands.now c.loop-command.command-index c.loop-command.replica
    (bytes_of c.loop-command.outputs.items) c.loop-command.invariant c.command-item.result c.loop-command-test.true c.command-item.is
    c.take_turn.new.replica (bytes_of c.take_turn.new.outputs.items) c.in_default.ensures

pub returns-in-Err : goal.returns-in-Err
returns-in-Err c =
    let now = c.take_turn.new.outputs in
    let items : length (bytes_of now.items) ≡ length now.items = length-map now.items (λ output. output.items) in
    let same : length (bytes_of now.items) ≡ length (bytes_of c.loop-command.outputs.items) = ap length c.in-Err.ensures.1 in
    one_refused c.args.replica.now c.args.commands.now c.loop-command.command-index c.loop-command.replica
    (bytes_of c.loop-command.outputs.items) c.loop-command.invariant c.command-item.result c.loop-command-test.true c.command-item.is
    c.len.result c.in-Err.fault (omega (arith, items, same, now.ok.0, c.len.ensures)) c.in-Err.ensures.0
