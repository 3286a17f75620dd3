use Rattle.usfm_cli.specs.Commands.{edit_over_done}
use Rattle.usfm_cli.proofs.settling.settling_edit.Goals as goal

pub returns : goal.returns
returns c = λ s i. edit_over_done s (c.segment-segment.ensures i) c.args.text.now (c.ids.ensures i)
