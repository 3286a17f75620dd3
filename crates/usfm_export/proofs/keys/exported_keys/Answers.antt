use Rattle.std.proofs.Common.{List, None, ap, ◌∙◌}
use Rattle.usfm_ref.specs.Keys.{KeyParts}
use Rattle.usfm_export.specs.Loops.Heads.{with_heads}
use Rattle.usfm_export.proofs.Heads.{heads_are}
use Rattle.usfm_export.proofs.keys.exported_keys.Goals as goal

pub returns : goal.returns
returns c =
    ap (λ (keys : List KeyParts). with_heads None keys) c.keys.ensures ∙ heads_are c.args.replica.now.held c.args.book
