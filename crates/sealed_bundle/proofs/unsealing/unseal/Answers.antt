use Rattle.sealed_bundle.proofs.Openings.{has_header}
use Rattle.sealed_bundle.proofs.unsealing.unseal.Goals as goal

pub remove_front-requires : goal.remove_front-requires
remove_front-requires c =
    has_header c.deref-2.result.now c.args.bytes.items c.in_ok-open.field-0.now c.deref-2.ensures.value c.in_ok-open.ensures.sealed
