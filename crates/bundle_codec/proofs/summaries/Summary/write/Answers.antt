use Rattle.bundle_codec.proofs.SummaryWholes.{summary_fronted}
use Rattle.bundle_codec.proofs.summaries.Summary.write.Goals as goal

pub loop-name_ranges-init : goal.loop-name_ranges-init
loop-name_ranges-init c = rw (c.in_ok-push_front.ensures, c.new-bytes.ensures.items, c.as_slice-names.ensures.value, c.self.view_is)
    (summary_fronted c.args.self.now)
