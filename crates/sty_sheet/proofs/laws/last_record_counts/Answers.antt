use Rattle.sty_sheet.proofs.LastRecords.{last_record_counts}
use Rattle.sty_sheet.proofs.laws.last_record_counts.Goals as goal

pub returns : goal.returns
returns c = last_record_counts
