use Rattle.std.specs.Char.{is_ascii_digit}
use Rattle.usfm_ref.proofs.Runs.{list_all-run}
use Rattle.usfm_ref.proofs.number.number_at.Goals as goal

pub number_of-requires : goal.number_of-requires
number_of-requires c = rw (c.split_at.ensures.front, c.digits_len.ensures.value) (list_all-run is_ascii_digit c.args.bytes.now)
