use Rattle.std.proofs.Common.{arith, ap, sym, ◌∙◌, ◌≡◌, ◌<◌, get_or, length}
use Rattle.usfm_token.proofs.TokenLemmas.{boundary_past_ascii, some_from_read}
use Rattle.usfm_token.proofs.scan.strip_byte.Goals as goal

pub range_from-requires : goal.range_from-requires
range_from-requires c =
    let read : get_or c.args.text.now 0 0 ≡ c.args.byte = ap (λ l. get_or l 0 0) (sym c.as_bytes.ensures.value) ∙ c.if-as_bytes-byte.true in
    let some : 0 < length c.args.text.now = some_from_read c.args.text.now c.args.byte (omega arith) read in
    λ _. boundary_past_ascii c.args.text.now c.utf8.text some (omega arith)
