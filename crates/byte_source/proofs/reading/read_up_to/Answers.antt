use Rattle.std.proofs.Common.{◌≡◌, ◌<◌, ◌++◌, zero, suc, take, arith, length-append, refl, ℕ, List}
use Rattle.std.proofs.lemmas.List.{length-take-le, length-take}
use Rattle.std.proofs.lemmas.Result.{err_from_is_err_and}
use Rattle.std.proofs.KnownBytes.{Consumes-trans}
use Rattle.byte_source.proofs.reading.read_up_to.Goals as goal

some_count : (count : ℕ) → (count ≡ 0 → ⊥) → 0 < count
some_count zero none = absurd (none refl)
some_count (suc count) none = omega arith

pub returns-then-count-limit-clause-read : goal.returns-then-count-limit-clause-read
returns-then-count-limit-clause-read g c =
    let source = g.R.ByteSource in
    let bytes : List ℕ = c.loop-bytes.bytes.items in
    let piece : List ℕ = take c.in-Ok.count c.read.new.buffer in
    let len = length-append bytes piece in
    let piece_len = length-take-le c.in-Ok.count c.read.new.buffer c.in-Ok.ensures.fits in
    record {
      given = bytes ++ piece;
      consumed = Consumes-trans (source.to_come c.args.source.now) (source.to_come c.loop-bytes.source)
          (source.to_come c.read.new.self) bytes piece c.loop-bytes.invariant.given c.in-Ok.ensures.bytes.0;
      answered =
          omega (arith, len, piece_len, c.loop-bytes.bytes.ok.0, c.in-Ok.ensures.fits, length-take c.min-room.result c.loop-bytes.buffer);
      reads = omega (arith, len, piece_len, c.in-Ok.ensures.counted, c.loop-bytes.invariant.reads);
    }

pub returns-in_err-extend_from_slice-in-Ok-clause-read :
    goal.returns-in_err-extend_from_slice-in-Ok-clause-read
returns-in_err-extend_from_slice-in-Ok-clause-read g c =
    let source = g.R.ByteSource in
    let bytes : List ℕ = c.loop-bytes.bytes.items in
    let piece : List ℕ = take c.in-Ok.count c.read.new.buffer in
    let len = length-append bytes piece in
    let piece_len = length-take-le c.in-Ok.count c.read.new.buffer c.in-Ok.ensures.fits in
    let fault = err_from_is_err_and c.from_residual.result c.from_residual.ensures.1 in
    record {
      given = bytes ++ piece;
      consumed = Consumes-trans (source.to_come c.args.source.now) (source.to_come c.loop-bytes.source)
          (source.to_come c.read.new.self) bytes piece c.loop-bytes.invariant.given c.in-Ok.ensures.bytes.0;
      answered = rw (fault.1, fault.2) (
        omega (arith, len, piece_len, some_count c.in-Ok.count c.in-Ok.count-test.1),
        omega (arith, len, piece_len, c.loop-bytes.bytes.ok.0, c.if-count-limit.false),
      );
      reads = omega (arith, len, piece_len, c.in-Ok.ensures.counted, c.loop-bytes.invariant.reads);
    }
