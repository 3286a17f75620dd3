use Rattle.std.proofs.Common.{◌≡◌, drop}
use Rattle.bundle_codec.specs.Reading.{exactly_at}
use Rattle.bundle_codec.proofs.judging.fields.exactly_of.Given as goal

abbrev pub invariant-loop-m : goal.invariant-loop-m
invariant-loop-m l = exactly_at (drop l.m-index l.text) l.bad l.rest ≡ exactly_at l.text l.bad l.bytes
