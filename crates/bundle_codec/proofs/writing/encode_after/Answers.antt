use Rattle.std.proofs.Common.{List, ◌++◌, length, ap, sym, ◌∙◌, append_assoc}
use Rattle.std.specs.List.{flat_map}
use Rattle.std.specs.Int.{w64, to_be_bytes}
use Rattle.std.proofs.lemmas.List.{append-nil}
use Rattle.op_core.specs.Ops.{Operation}
use Rattle.op_core.specs.Thinned.{all_full}
use Rattle.bundle_codec.specs.Spelling.{magic_of, operation}
use Rattle.bundle_codec.proofs.Wholes.{fronted}
use Rattle.bundle_codec.proofs.writing.encode_after.Goals as goal

pub loop-op-init : goal.loop-op-init
loop-op-init c = rw (
  c.in_ok-push_front.ensures,
  c.is_full.ensures,
  c.len.ensures,
  c.into_iter-op-iterator.ensures.into_iter_gives,
  c.iter-op-items.ensures.items,
)
    (append_assoc c.args.bytes.items (magic_of (all_full c.args.set.now) ++ to_be_bytes w64 (length c.args.set.now))
    (flat_map operation c.args.set.now)
    ∙ ap (λ front. c.args.bytes.items ++ front) (fronted c.args.set.now))

pub returns : goal.returns
returns c =
    sym (append-nil c.loop-op.bytes.items)
    ∙ ap (λ (ops : List Operation). c.loop-op.bytes.items ++ flat_map operation ops) (sym c.in-None.ensures.steps.0)
    ∙ c.loop-op.invariant
