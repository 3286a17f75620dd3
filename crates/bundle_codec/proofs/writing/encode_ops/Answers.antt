use Rattle.std.proofs.Common.{List, ◌++◌, length, map, ap, sym, ◌∙◌, append_assoc}
use Rattle.std.specs.List.{flat_map}
use Rattle.std.specs.Int.{w64, to_be_bytes}
use Rattle.std.proofs.lemmas.List.{length-map}
use Rattle.op_core.specs.Thinned.{all_full}
use Rattle.bundle_codec.specs.Spelling.{magic_of, operation, bundle}
use Rattle.bundle_codec.proofs.Wholes.{fronted}
use Rattle.bundle_codec.proofs.writing.encode_ops.Goals as goal

pub ops-init : goal.ops-init
unfolding magic_of bundle
ops-init c =
    let ops = map (λ op. op.now) c.args.ops.now in
    rw (
      c.in_ok-push_front.ensures,
      c.are_full.ensures,
      c.new-bytes.ensures.items,
      sym (length-map c.args.ops.now (λ op. op.now)),
    )
    (append_assoc (magic_of (all_full ops)) (to_be_bytes w64 (length ops)) (flat_map operation ops) ∙ fronted ops)
