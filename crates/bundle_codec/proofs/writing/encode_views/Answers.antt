use Rattle.std.proofs.Common.{List, ◌++◌, length, map, ap, sym, ◌∙◌, append_assoc}
use Rattle.std.specs.List.{flat_map}
use Rattle.std.specs.Int.{w64, to_be_bytes}
use Rattle.std.proofs.lemmas.List.{length-map}
use Rattle.op_core.specs.Thinned.{all_full}
use Rattle.bundle_codec.specs.Spelling.{magic_of, operation, bundle}
use Rattle.bundle_codec.proofs.Wholes.{fronted}
use Rattle.bundle_codec.proofs.writing.encode_views.Goals as goal

pub views-init : goal.views-init
unfolding magic_of bundle
views-init c =
    let views = map (λ view. view.now) c.args.views.now in
    rw (
      c.in_ok-push_front.ensures,
      c.have_texts.ensures,
      c.new-bytes.ensures.items,
      sym (length-map c.args.views.now (λ view. view.now)),
    )
    (append_assoc (magic_of (all_full views)) (to_be_bytes w64 (length views)) (flat_map operation views) ∙ fronted views)
