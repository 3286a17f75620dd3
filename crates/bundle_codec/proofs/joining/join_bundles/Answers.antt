use Rattle.std.proofs.Common.{◌≡◌, List, ℕ, [], ◌++◌, Ok, ap, sym, ◌∙◌, arith}
use Rattle.op_core.specs.Ops.{Operation}
use Rattle.op_core.specs.Sets.{join}
use Rattle.bundle_codec.specs.Spelling.{bundle}
use Rattle.bundle_codec.specs.Joining.{of_both, union_or_clash}
use Rattle.bundle_codec.proofs.joining.join_bundles.Goals as goal

-- nothing stands before the bundle
alone : (ops : List Operation) (before bytes : List ℕ) → before ≡ [] → bytes ≡ before ++ bundle ops → bytes ≡ bundle ops
alone ops before bytes none all = all ∙ ap (λ (w : List ℕ). w ++ bundle ops) none

pub returns-clause-joined : goal.returns-clause-joined
returns-clause-joined c =
    let a = c.in_ok-left.left in
    let b = c.in_ok-right.right in
    (λ i. of_both (c.in_ok-left.ensures.exact i) (c.in_ok-right.ensures.exact i))
    ∙ ap (union_or_clash a b) c.in_ok-bytes.ensures.agrees
    ∙ ap Ok (sym (alone (join a b) c.in_ok-room.room.items c.in_ok-bytes.bytes.items c.in_ok-room.ensures.items
    c.in_ok-bytes.ensures.joined))

pub returns-clause-bundle : goal.returns-clause-bundle
returns-clause-bundle c =
    let union = join c.in_ok-left.left c.in_ok-right.right in
    record {
      ops = union;
      set = c.in_ok-bytes.ensures.set;
      legal = c.in_ok-bytes.ensures.legal;
      spelled = alone union c.in_ok-room.room.items c.in_ok-bytes.bytes.items c.in_ok-room.ensures.items c.in_ok-bytes.ensures.joined;
      short = omega (arith, c.in_ok-bytes.bytes.ok.0, c.in_ok-bytes.bytes.small);
    }
