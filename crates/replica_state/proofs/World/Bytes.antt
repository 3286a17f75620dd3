-- The bytes of what is made in a world.
use Rattle.std.proofs.Common.{◌≡◌, ℕ, ◌<◌, ◌^◌, List, [], length, take, drop, Some, refl, sym, ap, ◌∙◌}
use Rattle.std.specs.Prelude.{slice_get}
use Rattle.std.specs.List.{AllByRecursion}
use Rattle.std.proofs.lemmas.List.{append-nil, take-append-drop}
use Rattle.op_core.specs.Ops.{Operation}
use Rattle.bundle_codec.specs.Spelling.{bundle}
use Rattle.bundle_codec.specs.Joining.{whole_if}
use Rattle.bundle_codec.specs.Reading.{bundle_at}
use Rattle.bundle_codec.proofs.OneSpelling.{AreCounted-from_length, front_is_cut}
use Rattle.bundle_codec.proofs.Wholes.{some_left}
use Rattle.bundle_codec.proofs.Spelled.{IsSpelled, bundle_reads}
use Rattle.replica_state.specs.World.{Event, IsWithin, world}
use Rattle.replica_state.specs.World.Bytes.{IsReadWhole, IsRefusedAsCut}
use Rattle.replica_state.proofs.World.Sets.{hold_sets}

-- the bytes of a bundle that was made, if a slice can have as many, are read as what it holds, and a proper front of them is cut
pub bundles_are_read : (events : List Event) → AllByRecursion IsWithin events → (k : ℕ) (ops : List Operation)
    → slice_get (world events).bundles k ≡ Some ops → length (bundle ops) < 2 ^ 64 → IsReadWhole ops
bundles_are_read events h k ops e short =
    let s = hold_sets events h in
    let spelled : IsSpelled ops = (s.bundles k ops e, AreCounted-from_length ops short) in
    record {
      whole = ap whole_if (ap bundle_at (sym (append-nil (bundle ops))) ∙ bundle_reads.again ops [] (spelled, s.bundles_legal k ops e));
      cut = λ front more parts some. ap whole_if (front_is_cut ops front more spelled parts some);
    }

pub cut_receivings_are_refused : (past : List Event) → AllByRecursion IsWithin past → (name : List ℕ) (k n : ℕ) (ops : List Operation)
    → slice_get (world past).bundles k ≡ Some ops → n < length (bundle ops) → length (bundle ops) < 2 ^ 64
    → IsRefusedAsCut past name k n ops
cut_receivings_are_refused past h name k n ops e proper short = record {
  refused = (bundles_are_read past h k ops e short).cut (take n (bundle ops)) (drop n (bundle ops)) (sym (take-append-drop n (bundle ops)))
      (some_left (bundle ops) n proper);
  unchanged = refl;
}
