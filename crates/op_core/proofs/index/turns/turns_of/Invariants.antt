use Rattle.std.proofs.Common.{◌≡◌, Bool, ◌&&◌, take}
use Rattle.std.specs.List.{list_any}
use Rattle.usfm_ref.specs.declared.segment.Segment.{Segment}
use Rattle.op_core.specs.Ops.{Operation}
use Rattle.op_core.specs.Loops.Turns.{is_at}
use Rattle.op_core.proofs.index.turns.turns_of.Given as goal

abbrev pub invariant-loop-at : goal.invariant-loop-at
invariant-loop-at l = record {
  same : (p : Segment → Bool) (f : Operation → Bool) → list_any (λ t. p t.segment && is_at f l.new t.at) l.turns.items
      ≡ list_any (λ o. p o.segment && f o) (take l.at l.new);
  each : (p : Segment → Bool) → list_any (λ t. p t.segment) l.turns.items ≡ list_any (λ o. p o.segment) (take l.at l.new);
}
