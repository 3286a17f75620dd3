-- What is read of the bytes of a bundle that was made in a world.
use Rattle.std.proofs.Common.{◌≡◌, ℕ, Bool, true, false, cond, List, [], ◌∷◌}
use Rattle.std.proofs.Common.{Option, Some, None, Result, Ok, Err, refl, sym, ap, ◌∙◌, MatchResult}
use Rattle.op_core.specs.Ops.{Operation}
use Rattle.op_core.specs.Thinned.{all_full}
use Rattle.bundle_codec.specs.declared.fault.BundleFault.{BundleFault}
use Rattle.bundle_codec.specs.declared.fault.BundleFault.TheVariants.{Memory, Magic, Truncated, NotRising, BadId, BadKey}
use Rattle.bundle_codec.specs.declared.fault.BundleFault.TheVariants.{BadReplaced, BadTag, NotUtf8, BadText, Unsupported}
use Rattle.bundle_codec.specs.declared.fault.WholeFault.{WholeFault}
use Rattle.bundle_codec.specs.declared.fault.WholeFault.TheVariants.{Bundle, Trailing}
use Rattle.bundle_codec.specs.Reading.{◌>>=◌, judge_named, judge_thinned, unnamed_place, bundle_at, TakesMemory, RefusesBundle}
use Rattle.bundle_codec.specs.Joining.{whole_if, whole_at, RefusesWhole}
use Rattle.replica_state.specs.World.Calls.{RefusesCut}
use Rattle.replica_state.proofs.World.Bytes.{bundles_are_read}

-- what is answered when all fields were read
abbrev when_judged : Result (Unit {0}) BundleFault → List Operation × List ℕ → Result (List Operation × List ℕ) BundleFault
when_judged judged read = judged >>= λ _. Ok read

abbrev when_read : (Bool × List Operation) × List ℕ → Result (List Operation × List ℕ) BundleFault
when_read fields = when_judged (judge_thinned fields.0.0 fields.0.1) (fields.0.1, fields.1)

-- what is judged after all fields is not cut
never_cut : (ops : List Operation) (rest : List ℕ) → when_read ((false, ops), rest) ≡ Err Truncated → ⊥
never_cut ops rest = by (all_full ops) (unnamed_place ops)
  where
    by : (b : Bool) (place : Option ℕ) → when_judged (cond b (Err (Unsupported 0)) (judge_named place)) (ops, rest) ≡ Err Truncated → ⊥
    by true place e = cc e
    by false None e = cc e
    by false (Some k) e = cc e

-- so memory is not what a cut bundle is refused for
memory_cut : (bytes : List ℕ) → TakesMemory bytes → bundle_at bytes ≡ Err Truncated → ⊥
unfolding bundle_at
memory_cut bytes t e = never_cut t.ops t.rest (ap (λ r. r >>= when_read) (sym t.read) ∙ e)

bundle_refused : (bytes : List ℕ) (fault : BundleFault) → RefusesBundle bytes fault → bundle_at bytes ≡ Err Truncated
    → fault ≡ Truncated
bundle_refused bytes Memory h e = absurd (memory_cut bytes h e)
bundle_refused bytes Magic h e = cc (sym h ∙ e)
bundle_refused bytes Truncated h e = refl
bundle_refused bytes (NotRising k) h e = cc (sym h ∙ e)
bundle_refused bytes (BadId k) h e = cc (sym h ∙ e)
bundle_refused bytes (BadKey k) h e = cc (sym h ∙ e)
bundle_refused bytes (BadReplaced k) h e = cc (sym h ∙ e)
bundle_refused bytes (BadTag k) h e = cc (sym h ∙ e)
bundle_refused bytes (NotUtf8 k) h e = cc (sym h ∙ e)
bundle_refused bytes (BadText k) h e = cc (sym h ∙ e)
bundle_refused bytes (Unsupported k) h e = cc (sym h ∙ e)

-- bytes that are read as cut are refused as cut
cut_refused : (bytes : List ℕ) (r : Result (List Operation) WholeFault)
    → MatchResult r (λ ops. whole_at bytes ≡ Ok ops) (RefusesWhole bytes) → bundle_at bytes ≡ Err Truncated → r ≡ Err (Bundle Truncated)
cut_refused bytes (Ok ops) h e = cc (sym h ∙ ap whole_if e)
cut_refused bytes (Err Trailing) h e = cc (sym h ∙ ap whole_if e)
cut_refused bytes (Err (Bundle fault)) h e = ap (λ f. Err (Bundle f)) (bundle_refused bytes fault h e)

-- a reading as cut is of cut bytes
is_cut : (r : Result (List Operation × List ℕ) BundleFault) → whole_if r ≡ Err (Bundle Truncated) → r ≡ Err Truncated
is_cut (Ok (ops, [])) e = cc e
is_cut (Ok (ops, _ ∷ _)) e = cc e
is_cut (Err fault) e = cc e

pub refuses_cut : (bytes : List ℕ) (r : Result (List Operation) WholeFault)
    → MatchResult r (λ ops. whole_at bytes ≡ Ok ops) (RefusesWhole bytes) → RefusesCut bytes r
refuses_cut bytes r h events k ops more within is short parts some =
    cut_refused bytes r h (is_cut (bundle_at bytes) ((bundles_are_read events within k ops is short).cut bytes more parts some))
