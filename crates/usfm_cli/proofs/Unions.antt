-- A stream of bundles on its way.
use Rattle.std.proofs.Common.{◌≡◌, ◌==◌, Bool, true, false, ℕ, zero, suc, ◌<◌, ◌≤◌, List, [], ◌∷◌, length, take}
use Rattle.std.proofs.Common.{drop, Some, None, Result, Ok, Err, arith, length-take, length-drop, refl, sym, ap, ◌∙◌}
use Rattle.std.proofs.lemmas.Bool.{eqb-true}
use Rattle.op_core.specs.Ids.{Id}
use Rattle.op_core.specs.Ops.{Operation}
use Rattle.op_core.specs.Sets.{clash, join}
use Rattle.bundle_codec.specs.declared.fault.BundleFault.{BundleFault}
use Rattle.bundle_codec.specs.Spelling.{bundle, magic_of}
use Rattle.bundle_codec.specs.declared.fault.BundleFault.TheVariants as spelling
use Rattle.bundle_codec.specs.Reading.{bundle_at, fields_at, magic_at, RefusesBundle, TakesMemory}
use Rattle.replica_state.specs.declared.fault.ReceiveFault.{ReceiveFault}
use Rattle.replica_state.specs.declared.fault.ReceiveFault.TheVariants as receiving
use Rattle.replica_state.specs.States.{State}
use Rattle.command_faults.specs.Faults.{of_bundle, of_receiving}
use Rattle.usfm_cli.specs.Loops.Gathered.{RefusesNext}
use Rattle.usfm_cli.specs.Streams.{with_set, unless_clash, union_within, union_in, UnionAnswers, GatheringTakesMemory}
use Rattle.usfm_cli.specs.Streams.GatheringTakesMemory.{Judged, Received, After}
use Rattle.command_faults.specs.declared.fault.Fault.{Fault}
use Rattle.command_faults.specs.declared.fault.Fault.TheVariants.{Bundle, Clash}

-- what is left of a stream, with the union so far, leads to what the whole stream leads to
pub record LeadsTo (held : List Operation) (rest : List ℕ) (wanted : Result (List Operation) Fault) : Type 0 where
  pub bound : ℕ
  pub within : length rest ≤ bound
  pub leads : union_within bound held rest ≡ wanted

-- before the first bundle nothing is held
pub leads_start : (input : List ℕ) → LeadsTo [] input (union_in [] input)
leads_start input = record { bound = length input; within = omega arith; leads = refl }

-- after the last one the union is held
pub leads_end : (held : List Operation) (rest : List ℕ) (wanted : Result (List Operation) Fault) → rest ≡ [] →
    LeadsTo held rest wanted → wanted ≡ Ok held
unfolding union_within
leads_end held [] wanted e l = sym l.leads
leads_end held (b ∷ rest) wanted e l = cc e

-- no bytes lead to no operation
pub union_of_none : (input : List ℕ) (s : State) → input ≡ [] → s.held ≡ [] → union_in [] input ≡ Ok s.held
unfolding union_within
union_of_none input s e h = ap (union_in []) e ∙ ap Ok (sym h)

-- one turn, at bytes that are not at their end
pub next : (bound : ℕ) (held : List Operation) (rest : List ℕ) → length rest ≤ bound → 0 < length rest →
    (r : Result (List Operation × List ℕ) BundleFault) → bundle_at rest ≡ r
    → (b : ℕ) × (bound ≡ suc b)
    × (union_within bound held rest ≡ with_set r (λ set left. unless_clash (clash held set) (union_within b (join held set) left)))
unfolding union_within
next bound held [] w l r e = absurd (omega arith)
next zero held (b ∷ rest) w l r e = absurd (omega arith)
next (suc bound) held (b ∷ rest) w l r e =
    (bound, refl, ap (λ x. with_set x (λ set left. unless_clash (clash held set) (union_within bound (join held set) left))) e)

module _ (held : List Operation) (rest : List ℕ) (wanted : Result (List Operation) Fault) (l : LeadsTo held rest wanted)
    (some : 0 < length rest) where
  pub leads_fault : (f : BundleFault) → bundle_at rest ≡ Err f → wanted ≡ Err (Bundle f)
  leads_fault f e = let n = next l.bound held rest l.within some (Err f) e in sym l.leads ∙ n.2

  pub leads_clash : (set : List Operation) (left : List ℕ) (id : Id) → bundle_at rest ≡ Ok (set, left) →
      clash held set ≡ Some id → wanted ≡ Err (Clash id)
  leads_clash set left id e c =
      let n = next l.bound held rest l.within some (Ok (set, left)) e in
      sym l.leads ∙ n.2 ∙ ap (λ x. unless_clash x (union_within n.0 (join held set) left)) c

  pub leads_on : (set : List Operation) (left : List ℕ) → bundle_at rest ≡ Ok (set, left) → clash held set ≡ None →
      length left < length rest → LeadsTo (join held set) left wanted
  leads_on set left e c s =
      let n = next l.bound held rest l.within some (Ok (set, left)) e in
      record {
        bound = n.0;
        within = omega (arith, n.1, l.within, s);
        leads = sym (n.2 ∙ ap (λ x. unless_clash x (union_within n.0 (join held set) left)) c) ∙ l.leads;
      }

-- a bundle is not empty
pub bundle_is_some : (ops : List Operation) → 0 < length (bundle ops)
unfolding bundle magic_of
bundle_is_some ops = omega arith

-- what is read as a bundle, or judged with memory, is not empty
some_read : (bytes : List ℕ) (set : List Operation) (rest : List ℕ) → bundle_at bytes ≡ Ok (set, rest) → 0 < length bytes
unfolding bundle_at fields_at magic_at
some_read [] set rest e = cc e
some_read (b ∷ bytes) set rest e = omega arith

some_judged : (bytes : List ℕ) → TakesMemory bytes → 0 < length bytes
unfolding fields_at magic_at
some_judged [] t = cc t.read
some_judged (b ∷ bytes) t = omega arith

-- memory is taken for bundles that are not empty
pub taken_of_some : (before : ℕ) (held : List Operation) (bytes : List ℕ) → GatheringTakesMemory before held bytes → 0 < length bytes
taken_of_some n h b (Judged before held bytes t) = some_judged bytes t
taken_of_some n h b (Received before held bytes set rest e room) = some_read bytes set rest e
taken_of_some n h b (After before held bytes set rest e c later) = some_read bytes set rest e

-- what is left after a bundle is shorter
pub left_is_shorter : (bytes : List ℕ) (n : ℕ) (set : List Operation) → take n bytes ≡ bundle set → n ≡ length (bundle set) →
    (n ≤ length bytes) × (length (drop n bytes) < length bytes)
left_is_shorter bytes n set e f =
    let some = bundle_is_some set in
    let whole : n ≤ length bytes = omega (arith, ap length e, length-take n bytes) in
    (whole, omega (arith, length-drop n bytes))

-- what a test for the end says
pub some_left : (xs : List ℕ) (r : Bool) → r ≡ (length xs == 0) → r ≡ false → 0 < length xs
some_left [] r e f = cc (sym e ∙ f)
some_left (x ∷ xs) r e f = omega arith

-- nothing is left where no length is
pub none_left : (xs : List ℕ) (r : Bool) → r ≡ (length xs == 0) → r ≡ true → xs ≡ []
none_left [] r e f = refl
none_left (x ∷ xs) r e f = absurd (omega (arith, eqb-true (length (x ∷ xs)) 0 (sym e ∙ f)))

-- A stream on its way, after so many bundles: what is left leads to what the whole leads to, and where memory is taken for what is
-- left, it is taken for the whole.
pub record IsOnWay (input : List ℕ) (before : ℕ) (held : List Operation) (rest : List ℕ) : Type 0 where
  pub leads : LeadsTo held rest (union_in [] input)
  pub back : GatheringTakesMemory before held rest → GatheringTakesMemory 0 [] input

-- before the first bundle all of the stream is ahead
pub way_start : (input : List ℕ) → IsOnWay input 0 [] input
way_start input = record { leads = leads_start input; back = λ taken. taken }

module _ (input : List ℕ) (before : ℕ) (held set : List Operation) (rest left : List ℕ) (w : IsOnWay input before held rest)
    (some : 0 < length rest) (read : bundle_at rest ≡ Ok (set, left)) where
  pub way_on : clash held set ≡ None → length left < length rest → IsOnWay input (suc before) (join held set) left
  way_on c s = record {
    leads = leads_on held rest (union_in [] input) w.leads some set left read c s;
    back = λ taken. w.back (After before held rest set left read c taken);
  }

  -- a refused bundle is refused with the clash, or out of memory
  pub refused_bundle : (fault : ReceiveFault) → RefusesNext before held set fault → UnionAnswers input (Err (of_receiving fault))
  refused_bundle receiving.Memory r = w.back (Received before held rest set left read r)
  refused_bundle (receiving.Clash id) r = leads_clash held rest (union_in [] input) w.leads some set left id read r

module _ (input : List ℕ) (before : ℕ) (held : List Operation) (rest : List ℕ) (w : IsOnWay input before held rest)
    (some : 0 < length rest) where
  leads_bad : (f : BundleFault) → bundle_at rest ≡ Err f → union_in [] input ≡ Err (Bundle f)
  leads_bad f e = leads_fault held rest (union_in [] input) w.leads some f e

  -- bytes that are no bundle are refused with the fault, or out of memory
  pub refused_bytes : (fault : BundleFault) → RefusesBundle rest fault → UnionAnswers input (Err (of_bundle fault))
  refused_bytes spelling.Memory r = w.back (Judged before held rest r)
  refused_bytes spelling.Magic r = leads_bad spelling.Magic r
  refused_bytes spelling.Truncated r = leads_bad spelling.Truncated r
  refused_bytes (spelling.NotRising at) r = leads_bad (spelling.NotRising at) r
  refused_bytes (spelling.BadId at) r = leads_bad (spelling.BadId at) r
  refused_bytes (spelling.BadKey at) r = leads_bad (spelling.BadKey at) r
  refused_bytes (spelling.BadReplaced at) r = leads_bad (spelling.BadReplaced at) r
  refused_bytes (spelling.BadTag at) r = leads_bad (spelling.BadTag at) r
  refused_bytes (spelling.NotUtf8 at) r = leads_bad (spelling.NotUtf8 at) r
  refused_bytes (spelling.BadText at) r = leads_bad (spelling.BadText at) r
  refused_bytes (spelling.Unsupported at) r = leads_bad (spelling.Unsupported at) r
