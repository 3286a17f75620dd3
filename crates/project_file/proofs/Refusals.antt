-- What the refusal of a bundle says of the project file that ends with it, and where none is for memory.
use Rattle.std.proofs.Common.{◌≡◌, ◌≢◌, ℕ, true, false, List, [], ◌∷◌, Option, None, Some, Result, Ok, Err, IsOk, sym, ap, subst, inl, inr, refl, ◌∙◌}
use Rattle.std.proofs.lemmas.Bool.{true≢false}
use Rattle.op_core.specs.Ops.{Operation}
use Rattle.op_core.specs.Thinned.{all_full}
use Rattle.bundle_codec.specs.declared.fault.BundleFault.{BundleFault}
use Rattle.bundle_codec.specs.declared.fault.BundleFault.TheVariants as bundle_faults
use Rattle.bundle_codec.specs.declared.fault.WholeFault.{WholeFault}
use Rattle.bundle_codec.specs.declared.fault.WholeFault.TheVariants as whole
use Rattle.bundle_codec.specs.Spelling.{bundle}
use Rattle.bundle_codec.specs.Reading.{◌>>=◌, judge_thinned, bundle_at, TakesMemory}
use Rattle.bundle_codec.specs.Joining.{whole_if, whole_at, RefusesWhole}
use Rattle.replica_state.specs.States.{State, IsState}
use Rattle.project_file.specs.declared.fault.LoadFault.TheVariants.{Memory, Bundle}
use Rattle.project_file.specs.Answers.{refusal_of, TakesMemoryAfter, RefusesLoad}
use Rattle.project_file.specs.Projects.{project, front_at, state_of, after_front, project_at}
use Rattle.project_file.proofs.Fronts.{front_again}

whole_of : (held ops : List Operation) (rest : List ℕ) (judged : Result (Unit {0}) BundleFault)
    → whole_if (judged >>= λ _. Ok (ops, rest)) ≡ Ok held → ops ≡ held
whole_of held ops [] (Ok done) e = cc e
whole_of held ops (b ∷ rest) (Ok done) e = cc e
whole_of held ops rest (Err fault) e = cc e

-- a bundle for which memory is taken has a thinned operation
takes_thinned : (bytes : List ℕ) (held : List Operation) → TakesMemory bytes → whole_at bytes ≡ Ok held → all_full held ≡ false
unfolding bundle_at
takes_thinned bytes held t e =
    let read = ap (λ f. whole_if (f >>= λ fields. judge_thinned fields.0.0 fields.0.1 >>= λ _. Ok (fields.0.1, fields.1))) t.read in
    ap all_full (sym (whole_of held t.ops t.rest (judge_thinned false t.ops) (sym read ∙ e))) ∙ t.thinned

module _ (bytes name rest : List ℕ) (front : front_at bytes ≡ Some (name, rest)) where
  refused_whole : (fault : WholeFault) → whole_at rest ≡ Err fault → project_at bytes ≡ Err (Bundle fault)
  refused_whole fault e = ap after_front front ∙ ap (state_of name) e

  refused_bundle : (fault : BundleFault) → bundle_at rest ≡ Err fault → project_at bytes ≡ Err (Bundle (whole.Bundle fault))
  refused_bundle fault e = refused_whole (whole.Bundle fault) (ap whole_if e)

  -- a refusal of the bundle is one of the file
  pub refuses : (fault : WholeFault) → RefusesWhole rest fault → RefusesLoad bytes (refusal_of fault)
  refuses whole.Trailing r = refused_whole whole.Trailing r
  refuses (whole.Bundle bundle_faults.Memory) r = subst TakesMemoryAfter (sym front) (inl r)
  refuses (whole.Bundle bundle_faults.Magic) r = refused_bundle bundle_faults.Magic r
  refuses (whole.Bundle bundle_faults.Truncated) r = refused_bundle bundle_faults.Truncated r
  refuses (whole.Bundle (bundle_faults.NotRising at)) r = refused_bundle (bundle_faults.NotRising at) r
  refuses (whole.Bundle (bundle_faults.BadId at)) r = refused_bundle (bundle_faults.BadId at) r
  refuses (whole.Bundle (bundle_faults.BadKey at)) r = refused_bundle (bundle_faults.BadKey at) r
  refuses (whole.Bundle (bundle_faults.BadReplaced at)) r = refused_bundle (bundle_faults.BadReplaced at) r
  refuses (whole.Bundle (bundle_faults.BadTag at)) r = refused_bundle (bundle_faults.BadTag at) r
  refuses (whole.Bundle (bundle_faults.NotUtf8 at)) r = refused_bundle (bundle_faults.NotUtf8 at) r
  refuses (whole.Bundle (bundle_faults.BadText at)) r = refused_bundle (bundle_faults.BadText at) r
  refuses (whole.Bundle (bundle_faults.Unsupported at)) r = refused_bundle (bundle_faults.Unsupported at) r

  -- in a file of a replica, the bytes after the front are its bundle
  pub rest_is : (s : State) → IsState s → bytes ≡ project s → rest ≡ bundle s.held
  unfolding project
  rest_is s v e =
      let same : ◌≡◌ {A = List ℕ × List ℕ} (name, rest) (s.name, bundle s.held) =
      cc (sym front ∙ ap front_at e ∙ front_again s.name (bundle s.held) v.name) in
      ap (λ (x : List ℕ × List ℕ). x.1) same

  -- the set of the bundle is what the replica holds
  pub whole_is_held : (s : State) → project_at bytes ≡ Ok s → whole_at rest ≡ Ok s.held
  whole_is_held s e = by (whole_at rest) (sym (ap after_front front) ∙ e)
    where
      by : (w : Result (List Operation) WholeFault) → state_of name w ≡ Ok s → w ≡ Ok s.held
      by (Ok held) e = let same : ◌≡◌ {A = State} (record { name = name; held = held }) s = cc e in ap (λ (r : State). Ok r.held) same
      by (Err fault) e = cc e

  -- to judge a bundle of full operations no memory is taken
  pub full_takes_none : (s : State) → project_at bytes ≡ Ok s → all_full s.held ≡ true → (fault : WholeFault) → RefusesWhole rest fault
      → refusal_of fault ≢ Memory
  full_takes_none s e full whole.Trailing r h = cc h
  full_takes_none s e full (whole.Bundle bundle_faults.Memory) r h =
      true≢false (sym full ∙ takes_thinned rest s.held r (whole_is_held s e))
  full_takes_none s e full (whole.Bundle bundle_faults.Magic) r h = cc h
  full_takes_none s e full (whole.Bundle bundle_faults.Truncated) r h = cc h
  full_takes_none s e full (whole.Bundle (bundle_faults.NotRising at)) r h = cc h
  full_takes_none s e full (whole.Bundle (bundle_faults.BadId at)) r h = cc h
  full_takes_none s e full (whole.Bundle (bundle_faults.BadKey at)) r h = cc h
  full_takes_none s e full (whole.Bundle (bundle_faults.BadReplaced at)) r h = cc h
  full_takes_none s e full (whole.Bundle (bundle_faults.BadTag at)) r h = cc h
  full_takes_none s e full (whole.Bundle (bundle_faults.NotUtf8 at)) r h = cc h
  full_takes_none s e full (whole.Bundle (bundle_faults.BadText at)) r h = cc h
  full_takes_none s e full (whole.Bundle (bundle_faults.Unsupported at)) r h = cc h

-- where the bytes are a project file, memory may be taken to copy its bundle
pub copies : (bytes : List ℕ) (s : State) → project_at bytes ≡ Ok s → TakesMemoryAfter (front_at bytes)
copies bytes s e = by (front_at bytes) e
  where
    is_whole : (name : List ℕ) (w : Result (List Operation) WholeFault) → state_of name w ≡ Ok s → IsOk w
    is_whole name (Ok held) e = refl
    is_whole name (Err fault) e = cc e

    by : (front : Option (List ℕ × List ℕ)) → after_front front ≡ Ok s → TakesMemoryAfter front
    by None e = cc e
    by (Some front) e = inr (is_whole front.0 (whole_at front.1) e)
