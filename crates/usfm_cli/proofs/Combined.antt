-- Bundles by themselves on their way, each joined before the next is read.
use Rattle.std.proofs.Common.{◌≡◌, ℕ, suc, ◌+◌, List, [], ◌∷◌, ◌++◌, length, append_assoc, length-append, Option, Some, None}
use Rattle.std.proofs.Common.{Result, Ok, Err, inl, inr, Vec, ◌≤◌, ◌-◌, take, drop, get_or, IsOk, arith, refl, sym, ap, subst, ◌∙◌}
use Rattle.std.proofs.lemmas.List.{take_all}
use Rattle.std.specs.declared.alloc.Global.{Global}
use Rattle.op_core.specs.Ids.{Id}
use Rattle.op_core.specs.Ops.{Operation}
use Rattle.op_core.specs.Sets.{clash, join}
use Rattle.bundle_codec.specs.declared.fault.BundleFault.TheVariants as spelling
use Rattle.bundle_codec.specs.declared.fault.WholeFault.{WholeFault}
use Rattle.bundle_codec.specs.declared.fault.WholeFault.TheVariants as whole
use Rattle.bundle_codec.specs.Joining.{whole_at, whole_if, RefusesWhole}
use Rattle.replica_state.specs.declared.fault.ReceiveFault.{ReceiveFault}
use Rattle.replica_state.specs.declared.fault.ReceiveFault.TheVariants as receiving
use Rattle.command_faults.specs.Faults.{of_whole, of_receiving}
use Rattle.command_faults.specs.declared.fault.Fault.TheVariants.{Memory, Clash}
use Rattle.usfm_cli.specs.Combining.{bytes_of, with_set, unless_clash, union_of, bundle_or, combined, NextTakesMemory, RefusesBundles}
use Rattle.usfm_cli.specs.Loops.Gathered.{RefusesNext}
use Rattle.usfm_cli.specs.declared.turns.TurnFault.{TurnFault}
use Rattle.usfm_cli.specs.declared.turns.TurnFault.TheVariants.{Turn}

-- ---- one bundle

-- what follows the set of a bundle, after so many that are joined
abbrev pub union_on : ℕ → List Operation → List (List ℕ) → List Operation → Result (List Operation) TurnFault
union_on at held later = λ set. unless_clash at (clash held set) (union_of (suc at) (join held set) later)

pub union_none : (at : ℕ) (held : List Operation) → union_of at held [] ≡ Ok held
unfolding union_of
union_none at held = refl

pub union_some : (at : ℕ) (held : List Operation) (bytes : List ℕ) (later : List (List ℕ))
    → union_of at held (bytes ∷ later) ≡ with_set at (whole_at bytes) (union_on at held later)
unfolding union_of
union_some at held bytes later = refl

module _ (at : ℕ) (held : List Operation) (bytes : List ℕ) (later : List (List ℕ)) where
  -- one that is taken in
  pub one_taken : (set : List Operation) → whole_at bytes ≡ Ok set → clash held set ≡ None
      → union_of at held (bytes ∷ later) ≡ union_of (suc at) (join held set) later
  one_taken set e c =
      union_some at held bytes later ∙ ap (λ r. with_set at r (union_on at held later)) e
      ∙ ap (λ x. unless_clash at x (union_of (suc at) (join held set) later)) c

  pub one_clashes : (set : List Operation) (id : Id) → whole_at bytes ≡ Ok set → clash held set ≡ Some id
      → union_of at held (bytes ∷ later) ≡ Err (Turn at (Clash id))
  one_clashes set id e c =
      union_some at held bytes later ∙ ap (λ r. with_set at r (union_on at held later)) e
      ∙ ap (λ x. unless_clash at x (union_of (suc at) (join held set) later)) c

  pub one_refused : (fault : WholeFault) → whole_at bytes ≡ Err fault
      → union_of at held (bytes ∷ later) ≡ Err (Turn at (of_whole fault))
  one_refused fault e = union_some at held bytes later ∙ ap (λ r. with_set at r (union_on at held later)) e

-- the first of some bundles that have a union
pub record IsTaken (at : ℕ) (held : List Operation) (bytes : List ℕ) (later : List (List ℕ)) (union : List Operation) : Type 0 where
  pub set : List Operation
  pub read : whole_at bytes ≡ Ok set
  pub agrees : clash held set ≡ None
  pub rest : union_of (suc at) (join held set) later ≡ Ok union

module _ (at : ℕ) (held : List Operation) (bytes : List ℕ) (later : List (List ℕ)) (union : List Operation) where
  taken_set : (set : List Operation) (c : Option Id) → whole_at bytes ≡ Ok set → clash held set ≡ c
      → unless_clash at c (union_of (suc at) (join held set) later) ≡ Ok union → IsTaken at held bytes later union
  taken_set set None e c h = record { set = set; read = e; agrees = c; rest = h }
  taken_set set (Some id) e c h = cc h

  taken_read : (r : Result (List Operation) WholeFault) → whole_at bytes ≡ r → with_set at r (union_on at held later) ≡ Ok union
      → IsTaken at held bytes later union
  taken_read (Ok set) e h = taken_set set (clash held set) e refl h
  taken_read (Err fault) e h = cc h

  pub first_taken : union_of at held (bytes ∷ later) ≡ Ok union → IsTaken at held bytes later union
  first_taken h = taken_read (whole_at bytes) refl (sym (union_some at held bytes later) ∙ h)

-- bundles after some that have a union
pub union_after : (before later : List (List ℕ)) (at : ℕ) (held union : List Operation) → union_of at held before ≡ Ok union
    → union_of at held (before ++ later) ≡ union_of (at + length before) union later
union_after [] later at held union h =
    let same : Ok held ≡ Ok union = sym (union_none at held) ∙ h in
    let is : held ≡ union = cc same in
    let n : at ≡ at + 0 = omega arith in
    ap (λ (ops : List Operation). union_of at ops later) is ∙ ap (λ (k : ℕ). union_of k union later) n
union_after (bytes ∷ before) later at held union h =
    let t = first_taken at held bytes before union h in
    let n : suc at + length before ≡ at + suc (length before) = omega arith in
    one_taken at held bytes (before ++ later) t.set t.read t.agrees
    ∙ union_after before later (suc at) (join held t.set) union t.rest
    ∙ ap (λ (k : ℕ). union_of k union later) n

-- ---- the walk over the bundles

-- so many bundles were joined, and these are left
pub record IsSoFar (bundles : List (List ℕ)) (at : ℕ) (held : List Operation) (left : List (List ℕ)) : Type 0 where
  pub before : List (List ℕ)
  pub stand : bundles ≡ before ++ left
  pub place : length before ≡ at
  pub joined : union_of 0 [] before ≡ Ok held

-- before the first one nothing is held
pub far_start : (bundles : List (List ℕ)) → IsSoFar bundles 0 [] bundles
far_start bundles = record { before = []; stand = refl; place = refl; joined = union_none 0 [] }

-- what is left, after those that were joined, leads to what all lead to
pub far_leads : (bundles : List (List ℕ)) (at : ℕ) (held : List Operation) (left : List (List ℕ)) → IsSoFar bundles at held left
    → union_of 0 [] bundles ≡ union_of at held left
far_leads bundles at held left f =
    let n : 0 + length f.before ≡ at = omega (arith, f.place) in
    ap (union_of 0 []) f.stand ∙ union_after f.before left 0 [] held f.joined ∙ ap (λ (k : ℕ). union_of k held left) n

-- after the last one the union is held
pub far_end : (bundles : List (List ℕ)) (at : ℕ) (held : List Operation) (left : List (List ℕ)) → left ≡ []
    → IsSoFar bundles at held left → union_of 0 [] bundles ≡ Ok held
far_end bundles at held left e f =
    far_leads bundles at held left f ∙ ap (union_of at held) e ∙ union_none at held

-- those that are left are the next one and those after it
pub next_of : (left : List (Vec ℕ Global)) (next : Vec ℕ Global) → 1 ≤ length left → next ≡ get_or left 0 next
    → bytes_of left ≡ next.items ∷ bytes_of (take (length left - 1) (drop 1 left))
next_of [] next some is = absurd (omega (arith, some))
next_of (first ∷ later) next some is =
    let n : length (first ∷ later) - 1 ≡ length later = omega arith in
    let all : take (length (first ∷ later) - 1) later ≡ later =
    ap (λ (k : ℕ). take k later) n ∙ take_all (length later) later (omega arith) in
    (λ i. (sym is i).items ∷ bytes_of (sym all i))

module _ (bundles : List (List ℕ)) (at : ℕ) (held : List Operation) (bytes : List ℕ) (later : List (List ℕ))
    (f : IsSoFar bundles at held (bytes ∷ later)) where
  pub far_on : (set : List Operation) → whole_at bytes ≡ Ok set → clash held set ≡ None
      → IsSoFar bundles (at + 1) (join held set) later
  far_on set e c =
      let n : 0 + length f.before ≡ at = omega (arith, f.place) in
      record {
        before = f.before ++ bytes ∷ [];
        stand = f.stand ∙ sym (append_assoc f.before (bytes ∷ []) later);
        place = length-append f.before (bytes ∷ []) ∙ ap (λ (k : ℕ). k + 1) f.place;
        joined =
            union_after f.before (bytes ∷ []) 0 [] held f.joined ∙ ap (λ (k : ℕ). union_of k held (bytes ∷ [])) n
            ∙ one_taken at held bytes [] set e c ∙ union_none (suc at) (join held set);
      }

  -- memory is taken for the next one
  far_wants : NextTakesMemory at held bytes → RefusesBundles bundles (Turn at Memory)
  far_wants takes = record {
    before = f.before;
    bytes = bytes;
    later = later;
    stand = f.stand;
    place = f.place;
    held = held;
    joined = f.joined;
    takes = takes;
  }

  far_bad : (fault : WholeFault) → whole_at bytes ≡ Err fault → combined bundles ≡ Err (Turn at (of_whole fault))
  far_bad fault e =
      ap bundle_or (far_leads bundles at held (bytes ∷ later) f ∙ one_refused at held bytes later fault e)

  -- bytes that are no bundle are refused with the fault, or out of memory
  pub refused_bytes : (fault : WholeFault) → RefusesWhole bytes fault → RefusesBundles bundles (Turn at (of_whole fault))
  refused_bytes whole.Trailing r = far_bad whole.Trailing r
  refused_bytes (whole.Bundle spelling.Memory) r = far_wants (inl r)
  refused_bytes (whole.Bundle spelling.Magic) r = far_bad (whole.Bundle spelling.Magic) (ap whole_if r)
  refused_bytes (whole.Bundle spelling.Truncated) r = far_bad (whole.Bundle spelling.Truncated) (ap whole_if r)
  refused_bytes (whole.Bundle (spelling.NotRising n)) r = far_bad (whole.Bundle (spelling.NotRising n)) (ap whole_if r)
  refused_bytes (whole.Bundle (spelling.BadId n)) r = far_bad (whole.Bundle (spelling.BadId n)) (ap whole_if r)
  refused_bytes (whole.Bundle (spelling.BadKey n)) r = far_bad (whole.Bundle (spelling.BadKey n)) (ap whole_if r)
  refused_bytes (whole.Bundle (spelling.BadReplaced n)) r = far_bad (whole.Bundle (spelling.BadReplaced n)) (ap whole_if r)
  refused_bytes (whole.Bundle (spelling.BadTag n)) r = far_bad (whole.Bundle (spelling.BadTag n)) (ap whole_if r)
  refused_bytes (whole.Bundle (spelling.NotUtf8 n)) r = far_bad (whole.Bundle (spelling.NotUtf8 n)) (ap whole_if r)
  refused_bytes (whole.Bundle (spelling.BadText n)) r = far_bad (whole.Bundle (spelling.BadText n)) (ap whole_if r)
  refused_bytes (whole.Bundle (spelling.Unsupported n)) r = far_bad (whole.Bundle (spelling.Unsupported n)) (ap whole_if r)

  -- a refused bundle is refused with the clash, or out of memory
  pub refused_set : (set : List Operation) (fault : ReceiveFault) → whole_at bytes ≡ Ok set → RefusesNext at held set fault
      → RefusesBundles bundles (Turn at (of_receiving fault))
  refused_set set receiving.Memory e r = far_wants (inr (set, e, r))
  refused_set set (receiving.Clash id) e r =
      ap bundle_or (far_leads bundles at held (bytes ∷ later) f ∙ one_clashes at held bytes later set id e r)

-- what has a union is not refused
pub has_union : {F : Type 0} (r : Result (List Operation) F) (union : List Operation) → r ≡ Ok union → IsOk r
has_union r union e = subst IsOk (sym e) refl
