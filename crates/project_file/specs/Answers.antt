-- What the calls on project files answer.
use Rattle.std.specs.Prelude.{◌≡◌, ◌⊎◌, ℕ, false, List, Option, Some, None, Err, IsOk, IsTrue}
use Rattle.op_core.specs.Names.{is_name}
use Rattle.bundle_codec.specs.declared.fault.BundleFault.TheVariants as bundle
use Rattle.bundle_codec.specs.declared.fault.WholeFault.{WholeFault}
use Rattle.bundle_codec.specs.declared.fault.WholeFault.TheVariants as whole
use Rattle.bundle_codec.specs.Reading.{TakesMemory}
use Rattle.bundle_codec.specs.Joining.{whole_at}
use Rattle.project_file.specs.declared.fault.CreateFault.{CreateFault}
use Rattle.project_file.specs.declared.fault.CreateFault.TheVariants as creating
use Rattle.project_file.specs.declared.fault.LoadFault.{LoadFault}
use Rattle.project_file.specs.declared.fault.LoadFault.TheVariants.{Memory, BadProject, Bundle}
use Rattle.project_file.specs.Projects.{front_at, project_at}

-- no project is made where the text is no name; out of memory is answered for a name alone
abbrev pub RefusesName : List ℕ → CreateFault → Type 0
RefusesName name creating.Memory = IsTrue (is_name name)
RefusesName name creating.BadName = is_name name ≡ false

-- the refusal of a bundle's fault: out of memory as itself, and any other with the fault
abbrev pub refusal_of : WholeFault → LoadFault
refusal_of (whole.Bundle bundle.Memory) = Memory
refusal_of fault = Bundle fault

-- after a name, memory is taken to judge the bundle, where one of its operations is thinned, or to
-- copy it
abbrev pub TakesMemoryAfter : Option (List ℕ × List ℕ) → Type 0
TakesMemoryAfter None = ⊥
TakesMemoryAfter (Some front) = TakesMemory front.1 ⊎ IsOk (whole_at front.1)

-- a refusal is the one that there is; out of memory is answered only where some is taken
abbrev pub RefusesLoad : List ℕ → LoadFault → Type 0
RefusesLoad bytes Memory = TakesMemoryAfter (front_at bytes)
RefusesLoad bytes BadProject = project_at bytes ≡ Err BadProject
RefusesLoad bytes (Bundle fault) = project_at bytes ≡ Err (Bundle fault)
