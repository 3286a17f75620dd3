-- What is answered where a folder may be refused (this project's own rule): the value, or the
-- refusal that there is; or out of memory.
use Rattle.std.specs.Prelude.{◌≡◌, List, [], ◌∷◌, ◌++◌, Option, Result, Ok, Err}
use Rattle.std.specs.Option.{option_to_list}
use Rattle.bundle_codec.specs.declared.fault.BundleFault.TheVariants as bundle
use Rattle.bundle_codec.specs.declared.fault.WholeFault.{WholeFault}
use Rattle.bundle_codec.specs.declared.fault.WholeFault.TheVariants as whole
use Rattle.bundle_codec.specs.declared.fault.JoinFault.{JoinFault}
use Rattle.bundle_codec.specs.declared.fault.JoinFault.TheVariants as joining
use Rattle.project_file.specs.declared.fault.LoadFault.{LoadFault}
use Rattle.project_file.specs.declared.fault.LoadFault.TheVariants as loading
use Rattle.replica_state.specs.declared.fault.ReceiveFault.{ReceiveFault}
use Rattle.replica_state.specs.declared.fault.ReceiveFault.TheVariants as receiving
use Rattle.replica_state.specs.declared.fault.EditFault.{EditFault}
use Rattle.replica_state.specs.declared.fault.EditFault.TheVariants as edit
use Rattle.replica_state.specs.declared.fault.ImportFault.{ImportFault}
use Rattle.replica_state.specs.declared.fault.ImportFault.TheVariants as import
use Rattle.book_folder.specs.declared.refusal.FolderFault.TheVariants as faults
use Rattle.book_folder.specs.declared.refusal.Place.{Place}
use Rattle.book_folder.specs.declared.refusal.Place.TheVariants as places
use Rattle.book_folder.specs.declared.refusal.Refusal.{Refusal}
use Rattle.book_folder.specs.declared.refusal.Refusal.TheVariants.{Memory, Of}

-- a value as it is wanted, or the refusal that is; or out of memory
abbrev pub Answers : {A : Type 0} → Result A Refusal → Result A Refusal → Type 0
Answers wanted (Ok made) = wanted ≡ Ok made
Answers wanted (Err Memory) = Unit {0}
Answers wanted (Err (Of place fault)) = wanted ≡ Err (Of place fault)

-- the same of a value that a contract sees through a view
abbrev pub AnswersBy : {A B : Type 0} → (A → B) → Result B Refusal → Result A Refusal → Type 0
AnswersBy view wanted (Ok made) = wanted ≡ Ok (view made)
AnswersBy view wanted (Err Memory) = Unit {0}
AnswersBy view wanted (Err (Of place fault)) = wanted ≡ Err (Of place fault)

infixl 10 ◌>>=◌
-- what is next, unless what came before was refused
abbrev pub ◌>>=◌ : {A B : Type 0} → Result A Refusal → (A → Result B Refusal) → Result B Refusal
(Ok x) >>= next = next x
(Err refusal) >>= next = Err refusal

-- what each of some items gives, if it gives anything, after what there is; or the first refusal
abbrev pub gathered : {A B : Type 0} → (A → Result (Option B) Refusal) → List B → List A
    → Result (List B) Refusal
gathered give made [] = Ok made
gathered give made (x ∷ later) =
    give x >>= λ y. gathered give (made ++ option_to_list y) later

-- ---- the refusals of the layers below

-- of bytes that are not one whole bundle
abbrev pub of_bundle : Place → WholeFault → Refusal
of_bundle place (whole.Bundle bundle.Memory) = Memory
of_bundle place fault = Of place (faults.Bundle fault)

-- of a bundle that is not received
abbrev pub of_receiving : Place → ReceiveFault → Refusal
of_receiving place receiving.Memory = Memory
of_receiving place (receiving.Clash id) = Of place (faults.Clash id)

-- of two bundles that are not joined
abbrev pub of_joining : Place → JoinFault → Refusal
of_joining place joining.Memory = Memory
of_joining place (joining.Bundle fault) = of_bundle place fault
of_joining place (joining.Clash id) = Of place (faults.Clash id)

-- of an edit that is not made
abbrev pub of_edit : Place → EditFault → Refusal
of_edit place edit.Memory = Memory
of_edit place fault = Of place (faults.Edit fault)

-- of a file that is not imported
abbrev pub of_import : Place → ImportFault → Refusal
of_import place import.Memory = Memory
of_import place (import.BadFile fault) = Of place faults.FileChanged
of_import place import.NumbersUsedUp = Of place (faults.Edit edit.NumbersUsedUp)

-- of a project's file that is none
abbrev pub of_loading : LoadFault → Refusal
of_loading loading.Memory = Memory
of_loading fault = Of places.Project (faults.Project fault)

-- a replica after a step, with what is answered of it; or the refusal; or out of memory
pub record Stepped (A : Type 0) (X : Type 0) : Type 0 where
  pub after : A
  pub made : X

-- a replica after a step, with what is answered of it, by its parts
abbrev pub stepped : {A X : Type 0} → A → X → Stepped A X
stepped after made = record { after = after; made = made }

-- What is answered of a step that leaves a replica so: what is wanted, where the replica is then
-- the one that is wanted; or the refusal that is wanted; or out of memory.
abbrev pub AnswersStep : {A X : Type 0} → Result (Stepped A X) Refusal → A → Result X Refusal
    → Type 0
AnswersStep wanted after (Ok made) = wanted ≡ Ok (record { after = after; made = made })
AnswersStep wanted after (Err Memory) = Unit {0}
AnswersStep wanted after (Err (Of place fault)) = wanted ≡ Err (Of place fault)

-- the same of what a contract sees through a view
abbrev pub AnswersStepBy : {A X Y : Type 0} → (X → Y) → Result (Stepped A Y) Refusal → A
    → Result X Refusal → Type 0
AnswersStepBy view wanted after (Ok made) = wanted ≡ Ok (record { after = after; made = view made })
AnswersStepBy view wanted after (Err Memory) = Unit {0}
AnswersStepBy view wanted after (Err (Of place fault)) = wanted ≡ Err (Of place fault)

-- something after a call that answers nothing else; or the refusal; or out of memory
abbrev pub AnswersAfter : {A : Type 0} → Result A Refusal → A → Result (Unit {0}) Refusal → Type 0
AnswersAfter wanted after (Ok done) = wanted ≡ Ok after
AnswersAfter wanted after (Err Memory) = Unit {0}
AnswersAfter wanted after (Err (Of place fault)) = wanted ≡ Err (Of place fault)
