-- What files tell of other copies, one after another.
use Rattle.std.proofs.Common.{◌≡◌, ◌≢◌, ◌<◌, ℕ, suc, ◌+◌, Bool, true, false, cond, List, [], ◌∷◌, ◌++◌, length, take, drop}
use Rattle.std.proofs.Common.{Option, None, Some, Result, Ok, Err, IsOk, IsTrue, arith, add-one, refl, sym, ap, subst, ◌∙◌, get_or, drop-cons}
use Rattle.std.proofs.lemmas.List.{take-append-drop, take_more, take_all, length-take-le, length-append}
use Rattle.op_core.specs.Ops.{Operation}
use Rattle.op_core.specs.Thinned.{all_full}
use Rattle.bundle_codec.specs.declared.fault.BundleFault.TheVariants as bundle_faults
use Rattle.bundle_codec.specs.declared.fault.SummaryFault.{SummaryFault}
use Rattle.bundle_codec.specs.declared.fault.SummaryFault.TheVariants as summing
use Rattle.bundle_codec.specs.declared.fault.WholeFault.{WholeFault}
use Rattle.bundle_codec.specs.declared.fault.WholeFault.TheVariants as whole
use Rattle.bundle_codec.specs.Joining.{whole_if, whole_at, RefusesWhole}
use Rattle.bundle_codec.specs.Summaries.{NameRanges, summary_of}
use Rattle.bundle_codec.specs.SummaryReading.{read_summary, ReadFails}
use Rattle.replica_state.specs.States.{State}
use Rattle.project_file.specs.declared.fault.LoadFault.{LoadFault}
use Rattle.project_file.specs.declared.fault.LoadFault.TheVariants as loading
use Rattle.project_file.specs.Answers.{RefusesLoad}
use Rattle.project_file.specs.Projects.{project_at}
use Rattle.project_status.specs.Others.{OtherParts, status}
use Rattle.usfm_cli.specs.Commands.{is_late_in, MayWantMemory}
use Rattle.command_faults.specs.Faults.{of_loading, of_summary, of_whole}
use Rattle.usfm_cli.specs.Turns.{RefusedFor, is_memory, is_of_memory}
use Rattle.usfm_cli.specs.Copies.{FileParts, is_like_summary, summary_or, ids_of_bundle, known_of, other_before, others_of, RefusedAt, FirstTells, TellsAll}
use Rattle.usfm_cli.specs.Copies.{status_beside, status_of, AnswersStatus}
use Rattle.command_faults.specs.declared.fault.Fault.{Fault}
use Rattle.usfm_cli.specs.declared.turns.TurnFault.{TurnFault}
use Rattle.usfm_cli.specs.declared.turns.TurnFault.TheVariants.{Project, Turn}
use Rattle.usfm_cli.proofs.InTurn.{exact_fault}
use Rattle.usfm_cli.proofs.Received.{judging_wants}

-- ---- what one file tells

module _ (bytes : List ℕ) where
  read_as : (b : Bool) → is_like_summary bytes ≡ b
      → known_of bytes ≡ cond b (summary_or (read_summary bytes)) (ids_of_bundle (whole_at bytes))
  read_as b e = ap (λ (x : Bool). cond x (summary_or (read_summary bytes)) (ids_of_bundle (whole_at bytes))) e

  wants : (r : Result (List NameRanges) Fault) → known_of bytes ≡ r → MayWantMemory (is_late_in bytes) r
      → MayWantMemory (is_late_in bytes) (known_of bytes)
  wants r e h = subst (MayWantMemory (is_late_in bytes)) (sym e) h

  module _ (begins : is_like_summary bytes ≡ true) where
    pub summary_told : (known : List NameRanges) → read_summary bytes ≡ Some known → known_of bytes ≡ Ok known
    summary_told known e = read_as true begins ∙ ap summary_or e

    pub summary_refused : (fault : SummaryFault) → ReadFails (read_summary bytes) fault
        → RefusedFor (is_late_in bytes) (known_of bytes) (of_summary fault)
    summary_refused summing.BadSummary r = read_as true begins ∙ ap summary_or r
    summary_refused summing.Memory r = by (read_summary bytes) refl r
      where
        by : (known : Option (List NameRanges)) → read_summary bytes ≡ known → ReadFails known summing.Memory
            → MayWantMemory (is_late_in bytes) (known_of bytes)
        by (Some known) e h = wants (Ok known) (summary_told known e) tt
        by None e h = cc h

  module _ (begins : is_like_summary bytes ≡ false) where
    pub bundle_told : (ops : List Operation) → whole_at bytes ≡ Ok ops → known_of bytes ≡ Ok (summary_of ops)
    bundle_told ops e = read_as false begins ∙ ap ids_of_bundle e

    pub bundle_wants : (ops : List Operation) → whole_at bytes ≡ Ok ops → MayWantMemory (is_late_in bytes) (known_of bytes)
    bundle_wants ops e = wants (Ok (summary_of ops)) (bundle_told ops e) tt

    pub bundle_refused : (fault : WholeFault) → RefusesWhole bytes fault
        → RefusedFor (is_late_in bytes) (known_of bytes) (of_whole fault)
    bundle_refused whole.Trailing r = read_as false begins ∙ ap ids_of_bundle r
    bundle_refused (whole.Bundle bundle_faults.Memory) r =
        wants (ids_of_bundle (whole_at bytes)) (read_as false begins) (judging_wants bytes (ids_of_bundle (whole_at bytes)) r)
    bundle_refused (whole.Bundle bundle_faults.Magic) r = read_as false begins ∙ (λ i. ids_of_bundle (whole_if (r i)))
    bundle_refused (whole.Bundle bundle_faults.Truncated) r = read_as false begins ∙ (λ i. ids_of_bundle (whole_if (r i)))
    bundle_refused (whole.Bundle (bundle_faults.NotRising at)) r = read_as false begins ∙ (λ i. ids_of_bundle (whole_if (r i)))
    bundle_refused (whole.Bundle (bundle_faults.BadId at)) r = read_as false begins ∙ (λ i. ids_of_bundle (whole_if (r i)))
    bundle_refused (whole.Bundle (bundle_faults.BadKey at)) r = read_as false begins ∙ (λ i. ids_of_bundle (whole_if (r i)))
    bundle_refused (whole.Bundle (bundle_faults.BadReplaced at)) r = read_as false begins ∙ (λ i. ids_of_bundle (whole_if (r i)))
    bundle_refused (whole.Bundle (bundle_faults.BadTag at)) r = read_as false begins ∙ (λ i. ids_of_bundle (whole_if (r i)))
    bundle_refused (whole.Bundle (bundle_faults.NotUtf8 at)) r = read_as false begins ∙ (λ i. ids_of_bundle (whole_if (r i)))
    bundle_refused (whole.Bundle (bundle_faults.BadText at)) r = read_as false begins ∙ (λ i. ids_of_bundle (whole_if (r i)))
    bundle_refused (whole.Bundle (bundle_faults.Unsupported at)) r = read_as false begins ∙ (λ i. ids_of_bundle (whole_if (r i)))

-- ---- one file after others

abbrev pub told : FileParts → List NameRanges → OtherParts
told file known = record { file = file.name; known = known }

-- one file more tells its ids
pub told_more : (before : List FileParts) (file : FileParts) (known : List NameRanges) (others : List OtherParts)
    → others_of before ≡ Ok others → known_of file.bytes ≡ Ok known
    → others_of (before ++ file ∷ []) ≡ Ok (others ++ told file known ∷ [])
told_more [] file known others e f =
    let is : [] ≡ others = cc e in
    ap (λ (r : Result (List NameRanges) Fault). other_before file.name r (Ok [])) f
    ∙ ap (λ (os : List OtherParts). Ok (os ++ told file known ∷ [])) is
told_more (first ∷ before) file known others e f =
    by (known_of first.bytes) (others_of before) refl (λ rest g. told_more before file known rest g f) e
  where
    by : (r : Result (List NameRanges) Fault) (rest : Result (List OtherParts) TurnFault) → others_of before ≡ rest
        → ((os : List OtherParts) → others_of before ≡ Ok os → others_of (before ++ file ∷ []) ≡ Ok (os ++ told file known ∷ []))
        → other_before first.name r rest ≡ Ok others
        → other_before first.name r (others_of (before ++ file ∷ [])) ≡ Ok (others ++ told file known ∷ [])
    by (Ok own) (Ok rest) g on h =
        let is : told first own ∷ rest ≡ others = cc h in
        ap (other_before first.name (Ok own)) (on rest g)
        ∙ ap (λ (os : List OtherParts). Ok (os ++ told file known ∷ [])) is
    by (Ok own) (Err (Turn at fault)) g on h = cc h
    by (Ok own) (Err (Project fault)) g on h = cc h
    by (Err fault) rest g on h = cc h

-- the first that is refused, after those that tell their ids
refused_after : (before later : List FileParts) (file : FileParts) (fault : Fault) → IsOk (others_of before)
    → known_of file.bytes ≡ Err fault → others_of (before ++ file ∷ later) ≡ Err (Turn (length before) fault)
refused_after [] later file fault h f = ap (λ (r : Result (List NameRanges) Fault). other_before file.name r (others_of later)) f
refused_after (first ∷ before) later file fault h f =
    by (known_of first.bytes) (others_of before) refl (λ told. refused_after before later file fault told f) h
  where
    by : (r : Result (List NameRanges) Fault) (rest : Result (List OtherParts) TurnFault) → others_of before ≡ rest
        → (IsOk (others_of before) → others_of (before ++ file ∷ later) ≡ Err (Turn (length before) fault))
        → IsOk (other_before first.name r rest)
        → other_before first.name r (others_of (before ++ file ∷ later)) ≡ Err (Turn (suc (length before)) fault)
    by (Ok own) (Ok rest) g on h = ap (other_before first.name (Ok own)) (on (subst IsOk (sym g) refl))
    by (Ok own) (Err (Turn at other)) g on h = cc h
    by (Ok own) (Err (Project other)) g on h = cc h
    by (Err other) rest g on h = cc h

-- a refusal that is not for memory is the first that there is
refused_is : (files : List FileParts) (at : ℕ) (fault : Fault) → is_memory fault ≡ false → RefusedAt files at fault
    → others_of files ≡ Err (Turn at fault)
refused_is files at fault e r =
    ap others_of r.stand
    ∙ refused_after r.before r.later r.file fault r.told (exact_fault (is_late_in r.file.bytes) (known_of r.file.bytes) fault e r.refused)
    ∙ ap (λ (n : ℕ). Err (Turn n fault)) r.place

pub all_refused : (files : List FileParts) (fault : TurnFault) → TellsAll files (Err fault) → is_of_memory fault ≡ false
    → others_of files ≡ Err fault
all_refused files (Turn at fault) h e = refused_is files at fault e h
all_refused files (Project fault) h e = let is : is_memory fault ≡ true = ap is_memory h.0 in cc (sym is ∙ e)

-- where the first ones tell their ids, the first one does
pub first_tells : (n : ℕ) (files : List FileParts) (others : List OtherParts) → others_of (take (suc n) files) ≡ Ok others
    → FirstTells files
first_tells n [] others e = tt
first_tells n (file ∷ later) others e = by (known_of file.bytes) (others_of (take n later)) e
  where
    by : (r : Result (List NameRanges) Fault) (rest : Result (List OtherParts) TurnFault) → other_before file.name r rest ≡ Ok others
        → IsOk r
    by (Ok known) rest e = refl
    by (Err fault) rest e = cc e

pub first_of_all : (files : List FileParts) (others : List OtherParts) → others_of files ≡ Ok others → FirstTells files
first_of_all files others e =
    first_tells (length files) files others (ap others_of (take_all (suc (length files)) files (omega arith)) ∙ e)

-- ---- the walk over the files

-- this many files told this
pub record ToldSoFar (files : List FileParts) (n : ℕ) (others : List OtherParts) : Type 0 where
  pub so_far : others_of (take n files) ≡ Ok others
  pub count : length others ≡ n

module _ (files : List FileParts) (n : ℕ) (others : List OtherParts) (d : ToldSoFar files n others) (file : FileParts)
    (within : n < length files) (is : file ≡ get_or files n file) where
  pub one_told : (known : List NameRanges) → known_of file.bytes ≡ Ok known
      → ToldSoFar files (n + 1) (others ++ told file known ∷ [])
  one_told known e = record {
    so_far =
        ap others_of (take_more files n file within ∙ ap (λ (x : FileParts). take n files ++ x ∷ []) (sym is))
        ∙ told_more (take n files) file known others d.so_far e;
    count = length-append others (told file known ∷ []) ∙ ap (λ k. k + 1) d.count;
  }

  -- no file is kept where the first one is refused
  pub one_kept : (known : List NameRanges) → known_of file.bytes ≡ Ok known → FirstTells files
  one_kept known e =
      let more = one_told known e in
      first_tells n files _ (subst (λ (k : ℕ). others_of (take k files) ≡ Ok (others ++ told file known ∷ [])) (add-one n) more.so_far)

  pub one_refused : (len : ℕ) (fault : Fault) → len ≡ length others
      → RefusedFor (is_late_in file.bytes) (known_of file.bytes) fault → RefusedAt files len fault
  one_refused len fault e why = record {
    before = take n files;
    file = file;
    later = drop (suc n) files;
    stand =
        sym (take-append-drop n files)
        ∙ ap (λ (l : List FileParts). take n files ++ l) (drop-cons files n file within
        ∙ ap (λ (x : FileParts). x ∷ drop (suc n) files) (sym is));
    place = length-take-le n files (omega arith) ∙ sym d.count ∙ sym e;
    told = subst IsOk (sym d.so_far) refl;
    refused = why;
  }

-- ---- how a project stands

pub refused_beside : (bytes : List ℕ) (s : State) (folder : List ℕ) (files : List FileParts) (fault : TurnFault) → project_at bytes ≡ Ok s
    → TellsAll files (Err fault) → is_of_memory fault ≡ false → status_of (project_at bytes) folder files ≡ Err fault
refused_beside bytes s folder files fault loads h e =
    ap (λ (r : Result State LoadFault). status_of r folder files) loads ∙ ap (status_beside s folder) (all_refused files fault h e)

pub stands_beside : (s : State) (folder : List ℕ) (files : List FileParts) (others : List OtherParts) (name : List ℕ)
    (held : List Operation) (text : List ℕ)
    → others_of files ≡ Ok others → name ≡ s.name → held ≡ s.held → text ≡ status name held folder others
    → status_beside s folder (others_of files) ≡ Ok text
stands_beside s folder files others name held text told named holds e =
    ap (status_beside s folder) told ∙ (λ i. Ok (status (sym named i) (sym holds i) folder others)) ∙ ap Ok (sym e)

-- A project that is read is refused as out of memory alone, and not before a file where it has no operation without its text.
pub wants_alone : (bytes : List ℕ) (s : State) (folder : List ℕ) (files : List FileParts) (fault : LoadFault) → project_at bytes ≡ Ok s
    → RefusesLoad bytes fault → (IsTrue (all_full s.held) → fault ≢ loading.Memory)
    → AnswersStatus s folder files (Err (Project (of_loading fault)))
wants_alone bytes s folder files loading.Memory loads refused full = (refl, λ all. absurd (full all refl))
wants_alone bytes s folder files loading.BadProject loads refused full = let e : Ok s ≡ Err loading.BadProject = sym loads ∙ refused in cc e
wants_alone bytes s folder files (loading.Bundle fault) loads refused full =
    let e : Ok s ≡ Err (loading.Bundle fault) = sym loads ∙ refused in cc e

-- what is answered of files is answered of the project
pub files_refused : (s : State) (folder : List ℕ) (files : List FileParts) (fault : TurnFault) → TellsAll files (Err fault)
    → AnswersStatus s folder files (Err fault)
files_refused s folder files (Turn at fault) h = h
files_refused s folder files (Project fault) h = (h.0, λ all. h.1)
