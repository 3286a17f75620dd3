-- A command that edits one book makes the same by a replica that holds only what the edit is made from as by the project's.
use Rattle.std.proofs.Common.{◌≡◌, ℕ, Bool, true, false, cond, List, [], ◌∷◌, Option, Some, None, Result, Ok, Err, refl, sym, ap, subst, ◌∙◌}
use Rattle.std.specs.List.{find}
use Rattle.std.specs.Option.{option_map}
use Rattle.std.specs.Str.{is_utf8}
use Rattle.std.specs.Str.Lossy.{utf8_valid_len}
use Rattle.usfm_ref.specs.Segments.{segment}
use Rattle.usfm_ref.specs.declared.segment.Segment.{Segment}
use Rattle.verse_cut.specs.Reading.{book_in}
use Rattle.verse_cut.specs.declared.fault.BookFault.{BookFault}
use Rattle.op_core.specs.Ids.{Id, same_id}
use Rattle.op_core.specs.OneBook.{is_for_edit}
use Rattle.op_core.specs.Ops.{Operation, own_text}
use Rattle.op_core.specs.Sets.{clash}
use Rattle.op_core.proofs.Exports.ForEdit.{for_edit_of_book, for_edit_greatest}
use Rattle.op_core.proofs.Sets.Parts.{join_part_more, no_clash_part_more}
use Rattle.bundle_codec.specs.declared.fault.JoinFault.{JoinFault}
use Rattle.bundle_codec.specs.declared.fault.JoinFault.TheVariants as joining
use Rattle.bundle_codec.specs.Joining.{RefusesUnion}
use Rattle.replica_state.specs.Edits.{edit_op, edit_over_op}
use Rattle.replica_state.specs.Imports.{import_ops}
use Rattle.replica_state.specs.OneBook.{for_edit}
use Rattle.replica_state.specs.States.{State, IsState}
use Rattle.replica_state.specs.Steps.{edited, imported, with_ops}
use Rattle.replica_state.specs.declared.fault.EditFault.{EditFault}
use Rattle.replica_state.specs.declared.fault.ImportFault.{ImportFault}
use Rattle.replica_state.proofs.ForEdit.{AreNew, edit_alike, edit_over_alike, import_alike, shows_alike, edit_new, edit_over_new, import_new}
use Rattle.project_file.specs.Projects.{project, project_at}
use Rattle.project_file.proofs.Files.{read_once}
use Rattle.usfm_cli.specs.Commands.{Done, MayWantMemory, done, edit_by_text, only_tells, outcome, text_shown, with_text}
use Rattle.command_faults.specs.Faults.{of_joining}
use Rattle.usfm_cli.specs.Projects.{executed, of_loaded, state_or, written}
use Rattle.usfm_cli.specs.Seen.{ReadInPlace, book_if, book_of_file, edited_book}
use Rattle.usfm_cli.specs.declared.command.Command.{Command}
use Rattle.usfm_cli.specs.declared.command.Command.TheVariants.{Import, ImportSince}
use Rattle.usfm_cli.specs.declared.command.Command.TheVariants.{Edit, EditOver, EditWith, Receive}
use Rattle.usfm_cli.specs.declared.command.Command.TheVariants.{Thin, Shown, Send, Export, Summary}
use Rattle.usfm_cli.specs.declared.command.Command.TheVariants.{Delta, Report, Check, Find, Words}
use Rattle.command_faults.specs.declared.fault.Fault.{Fault}
use Rattle.command_faults.specs.declared.fault.Fault.TheVariants.{Memory, NotText}

-- ---- the book of a file

-- a file whose book can be told begins with it
begins_with : (file book : List ℕ) → book_of_file file ≡ Some book → book_in file ≡ Ok book
begins_with file book = by (is_utf8 file)
  where
    read : (r : Result (List ℕ) BookFault) → book_if r ≡ Some book → r ≡ Ok book
    read (Ok other) e = let same : other ≡ book = cc e in ap Ok same
    read (Err fault) e = cc e

    by : (b : Bool) → cond b (book_if (book_in file)) None ≡ Some book → book_in file ≡ Ok book
    by true e = read (book_in file) e
    by false e = cc e

-- ---- what is made

module _ (s : State) (book : List ℕ) where
  abbrev seen : State
  seen = for_edit s book

  -- What a command makes of what it sees is what it makes of all: new operations, which either takes in; or the same refusal.
  abbrev pub Alike : Result Done Fault → Result Done Fault → Type 0
  Alike (Ok d) whole =
      (new : List Operation) × AreNew s.held new × (d.after ≡ with_ops seen new)
      × (whole ≡ Ok (record { after = with_ops s new; output = d.output }))
  Alike (Err fault) whole = whole ≡ Err fault

  edited_alike : (r : Result Operation EditFault) → ((o : Operation) → r ≡ Ok o → AreNew s.held (o ∷ []))
      → Alike (done (edited seen r)) (done (edited s r))
  edited_alike (Ok o) new = (o ∷ [], new o refl, refl, refl)
  edited_alike (Err fault) new = refl

  imported_alike : (r : Result (List Operation) ImportFault) → ((ops : List Operation) → r ≡ Ok ops → AreNew s.held ops)
      → Alike (done (imported seen r)) (done (imported s r))
  imported_alike (Ok ops) new = (ops, new ops refl, refl, refl)
  imported_alike (Err fault) new = refl

  text_alike : (text : List ℕ) (r whole : Result Done Fault) → Alike r whole → Alike (with_text text r) (with_text text whole)
  text_alike text r whole h = by (is_utf8 text)
    where
      by : (b : Bool) → Alike (cond b r (Err (NotText (utf8_valid_len text)))) (cond b whole (Err (NotText (utf8_valid_len text))))
      by true = h
      by false = refl

  module _ (g : Segment) (of : g.book ≡ book) where
    edit : (text : List ℕ) → Alike (done (edited seen (edit_op seen g text))) (done (edited s (edit_op s g text)))
    edit text =
        subst (λ r. Alike (done (edited seen r)) (done (edited s (edit_op s g text))))
        (sym (edit_alike seen s book refl (for_edit_of_book s.held book) (for_edit_greatest s.held book) g of text))
        (edited_alike (edit_op s g text) (edit_new s g text))

    edit_over : (text : List ℕ) (given : List Id)
        → Alike (done (edited seen (edit_over_op seen g text given))) (done (edited s (edit_over_op s g text given)))
    edit_over text given =
        subst (λ r. Alike (done (edited seen r)) (done (edited s (edit_over_op s g text given))))
        (sym (edit_over_alike seen s book refl (for_edit_of_book s.held book) (for_edit_greatest s.held book) g of text given))
        (edited_alike (edit_over_op s g text given) (edit_over_new s g text given))

    shown_text : (id : Id) → text_shown seen.held g id ≡ text_shown s.held g id
    shown_text id =
        ap (λ (ops : List Operation). option_map (λ o. own_text o) (find (λ o. same_id o.id id) ops))
        (shows_alike seen s book refl (for_edit_of_book s.held book) (for_edit_greatest s.held book) g of)

    edit_with : (id : Id) (given : List Id) → Alike (edit_by_text seen g id given (text_shown seen.held g id))
        (edit_by_text s g id given (text_shown s.held g id))
    edit_with id given =
        subst (λ text. Alike (edit_by_text seen g id given text) (edit_by_text s g id given (text_shown s.held g id)))
        (sym (shown_text id)) (by (text_shown s.held g id))
      where
        by : (text : Option (List ℕ)) → Alike (edit_by_text seen g id given text) (edit_by_text s g id given text)
        by None = refl
        by (Some text) = edit_over text given

  import : (file : List ℕ) → book_in file ≡ Ok book
      → Alike (done (imported seen (import_ops seen file))) (done (imported s (import_ops s file)))
  import file begins =
      subst (λ r. Alike (done (imported seen r)) (done (imported s (import_ops s file))))
      (sym (import_alike seen s book refl (for_edit_of_book s.held book) (for_edit_greatest s.held book) file begins))
      (imported_alike (import_ops s file) (import_new s file))

  alike : (command : Command) → edited_book command ≡ Some book → Alike (outcome seen command) (outcome s command)
  alike (Import file) e = text_alike file.now _ _ (import file.now (begins_with file.now book e))
  alike (ImportSince file base) e = cc e
  alike (Edit own key text) e = text_alike text.now _ _ (edit (segment own key) (cc e) text.now)
  alike (EditOver own key text ids) e = text_alike text.now _ _ (edit_over (segment own key) (cc e) text.now ids.now)
  alike (EditWith own key of ids) e = edit_with (segment own key) (cc e) of ids.now
  alike (Receive bytes) e = cc e
  alike Thin e = cc e
  alike (Shown own key) e = cc e
  alike Send e = cc e
  alike (Export own) e = cc e
  alike Summary e = cc e
  alike (Delta summary) e = cc e
  alike Report e = cc e
  alike (Check own sheet) e = cc e
  alike (Find own sheet needle) e = cc e
  alike (Words own sheet) e = cc e

  module _ (valid : IsState s) (new : List Operation) (are : AreNew s.held new) where
    -- the union with what was seen and what is new is that with what is new
    union_is : with_ops s (with_ops seen new).held ≡ with_ops s new
    union_is = λ i. record { name = s.name; held = join_part_more (is_for_edit s.held book) s.held new valid.set.rising are.rising i }

    union_agrees : clash s.held (with_ops seen new).held ≡ None
    union_agrees = no_clash_part_more (is_for_edit s.held book) s.held new valid.set.rising are.rising are.apart

-- a command that edits a book copies something, sees all of a project, and changes it
pub edits_by_copy : (command : Command) (book : List ℕ) (s : State) → edited_book command ≡ Some book → ReadInPlace command s
    → s.held ≡ []
edits_by_copy (Import file) book s e place = place.nothing_copied refl
edits_by_copy (ImportSince file base) book s e place = cc e
edits_by_copy (Edit own key text) book s e place = place.nothing_copied refl
edits_by_copy (EditOver own key text ids) book s e place = place.nothing_copied refl
edits_by_copy (EditWith own key of ids) book s e place = place.nothing_copied refl
edits_by_copy (Receive bytes) book s e place = cc e
edits_by_copy Thin book s e place = cc e
edits_by_copy (Shown own key) book s e place = cc e
edits_by_copy Send book s e place = cc e
edits_by_copy (Export own) book s e place = cc e
edits_by_copy Summary book s e place = cc e
edits_by_copy (Delta summary) book s e place = cc e
edits_by_copy Report book s e place = cc e
edits_by_copy (Check own sheet) book s e place = cc e
edits_by_copy (Find own sheet needle) book s e place = cc e
edits_by_copy (Words own sheet) book s e place = cc e

pub edits_change : (command : Command) (book : List ℕ) → edited_book command ≡ Some book → only_tells command ≡ false
edits_change (Import file) book e = refl
edits_change (ImportSince file base) book e = refl
edits_change (Edit own key text) book e = refl
edits_change (EditOver own key text ids) book e = refl
edits_change (EditWith own key of ids) book e = refl
edits_change (Receive bytes) book e = refl
edits_change Thin book e = refl
edits_change (Shown own key) book e = cc e
edits_change Send book e = cc e
edits_change (Export own) book e = cc e
edits_change Summary book e = cc e
edits_change (Delta summary) book e = cc e
edits_change Report book e = cc e
edits_change (Check own sheet) book e = cc e
edits_change (Find own sheet needle) book e = cc e
edits_change (Words own sheet) book e = cc e

-- ---- the file after it

module _ (bytes : List ℕ) (given : State) (loads : project_at bytes ≡ Ok given) (valid : IsState given) (book : List ℕ)
    (command : Command) (edits : edited_book command ≡ Some book) (replica : State) (is : replica ≡ for_edit given book) where
  same : Alike given book (outcome replica command) (outcome given command)
  same = subst (λ (t : State). Alike given book (outcome t command) (outcome given command)) (sym is) (alike given book command edits)

  executed_is : executed bytes command ≡ written (outcome given command)
  executed_is = ap (λ r. of_loaded r command) loads

  -- a refusal is that of the command on all
  pub edit_refused : (fault : Fault) → outcome replica command ≡ Err fault → executed bytes command ≡ Err fault
  edit_refused fault e =
      let all : outcome given command ≡ Err fault = subst (λ r. Alike given book r (outcome given command)) e same in
      executed_is ∙ ap written all

  -- where out of memory may be answered of what is seen, it may be of all
  pub edit_wants : (late : Fault → Bool) (s : State) → project_at bytes ≡ Ok s → MayWantMemory late (outcome replica command)
      → MayWantMemory late (outcome s command)
  edit_wants late s read h =
      subst (λ (t : State). MayWantMemory late (outcome t command)) (read_once bytes given s loads read)
      (by (outcome replica command) same h)
    where
      by : (r : Result Done Fault) → Alike given book r (outcome given command) → MayWantMemory late r
          → MayWantMemory late (outcome given command)
      by (Ok d) a h = subst (λ q. MayWantMemory late q) (sym a.3) tt
      by (Err fault) a h = subst (λ q. MayWantMemory late q) (sym a) h

  module _ (after : State) (output : List ℕ) (e : outcome replica command ≡ Ok (record { after = after; output = output })) where
    made : Alike given book (Ok (record { after = after; output = output })) (outcome given command)
    made = subst (λ r. Alike given book r (outcome given command)) e same

    abbrev new : List Operation
    new = made.0

    whole : outcome given command ≡ Ok (record { after = with_ops given new; output = output })
    whole = made.3

    union : with_ops given after.held ≡ with_ops given new
    union = ap (λ (t : State). with_ops given t.held) made.2 ∙ union_is given book valid new made.1

    agrees : clash given.held after.held ≡ None
    agrees = ap (λ (t : State). clash given.held t.held) made.2 ∙ union_agrees given book valid new made.1

    -- the command gives the file of the union
    pub edit_made : (file : List ℕ) → file ≡ project (with_ops given after.held)
        → executed bytes command ≡ Ok (record { project = file; output = output })
    edit_made file spelled =
        executed_is ∙ ap written whole ∙ (λ i. Ok (record { project = sym (spelled ∙ ap project union) i; output = output }))

    -- which is read as the replica after the command
    pub edit_state : (file : List ℕ) → project_at file ≡ Ok (with_ops given after.held) → (s : State) → project_at bytes ≡ Ok s
        → project_at file ≡ Ok (state_or s (outcome s command))
    edit_state file again s read =
        again ∙ ap Ok (union ∙ sym (ap (state_or given) whole))
        ∙ ap (λ (t : State). Ok (state_or t (outcome t command))) (read_once bytes given s loads read)

    -- and is refused for nothing but memory
    pub edit_joins : (fault : JoinFault) → RefusesUnion (clash given.held after.held) fault → of_joining fault ≡ Memory
    edit_joins joining.Memory r = refl
    edit_joins (joining.Bundle fault) r = absurd r
    edit_joins (joining.Clash id) r = let none : None ≡ Some id = sym agrees ∙ r in cc none

    -- which may be wanted where nothing is refused
    pub edit_room : (late : Fault → Bool) (s : State) → project_at bytes ≡ Ok s → MayWantMemory late (outcome s command)
    edit_room late s read =
        subst (λ (t : State). MayWantMemory late (outcome t command)) (read_once bytes given s loads read)
        (subst (λ q. MayWantMemory late q) (sym whole) tt)
