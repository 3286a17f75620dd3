-- A project on its way by receivings and edits over given ids, with a base whose books it has.
use Rattle.std.proofs.Common.{◌≡◌, ◌<◌, ℕ, true, List, [], ◌∷◌, map, length, Some, None, refl, sym, arith}
use Rattle.std.specs.List.{AllByRecursion}
use Rattle.std.specs.Prelude.{IsTrue}
use Rattle.std.proofs.lemmas.Bool.{and_from}
use Rattle.usfm_ref.specs.Books.{is_book_code}
use Rattle.usfm_ref.specs.Keys.{key_cmp, is_key}
use Rattle.usfm_ref.specs.Rising.{rises_by}
use Rattle.op_core.specs.NextIds.{greatest_number}
use Rattle.op_core.specs.Ops.{Operation}
use Rattle.op_core.specs.Sets.{IsOpSet, clash}
use Rattle.op_core.specs.Thinned.{is_legal}
use Rattle.op_core.proofs.Sets.Legal.{join_legal}
use Rattle.op_core.proofs.Sets.Union.{IsOpSet-join, agree_from_no_clash}
use Rattle.replica_state.specs.Changes.{ChangeParts, edits_from, first_fault}
use Rattle.replica_state.specs.ChangeLaws.{begins, edits_over}
use Rattle.replica_state.specs.Edits.{first_number}
use Rattle.replica_state.specs.Runs.{NoneRefused, after_all}
use Rattle.replica_state.specs.States.{State, IsState}
use Rattle.replica_state.specs.Steps.{with_ops}
use Rattle.replica_state.proofs.ChangeRuns.{all_fit, run}
use Rattle.replica_state.proofs.Changes.{IsFirst, edits_legal, edits_rise, is_first}
use Rattle.book_folder.specs.FolderLaws.{IsReceivingOrEdit, Reached}
use Rattle.book_folder.proofs.Schedules.EditRanges.{IsRight, edits_are}
use Rattle.book_folder.proofs.Schedules.Reached.{HasBooks, goes_on, left_books, receives, stays}

-- A replica that was reached, and that has each book of a base.
pub record Along (s : State) (base : List Operation) (t : State) : Type 0 where
  pub reached : Reached s t
  pub state : IsState t
  pub books : HasBooks base t.held

-- it is reached from itself
pub along_itself : (s : State) (base : List Operation) → IsState s → HasBooks base s.held → Along s base s
along_itself s base state books = record { reached = stays s; state = state; books = books }

-- a set is received
pub along_set : (s : State) (base : List Operation) (t : State) (ops : List Operation) → Along s base t → IsOpSet ops
    → IsTrue (is_legal ops) → clash t.held ops ≡ None → Along s base (with_ops t ops)
along_set s base t ops a set legal none = record {
  reached = goes_on s t (with_ops t ops) a.reached (receives t ops set legal none);
  state = record {
    name = a.state.name;
    set = IsOpSet-join t.held ops a.state.set set;
    legal = join_legal t.held ops a.state.set.rising set.rising a.state.legal legal (agree_from_no_clash t.held ops none);
  };
  books = λ book h. left_books t.held ops book (a.books book h);
}

all_edits : (book : List ℕ) (changes : List ChangeParts) → is_book_code book ≡ true → AllByRecursion IsRight changes
    → AllByRecursion IsReceivingOrEdit (edits_over book changes)
all_edits book [] code right = tt
all_edits book (c ∷ changes) code right = (
  (and_from (is_book_code book) (is_key c.key.chapter c.key.place) code right.0.key, right.0.text),
  all_edits book changes code right.1,
)

-- the edits of changes of rising keys are made
pub along_edits : (s : State) (base : List Operation) (t : State) (book : List ℕ) (changes : List ChangeParts) (first : ℕ) → Along s base t
    → is_book_code book ≡ true → AllByRecursion IsRight changes → first_number t.held (length changes) ≡ Some first
    → first_fault t.held book changes ≡ None → rises_by key_cmp (λ k. k) (map (λ c. c.key) changes) ≡ true
    → begins t.held book changes ≡ true → Along s base (with_ops t (edits_from first t book changes))
along_edits s base t book changes first a code right numbered none rise begun = record {
  reached = goes_on s t (with_ops t ops) a.reached (record {
    commands = edits_over book changes;
    each = all_edits book changes code right;
    taken = all.0;
    after = all.1;
  });
  state = record {
    name = a.state.name;
    set = IsOpSet-join t.held ops a.state.set (record {
      rising = edits_rise t book first changes;
      each = edits_are t a.state book code first changes above (omega (arith, given.is, given.room)) right
          (all_fit t.held book changes none);
    });
    legal = edits_legal t book first changes a.state above;
  };
  books = λ b h. left_books t.held ops b (a.books b h);
}
  where
    ops : List Operation
    ops = edits_from first t book changes

    given : IsFirst t.held (length changes) first
    given = is_first t.held (length changes) first (sym numbered)

    above : greatest_number t.held < first
    above = omega (arith, given.is)

    all : NoneRefused t (edits_over book changes) × (after_all t (edits_over book changes) ≡ with_ops t ops)
    all = run t book changes t first refl a.state.set.rising given.is given.room rise begun none (λ q h. refl)

-- the base is another one whose books are there
pub along_with : (s : State) (base other : List Operation) (t : State) → Along s base t → HasBooks other t.held → Along s other t
along_with s base other t a books = record { reached = a.reached; state = a.state; books = books }
