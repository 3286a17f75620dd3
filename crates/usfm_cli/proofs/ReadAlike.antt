-- Projects and streams that hold the same but for texts left out read alike.
use Rattle.std.proofs.Common.{◌≡◌, ℕ, Bool, true, false, ◌||◌, cond, List, [], ◌∷◌, None, Result}
use Rattle.std.proofs.Common.{Ok, Err, refl, sym, ap, ◌∙◌}
use Rattle.std.specs.List.{AllByRecursion}
use Rattle.op_core.specs.Ids.{Id}
use Rattle.op_core.specs.Ops.{Operation}
use Rattle.op_core.specs.Sets.{rises, clash, join}
use Rattle.op_core.specs.Lists.{ids_of, is_held}
use Rattle.op_core.specs.NextIds.{is_among}
use Rattle.op_core.specs.Export.{of_book, export}
use Rattle.op_core.specs.Thinned.{skeleton, is_legal, IsOf}
use Rattle.op_core.specs.Laws.{Joining, union_by}
use Rattle.op_core.specs.Laws.Joining.{Part, Joined}
use Rattle.op_core.specs.ThinLaws.{AreOf, one_holds as holds_by}
use Rattle.op_core.proofs.ThinnedSets.Bare.{any_same}
use Rattle.op_core.proofs.Sets.Families.{family_joins, unions_alike}
use Rattle.op_core.proofs.Sets.Groupings.{skeleton_exports}
use Rattle.op_core.proofs.Sets.Together.{joined_in}
use Rattle.replica_state.specs.States.{State}
use Rattle.replica_state.proofs.World.Held.{among_is_held}
use Rattle.project_file.specs.Projects.{project_at}
use Rattle.conflict_report.proofs.SameReports.{skeleton_reports}
use Rattle.usfm_cli.specs.Commands.{export_text}
use Rattle.usfm_cli.specs.Streams.{unless_clash, union_in, union_with, AreSpelled, book_from}
use Rattle.usfm_cli.specs.Streams.{book_of_stream}
use Rattle.usfm_cli.specs.StreamLaws.{one_holds, FoldAlike}
use Rattle.usfm_cli.specs.Projects.{executed}
use Rattle.usfm_cli.specs.ExecLaws.{output_of, ReadTheSame}
use Rattle.usfm_cli.specs.declared.command.Command.TheVariants.{Export}
use Rattle.command_faults.specs.declared.fault.Fault.TheVariants.{NoBook}
use Rattle.usfm_cli.proofs.ReadTheSame.{exported, reported}
use Rattle.usfm_cli.proofs.StreamLemmas.{union_joined, gives_union}

-- ---- two projects

-- sets with equal skeletons and equal exports read alike
pub texts_alike : (a b : List Operation) (book : List ℕ) → skeleton a ≡ skeleton b → export a book ≡ export b book →
    export_text a book ≡ export_text b book
texts_alike a b book e same = λ i. cond (any_same a b e (of_book book) i) (Ok (same i)) (Err NoBook)

-- projects with one skeleton that do not clash read the same
pub skeletons_read : (file other : List ℕ) (s t : State) → project_at file ≡ Ok s → project_at other ≡ Ok t →
    (rises s.held ≡ true) × (is_legal s.held ≡ true) → (rises t.held ≡ true) × (is_legal t.held ≡ true)
    → skeleton s.held ≡ skeleton t.held → clash s.held t.held ≡ None → ReadTheSame file other
skeletons_read file other s t loads loaded hs ht e c = record {
  books = λ book.
      exported file s book loads
      ∙ texts_alike s.held t.held book e (skeleton_exports s.held t.held book hs.0 ht.0 hs.1 ht.1 c e)
      ∙ sym (exported other t book loaded);
  report = reported file s loads ∙ ap Ok (skeleton_reports s.held t.held hs.0 ht.0 hs.1 ht.1 c e) ∙ sym (reported other t loaded);
}

-- what a union is said to be twice is the same
one_union : (r : Result (List Operation) Id) (a b : List Operation) → r ≡ Ok a → r ≡ Ok b → a ≡ b
one_union r a b e f = cc (sym e ∙ f)

-- projects of one family with the same ids read the same
pub ids_read : (family : Id → Operation) (file other : List ℕ) (s t : State) → project_at file ≡ Ok s → project_at other ≡ Ok t →
    IsOf family s.held → IsOf family t.held
    → ((id : Id) → is_held s.held id ≡ is_held t.held id) → ReadTheSame file other
ids_read family file other s t loads loaded hs ht ids =
    let alike =
    unions_alike family (Part s.held) (Part t.held) hs ht (λ id. among_is_held s.held id ∙ ids id ∙ sym (among_is_held t.held id)) in
    let e : skeleton s.held ≡ skeleton t.held = ap skeleton (one_union (Ok s.held) s.held alike.a refl alike.one_is) ∙ alike.skeletons
    ∙ sym (ap skeleton (one_union (Ok t.held) t.held alike.b refl alike.other_is)) in
    skeletons_read file other s t loads loaded (hs.rising, hs.legal) (ht.rising, ht.legal) e (family_joins family s.held t.held hs ht).0

-- ---- streams

or_none : (b : Bool) → b || false ≡ b
or_none true = refl
or_none false = refl

or_on : (a b c : Bool) → (a || b) || c ≡ a || (b || c)
or_on true b c = refl
or_on false b c = refl

-- the sets joined one after another hold the ids of each
holds_in : (way : Joining) (sets : List (List Operation)) (id : Id) →
    holds_by (joined_in way sets) id ≡ holds_by way id || one_holds sets id
holds_in way [] id = sym (or_none (holds_by way id))
holds_in way (set ∷ rest) id =
    holds_in (Joined way (Part set)) rest id ∙ or_on (holds_by way id) (is_among (ids_of set) id) (one_holds rest id)
    ∙ ap (λ b. holds_by way id || (b || one_holds rest id)) (among_is_held set id)

module _ (family : Id → Operation) where
  are_of : (way : Joining) (sets : List (List Operation)) → AreOf family way → AllByRecursion (IsOf family) sets →
      AreOf family (joined_in way sets)
  are_of way [] w each = w
  are_of way (set ∷ rest) w each = are_of (Joined way (Part set)) rest (w, each.0) each.1

  none_of : IsOf family []
  none_of = record { rising = refl; legal = refl; each = λ id o e. absurd (cc e) }

  -- sets of one family are never refused
  family_union : (held : List Operation) (sets : List (List Operation)) → IsOf family held → AllByRecursion (IsOf family) sets →
      (union : List Operation) × (union_with held sets ≡ Ok union)
  family_union held [] h each = (held, refl)
  family_union held (set ∷ rest) h each =
      let j = family_joins family held set h each.0 in
      let u = family_union (join held set) rest j.1 each.1 in
      (u.0, ap (λ c. unless_clash c (union_with (join held set) rest)) j.0 ∙ u.1)

  -- the union of a stream's bundles, as what a way of joining makes
  record Union (sets : List (List Operation)) (input : List ℕ) : Type 0 where
    union : List Operation
    is : union_in [] input ≡ Ok union
    by : union_by (joined_in (Part []) sets) ≡ Ok union

  union_of : (sets : List (List Operation)) (input : List ℕ) → AreSpelled sets input → AllByRecursion (IsOf family) sets → Union sets input
  union_of sets input spelled of =
      let u = family_union [] sets none_of of in
      record { union = u.0; is = gives_union sets input spelled ∙ u.1; by = union_joined (Part []) [] sets u.0 refl u.1 }

  pub same_ids_fold : (sets others : List (List Operation)) (input other : List ℕ) → AreSpelled sets input → AreSpelled others other →
      AllByRecursion (IsOf family) sets → AllByRecursion (IsOf family) others
      → ((id : Id) → one_holds sets id ≡ one_holds others id) → FoldAlike input other
  same_ids_fold sets others input other s t of others_of ids =
      let u = union_of sets input s of in
      let v = union_of others other t others_of in
      let alike = unions_alike family (joined_in (Part []) sets) (joined_in (Part []) others) (are_of (Part []) sets none_of of)
      (are_of (Part []) others none_of others_of)
      (λ id. holds_in (Part []) sets id ∙ ids id ∙ sym (holds_in (Part []) others id)) in
      let a : u.union ≡ alike.a = one_union (union_by (joined_in (Part []) sets)) u.union alike.a u.by alike.one_is in
      let b : v.union ≡ alike.b = one_union (union_by (joined_in (Part []) others)) v.union alike.b v.by alike.other_is in
      record {
        union = u.union;
        other_union = v.union;
        union_is = u.is;
        other_is = v.is;
        books = λ book.
            ap (book_from book) u.is
            ∙ texts_alike u.union v.union book (ap skeleton a ∙ alike.skeletons ∙ sym (ap skeleton b)) (ap (λ ops. export ops book) a
            ∙ alike.exports book ∙ sym (ap (λ ops. export ops book) b))
            ∙ sym (ap (book_from book) v.is);
      }

  pub read_as_thinned_stream : (file : List ℕ) (s : State) (sets : List (List Operation)) (input : List ℕ) → project_at file ≡ Ok s →
      IsOf family s.held → AreSpelled sets input → AllByRecursion (IsOf family) sets
      → ((id : Id) → is_held s.held id ≡ one_holds sets id) → (book : List ℕ) →
      output_of (executed file (Export book)) ≡ book_of_stream book input
  read_as_thinned_stream file s sets input loads hs spelled of ids book =
      let u = union_of sets input spelled of in
      let alike = unions_alike family (Part s.held) (joined_in (Part []) sets) hs (are_of (Part []) sets none_of of)
      (λ id. among_is_held s.held id ∙ ids id ∙ sym (holds_in (Part []) sets id)) in
      let a : s.held ≡ alike.a = one_union (Ok s.held) s.held alike.a refl alike.one_is in
      let b : u.union ≡ alike.b = one_union (union_by (joined_in (Part []) sets)) u.union alike.b u.by alike.other_is in
      exported file s book loads
      ∙ texts_alike s.held u.union book (ap skeleton a ∙ alike.skeletons ∙ sym (ap skeleton b)) (ap (λ ops. export ops book) a
      ∙ alike.exports book ∙ sym (ap (λ ops. export ops book) b))
      ∙ sym (ap (book_from book) u.is)
