-- A replica whose set stands for another's makes the same operations and replies the same.
use Rattle.std.proofs.Common.{◌≡◌, ℕ, suc, ◌+◌, ◌<◌, nat_le, Bool, true, false, not, cond, ◌&&◌, ◌||◌, List, [], ◌∷◌, ◌++◌, map}
use Rattle.std.proofs.Common.{filter, length, is_none, refl, sym, ap, subst, ◌∙◌, Option, Some, None, option_map, Result, Ok, Err}
use Rattle.std.specs.List.{find}
use Rattle.std.specs.Option.{is_some}
use Rattle.usfm_ref.specs.Books.{same_bytes}
use Rattle.usfm_ref.specs.Keys.{key_cmp, head_of, book_head, same_key}
use Rattle.usfm_ref.specs.Rising.{rising}
use Rattle.usfm_ref.specs.Segments.{segment}
use Rattle.usfm_ref.specs.declared.segment.Segment.{Segment}
use Rattle.verse_cut.specs.declared.fault.BookFault.{BookFault}
use Rattle.verse_cut.specs.Pieces.{PieceParts, pieces_of}
use Rattle.verse_cut.specs.Reading.{book_in, text_fits}
use Rattle.op_core.specs.Names.{name_cmp}
use Rattle.op_core.specs.Ids.{Id}
use Rattle.op_core.specs.Ops.{Operation, is_full}
use Rattle.op_core.specs.Sets.{get, join, clash}
use Rattle.op_core.specs.Shown.{wants_chapter_line, Line, greatest, last, shown, picked_text}
use Rattle.op_core.specs.Lists.{ids_of, is_held}
use Rattle.op_core.specs.NextIds.{is_among, greatest_number}
use Rattle.op_core.specs.Export.{of_book, has_book}
use Rattle.op_core.specs.Thinned.{StandsFor}
use Rattle.op_core.specs.ThinLaws.{AnswersSame}
use Rattle.op_core.proofs.ThinnedSets.Alike.{picks_same, answers_same}
use Rattle.op_core.proofs.ThinnedSets.Bare.{any_same, told_same, ids_same, held_same}
use Rattle.op_core.proofs.Sets.Clashes.{get_id}
use Rattle.op_core.proofs.Sets.Gets.{all_from}
use Rattle.op_core.proofs.IdOrders.NextIds.{beyond}
use Rattle.op_core.proofs.Sets.NoClash.{no_clash}
use Rattle.op_core.proofs.ThinnedSets.StandIns.{full_stands, join_stands}
use Rattle.bundle_codec.specs.Summaries.{summary_of, ranges_of}
use Rattle.replica_state.specs.declared.fault.EditFault.{EditFault}
use Rattle.replica_state.specs.declared.fault.EditFault.TheVariants.{BadSegment, NoBook, NotShown}
use Rattle.replica_state.specs.declared.fault.ImportFault.{ImportFault}
use Rattle.replica_state.specs.declared.fault.ImportFault.TheVariants as import
use Rattle.replica_state.specs.States.{State}
use Rattle.replica_state.specs.Receives.{lacked}
use Rattle.replica_state.specs.Edits.{edit_with, own_id, first_number, next_id, edit_by, edit_fault, unless, edit_op, edit_over_op}
use Rattle.replica_state.specs.Changes.{ChangeParts, edits_from, edits_by, edits_or}
use Rattle.replica_state.specs.Imports.{piece_at, piece_of, has_verse}
use Rattle.replica_state.specs.Imports.{due_keys, due_changes, import_into, import_ops}
use Rattle.replica_state.specs.Steps.{Received, edited, imported, received}
use Rattle.replica_state.specs.World.{edit_made, edits_made}
use Rattle.op_core.proofs.Indexed.Awaited.{held-get}
use Rattle.replica_state.proofs.World.Next.{AreNext}

-- the replica of a name that holds a set
abbrev pub at : List ℕ → List Operation → State
at name held = record { name = name; held = held }

module _ (name : List ℕ) (s u : List Operation) (h : StandsFor s u) where
  answers : AnswersSame s u
  answers = answers_same s u h

  number_same : greatest_number s ≡ greatest_number u
  number_same = answers.number

  -- ---- edits

  fault_same : (g : Segment) (text : List ℕ) → edit_fault s g text ≡ edit_fault u g text
  fault_same g text =
      let has : has_book s g.book ≡ has_book u g.book = any_same s u h.skeletons (of_book g.book) in
      ap (λ b. cond (not (text_fits g.book g.key text)) (Some BadSegment) (cond (b || same_key g.key book_head) None (Some NoBook))) has

  first_same : (count : ℕ) → first_number s count ≡ first_number u count
  first_same count = ap (λ n. cond (nat_le (n + count) 1000000000000000) (Some (suc n)) None) number_same

  next_same : next_id (at name s) ≡ next_id (at name u)
  next_same = ap (option_map (own_id (at name s))) (first_same 1)

  pub edit_same : (g : Segment) (text : List ℕ) → edit_op (at name s) g text ≡ edit_op (at name u) g text
  edit_same g text i = unless (fault_same g text i) (edit_by (next_same i) g (answers.shown_ids g i) text)

  pub edit_over_same : (g : Segment) (text : List ℕ) (given : List Id) →
      edit_over_op (at name s) g text given ≡ edit_over_op (at name u) g text given
  edit_over_same g text given i =
      let shown = answers.shown_ids g i in
      unless (fault_same g text i)
      (unless (option_map NotShown (find (λ id. not (is_among shown id)) given))
      (edit_by (next_same i) g (filter (is_among given) shown) text))

  -- ---- imports

  line_same : (g : Segment) → wants_chapter_line s g ≡ wants_chapter_line u g
  line_same g = by (wants_chapter_line s g) (wants_chapter_line u g) (last (shown s g)) (last (shown u g)) (picks_same s u h g)
    where
      never : (o : Option Operation) → Line g.key.chapter ≡ greatest o → ⊥
      never None e = cc e
      never (Some o) e = cc e

      by : (b d : Bool) (x y : Option Operation) →
          cond b (Line g.key.chapter) (greatest x) ≡ cond d (Line g.key.chapter) (greatest y) → b ≡ d
      by true true x y e = refl
      by true false x y e = absurd (never y e)
      by false true x y e = absurd (never x (sym e))
      by false false x y e = refl

  due_same : (book : List ℕ) (pieces : List PieceParts) → due_keys s book pieces ≡ due_keys u book pieces
  due_same book pieces i =
      let keys = answers.keys book i in
      filter
      (λ key. not (same_bytes (picked_text (picks_same s u h (segment book key) i)) (piece_at pieces key))
      || (line_same (segment book key) i && is_some (piece_of pieces key) && not (has_verse pieces key.chapter)))
      (rising key_cmp (map head_of keys ++ (keys ++ map (λ p. p.key) pieces)))

  changes_same : (book : List ℕ) (pieces : List PieceParts) → due_changes s book pieces ≡ due_changes u book pieces
  changes_same book pieces i =
      map (λ key. record { key = key; text = piece_at pieces key; ids = answers.shown_ids (segment book key) i }) (due_same book pieces i)

  edits_same : (book : List ℕ) (n : ℕ) (changes : List ChangeParts)
      → edits_from n (at name s) book changes ≡ edits_from n (at name u) book changes
  edits_same book n [] = refl
  edits_same book n (c ∷ changes) = λ i.
      edit_with (record { number = n; name = name }) (segment book c.key)
      (filter (is_among c.ids) (answers.shown_ids (segment book c.key) i)) c.text
      ∷ edits_same book (suc n) changes i

  into_same : (pieces : List PieceParts) (r : Result (List ℕ) BookFault)
      → import_into (at name s) pieces r ≡ import_into (at name u) pieces r
  into_same pieces (Err fault) = refl
  into_same pieces (Ok book) =
      ap (edits_or import.NumbersUsedUp (at name s) book) (changes_same book pieces)
      ∙ ap (λ (f : Option ℕ). edits_by import.NumbersUsedUp f (at name s) book changes) (first_same (length changes))
      ∙ by (first_number u (length changes))
    where
      changes : List ChangeParts
      changes = due_changes u book pieces

      by : (f : Option ℕ)
          → edits_by import.NumbersUsedUp f (at name s) book changes ≡ edits_by import.NumbersUsedUp f (at name u) book changes
      by None = refl
      by (Some first) = ap (λ (ops : List Operation). Ok ops) (edits_same book first changes)

  pub import_same : (file : List ℕ) → import_ops (at name s) file ≡ import_ops (at name u) file
  import_same file = into_same (pieces_of file) (book_in file)

  -- ---- what is made is joined

  pub next_stands : (m : List Operation) → AreNext (at name u) m → StandsFor (join s m) (join u m)
  next_stands m next =
      let full = all_from is_full m next.rising (λ o g. (next.each o.id o g).full) in
      (join_stands s u m m h (full_stands m next.rising full)
      (no_clash u m next.rising (λ q x y gx gy. cc (sym gx ∙ new q y gy)))).1
    where
      new : (q : Id) (y : Operation) → get m q ≡ Some y → get u q ≡ None
      new q y g = beyond u q (subst (λ (i : Id). greatest_number u < i.number) (get_id m q y g) (next.each q y g).greater)

  pub edit_stands : (r : Result Operation EditFault) → AreNext (at name u) (edit_made r)
      → StandsFor (edited (at name s) r).after.held (edited (at name u) r).after.held
  edit_stands (Ok o) next = next_stands (o ∷ []) next
  edit_stands (Err fault) next = h

  pub import_stands : (r : Result (List Operation) ImportFault) → AreNext (at name u) (edits_made r)
      → StandsFor (imported (at name s) r).after.held (imported (at name u) r).after.held
  import_stands (Ok ops) next = next_stands ops next
  import_stands (Err fault) next = h

  -- ---- receiving

  mapped : {A B : Type 0} (f : A → B) (xs : List A) → length (map f xs) ≡ length xs
  mapped f [] = refl
  mapped f (x ∷ xs) = ap suc (mapped f xs)

  not_held : (ops : List Operation) (q : Id) → is_none (get ops q) ≡ not (is_held ops q)
  not_held ops q = by (get ops q) ∙ ap not (sym (held-get ops q))
    where
      by : (r : Option Operation) → is_none r ≡ not (is_some r)
      by None = refl
      by (Some o) = refl

  lacked_same : (b v : List Operation) → StandsFor b v → length (lacked s b) ≡ length (lacked u v)
  lacked_same b v k =
      sym (mapped (λ (o : Operation). o.id) (lacked s b))
      ∙ ap (λ (p : Operation → Bool). length (map (λ (o : Operation). o.id) (filter p b)))
      (λ i o. (not_held s o.id ∙ ap not (held_same s u h.skeletons o.id) ∙ sym (not_held u o.id)) i)
      ∙ ap length (told_same b v k.skeletons (λ o. is_none (get u o.id)) (λ o. o.id))
      ∙ mapped (λ (o : Operation). o.id) (lacked u v)

  pub receive_stands : (b v : List Operation) → StandsFor b v → clash u v ≡ None
      → StandsFor (received (at name s) b (clash s b)).after.held (received (at name u) v (clash u v)).after.held
  receive_stands b v k none =
      let j = join_stands s u b v h k none in
      subst (λ c. StandsFor (received (at name s) b c).after.held (received (at name u) v (clash u v)).after.held) (sym j.0)
      (subst (λ c. StandsFor (join s b) (received (at name u) v c).after.held) (sym none) j.1)

  pub receive_same : (b v : List Operation) → StandsFor b v → clash u v ≡ None
      → (received (at name s) b (clash s b)).reply ≡ (received (at name u) v (clash u v)).reply
  receive_same b v k none =
      ap (λ c. (received (at name s) b c).reply) (join_stands s u b v h k none).0
      ∙ ap (λ n. Received (Ok n)) (lacked_same b v k)
      ∙ sym (ap (λ c. (received (at name u) v c).reply) none)

  -- ---- summaries

  names_same : map (λ (o : Operation). o.id.name) s ≡ map (λ (o : Operation). o.id.name) u
  names_same = by s ∙ ap (map (λ (i : Id). i.name)) (ids_same s u h.skeletons) ∙ sym (by u)
    where
      by : (ops : List Operation) → map (λ (o : Operation). o.id.name) ops ≡ map (λ (i : Id). i.name) (ids_of ops)
      by [] = refl
      by (o ∷ ops) = ap (λ xs. o.id.name ∷ xs) (by ops)

  pub summary_same : summary_of s ≡ summary_of u
  summary_same i =
      map (λ name.
      record { name = name; ranges = ranges_of (told_same s u h.skeletons (λ o. same_bytes o.id.name name) (λ o. o.id.number) i) })
      (rising name_cmp (names_same i))

pub edit_reply : (s u : State) (r : Result Operation EditFault) → (edited s r).reply ≡ (edited u r).reply
edit_reply s u (Ok o) = refl
edit_reply s u (Err fault) = refl

pub import_reply : (s u : State) (r : Result (List Operation) ImportFault) → (imported s r).reply ≡ (imported u r).reply
import_reply s u (Ok ops) = refl
import_reply s u (Err fault) = refl
