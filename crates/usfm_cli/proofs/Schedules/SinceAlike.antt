-- An import since a base at a replica whose set stands for another's: the same changes, and the same answer.
use Rattle.std.proofs.Common.{◌≡◌, ℕ, suc, ◌+◌, nat_le, Bool, true, false, not, cond, ◌&&◌, ◌||◌, List, ◌++◌, map, filter, length}
use Rattle.std.proofs.Common.{Option, Some, None, Result, Ok, Err, refl, sym, ap, ◌∙◌}
use Rattle.std.specs.List.{list_any}
use Rattle.std.specs.Option.{is_some}
use Rattle.usfm_ref.specs.Books.{same_bytes}
use Rattle.usfm_ref.specs.Keys.{KeyParts, key_cmp, head_of}
use Rattle.usfm_ref.specs.Rising.{rising}
use Rattle.usfm_ref.specs.Segments.{segment}
use Rattle.usfm_ref.specs.declared.segment.Segment.{Segment}
use Rattle.verse_cut.specs.declared.fault.BookFault.{BookFault}
use Rattle.verse_cut.specs.Pieces.{PieceParts, pieces_of}
use Rattle.verse_cut.specs.Reading.{book_in}
use Rattle.op_core.specs.Ids.{Id, is_none_left}
use Rattle.op_core.specs.Ops.{Operation, own_text}
use Rattle.op_core.specs.Sets.{join, clash}
use Rattle.op_core.specs.Shown.{wants_chapter_line, Line, greatest, last, shown, picked_text}
use Rattle.op_core.specs.Lists.{ids_of}
use Rattle.op_core.specs.NextIds.{is_among}
use Rattle.op_core.specs.Thinned.{StandsFor}
use Rattle.op_core.proofs.ThinnedSets.StandIns.{join_stands}
use Rattle.replica_state.specs.declared.fault.SinceFault.{SinceFault}
use Rattle.replica_state.specs.declared.fault.SinceFault.TheVariants.{NumbersUsedUp}
use Rattle.replica_state.specs.States.{State}
use Rattle.replica_state.specs.Edits.{first_number}
use Rattle.replica_state.specs.Changes.{ChangeParts, edits_by}
use Rattle.replica_state.specs.Imports.{piece_at, piece_of, has_verse, is_due}
use Rattle.replica_state.specs.Since.{stood_ids, seen_ids, since_changes, changed_after, changed_in, imported_since}
use Rattle.replica_state.specs.Steps.{edited_all, with_ops}
use Rattle.replica_state.specs.World.Agreement.{ShowSame}
use Rattle.replica_state.proofs.Changes.{edits_count}
use Rattle.replica_state.proofs.World.Shows.{stands_shows}

-- what several edits answer: how many they are, unless no number is left
abbrev count_or : Option ℕ → List ChangeParts → Result ℕ SinceFault
count_or None changes = Err NumbersUsedUp
count_or (Some first) changes = Ok (length changes)

counted : (before t : State) (book : List ℕ) (changes : List ChangeParts) (n : Option ℕ)
    → (edited_all before t (edits_by NumbersUsedUp n t book changes)).answer ≡ count_or n changes
counted before t book changes None = refl
counted before t book changes (Some first) = ap Ok (edits_count t book first changes)

-- both or neither want a chapter's line
line_same : (b v : List Operation) → ShowSame b v → (g : Segment) → wants_chapter_line b g ≡ wants_chapter_line v g
line_same b v same g =
    by (wants_chapter_line b g) (wants_chapter_line v g) (last (shown b g)) (last (shown v g)) (same.picks g)
  where
    never : (o : Option Operation) → Line g.key.chapter ≡ greatest o → ⊥
    never None e = cc e
    never (Some o) e = cc e

    by : (p q : Bool) (x y : Option Operation) → cond p (Line g.key.chapter) (greatest x) ≡ cond q (Line g.key.chapter) (greatest y) → p ≡ q
    by true true x y e = refl
    by true false x y e = absurd (never y e)
    by false true x y e = absurd (never x (sym e))
    by false false x y e = refl

module _ (name : List ℕ) (s u b v : List Operation) (h : StandsFor s u) (k : StandsFor b v) (none : clash u v ≡ None) where
  joined : (clash s b ≡ None) × StandsFor (join s b) (join u v)
  joined = join_stands s u b v h k none

  own : ShowSame (join s b) (join u v)
  own = stands_shows (join s b) (join u v) joined.1

  base : ShowSame b v
  base = stands_shows b v k

  due_same : (book : List ℕ) (pieces : List PieceParts) (key : KeyParts) → is_due b book pieces key ≡ is_due v book pieces key
  due_same book pieces key i =
      not (same_bytes (picked_text (base.picks (segment book key) i)) (piece_at pieces key))
      || (line_same b v base (segment book key) i && is_some (piece_of pieces key) && not (has_verse pieces key.chapter))

  stood_same : (g : Segment) → stood_ids b g ≡ stood_ids v g
  stood_same g i = ids_of (filter (λ o. same_bytes (own_text o) (base.answers.texts g i)) (base.shown g i))

  seen_same : (g : Segment) → seen_ids (join s b) b g ≡ seen_ids (join u v) v g
  seen_same g i = filter (is_among (stood_same g i)) (own.answers.shown_ids g i)

  pub changes_same : (book : List ℕ) (pieces : List PieceParts)
      → since_changes (join s b) b book pieces ≡ since_changes (join u v) v book pieces
  changes_same book pieces i =
      let keys = own.answers.keys book i in
      map (λ key. record { key = key; text = piece_at pieces key; ids = seen_same (segment book key) i })
      (filter
      (λ key. due_same book pieces key i
      && not (is_none_left (seen_same (segment book key) i)
      && list_any (λ o. same_bytes (own_text o) (piece_at pieces key)) (own.shown (segment book key) i)))
      (rising key_cmp (map head_of keys ++ (keys ++ map (λ p. p.key) pieces))))

  pub answer_same : (file : List ℕ)
      → (imported_since (record { name = name; held = s }) b file).answer
      ≡ (imported_since (record { name = name; held = u }) v file).answer
  answer_same file = by (book_in file)
    where
      one : State
      one = record { name = name; held = s }

      other : State
      other = record { name = name; held = u }

      by : (r : Result (List ℕ) BookFault) → (changed_in one b (pieces_of file) r).answer ≡ (changed_in other v (pieces_of file) r).answer
      by (Err fault) = refl
      by (Ok book) =
          let pieces = pieces_of file in
          let changes = since_changes (join s b) b book pieces in
          let others = since_changes (join u v) v book pieces in
          ap (λ (c : Option Id). (changed_after one b book pieces c).answer) joined.0
          ∙ counted one (with_ops one b) book changes (first_number (join s b) (length changes))
          ∙ (λ i. count_or
          (cond (nat_le (own.answers.number i + length (changes_same book pieces i)) 1000000000000000)
          (Some (suc (own.answers.number i))) None)
          (changes_same book pieces i))
          ∙ sym (counted other (with_ops other v) book others (first_number (join u v) (length others)))
          ∙ sym (ap (λ (c : Option Id). (changed_after other v book pieces c).answer) none)
