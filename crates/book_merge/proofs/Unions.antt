-- What a union of BASE and two sides shows.
use Rattle.std.proofs.Common.{◌≡◌, ℕ, ◌<◌, nat_le, Bool, true, false, not, cond, ◌&&◌, ◌||◌, List, [], ◌∷◌, ◌++◌, map, filter}
use Rattle.std.proofs.Common.{refl, sym, ap, subst, ◌∙◌, inl, inr}
use Rattle.std.specs.List.{list_any}
use Rattle.std.specs.Option.{is_some}
use Rattle.std.proofs.lemmas.Bool.{and_parts, and_from, or_left, false≢true, false_from_ne_true}
use Rattle.usfm_ref.specs.Books.{same_bytes}
use Rattle.usfm_ref.specs.Keys.{KeyParts, is_head}
use Rattle.usfm_ref.specs.Segments.{segment}
use Rattle.usfm_ref.specs.declared.segment.Segment.{Segment}
use Rattle.usfm_ref.proofs.Orders.{same_bytes-is, same_bytes-refl}
use Rattle.verse_cut.specs.Pieces.{PieceParts, pieces_of}
use Rattle.verse_cut.specs.Reading.{is_empty}
use Rattle.op_core.specs.Ids.{Id, is_none_left}
use Rattle.op_core.specs.Ops.{Operation, own_text}
use Rattle.op_core.specs.Sets.{IsOpSet}
use Rattle.op_core.specs.Shown.{shown, is_shown, last, text_if_any, text_of, has_verse_text, wants_chapter_line}
use Rattle.op_core.specs.CutsBack.{picked_at}
use Rattle.op_core.specs.Lists.{ids_of, shown_ids}
use Rattle.op_core.specs.NextIds.{greatest_number, next_number, is_among, given_ids}
use Rattle.op_core.proofs.Exports.Exported.{picked_line, picked_own}
use Rattle.op_core.proofs.FilteredLists.{filter_all}
use Rattle.op_core.proofs.IdOrders.NextIds.{beyond}
use Rattle.replica_state.specs.States.{State, IsState}
use Rattle.replica_state.specs.Changes.{edits_from}
use Rattle.replica_state.specs.Imports.{piece_of, piece_at, has_verse, loses_line, is_due, walked_keys, due_keys}
use Rattle.replica_state.specs.Since.{has_greatest_text, stood_ids, seen_ids, shows_text, is_changed, changed_keys, since_changes}
use Rattle.replica_state.proofs.Appended.{is_there}
use Rattle.replica_state.proofs.ChangeRuns.{all_given}
use Rattle.replica_state.proofs.DueKeys.{due_rise, not_due}
use Rattle.replica_state.proofs.ImportedTexts as imports
use Rattle.replica_state.proofs.ImportedTexts.{empty_is}
use Rattle.replica_state.proofs.SinceRuns.{changed_rise}
use Rattle.replica_state.proofs.SinceTwice.{not_changed}
use Rattle.replica_state.proofs.World.Held.{among_is_held, filter_held, not_held}
use Rattle.book_merge.specs.Merges.{theirs_begun}
use Rattle.book_merge.specs.Laws.{IsUnionOf, ShowsAlone, UnionsShowBoth, UnchangedStays, text_at}
use Rattle.book_merge.proofs.ShownAfter as changed
use Rattle.book_merge.proofs.ShownAfter.{stays}
use Rattle.book_merge.proofs.Taken.{Made}
use Rattle.book_merge.proofs.FewShown.{OneAtMost, named_all, alike, none_doubled, and_false, differs, none_passes}
use Rattle.book_merge.proofs.UnionParts as made_of

module _ (base ours theirs book : List ℕ) (s : State) (u : IsUnionOf base ours theirs book s) where
  abbrev pub b : State
  b = made_of.b base ours theirs book s u

  abbrev pub t : State
  t = made_of.t base ours theirs book s u

  abbrev pub from : State
  from = made_of.from base ours theirs book s u

  abbrev pub v : State
  v = made_of.v base ours theirs book s u

  abbrev pub tp : List PieceParts
  tp = pieces_of theirs

  abbrev pub op : List PieceParts
  op = pieces_of ours

  abbrev none_yet : IsState theirs_begun
  none_yet = made_of.none_yet base ours theirs book s u

  b_made : Made theirs_begun base book b
  b_made = made_of.b_made base ours theirs book s u

  b_set : IsOpSet b.held
  b_set = made_of.b_set base ours theirs book s u

  t_made : Made b theirs book t
  t_made = made_of.t_made base ours theirs book s u

  v_is : v.held ≡ t.held
  v_is = made_of.v_is base ours theirs book s u

  v_set : IsOpSet v.held
  v_set = made_of.v_set base ours theirs book s u

  s_is : s.held ≡ v.held ++ edits_from (next_number v.held) v book (since_changes v.held b.held book op)
  s_is = made_of.s_is base ours theirs book s u

  module _ (q : KeyParts) where
    abbrev pub g : Segment
    g = segment book q

    abbrev pub was : List ℕ
    was = text_at base q

    abbrev pub mine : List ℕ
    mine = text_at ours q

    abbrev pub other : List ℕ
    other = text_at theirs q

    -- ---- BASE

    abbrev b_keys : List KeyParts
    b_keys = due_keys [] book (pieces_of base)

    abbrev ids_at_first : KeyParts → List Id
    ids_at_first k = shown_ids [] (segment book k)

    abbrev b_now : List Operation
    b_now = changed.now theirs_begun none_yet.set book (piece_at (pieces_of base)) ids_at_first q b_keys

    picked_base : picked_at b.held book q ≡ was
    picked_base =
        ap (λ (ops : List Operation). picked_at ops book q) b_made.held
        ∙ imports.picked_is_piece theirs_begun none_yet book base u.base_book q

    -- it shows one text at most, and its text is that of the file
    record Base : Type 0 where
      one : OneAtMost (shown b.held g)
      text : text_of b.held g ≡ was
      alone : ShowsAlone was (map (λ o. own_text o) (shown b.held g))

    of_base : Base
    of_base = by (is_there q b_keys) refl
      where
        shows : (ops : List Operation) → b.held ≡ ops → (x : List Operation) → shown ops g ≡ x → shown b.held g ≡ x
        shows ops e x h = ap (λ (o : List Operation). shown o g) e ∙ h

        none_picked : picked_at [] book q ≡ []
        none_picked = picked_own [] g (and_false ((is_head q.place && nat_le 1 q.chapter) && is_empty (text_of [] g)))

        empty : is_due [] book (pieces_of base) q ≡ false → [] ≡ was
        empty e = sym none_picked ∙ same_bytes-is (picked_at [] book q) was (by_same (same_bytes (picked_at [] book q) was) refl e)
          where
            by_same : (d : Bool) → same_bytes (picked_at [] book q) was ≡ d
                → (not d || loses_line [] book (pieces_of base) q) ≡ false → same_bytes (picked_at [] book q) was ≡ true
            by_same true d h = d
            by_same false d h = cc h

        by : (there : Bool) → is_there q b_keys ≡ there → Base
        by true e =
            let made = changed.edited theirs_begun none_yet.set book (piece_at (pieces_of base)) ids_at_first q b_keys
            (due_rise [] book (pieces_of base)) e in
            let edit = changed.edit theirs_begun none_yet.set book (piece_at (pieces_of base)) ids_at_first q made.number q in
            let is = shows b_now b_made.held (edit ∷ []) made.is in
            record {
              one = inr (edit, is);
              text = ap (λ (ops : List Operation). text_if_any (last ops)) is;
              alone = inl (ap (map (λ (o : Operation). own_text o)) is);
            }
        by false e =
            let is = shows b_now b_made.held []
            (changed.kept theirs_begun none_yet.set book (piece_at (pieces_of base)) ids_at_first q b_keys e) in
            let none = empty (not_due [] book (pieces_of base) q e) in
            record {
              one = inl is;
              text = ap (λ (ops : List Operation). text_if_any (last ops)) is ∙ none;
              alone = inr (ap (map (λ (o : Operation). own_text o)) is, sym none);
            }

    -- no chapter of it wants a line
    no_line : wants_chapter_line b.held g ≡ false
    no_line = false_from_ne_true _ never
      where
        never : wants_chapter_line b.held g ≡ true → ⊥
        never e =
            let parts = and_parts ((is_head q.place && nat_le 1 q.chapter) && is_empty (text_of b.held g))
            (has_verse_text b.held book q.chapter) e in
            let none = empty_is (text_of b.held g)
            (and_parts (is_head q.place && nat_le 1 q.chapter) (is_empty (text_of b.held g)) parts.0).1 in
            let line = sym (picked_line b.held g e) ∙ picked_base ∙ sym of_base.text ∙ none in
            absurd (cc line)

    -- a key is due where the texts differ, and only there
    due_there : (pieces : List PieceParts) → (piece_at pieces q ≡ was → ⊥) → is_due b.held book pieces q ≡ true
    due_there pieces h =
        or_left _ _ (ap not (differs (picked_at b.held book q) (piece_at pieces q) (λ e. h (sym e ∙ picked_base))))

    not_due_there : (pieces : List PieceParts) → piece_at pieces q ≡ was → is_due b.held book pieces q ≡ false
    not_due_there pieces h =
        (λ i. not (same i) || (no_line i && is_some (piece_of pieces q) && not (has_verse pieces q.chapter)))
      where
        same : same_bytes (picked_at b.held book q) (piece_at pieces q) ≡ true
        same = ap (same_bytes (picked_at b.held book q)) (h ∙ sym picked_base) ∙ same_bytes-refl (picked_at b.held book q)

    -- ---- THEIRS

    abbrev t_keys : List KeyParts
    t_keys = due_keys b.held book tp

    abbrev ids_in_b : KeyParts → List Id
    ids_in_b k = shown_ids b.held (segment book k)

    t_unchanged : other ≡ was → shown t.held g ≡ shown b.held g
    t_unchanged h =
        ap (λ (ops : List Operation). shown ops g) t_made.held
        ∙ changed.kept b b_set book (piece_at tp) ids_in_b q t_keys
        (none_passes (is_due b.held book tp) q (walked_keys b.held book tp) (not_due_there tp h))

    -- an operation of THEIRS alone is shown, which BASE lacks
    record Theirs : Type 0 where
      edit : Operation
      text : own_text edit ≡ other
      above : greatest_number b.held < edit.id.number
      is : shown t.held g ≡ edit ∷ []

    t_changed : (other ≡ was → ⊥) → Theirs
    t_changed h =
        let there : is_there q t_keys ≡ true = by (is_there q t_keys) refl in
        let made = changed.edited b b_set book (piece_at tp) ids_in_b q t_keys (due_rise b.held book tp) there in
        let edit = changed.edit b b_set book (piece_at tp) ids_in_b q made.number q in
        record {
          edit = edit;
          text = refl;
          above = made.above;
          is = ap (λ (ops : List Operation). shown ops g) t_made.held ∙ made.is
              ∙ ap (λ (ops : List Operation). ops ++ edit ∷ [])
              (named_all (shown b.held g) of_base.one);
        }
      where
        by : (there : Bool) → is_there q t_keys ≡ there → is_there q t_keys ≡ true
        by true e = e
        by false e = cc (sym (not_due b.held book tp q e) ∙ due_there tp h)

    -- ---- OURS

    abbrev s_keys : List KeyParts
    s_keys = changed_keys v.held b.held book op

    v_shows : (ops : List Operation) → shown t.held g ≡ ops → shown v.held g ≡ ops
    v_shows ops h = ap (λ (held : List Operation). shown held g) v_is ∙ h

    s_unchanged : is_changed v.held b.held book op q ≡ false → shown s.held g ≡ shown v.held g
    s_unchanged h =
        ap (λ (ops : List Operation). shown ops g) s_is
        ∙ changed.kept v v_set book (piece_at op) (λ k. seen_ids v.held b.held (segment book k)) q s_keys
        (none_passes (is_changed v.held b.held book op) q (walked_keys v.held book op) h)

    abbrev seen : List Id
    seen = seen_ids v.held b.held g

    abbrev named : List Id
    named = given_ids v.held g seen

    record Ours : Type 0 where
      edit : Operation
      text : own_text edit ≡ mine
      is : shown s.held g ≡ filter (stays named) (shown v.held g) ++ edit ∷ []

    abbrev ids_in_v : KeyParts → List Id
    ids_in_v k = seen_ids v.held b.held (segment book k)

    s_changed : is_changed v.held b.held book op q ≡ true → Ours
    s_changed h =
        let there : is_there q s_keys ≡ true = by (is_there q s_keys) refl in
        let made = changed.edited v v_set book (piece_at op) ids_in_v q s_keys
        (changed_rise v.held b.held book op) there in
        record {
          edit = changed.edit v v_set book (piece_at op) ids_in_v q made.number q;
          text = refl;
          is = ap (λ (ops : List Operation). shown ops g) s_is ∙ made.is;
        }
      where
        by : (there : Bool) → is_there q s_keys ≡ there → is_there q s_keys ≡ true
        by true e = e
        by false e = cc (sym (not_changed from.held b.held book op (made_of.from_rise base ours theirs book s u) b_set.rising
            (made_of.took base ours theirs book s u).none q e) ∙ h)

    -- where THEIRS is as BASE, all that stood there is seen and named
    module _ (same : other ≡ was) where
      now_b : shown v.held g ≡ shown b.held g
      now_b = v_shows (shown b.held g) (t_unchanged same)

      stood_all : stood_ids b.held g ≡ ids_of (shown b.held g)
      stood_all = ap ids_of (filter_all (has_greatest_text b.held g) (shown b.held g) (alike (shown b.held g) of_base.one))

      seen_all : seen ≡ ids_of (shown b.held g)
      seen_all =
          (λ i. filter (is_among (stood_all i)) (ids_of (now_b i))) ∙ all_given (ids_of (shown b.held g))

      named_there : named ≡ filter (is_among (ids_of (shown b.held g))) (ids_of (shown b.held g))
      named_there = λ i. filter (is_among (seen_all i)) (ids_of (now_b i))

      is_changed_there : (mine ≡ was → ⊥) → is_changed v.held b.held book op q ≡ true
      is_changed_there h =
          and_from _ _ (due_there op h)
          (ap not ((λ i. is_none_left (seen_all i) && list_any (λ o. same_bytes (own_text o) mine) (now_b i))
          ∙ none_doubled mine (shown b.held g)))

      pub shows_mine : (mine ≡ was → ⊥) → map (λ o. own_text o) (shown s.held g) ≡ mine ∷ []
      shows_mine h =
          let made = s_changed (is_changed_there h) in
          ap (map (λ (o : Operation). own_text o))
          (made.is ∙ (λ i. filter (stays (named_there i)) (now_b i) ++ made.edit ∷ [])
          ∙ ap (λ (ops : List Operation). ops ++ made.edit ∷ []) (named_all (shown b.held g) of_base.one))
          ∙ ap (λ (x : List ℕ). x ∷ []) made.text

    s_not_due : mine ≡ was → is_changed v.held b.held book op q ≡ false
    s_not_due h = ap (λ d. d && not (is_none_left seen && shows_text v.held g mine)) (not_due_there op h)

    -- where THEIRS changed the key
    module _ (h : other ≡ was → ⊥) where
      abbrev e : Theirs
      e = t_changed h

      now_t : shown v.held g ≡ e.edit ∷ []
      now_t = v_shows (e.edit ∷ []) e.is

      not_stood : is_among (stood_ids b.held g) e.edit.id ≡ false
      not_stood = false_from_ne_true _ never
        where
          never : is_among (stood_ids b.held g) e.edit.id ≡ true → ⊥
          never m =
              let stood = filter (has_greatest_text b.held g) (shown b.held g) in
              let in_shown = filter_held (has_greatest_text b.held g) (shown b.held g) e.edit.id
              (sym (among_is_held stood e.edit.id) ∙ m) in
              let in_b = filter_held (is_shown b.held g) b.held e.edit.id in_shown in
              false≢true (sym (not_held b.held e.edit.id (beyond b.held e.edit.id e.above)) ∙ in_b)

      seen_none : seen ≡ []
      seen_none =
          (λ i. filter (is_among (stood_ids b.held g)) (ids_of (now_t i)))
          ∙ ap (λ c. cond c (e.edit.id ∷ []) []) not_stood

      named_none : named ≡ []
      named_none = (λ i. filter (is_among (seen_none i)) (ids_of (now_t i)))

      shows_is : shows_text v.held g mine ≡ (same_bytes other mine || false)
      shows_is = (λ i. list_any (λ o. same_bytes (own_text o) mine) (now_t i)) ∙ ap (λ (x : List ℕ). same_bytes x mine || false) e.text

      pub shows_other : mine ≡ was → map (λ o. own_text o) (shown s.held g) ≡ other ∷ []
      shows_other m =
          ap (map (λ (o : Operation). own_text o)) (s_unchanged (s_not_due m) ∙ now_t) ∙ ap (λ (x : List ℕ). x ∷ []) e.text

      pub shows_same : mine ≡ other → map (λ o. own_text o) (shown s.held g) ≡ mine ∷ []
      shows_same m =
          ap (map (λ (o : Operation). own_text o)) (s_unchanged unchanged ∙ now_t) ∙ ap (λ (x : List ℕ). x ∷ []) (e.text ∙ sym m)
        where
          shown_already : (same_bytes other mine || false) ≡ true
          shown_already = or_left _ _ (ap (same_bytes other) m ∙ same_bytes-refl other)

          unchanged : is_changed v.held b.held book op q ≡ false
          unchanged =
              (λ i. is_due b.held book op q && not (is_none_left (seen_none i) && (shows_is ∙ shown_already) i))
              ∙ and_false (is_due b.held book op q)

      pub shows_both : (mine ≡ was → ⊥) → (mine ≡ other → ⊥) → map (λ o. own_text o) (shown s.held g) ≡ other ∷ mine ∷ []
      shows_both d m =
          let made = s_changed is_it in
          ap (map (λ (o : Operation). own_text o))
          (made.is ∙ (λ i. filter (stays (named_none i)) (now_t i) ++ made.edit ∷ []))
          ∙ (λ i. e.text i ∷ made.text i ∷ [])
        where
          not_yet : (same_bytes other mine || false) ≡ false
          not_yet = ap (λ c. c || false) (differs other mine (λ x. m (sym x)))

          is_it : is_changed v.held b.held book op q ≡ true
          is_it =
              and_from _ _ (due_there op d)
              (λ i. not (is_none_left (seen_none i) && (shows_is ∙ not_yet) i))

    -- where neither changed it, what BASE shows, which is one text at most
    pub shown_base : mine ≡ was → other ≡ was → shown s.held g ≡ shown b.held g
    shown_base m o = s_unchanged (s_not_due m) ∙ now_b o

    pub base_one : OneAtMost (shown b.held g)
    base_one = of_base.one

    pub shows_neither : mine ≡ was → other ≡ was → ShowsAlone was (map (λ o. own_text o) (shown s.held g))
    shows_neither m o = subst (ShowsAlone was) (ap (map (λ (o : Operation). own_text o)) (sym (shown_base m o))) of_base.alone

    pub unchanged_text : mine ≡ was → other ≡ was → text_of s.held g ≡ was
    unchanged_text m o = ap (λ (ops : List Operation). text_if_any (last ops)) (shown_base m o) ∙ of_base.text

pub unions_show_both : UnionsShowBoth
unions_show_both base ours theirs book s key u = record {
  neither = λ o t. shows_neither base ours theirs book s u key o t;
  theirs_alone = λ t o. shows_other base ours theirs book s u key t o;
  ours_alone = λ o t. shows_mine base ours theirs book s u key t o;
  alike = λ o t same. shows_same base ours theirs book s u key t same;
  apart = λ o t other. shows_both base ours theirs book s u key t o other;
}

pub unchanged_stays : UnchangedStays
unchanged_stays base ours theirs book s key u o t = unchanged_text base ours theirs book s u key o t
