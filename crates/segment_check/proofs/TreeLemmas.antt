-- What a tree says of its marks, as a walk over it sees them.
use Rattle.sty_sheet.specs.declared.kind.StyleKind.{StyleKind}
use Rattle.sty_sheet.specs.declared.kind.StyleKind.TheVariants as kinds
use Rattle.std.proofs.Common.{◌≡◌, ℕ, zero, suc, ◌-◌, Bool, true, false, cond, List, [], ◌∷◌, ◌++◌}
use Rattle.std.proofs.Common.{length, map, take, drop, reverse, codes, Option, None, Some, sym, refl, ap, ◌∙◌, arith}
use Rattle.std.proofs.Common.{append_assoc, append-nil}
use Rattle.std.proofs.lemmas.Bool.Decides.{nat_tests}
use Rattle.std.proofs.lemmas.List.{map-append, reverse-append, set_at, drop-map}
use Rattle.std.specs.Borrow.{Bor}
use Rattle.std.specs.Prelude.{◌==◌, nat_le, ◌&&◌, not, find, slice_set}
use Rattle.std.specs.Option.{is_some, option_map, option_map_or, option_to_list}
use Rattle.sty_sheet.specs.Records.{Record}
use Rattle.usfm_token.specs.Tokens.{MarkParts, mark}
use Rattle.usfm_tree.specs.Around.{Around}
use Rattle.usfm_tree.specs.Events.{Event, begins, ends, events_before, ends_before}
use Rattle.usfm_tree.specs.Forest.{Forest, nothing, text, leaf, node}
use Rattle.usfm_tree.specs.Reading.{role, is_character_kind}
use Rattle.usfm_tree.specs.SheetViews.{styles_in}
use Rattle.usfm_tree.specs.StepViews.{placed_text}
use Rattle.usfm_tree.proofs.StepLemmas.{reverse_take}
use Rattle.segment_check.specs.Sights.{closing_sight, sights}
use Rattle.segment_check.specs.TreeConditions.{holds_characters, allow, begins_node}
use Rattle.segment_check.specs.TreeConditions.{is_restricted_kind, forbids, under_words}
use Rattle.segment_check.specs.Reading.{seen_of, seen_at, unseen}
use Rattle.segment_check.specs.Loops.TreeViews.{Surroundings, surroundings_of, entering, allowing}
use Rattle.segment_check.specs.Loops.TreeViews.{seen_by, seen_in}
use Rattle.segment_check.specs.Loops.Sightings.{Level, level_of}
use Rattle.segment_check.specs.Loops.Sightings.{surroundings_in, ended_in, seen_after}
use Rattle.segment_check.specs.Loops.Sightings.{level_view, levels}
use Rattle.segment_check.specs.declared.seen.Seen.{Seen}
use Rattle.segment_check.specs.declared.sighting.OpenNode.{OpenNode}

-- ---- what nodes around decide

room_less : (n : ℕ) → 64 - n - 1 ≡ 64 - suc n
room_less n = omega arith

-- what the nodes around a place decide, with one more node around it
pub enters : (k : StyleKind) (m : MarkParts) (is_closed : Bool) (around : List Around)
    → entering k m.name (surroundings_of around) ≡ surroundings_of (record { kind = k; mark = m; is_closed = is_closed } ∷ around)
enters kinds.Paragraph m is_closed around =
    ap (λ n. record (entering kinds.Paragraph m.name (surroundings_of around)) { room = n }) (room_less (length around))
enters kinds.Character m is_closed around =
    ap (λ n. record (entering kinds.Character m.name (surroundings_of around)) { room = n }) (room_less (length around))
enters kinds.Note m is_closed around =
    ap (λ n. record (entering kinds.Note m.name (surroundings_of around)) { room = n }) (room_less (length around))
enters kinds.Milestone m is_closed around =
    ap (λ n. record (entering kinds.Milestone m.name (surroundings_of around)) { room = n }) (room_less (length around))

allow_direct : (b : Bool) (name : List ℕ) (others : Option (List ℕ))
    → cond b (name ∷ codes "NEST" ∷ []) (option_to_list others) ≡ (elim (cond b (Some name) None) [
      | None ↦ option_to_list others
      | Some n ↦ n ∷ codes "NEST" ∷ []
    ])
allow_direct true name others = refl
allow_direct false name others = refl

allow_is : (k : StyleKind) (around : List Around) → allow k around ≡ allowing k (surroundings_of around)
allow_is kinds.Paragraph around = refl
allow_is kinds.Character [] = refl
allow_is kinds.Character (a ∷ around) =
    allow_direct (is_character_kind a.kind) a.mark.name (option_map (λ x. x.mark.name) (find holds_characters (a ∷ around)))
allow_is kinds.Note around = refl
allow_is kinds.Milestone around = refl

room_is : (n : ℕ) → nat_le 64 n ≡ (64 - n == 0)
room_is n = grind (arith, nat_tests)

-- what is seen of a mark is seen by what the nodes around decide
pub seen_is : (sheet : List Record) (start : ℕ) (m : MarkParts) (kind : Option StyleKind) (is_closed : Bool) (around : List Around)
    → seen_of sheet (record { start = start; mark = m; node = kind; is_closed = is_closed; around = around })
    ≡ seen_by sheet (surroundings_of around) m kind is_closed
seen_is sheet start m kind is_closed around = λ i. record {
  unknown_marker = (seen_by sheet (surroundings_of around) m kind is_closed).unknown_marker;
  stray_close = (seen_by sheet (surroundings_of around) m kind is_closed).stray_close;
  unclosed_char = (seen_by sheet (surroundings_of around) m kind is_closed).unclosed_char;
  unclosed_note = (seen_by sheet (surroundings_of around) m kind is_closed).unclosed_note;
  too_deep = not (is_some kind) && begins_node (role (styles_in sheet) (mark m)) && room_is (length around) i;
  not_under =
      option_map_or (λ k. is_restricted_kind k && forbids (under_words sheet m.name) (allow_is k around i)) kind false;
}

-- ---- the stack of open nodes

-- with one node more
pub levels_push : (ns : List OpenNode) (n : OpenNode) → levels (ns ++ n ∷ []) ≡ level_view n ∷ levels ns
levels_push ns n = ap (map level_view) (reverse-append ns (n ∷ []))

-- before the innermost was taken off
pub levels_pop : (ns left : List OpenNode) (n : OpenNode) → ns ≡ left ++ n ∷ [] → levels ns ≡ level_view n ∷ levels left
levels_pop ns left n is = ap levels is ∙ levels_push left n

-- without this many of the innermost
pub levels_end : (n : ℕ) (ns : List OpenNode) → levels (take (length ns - n) ns) ≡ drop n (levels ns)
levels_end n ns = ap (map level_view) (reverse_take n ns) ∙ sym (drop-map level_view n (reverse ns))

-- ---- the marks of a tree

-- what is seen before the kids of a node that is not closed, of them, and after them
kept : (seen ks rest : List Seen) (x : Seen) → ((seen ++ x ∷ []) ++ ks) ++ rest ≡ seen ++ x ∷ (ks ++ rest)
kept seen ks rest x = ap (λ l. l ++ rest) (append_assoc seen (x ∷ []) ks) ∙ append_assoc seen (x ∷ ks) rest

-- the same of a node that is closed, whose mark is seen anew
closed_kept : (seen ks rest : List Seen) (x y z : Seen)
    → (slice_set ((seen ++ x ∷ []) ++ ks) (length seen) y ++ z ∷ []) ++ rest ≡ seen ++ y ∷ (ks ++ z ∷ rest)
closed_kept seen ks rest x y z =
    ap (λ l. (slice_set l (length seen) y ++ z ∷ []) ++ rest) (append_assoc seen (x ∷ []) ks)
    ∙ ap (λ l. (l ++ z ∷ []) ++ rest) (set_at seen x ks y (length seen) refl)
    ∙ ap (λ l. l ++ rest) (append_assoc seen (y ∷ ks) (z ∷ []))
    ∙ append_assoc seen (y ∷ (ks ++ z ∷ [])) rest
    ∙ ap (λ l. seen ++ y ∷ l) (append_assoc ks (z ∷ []) rest)

module _ (sheet : List Record) where
  abbrev spot_seen : ℕ → MarkParts → Option StyleKind → Bool → List Around → Seen
  spot_seen s m kind is_closed around =
      seen_of sheet (record { start = s; mark = m; node = kind; is_closed = is_closed; around = around })

  -- what is seen of a node, of its kids, of its closing mark, and of what follows
  node_split : (around : List Around) (k : StyleKind) (s : ℕ) (b : List ℕ) (m : MarkParts) (ks : Forest) (c : Option MarkParts)
      → (f : Forest)
      → let inner = record { kind = k; mark = m; is_closed = is_some c } ∷ around in
      seen_in sheet around (node k s b m ks c f)
      ≡ spot_seen s m (Some k) (is_some c) around
      ∷ (seen_in sheet inner ks ++ (map (seen_at sheet) (closing_sight c) ++ seen_in sheet around f))
  node_split around k s b m ks c f =
      let inner = record { kind = k; mark = m; is_closed = is_some c } ∷ around in
      ap (λ l. spot_seen s m (Some k) (is_some c) around ∷ l)
      (map-append (seen_at sheet) (sights inner ks) (closing_sight c ++ sights around f)
      ∙ ap (λ l. seen_in sheet inner ks ++ l) (map-append (seen_at sheet) (closing_sight c) (sights around f)))

  -- a node, with its mark, its kids and its end
  node_taken : (seen : List Seen) (ls : List Level) (k : StyleKind) (m : MarkParts) (c : Option MarkParts) (ks rest : List Seen) (x : Seen)
      → x ≡ seen_by sheet (surroundings_in ls) m (Some k) (is_some c)
      → ended_in c (level_of sheet ls k m (length seen) ∷ ls)
      ((seen ++ seen_by sheet (surroundings_in ls) m (Some k) false ∷ []) ++ ks) ++ rest
      ≡ seen ++ x ∷ (ks ++ (map (seen_at sheet) (closing_sight c) ++ rest))
  node_taken seen ls k m None ks rest x is =
      kept seen ks rest (seen_by sheet (surroundings_in ls) m (Some k) false) ∙ ap (λ y. seen ++ y ∷ (ks ++ rest)) (sym is)
  node_taken seen ls k m (Some close) ks rest x is =
      closed_kept seen ks rest (seen_by sheet (surroundings_in ls) m (Some k) false)
      (seen_by sheet (surroundings_in ls) m (Some k) true) unseen
      ∙ ap (λ y. seen ++ y ∷ (ks ++ unseen ∷ rest)) (sym is)

  -- what a walk sees that meets some nodes, and then the rest
  pub forest_seen : (seen : List Seen) (ls : List Level) (around : List Around) (f : Forest) (later : List Event)
      → surroundings_in ls ≡ surroundings_of around
      → seen_after sheet seen ls (events_before f later) ≡ seen_after sheet (seen ++ seen_in sheet around f) ls later
  forest_seen seen ls around nothing later here = ap (λ l. seen_after sheet l ls later) (sym (append-nil seen))
  forest_seen seen ls around (text s t f) later here = forest_seen seen ls around f later here
  forest_seen seen ls around (leaf s m f) later here =
      let x = seen_by sheet (surroundings_in ls) m None false in
      forest_seen (seen ++ x ∷ []) ls around f later here
      ∙ ap (λ l. seen_after sheet l ls later)
      (append_assoc seen (x ∷ []) (seen_in sheet around f)
      ∙ ap (λ y. seen ++ y ∷ seen_in sheet around f)
      (ap (λ (i : Surroundings). seen_by sheet i m None false) here ∙ sym (seen_is sheet s m None false around)))
  forest_seen seen ls around (node k s b m ks c f) later here =
      let inner = record { kind = k; mark = m; is_closed = is_some c } ∷ around in
      let mine = level_of sheet ls k m (length seen) ∷ ls in
      let first = seen ++ seen_by sheet (surroundings_in ls) m (Some k) false ∷ [] in
      let kids = seen_in sheet inner ks in
      let rest = seen_in sheet around f in
      forest_seen first mine inner ks (ends c ∷ events_before f later)
      (ap (entering k m.name) here ∙ enters k m (is_some c) around)
      ∙ forest_seen (ended_in c mine (first ++ kids)) ls around f later here
      ∙ ap (λ l. seen_after sheet l ls later)
      (node_taken seen ls k m c kids rest (spot_seen s m (Some k) (is_some c) around)
      (seen_is sheet s m (Some k) (is_some c) around
      ∙ ap (λ (i : Surroundings). seen_by sheet i m (Some k) (is_some c)) (sym here))
      ∙ ap (λ l. seen ++ l) (sym (node_split around k s b m ks c f)))

  -- ---- the ends of nodes without closing marks

  -- some nodes end
  pub ends_seen : (n : ℕ) (seen : List Seen) (ls : List Level) (later : List Event)
      → seen_after sheet seen ls (ends_before n later) ≡ seen_after sheet seen (drop n ls) later
  ends_seen zero seen ls later = refl
  ends_seen (suc n) seen [] later = ends_seen n seen [] later ∙ ap (λ l. seen_after sheet seen l later) (none_left n)
    where
      none_left : (n : ℕ) → drop {A = Level} n [] ≡ drop (suc n) []
      none_left zero = refl
      none_left (suc n) = refl
  ends_seen (suc n) seen (l ∷ ls) later = ends_seen n seen ls later

  -- ---- a milestone

  -- a whole milestone, of whose mark the same is seen whether it is closed or not
  pub milestone_taken : (seen : List Seen) (ls : List Level) (m : MarkParts) (t : Option (ℕ × Bor (List ℕ))) (c : Option MarkParts)
      → (later : List Event) (x : Seen)
      → ((is_closed : Bool) → x ≡ seen_by sheet (surroundings_in ls) m (Some kinds.Milestone) is_closed)
      → seen_after sheet seen ls (begins kinds.Milestone m ∷ events_before (placed_text t) (ends c ∷ later))
      ≡ seen_after sheet ((seen ++ x ∷ []) ++ map (seen_at sheet) (closing_sight c)) ls later
  milestone_taken seen ls m t c later x is =
      text_passed t
      ∙ ap (λ l. seen_after sheet l ls later)
      (sym (append-nil _) ∙ ap (λ l. ended_in c (level_of sheet ls kinds.Milestone m (length seen) ∷ ls) l ++ [])
      (sym (append-nil (seen ++ seen_by sheet (surroundings_in ls) m (Some kinds.Milestone) false ∷ [])))
      ∙ node_taken seen ls kinds.Milestone m c [] [] x (is (is_some c))
      ∙ ap (λ l. seen ++ x ∷ l) (append-nil (map (seen_at sheet) (closing_sight c)))
      ∙ sym (append_assoc seen (x ∷ []) (map (seen_at sheet) (closing_sight c))))
    where
      text_passed : (t : Option (ℕ × Bor (List ℕ)))
          → seen_after sheet seen ls (begins kinds.Milestone m ∷ events_before (placed_text t) (ends c ∷ later))
          ≡ seen_after sheet (ended_in c (level_of sheet ls kinds.Milestone m (length seen) ∷ ls)
          (seen ++ seen_by sheet (surroundings_in ls) m (Some kinds.Milestone) false ∷ [])) ls later
      text_passed None = refl
      text_passed (Some t) = refl

  -- its closing mark, if it has one
  pub close_seen : (l new : List Seen) (c : Option MarkParts) (y : Seen) → is_some c ≡ true → y ≡ unseen → new ≡ l ++ y ∷ []
      → new ≡ l ++ map (seen_at sheet) (closing_sight c)
  close_seen l new None y some none put = absurd (cc)
  close_seen l new (Some m) y some none put = put ∙ ap (λ z. l ++ z ∷ []) none

  -- and none
  pub no_close_seen : (l new : List Seen) (c : Option MarkParts) → is_some c ≡ false → new ≡ l
      → new ≡ l ++ map (seen_at sheet) (closing_sight c)
  no_close_seen l new None none same = same ∙ sym (append-nil l)
  no_close_seen l new (Some m) none same = absurd (cc)

  -- ---- a node that begins

  -- its mark is seen, and it is open
  pub node_begun : (seen new : List Seen) (ns all : List OpenNode) (k : StyleKind) (m : MarkParts) (n : OpenNode) (x : Seen)
      → (later : List Event) → x ≡ seen_by sheet (surroundings_in (levels ns)) m (Some k) false
      → level_view n ≡ level_of sheet (levels ns) k m (length seen) → all ≡ ns ++ n ∷ [] → new ≡ seen ++ x ∷ []
      → seen_after sheet new (levels all) later ≡ seen_after sheet seen (levels ns) (begins k m ∷ later)
  node_begun seen new ns all k m n x later is level pushed put =
      ap (λ l. seen_after sheet l (levels all) later) (put ∙ ap (λ y. seen ++ y ∷ []) is)
      ∙ ap (λ ls. seen_after sheet (seen ++ seen_by sheet (surroundings_in (levels ns)) m (Some k) false ∷ []) ls later)
      (levels_pop all ns n pushed ∙ ap (λ l. l ∷ levels ns) level)
