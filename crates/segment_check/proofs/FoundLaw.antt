-- The reading of the marks from the left gives the findings.
use Rattle.std.proofs.Common.{◌≡◌, ℕ, ◌+◌, ◌<◌, ◌≤◌, Bool, true, false, cond, List, [], ◌∷◌, ◌++◌}
use Rattle.std.proofs.Common.{length, map, Option, sym, refl, ap, ◌∙◌, subst, arith}
use Rattle.std.specs.Prelude.{filter, ◌==◌, ◌&&◌}
use Rattle.std.specs.List.{flat_map}
use Rattle.sty_sheet.specs.Records.{Record}
use Rattle.usfm_ref.specs.Keys.{KeyParts, book_head}
use Rattle.usfm_token.specs.Tokens.{MarkParts, Lexeme, mark, words, mark_bytes, tokens_of}
use Rattle.usfm_token.specs.Tokens.{AreLexemes}
use Rattle.usfm_tree.specs.Forest.{Forest}
use Rattle.usfm_tree.specs.Reading.{tree_of}
use Rattle.usfm_tree.specs.SheetViews.{styles_in}
use Rattle.usfm_token.proofs.Walk.{each-tokens_of, first_not_empty}
use Rattle.verse_cut.specs.Keys.{key_below, text_after}
use Rattle.verse_cut.specs.Marks.{Site, sites_from, chapter_in_force, keyed_after}
use Rattle.verse_cut.specs.Pieces.{pieces_of}
use Rattle.verse_cut.proofs.MarkLaws.{IsGreatest}
use Rattle.segment_check.specs.Spots.{Spot}
use Rattle.segment_check.specs.Scenes.{Scene, scenes_after, scenes_of}
use Rattle.verse_cut.specs.Places.{key_at}
use Rattle.segment_check.specs.TreeConditions.{unknown_marker, stray_close, unclosed_char}
use Rattle.segment_check.specs.TreeConditions.{unclosed_note, too_deep, not_under}
use Rattle.segment_check.specs.Findings.{all_codes, stands_at, holds_of, found_at, spots_of}
use Rattle.segment_check.specs.Findings.{findings}
use Rattle.segment_check.specs.Laws.{FindingsAreRead}
use Rattle.segment_check.specs.Reading.{State, key_then, seen_first, seen_rest, unseen, held_at}
use Rattle.segment_check.specs.Reading.{state_after, holds_in, findings_with, found_from, found_in}
use Rattle.segment_check.specs.Reading.{start_state, seen_of, seen_at}
use Rattle.segment_check.specs.Sights.{sights_of}
use Rattle.segment_check.specs.Loops.TreeViews.{seen_in}
use Rattle.segment_check.specs.declared.code.Code.{Code}
use Rattle.segment_check.specs.declared.code.Code.TheVariants as code
use Rattle.segment_check.specs.declared.finding.Finding.{Finding}
use Rattle.segment_check.specs.declared.seen.Seen.{Seen}
use Rattle.segment_check.proofs.Threads.{Thread, after_first, Passes, passes, tree_thread}
use Rattle.segment_check.proofs.Threads.{stands_among, among_is}
use Rattle.segment_check.proofs.Openings.{mark_key-by, Reaching, force_then, great_then}
use Rattle.segment_check.proofs.Openings.{reaching_then, not_rising_is, overlap_is}
use Rattle.segment_check.proofs.Pieces.{Cuts, cuts_start, cuts_later, cuts_then, key_here}

filter_same : (p q : Code → Bool) → ((c : Code) → p c ≡ q c) → (cs : List Code) → filter p cs ≡ filter q cs
filter_same p q h [] = refl
filter_same p q h (c ∷ cs) = λ i. cond (h c i) (c ∷ filter_same p q h cs i) (filter_same p q h cs i)

module _ (sheet : List Record) (s : List ℕ) where
  abbrev tree : List Spot
  tree = spots_of sheet s

  abbrev found : Scene → List Finding
  found scene = found_at sheet tree (pieces_of s) scene

  -- what a state knows of the marks before, and of those of the tree that are left
  record Knows (before : List Site) (at : ℕ) (st : State) (left : List (Option Spot)) (ts : List Lexeme) : Type 0 where
    force : chapter_in_force 0 before ≡ st.key.chapter
    great : IsGreatest st.key (keyed_after 0 [] before)
    reaching : Reaching st.key st.reach before
    seen : st.seen ≡ map (seen_at sheet) left
    thread : Thread at ts left
    same : (p : ℕ) (test : Spot → Bool) → at ≤ p → stands_at tree p test ≡ stands_among left p test
    cuts : Cuts (pieces_of s) st.key at at ts

  -- of a text nothing is said
  knows_text : (before : List Site) (at : ℕ) (st : State) (left : List (Option Spot)) (t : List ℕ) (ts : List Lexeme)
      → AreLexemes (words t ∷ ts) → Knows before at st left (words t ∷ ts) → Knows before (at + length t) st left ts
  knows_text before at st left t ts each k = record {
    force = k.force;
    great = k.great;
    reaching = k.reaching;
    seen = k.seen;
    thread = k.thread;
    same = λ p test h. k.same p test (omega arith);
    cuts =
        cuts_later (pieces_of s) st.key at (at + length t) (at + length t) ts (omega arith)
        (cuts_then (pieces_of s) st.key at (words t) ts k.cuts);
  }

  module _ (before : List Site) (at : ℕ) (st : State) (left : List (Option Spot)) (m : MarkParts) (ts : List Lexeme)
      (each : AreLexemes (mark m ∷ ts)) (k : Knows before at st left (mark m ∷ ts)) where
    abbrev site : Site
    site = record { at = at; parts = m; after = text_after ts }

    abbrev scene : Scene
    scene = record { before = before; here = site }

    abbrev on : State
    on = state_after st m (text_after ts)

    some : 0 < length (mark_bytes m)
    some = first_not_empty (mark m) ts each

    pass : Passes sheet at m ts left
    pass = passes sheet at m ts left some k.thread

    cut_on : Cuts (pieces_of s) on.key at (at + length (mark_bytes m)) ts
    cut_on =
        let F : Option KeyParts → Type 0 = λ o. Cuts (pieces_of s) (key_then st.key o) at (at + length (mark_bytes m)) ts in
        subst F (mark_key-by st.key.chapter m (text_after ts)) (cuts_then (pieces_of s) st.key at (mark m) ts k.cuts)

    knows_mark : Knows (before ++ site ∷ []) (at + length (mark_bytes m)) on (after_first left) ts
    knows_mark = record {
      force = force_then before site st.key k.force k.great;
      great = great_then before site st.key k.force k.great;
      reaching = reaching_then before site st.key k.force k.great st.reach k.reaching;
      seen = ap seen_rest k.seen ∙ pass.rest;
      thread = pass.thread;
      same = λ p test h. k.same p test (omega arith) ∙ pass.later p test (let n = some in omega (arith, n));
      cuts = cuts_later (pieces_of s) on.key at (at + length (mark_bytes m)) (at + length (mark_bytes m)) ts (omega arith) cut_on;
    }

    -- what is reported of the mark is what its tree says there
    seen_here : (test : Spot → Bool) (field : Seen → Bool) → ((x : Spot) → field (seen_of sheet x) ≡ test x) → field unseen ≡ false
        → field (seen_first st.seen) ≡ stands_at tree at test
    seen_here test field is none =
        ap (λ l. field (seen_first l)) k.seen ∙ pass.first test field is none ∙ sym (k.same at test (omega arith))

    holds_is : (c : Code) → holds_in (held_at st m (text_after ts)) c ≡ holds_of sheet tree scene c
    holds_is code.UnknownMarker = seen_here (unknown_marker sheet) (λ t. t.unknown_marker) (λ x. refl) refl
    holds_is code.StrayClose = seen_here stray_close (λ t. t.stray_close) (λ x. refl) refl
    holds_is code.UnclosedChar = seen_here unclosed_char (λ t. t.unclosed_char) (λ x. refl) refl
    holds_is code.UnclosedNote = seen_here unclosed_note (λ t. t.unclosed_note) (λ x. refl) refl
    holds_is code.TooDeep = seen_here (too_deep sheet) (λ t. t.too_deep) (λ x. refl) refl
    holds_is code.BadNumber = refl
    holds_is code.BadBridge = refl
    holds_is code.NotRising = not_rising_is before site st.key k.force k.great
    holds_is code.Overlap = overlap_is before site st.key k.force k.great st.reach k.reaching
    holds_is code.NotUnder = seen_here (not_under sheet) (λ t. t.not_under) (λ x. refl) refl

    key_is : key_at (pieces_of s) at ≡ on.key
    key_is = key_here (pieces_of s) on.key at (at + length (mark_bytes m)) ts (let n = some in omega (arith, n)) cut_on

    found_here : findings_with (held_at st m (text_after ts)) at on.key ≡ found scene
    found_here =
        λ i. map (λ c. record { code = c; start = at; key = sym key_is i })
        (filter_same (holds_in (held_at st m (text_after ts))) (holds_of sheet tree scene) holds_is all_codes i)

  found_is : (before : List Site) (at : ℕ) (st : State) (left : List (Option Spot)) (ts : List Lexeme)
      → AreLexemes ts → Knows before at st left ts
      → found_from st at ts ≡ flat_map found (scenes_after before (sites_from at ts))
  found_is before at st left [] each k = refl
  found_is before at st left (words t ∷ ts) each k =
      found_is before (at + length t) st left ts each.2 (knows_text before at st left t ts each k)
  found_is before at st left (mark m ∷ ts) each k =
      let site : Site = record { at = at; parts = m; after = text_after ts } in
      let on = state_after st m (text_after ts) in
      let next = at + length (mark_bytes m) in
      ap (λ l. l ++ found_from on next ts) (found_here before at st left m ts each k)
      ∙ ap (λ l. found (record { before = before; here = site }) ++ l)
      (found_is (before ++ site ∷ []) next on (after_first left) ts each.2 (knows_mark before at st left m ts each k))

  and_true : (b : Bool) → b && true ≡ b
  and_true true = refl
  and_true false = refl

  and_false : (b : Bool) → false ≡ b && false
  and_false true = refl
  and_false false = refl

  same_start : (p : ℕ) (test : Spot → Bool) → stands_at tree p test ≡ stands_among (sights_of sheet s) p test
  unfolding spots_of sights_of
  same_start p test = sym (among_is [] (tree_of (styles_in sheet) s) p test)

  knows_start : Knows [] 0 (start_state (map (seen_at sheet) (sights_of sheet s))) (sights_of sheet s) (tokens_of s)
  knows_start = record {
    force = refl;
    great = λ k. and_true (key_below book_head k);
    reaching = λ c v h. and_false (0 == c);
    seen = refl;
    thread = tree_thread sheet s;
    same = λ p test h. same_start p test;
    cuts = cuts_start s;
  }

-- what is found from the left are the findings of the definition
pub findings_are_read : FindingsAreRead
unfolding found_in findings scenes_of
findings_are_read sheet s =
    found_is sheet s [] 0 (start_state (map (seen_at sheet) (sights_of sheet s))) (sights_of sheet s) (tokens_of s) (each-tokens_of s)
    (knows_start sheet s)

-- with what is seen of its tree, a reading of the text finds its findings
pub tree_findings : (sheet : List Record) (s : List ℕ) (f : Forest) (seen : List Seen) (list : List Finding)
    → f ≡ tree_of (styles_in sheet) s → seen ≡ seen_in sheet [] f → list ≡ found_in seen s → list ≡ findings sheet s
unfolding sights_of
tree_findings sheet s f seen list ef et h =
    h ∙ ap (λ t. found_in t s) (et ∙ ap (seen_in sheet []) ef) ∙ findings_are_read sheet s
