-- Which leaves of a tree are left out for depth.
use Rattle.sty_sheet.specs.declared.kind.StyleKind.TheVariants as kinds
use Rattle.std.proofs.Common.{◌≡◌, ℕ, zero, suc, ◌≤◌, Bool, true, false, cond, List, [], ◌∷◌, ◌++◌, length, None, Some, sym, refl, ap, ◌∙◌, subst, arith}
use Rattle.std.specs.Prelude.{nat_lt}
use Rattle.std.specs.Option.{is_some}
use Rattle.std.specs.List.{All}
use Rattle.std.proofs.lemmas.Bool.Decides.{nat_tests}
use Rattle.std.proofs.lemmas.List.Elements.{All-nil, All-cons, All-append}
use Rattle.usfm_token.specs.Tokens.{MarkParts, Lexeme, mark, words, tokens_of}
use Rattle.usfm_tree.specs.Around.{Around}
use Rattle.usfm_tree.specs.Forest.{Forest, nothing, text, leaf}
use Rattle.usfm_tree.specs.Reading as reading
use Rattle.usfm_tree.specs.Reading.{Styles, Placed, placed, Role, plain, alone, spans, opens, closes, role, Open, ended, take_close, milestone_at, milestone_takes, take_bare, is_bare_close, Read, enter, kids, has_room, open_of, followed, spanned, opened, tree_of}
use Rattle.usfm_tree.specs.SheetViews.{styles_in}
use Rattle.usfm_tree.proofs.LeavesLemmas.{role_lexeme, role_is}
use Rattle.segment_check.specs.Spots.{Spot, spots}
use Rattle.segment_check.specs.TreeConditions.{begins_node}
use Rattle.segment_check.specs.Findings.{spots_of}
use Rattle.segment_check.specs.Laws.{LeavesAreTooDeep}

module _ (styles : Styles) where
  -- a token that does not begin a node has a mark that does not
  no_node : (t : Lexeme) (r : Role) (m : MarkParts) → role styles t ≡ r → role_lexeme r ≡ mark m → begins_node r ≡ false
      → begins_node (role styles (mark m)) ≡ false
  no_node t r m is own none =
      ap (λ x. begins_node (role styles x)) (sym own ∙ ap role_lexeme (sym is) ∙ role_is styles t) ∙ ap begins_node is ∙ none

  abbrev Deep : Spot → Type 0
  Deep x = x.node ≡ None → begins_node (role styles (mark x.mark)) ≡ true → 64 ≤ length x.around

  abbrev AllDeep : List Around → Forest → Type 0
  AllDeep around f = All Deep (spots around f)

  abbrev Deeps : (List Open → List Placed → Read) → Type 0
  Deeps go = (os : List Open) (around : List Around) (l : List Placed) → length os ≡ length around → AllDeep around (go os l).0

  either_deep : (b : Bool) (around : List Around) (x y : Read) → (b ≡ true → AllDeep around x.0) → (b ≡ false → AllDeep around y.0)
      → AllDeep around (cond b x y).0
  either_deep true around x y p q = p refl
  either_deep false around x y p q = q refl

  bare_spots : (inner : List Around) (whole : List Placed) (f : Forest) (l : List Placed) → spots inner f ≡ []
      → spots inner (take_bare whole f l).kids ≡ []
  bare_spots inner whole f [] h = refl
  bare_spots inner whole f (t ∷ l) h = by (is_bare_close t.token)
    where
      by : (b : Bool) → spots inner (cond b (record { kids = f; close = Some reading.bare; rest = l }) (reading.Taken_none whole)).kids ≡ []
      by true = h
      by false = refl

  taken_spots : (inner : List Around) (start : ℕ) (whole : List Placed) (x : Lexeme) (l : List Placed)
      → spots inner (milestone_at start whole x l).kids ≡ []
  taken_spots inner start whole (words t) l = bare_spots inner whole (text start t nothing) l refl
  taken_spots inner start whole (mark m) l = bare_spots inner whole nothing whole refl

  milestone_spots : (inner : List Around) (l : List Placed) → spots inner (milestone_takes l).kids ≡ []
  milestone_spots inner [] = refl
  milestone_spots inner (t ∷ l) = taken_spots inner t.start (t ∷ l) t.token l

  no_room : (os : List Open) (around : List Around) → length os ≡ length around → has_room os ≡ false → 64 ≤ length around
  no_room os around same h = low (length os) (length around) same h
    where
      low : (n k : ℕ) → n ≡ k → nat_lt n 64 ≡ false → 64 ≤ k
      low n k e h = let f : 64 ≤ n = grind (arith, nat_tests) in omega (arith, e, f)

  enter_deep : (go : List Open → List Placed → Read) (os : List Open) (around : List Around) (t : Placed) (l : List Placed) (r : Role)
      → Deeps go → role styles t.token ≡ r → length os ≡ length around → AllDeep around (enter styles go os t l r).0
  enter_deep go os around t l (plain b) h is same = h os around l same
  enter_deep go os around t l (alone m) h is same =
      All-cons Deep _ (spots around (go os l).0) (λ is_leaf b. absurd
      (let no = no_node t.token (alone m) m is refl refl in cc)) (h os around l same)
  enter_deep go os around t l (closes m) h is same =
      All-cons Deep _ (spots around (go os l).0) (λ is_leaf b. absurd
      (let no = no_node t.token (closes m) m is refl refl in cc)) (h os around l same)
  enter_deep go os around t l (spans m) h is same =
      let taken = milestone_takes l in
      let inner = record { kind = kinds.Milestone; mark = m; is_closed = is_some taken.close } ∷ around in
      either_deep (has_room os) around (spanned go os t m taken) (followed (leaf t.start m) (go os l))
      (λ room. All-cons Deep _ (spots inner taken.kids ++ spots around (go os taken.rest).0) (λ node b. absurd (cc))
      (let F : List Spot → Type 0 = λ xs. All Deep (xs ++ spots around (go os taken.rest).0) in subst F (sym (milestone_spots inner l))
      (h os around taken.rest same)))
      (λ room. All-cons Deep _ (spots around (go os l).0) (λ is_leaf b. no_room os around same room) (h os around l same))
  enter_deep go os around t l (opens k c m) h is same =
      let os' = open_of k c m ∷ os in
      let got = go os' l in
      let closed = take_close styles os' got.1 in
      let inner = record { kind = k; mark = m; is_closed = is_some closed.0 } ∷ around in
      either_deep (has_room os) around (opened styles go (open_of k c m) os t m got) (followed (leaf t.start m) (go os l))
      (λ room. All-cons Deep _ (spots inner got.0 ++ spots around (go os closed.1).0) (λ node b. absurd (cc))
      (All-append Deep (spots inner got.0) (spots around (go os closed.1).0) (h os' inner l (ap suc same)) (h os around closed.1 same)))
      (λ room. All-cons Deep _ (spots around (go os l).0) (λ is_leaf b. no_room os around same room) (h os around l same))

  kids_deep : (k : ℕ) → Deeps (kids styles k)
  unfolding kids
  kids_deep zero os around l same = All-nil Deep
  kids_deep (suc k) os around [] same = All-nil Deep
  kids_deep (suc k) os around (t ∷ l) same =
      either_deep (nat_lt 0 (ended os (role styles t.token))) around (nothing, t ∷ l)
      (enter styles (kids styles k) os t l (role styles t.token))
      (λ b. All-nil Deep)
      (λ b. enter_deep (kids styles k) os around t l (role styles t.token) (kids_deep k) refl same)

-- each leaf of a tree that might have begun a node was left out for its depth
pub leaves_are_too_deep : LeavesAreTooDeep
unfolding spots_of tree_of
leaves_are_too_deep sheet s = let l = placed 0 (tokens_of s) in kids_deep (styles_in sheet) (suc (length l)) [] [] l refl
