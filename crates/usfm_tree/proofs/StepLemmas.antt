-- What a token does to the open nodes of a walk.
use Rattle.sty_sheet.specs.declared.kind.StyleKind.{StyleKind}
use Rattle.std.proofs.Common.{◌≡◌, ℕ, zero, suc, ◌+◌, ◌-◌, ◌<◌, ◌≤◌, cond, List, ◌∷◌, ◌++◌, length, take, drop, reverse, Option, None, Some, refl, sym, ap, ◌∙◌, ⊎_elim, arith, add-one, lt-ltb, le-ltb, length-drop}
use Rattle.std.proofs.lemmas.List.{drop_at, take-append-drop, reverse-append, length-reverse, nil_from_length}
use Rattle.std.proofs.str.Laws.{order}
use Rattle.std.specs.Borrow.{Bor}
use Rattle.std.specs.Option.{option_map}
use Rattle.std.specs.Prelude.{is_some}
use Rattle.usfm_token.specs.Tokens.{MarkParts}
use Rattle.usfm_tree.specs.Events.{Event, words, single, begins, ends, events_before, ends_before, events_left}
use Rattle.usfm_tree.specs.Reading.{Placed, plain, alone, spans, opens, closes, Open, ended, open_of, milestone_takes}
use Rattle.usfm_tree.specs.Reading as reading
use Rattle.usfm_tree.specs.Loops.RoleViews.{role_view}
use Rattle.usfm_tree.specs.Loops.Stack.{closing_mark}
use Rattle.usfm_tree.specs.StepViews.{Unwinds, placed_text, entry_before}
use Rattle.usfm_tree.specs.Loops.TakenViews.{left_of, optional_text}
use Rattle.sty_sheet.specs.declared.kind.StyleKind.TheVariants as kinds
use Rattle.usfm_tree.specs.declared.role.Role.{Role}
use Rattle.usfm_tree.specs.declared.step.Entry.{Entry}
use Rattle.usfm_tree.specs.declared.step.Entry.TheVariants as entries
use Rattle.usfm_tree.proofs.EventLemmas.{ends_suc, left_text, left_alone, left_stray, left_deep, left_begin, left_deep_span, left_span, left_end}

-- ---- the nodes that it ends

module _ (r : Role) (whole : List Open) (n : ℕ) (o : Open) (os : List Open) (h : Unwinds r whole n None (o ∷ os))
    (some : 0 < ended (o ∷ os) (role_view r)) where
  -- one more without a closing mark
  pub unwinds_more : closing_mark (role_view r) (ended (o ∷ os) (role_view r)) ≡ None → Unwinds r whole (n + 1) None os
  unwinds_more none styles t l is =
      let rest = events_left styles os (t ∷ l) in
      h styles t l is
      ∙ ap (ends_before n) (left_end styles o os t l (role_view r) is some
      ∙ (λ i. ends (none i) ∷ events_left styles os (cond (is_some (none i)) l (t ∷ l))))
      ∙ ends_suc n rest ∙ ap (λ k. ends_before k rest) (sym (add-one n))

  -- the last, with the token as its closing mark
  pub unwinds_closed : (m : MarkParts) → closing_mark (role_view r) (ended (o ∷ os) (role_view r)) ≡ Some m
      → Unwinds r whole n (Some m) os
  unwinds_closed m closed styles t l is =
      h styles t l is
      ∙ ap (ends_before n) (left_end styles o os t l (role_view r) is some
      ∙ (λ i. ends (closed i) ∷ events_left styles os (cond (is_some (closed i)) l (t ∷ l))))

-- ---- what it is, where it ends nothing more

-- what the open nodes, and what is still to be met, are after a token
abbrev pub Becomes : reading.Role → ℕ → ℕ → List ℕ → List ℕ → List Open → List Open → (List Event → List Event) → Type 0
Becomes r start end rest after os new_os entry =
    (styles : reading.Styles) (t : Placed) → reading.role styles t.token ≡ r → t.start ≡ start
    → events_left styles os (t ∷ left_of end rest) ≡ entry (events_left styles new_os (left_of end after))

module _ (start end : ℕ) (rest : List ℕ) (os : List Open) where
  pub becomes_text : (b : List ℕ) → Becomes (plain b) start end rest rest os os (λ later. words start b ∷ later)
  becomes_text b styles t is at =
      left_text styles os t (left_of end rest) b is ∙ ap (λ s. words s b ∷ events_left styles os (left_of end rest)) at

  pub becomes_alone : (m : MarkParts) → Becomes (alone m) start end rest rest os os (λ later. single m ∷ later)
  becomes_alone m styles t is at = left_alone styles os t (left_of end rest) m is

  pub becomes_stray : (m : MarkParts) → ended os (closes m) ≡ 0
      → Becomes (closes m) start end rest rest os os (λ later. single m ∷ later)
  becomes_stray m none styles t is at = left_stray styles os t (left_of end rest) m is none

  pub becomes_deep : (k : StyleKind) (c : Option (List ℕ)) (m : MarkParts) → ended os (opens k c m) ≡ 0 → 64 ≤ length os
      → Becomes (opens k c m) start end rest rest os os (λ later. single m ∷ later)
  becomes_deep k c m none full styles t is at = left_deep styles os t (left_of end rest) k c m is none (le-ltb _ _ full)

  pub becomes_node : (k : StyleKind) (c : Option (List ℕ)) (m : MarkParts) (new_os : List Open) → ended os (opens k c m) ≡ 0
      → length os < 64 → new_os ≡ open_of k c m ∷ os
      → Becomes (opens k c m) start end rest rest os new_os (λ later. begins k m ∷ later)
  becomes_node k c m new_os none room pushed styles t is at =
      left_begin styles os t (left_of end rest) k c m is none (lt-ltb _ _ room)
      ∙ ap (λ x. begins k m ∷ events_left styles x (left_of end rest)) (sym pushed)

  pub becomes_deep_span : (m : MarkParts) → 64 ≤ length os
      → Becomes (spans m) start end rest rest os os (λ later. single m ∷ later)
  becomes_deep_span m full styles t is at = left_deep_span styles os t (left_of end rest) m is (le-ltb _ _ full)

  pub becomes_milestone : (m : MarkParts) (place : ℕ) (x : Option (List ℕ)) (c : Option MarkParts) (after : List ℕ) → length os < 64
      → milestone_takes (left_of end rest) ≡ record { kids = optional_text place x; close = c; rest = left_of end after }
      → Becomes (spans m) start end rest after os os
      (λ later. begins kinds.Milestone m ∷ events_before (optional_text place x) (ends c ∷ later))
  becomes_milestone m place x c after room takes styles t is at =
      left_span styles os t (left_of end rest) m is (lt-ltb _ _ room)
      ∙ (λ i. begins kinds.Milestone m
      ∷ events_before (takes i).kids (ends (takes i).close ∷ events_left styles os (takes i).rest))

-- a text that may be there, with its place
pub placed_is : (place : ℕ) (t : Option (Bor (List ℕ)))
    → placed_text (option_map (λ n. (place, n)) t) ≡ optional_text place (option_map (λ n. n.now) t)
placed_is place None = refl
placed_is place (Some n) = refl

-- ---- fewer are left

entry_shorter : (e : Entry) (later : List Event) → length later < length (entry_before e later)
entry_shorter (entries.Text start t) later = omega arith
entry_shorter (entries.Leaf m) later = omega arith
entry_shorter (entries.Begin kind m style) later = omega arith
entry_shorter (entries.Close m) later = omega arith
entry_shorter (entries.Milestone m None close) later = omega arith
entry_shorter (entries.Milestone m (Some t) close) later = omega arith

ends_longer : (n : ℕ) (later : List Event) → length later ≤ length (ends_before n later)
ends_longer zero later = omega arith
ends_longer (suc n) later = let l = ends_longer n later in omega arith

-- after a step less is left to be met
pub step_shorter : (n : ℕ) (e : Entry) (later : List Event) → length later < length (ends_before n (entry_before e later))
step_shorter n e later = let s = entry_shorter e later in let l = ends_longer n (entry_before e later) in omega arith

-- ---- a stack without the nodes that end

reverse_front : {A : Type 0} (n k : ℕ) (xs : List A) → k ≡ length xs - n → reverse (take k xs) ≡ drop n (reverse xs)
reverse_front n k xs is = ⊎_elim below past (order n (length xs))
  where
    whole : reverse xs ≡ reverse (drop k xs) ++ reverse (take k xs)
    whole = ap reverse (sym (take-append-drop k xs)) ∙ reverse-append (take k xs) (drop k xs)

    back : length (reverse (drop k xs)) ≡ length xs - k
    back = length-reverse (drop k xs) ∙ length-drop k xs

    below : n < length xs → reverse (take k xs) ≡ drop n (reverse xs)
    below lt = sym (ap (drop n) whole ∙ drop_at (reverse (drop k xs)) (reverse (take k xs)) n (omega (arith, back, is)))

    past : length xs ≤ n → reverse (take k xs) ≡ drop n (reverse xs)
    past le =
        ap (λ j. reverse (take j xs)) (let zero_is : k ≡ 0 = omega (arith, is) in zero_is)
        ∙ sym (nil_from_length (drop n (reverse xs)) (omega (arith, length-drop n (reverse xs), length-reverse xs)))

-- a list without this many from its end, from the back
pub reverse_take : {A : Type 0} (n : ℕ) (xs : List A) → reverse (take (length xs - n) xs) ≡ drop n (reverse xs)
reverse_take n xs = reverse_front n (length xs - n) xs refl
