-- What pushes and pops do to the reader's stack, as a contract sees it.
use Rattle.std.proofs.Common.{◌≡◌, ◌+◌, ◌-◌, ◌≤◌, arith, length-append, ℕ, List, [], ◌∷◌, ◌++◌, map, reverse, length, Bool, false, Option, sym, refl, ap, ◌∙◌, subst}
use Rattle.std.proofs.lemmas.List.{reverse-append, map-append, length-reverse, length-map}
use Rattle.usfm_token.specs.Tokens.{MarkParts}
use Rattle.usfm_token.specs.View.{mark_parts}
use Rattle.usfm_tree.specs.Forest.{Forest, nothing, spanning, ◌then◌}
use Rattle.usfm_tree.specs.Loops.Stack.{Frame, Ends, Resumes, opens_of}
use Rattle.usfm_tree.specs.Views.{view, forest_of, branch_parts, node_step, parts_step, Parts}
use Rattle.usfm_tree.specs.Loops.ReaderViews.{frame_of, open_view, opens_in}
use Rattle.usfm_tree.specs.Loops.TakenViews.{left_of}
use Rattle.usfm_token.specs.Tokens.{Lexeme, slice_of, joined, tokens_of}
use Rattle.usfm_token.proofs.TokenLaws.{joined-tokens_of}
use Rattle.usfm_tree.specs.Reading as reading
use Rattle.usfm_tree.specs.declared.node.Node.{Node}
use Rattle.usfm_tree.specs.declared.node.Branch.{Branch}
use Rattle.usfm_tree.specs.declared.node.Node.TheOpen.{Branch-F}
use Rattle.usfm_tree.specs.declared.node.Node.TheViews.{roll-Branch}
use Rattle.usfm_tree.specs.declared.node.Node.TheFolds.{fold-roll-Branch}
use Rattle.usfm_tree.specs.declared.open.Open.{Open}
use Rattle.usfm_tree.specs.declared.reader.Begun.{Begun}
use Rattle.std.specs.Option.{option_map}
use Rattle.usfm_tree.proofs.ReadingLemmas.{then-assoc, then-nothing}

-- nodes with one more at their end
pub forest_of_push : (ns : List Node) (n : Node) → forest_of (ns ++ n ∷ []) ≡ forest_of ns then view n
forest_of_push [] n = then-nothing (view n)
forest_of_push (m ∷ ns) n = ap (λ f. view m then f) (forest_of_push ns n) ∙ sym (then-assoc (view m) (forest_of ns) (view n))

-- open nodes with one more, as frames
pub frames_push : (os : List (Open Begun)) (o : Open Begun) → reverse (map frame_of (os ++ o ∷ [])) ≡ frame_of o ∷ reverse (map frame_of os)
frames_push os o = ap reverse (map-append frame_of os (o ∷ [])) ∙ reverse-append (map frame_of os) (frame_of o ∷ [])

-- an open node that is taken off the stack ends, and is put after those before it
pub ends_by_pop : (items new_items : List (Open Begun)) (o : Open Begun) (kids new_kids : List Node) (n : Node) (close : Option MarkParts)
    → items ≡ new_items ++ o ∷ [] → new_kids ≡ o.kept.before.items ++ n ∷ []
    → view n ≡ spanning o.kind o.kept.start (mark_parts o.kept.mark) (forest_of kids) close nothing
    → Ends (reverse (map frame_of items)) (forest_of kids) close (reverse (map frame_of new_items)) (forest_of new_kids)
ends_by_pop items new_items o kids new_kids n close popped pushed is =
    let F : List Frame → Type 0 = λ fs. Ends fs (forest_of kids) close (reverse (map frame_of new_items)) (forest_of new_kids) in
    subst F (sym (ap (λ l. reverse (map frame_of l)) popped ∙ frames_push new_items o))
    (refl, ap forest_of pushed ∙ forest_of_push o.kept.before.items n ∙ ap (λ f. forest_of o.kept.before.items then f) is)

-- the parts of a branch that the code makes
pub branch_parts_made : (x : Branch-F Node Branch)
    → branch_parts (roll-Branch x)
    ≡ record {
      start = x.start;
      slice = x.slice.now;
      mark = mark_parts x.mark;
      kids = forest_of x.kids.items;
      close = option_map mark_parts x.close;
    }
branch_parts_made = fold-roll-Branch Forest Parts node_step parts_step

-- open nodes with one more, the innermost first
pub opens_in_push : {K : Type 0} (os : List (Open K)) (o : Open K) → opens_in (os ++ o ∷ []) ≡ open_view o ∷ opens_in os
opens_in_push os o = ap reverse (map-append open_view os (o ∷ [])) ∙ reverse-append (map open_view os) (open_view o ∷ [])

-- the innermost is the last of the stack
pub opens_in_last : {K : Type 0} (os front : List (Open K)) (o : Open K) → os ≡ front ++ o ∷ [] → opens_in os ≡ open_view o ∷ opens_in front
opens_in_last os front o h = ap opens_in h ∙ opens_in_push front o

-- there are as many open nodes as the stack has
pub length_opens_in : {K : Type 0} (os : List (Open K)) → length (opens_in os) ≡ length os
length_opens_in os = length-reverse (map open_view os) ∙ length-map os open_view

map_reverse : {A B : Type 0} (f : A → B) (xs : List A) → map f (reverse xs) ≡ reverse (map f xs)
map_reverse f [] = refl
map_reverse f (x ∷ xs) = ap (map f) (reverse-append (x ∷ []) xs) ∙ map-append f (reverse xs) (x ∷ [])
    ∙ ap (λ l. l ++ f x ∷ []) (map_reverse f xs) ∙ sym (reverse-append (f x ∷ []) (map f xs))

map_frames : (os : List (Open Begun)) → map (λ f. f.open_node) (map frame_of os) ≡ map open_view os
map_frames [] = refl
map_frames (o ∷ os) = ap (λ l. open_view o ∷ l) (map_frames os)

-- the frames' open nodes
pub opens_of_frames : (os : List (Open Begun)) → opens_of (reverse (map frame_of os)) ≡ opens_in os
opens_of_frames os = map_reverse (λ (f : Frame). f.open_node) (map frame_of os) ∙ ap reverse (map_frames os)

-- nodes that end one after the other
pub resumes_twice : (r : reading.Role) (a b c : Forest) (fs gs hs : List Frame) (closed : Bool) → Resumes r a fs b gs false
    → Resumes r b gs c hs closed → Resumes r a fs c hs closed
resumes_twice r a b c fs gs hs closed h k styles t l e = h styles t l e ∙ k styles t l e

-- the first token that is left, and where it begins
pub left_front : (n : ℕ) (rest after : List ℕ) (t : Lexeme) → tokens_of rest ≡ t ∷ tokens_of after → length rest ≤ n
    → (left_of n rest ≡ record { start = n - length rest; token = t } ∷ left_of n after) × (length after ≤ n)
left_front n rest after t h within =
    let front : rest ≡ slice_of t ++ after = sym (joined-tokens_of rest) ∙ ap joined h
    ∙ ap (λ r. slice_of t ++ r) (joined-tokens_of after) in
    let len = ap length front ∙ length-append (slice_of t) after in
    let place : n - length rest + length (slice_of t) ≡ n - length after = omega (arith, len) in (
      ap (reading.placed (n - length rest)) h
          ∙ ap (λ k. record { start = n - length rest; token = t } ∷ reading.placed k (tokens_of after)) place,
      omega (arith, len),
    )
