-- What a contract sees of the reader's stack.
use Rattle.std.specs.Prelude.{◌≡◌, ℕ, List, [], ◌∷◌, ◌++◌, map, reverse}
use Rattle.usfm_token.specs.Tokens.{MarkParts, mark_bytes}
use Rattle.std.specs.Option.{option_map}
use Rattle.usfm_token.specs.View.{mark_parts}
use Rattle.usfm_tree.specs.Forest.{Forest, bytes_of}
use Rattle.usfm_tree.specs.Loops.Stack.{Frame}
use Rattle.usfm_tree.specs.Reading as reading
use Rattle.usfm_tree.specs.Views.{forest_of}
use Rattle.usfm_tree.specs.declared.open.Open.{Open}
use Rattle.usfm_tree.specs.declared.reader.Begun.{Begun}
use Rattle.usfm_tree.specs.declared.reader.Reader.{Reader}

-- an open node: its kind, whether its mark has '+', and the name that closes it
abbrev pub open_view : {K : Type 0} → Open K → reading.Open
open_view o = record { kind = o.kind; nested = o.nested; closer = option_map (λ n. n.now) o.closer }

-- the innermost first
abbrev pub opens_in : {K : Type 0} → List (Open K) → List reading.Open
opens_in os = reverse (map open_view os)

-- an open node, by its bytes: the text from its mark on, and what comes before it in its parent
pub record Span : Type 0 where
  pub from : List ℕ
  pub mark : MarkParts
  pub before : Forest

-- an open node of the reader, by its bytes
abbrev pub span_of : Open Begun → Span
span_of o = record {
  from = o.kept.from.now;
  mark = mark_parts o.kept.mark;
  before = forest_of
      o.kept.before.items;
}

-- the mark of each open node, what was read after it, and the rest are the text from that mark on
abbrev pub Adjoins : List Span → Forest → List ℕ → Type 0
Adjoins [] sofar rest = Unit {0}
Adjoins (s ∷ ss) sofar rest =
    (s.from ≡ mark_bytes s.mark ++ (bytes_of sofar ++ rest)) × Adjoins ss s.before s.from

-- a text ends in another
abbrev pub EndsIn : List ℕ → List ℕ → Type 0
EndsIn from rest = (x : List ℕ) × (from ≡ x ++ rest)

-- an open node of the reader, with where it begins and what comes before it in its parent
abbrev pub frame_of : Open Begun → Frame
frame_of o = record {
  open_node = open_view o;
  start = o.kept.start;
  mark = mark_parts o.kept.mark;
  before = forest_of o.kept.before.items;
}

-- the open nodes, the innermost first
abbrev pub frames_of : Reader → List Frame
frames_of r = reverse (map frame_of r.open_nodes.items)

-- the kids so far of the innermost open node
abbrev pub sofar_of : Reader → Forest
sofar_of r = forest_of r.kids.items

-- the open nodes by their bytes, the innermost first
abbrev pub spans_of : Reader → List Span
spans_of r = reverse (map span_of r.open_nodes.items)
