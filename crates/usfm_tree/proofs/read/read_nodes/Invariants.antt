use Rattle.std.proofs.Common.{◌≡◌, ◌≤◌, length}
use Rattle.usfm_token.specs.View.{rest_of}
use Rattle.usfm_token.specs.Tokens.{tokens_of}
use Rattle.usfm_tree.specs.Reading.{tree_of}
use Rattle.usfm_tree.specs.Loops.Stack.{resume}
use Rattle.usfm_tree.specs.SheetViews.{styles_of}
use Rattle.usfm_tree.specs.Loops.ReaderViews.{frames_of, sofar_of, spans_of, Adjoins}
use Rattle.usfm_tree.specs.Loops.TakenViews.{left_of}
use Rattle.usfm_tree.proofs.read.read_nodes.Given as goal

abbrev pub invariant-loop-token : goal.invariant-loop-token
invariant-loop-token l = record {
  adjoins : Adjoins (spans_of l.reader) (sofar_of l.reader) (rest_of l.tokens);
  within : length (rest_of l.tokens) ≤ length l.source;
  resumes : resume (styles_of l.sheet) (sofar_of l.reader) (frames_of l.reader) (left_of (length l.source) (rest_of l.tokens))
      ≡ tree_of (styles_of l.sheet) l.source;
}

abbrev pub decreases-loop-token : goal.decreases-loop-token
decreases-loop-token l = length (tokens_of (rest_of l.tokens))
