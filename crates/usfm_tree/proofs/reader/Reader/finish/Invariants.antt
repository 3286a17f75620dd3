use Rattle.std.proofs.Common.{◌≡◌, [], length}
use Rattle.usfm_tree.specs.Reading as reading
use Rattle.usfm_tree.specs.Loops.Stack.{resume}
use Rattle.usfm_tree.specs.Loops.ReaderViews.{frames_of, sofar_of, spans_of, Adjoins}
use Rattle.usfm_tree.proofs.reader.Reader.finish.Given as goal

abbrev pub invariant-loop-self : goal.invariant-loop-self
invariant-loop-self l = record {
  resumes : (styles : reading.Styles)
      → resume styles (sofar_of l.self) (frames_of l.self) [] ≡ resume styles (sofar_of l.initial.self) (frames_of l.initial.self) [];
  adjoins : Adjoins (spans_of l.self) (sofar_of l.self) [];
}

abbrev pub decreases-loop-self : goal.decreases-loop-self
decreases-loop-self l = length l.self.open_nodes.items
