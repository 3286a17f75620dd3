use Rattle.std.proofs.Common.{◌≡◌, length, false}
use Rattle.usfm_tree.specs.Reading as reading
use Rattle.usfm_tree.specs.Loops.Stack.{Resumes, opens_of}
use Rattle.usfm_tree.specs.Loops.RoleViews.{role_view}
use Rattle.usfm_tree.specs.Loops.ReaderViews.{frames_of, sofar_of, spans_of, Adjoins}
use Rattle.usfm_tree.proofs.reader.Reader.unwind.Given as goal

abbrev pub invariant-loop-count : goal.invariant-loop-count
invariant-loop-count l = record {
  resumes : Resumes (role_view l.role) (sofar_of l.initial.self) (frames_of l.initial.self) (sofar_of l.self) (frames_of l.self) false;
  adjoins : Adjoins (spans_of l.self) (sofar_of l.self) l.at;
  counted : l.count ≡ reading.ended (opens_of (frames_of l.self)) (role_view l.role);
}

abbrev pub decreases-loop-count : goal.decreases-loop-count
decreases-loop-count l = length (frames_of l.self)
