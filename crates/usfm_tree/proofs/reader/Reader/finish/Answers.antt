use Rattle.std.proofs.Common.{◌≡◌, ◌∙◌, ap, sym, List, [], length, map, reverse, arith, eqb-true}
use Rattle.std.proofs.lemmas.List.{nil_from_length}
use Rattle.usfm_tree.specs.Loops.Stack.{Frame, resume}
use Rattle.usfm_tree.specs.Loops.ReaderViews.{frames_of, sofar_of, frame_of}
use Rattle.usfm_tree.proofs.ReadingLemmas.{finish_end, finish_done}
use Rattle.usfm_tree.proofs.reader.Reader.finish.Goals as goal

pub loop-self-preserved : goal.loop-self-preserved
loop-self-preserved c = record {
  resumes = λ styles. sym (finish_end styles (sofar_of c.loop-self.self) (sofar_of c.end.new.self) (frames_of c.loop-self.self)
      (frames_of c.end.new.self) c.in_ok-end.ensures.ends) ∙ c.loop-self.invariant.resumes styles;
  adjoins = c.in_ok-end.ensures.adjoins;
}

pub end-requires-clause-adjoins : goal.end-requires-clause-adjoins
end-requires-clause-adjoins c = c.loop-self.invariant.adjoins

pub returns : goal.returns
returns c =
    let none : length c.loop-self.self.open_nodes.items
    ≡ 0 = omega (arith, eqb-true _ _ (sym c.loop-self-test.ensures), c.loop-self.self.open_nodes.ok.0) in
    let frames : frames_of c.loop-self.self
    ≡ [] = ap (λ l. reverse (map frame_of l)) (nil_from_length c.loop-self.self.open_nodes.items none) in
    λ styles. sym (finish_done styles (sofar_of c.loop-self.self))
    ∙ ap (λ (fs : List Frame). resume styles (sofar_of c.loop-self.self) fs []) (sym frames) ∙ c.loop-self.invariant.resumes styles
