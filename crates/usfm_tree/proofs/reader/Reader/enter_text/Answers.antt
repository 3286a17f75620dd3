use Rattle.std.proofs.Common.{◌∙◌, ap}
use Rattle.usfm_tree.specs.Forest.{text, nothing, ◌then◌}
use Rattle.usfm_tree.specs.Loops.ReaderViews.{frames_of, spans_of, sofar_of}
use Rattle.usfm_tree.proofs.SpanLemmas.{adjoins_put, bytes_text}
use Rattle.usfm_tree.proofs.ReadingLemmas.{enters_text}
use Rattle.usfm_tree.proofs.reader.Reader.enter_text.Goals as goal

pub returns-clause-enters : goal.returns-clause-enters
returns-clause-enters c =
    enters_text c.args.start c.args.slice.now (sofar_of c.args.self.now) (sofar_of c.put.new.self) (frames_of c.args.self.now)
    (frames_of c.put.new.self)
    (c.in_ok-put.ensures.kids ∙ ap (λ v. sofar_of c.args.self.now then v) c.text_node.ensures) c.in_ok-put.ensures.frames

pub returns-clause-adjoins : goal.returns-clause-adjoins
returns-clause-adjoins c =
    adjoins_put (spans_of c.args.self.now) (spans_of c.put.new.self) (sofar_of c.args.self.now) (sofar_of c.put.new.self)
    (text c.args.start c.args.slice.now nothing) c.args.slice.now c.args.rest.now
    c.requires.adjoins (bytes_text c.args.start c.args.slice.now)
    (c.in_ok-put.ensures.kids ∙ ap (λ v. sofar_of c.args.self.now then v) c.text_node.ensures) c.in_ok-put.ensures.spans
