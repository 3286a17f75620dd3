use Rattle.std.proofs.Common.{◌∙◌, ap}
use Rattle.usfm_token.specs.Tokens.{mark_bytes}
use Rattle.usfm_token.specs.View.{mark_parts}
use Rattle.usfm_tree.specs.Forest.{leaf, nothing, ◌then◌}
use Rattle.usfm_tree.specs.Loops.ReaderViews.{spans_of, sofar_of}
use Rattle.usfm_tree.proofs.SpanLemmas.{adjoins_put, bytes_leaf}
use Rattle.usfm_tree.proofs.reader.Reader.enter_leaf.Goals as goal

pub returns-clause-adjoins : goal.returns-clause-adjoins
returns-clause-adjoins c =
    let m = mark_parts c.args.mark in
    adjoins_put (spans_of c.args.self.now) (spans_of c.put.new.self) (sofar_of c.args.self.now) (sofar_of c.put.new.self)
    (leaf c.args.start m nothing) (mark_bytes m) c.args.rest.now
    c.requires.adjoins (bytes_leaf c.args.start m)
    (c.in_ok-put.ensures.kids ∙ ap (λ v. sofar_of c.args.self.now then v) c.leaf_node.ensures) c.in_ok-put.ensures.spans
