use Rattle.std.proofs.Common.{ap, subst, ◌∙◌}
use Rattle.std.proofs.lemmas.List.{nil_from_length}
use Rattle.usfm_ref.specs.Keys.{KeyParts}
use Rattle.usfm_ref.specs.Segments.{segment}
use Rattle.op_core.specs.Loops.Index.{register_of, Changes}
use Rattle.op_core.proofs.Indexed.Begun.{none_begun, none_yet, begun_more, begun_index}
use Rattle.op_core.proofs.index.begin.begin_index.Goals as goal

pub runs-init : goal.runs-init
runs-init c = none_begun c.args.new.now c.args.turns.now c.new-chapters.result.items c.new-chapters.ensures.items c.requires.turns.sorted

pub put_in-requires-clause-absent : goal.put_in-requires-clause-absent
put_in-requires-clause-absent c =
    ap (λ (k : KeyParts). register_of (segment c.in-Some.first.now.segment.book k) c.runs.chapters.items) c.in_ok-register.ensures.key
    ∙ none_yet c.args.new.now c.args.turns.now c.runs.chapters.items c.runs.rest.now c.in-Some.others.now c.in-Some.first.now
    c.runs.invariant c.in-Some.ensures.cases.0

pub runs-preserved : goal.runs-preserved
runs-preserved c =
    begun_more c.args.new.now c.args.turns.now c.runs.chapters.items c.put_in.new.chapters.items
    c.runs.rest.now c.in-Some.others.now c.split_at.result.0.now c.split_at.result.1.now c.in-Some.first.now c.run_len-len.result
    c.in_ok-register.register
    c.runs.invariant c.in-Some.ensures.cases.0 c.split_at.ensures.front c.split_at.ensures.back c.run_len-len.ensures.own
    c.run_len-len.ensures.later c.in_ok-register.ensures.begun
    (subst (λ (k : KeyParts). Changes (segment c.in-Some.first.now.segment.book k) c.in_ok-register.register c.runs.chapters.items
    c.put_in.new.chapters.items) c.in_ok-register.ensures.key c.in_ok-put_in.ensures.ok)

pub returns : goal.returns
returns c = begun_index c.args.new.now c.args.turns.now c.runs.chapters.items c.runs.rest.now c.requires.new c.requires.turns
    (nil_from_length c.runs.rest.now c.in_default.ensures.cases) c.runs.invariant
