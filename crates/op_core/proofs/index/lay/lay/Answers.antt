use Rattle.std.proofs.Common.{sym, ap, subst, ◌∙◌, ◌≡◌, true, false}
use Rattle.usfm_ref.specs.Keys.{KeyParts}
use Rattle.usfm_ref.specs.Segments.{segment}
use Rattle.op_core.specs.Loops.Index.{register_of, is_there}
use Rattle.op_core.proofs.Indexed.Registers.{map_ok}
use Rattle.op_core.proofs.Indexed.There.{not_there, there_itself, readies_same, readies_put, readies_like, either}
use Rattle.op_core.proofs.index.lay.lay.Goals as goal

pub returns-then-is_laid-clause-same : goal.returns-then-is_laid-clause-same
returns-then-is_laid-clause-same c = readies_same _ c.requires

pub returns-then-is_laid-clause-there : goal.returns-then-is_laid-clause-there
returns-then-is_laid-clause-there c =
    ap (is_there c.args.segment.now) (sym c.deref.ensures.value) ∙ sym c.is_laid.ensures ∙ c.if-is_laid.true

pub put_in-requires-clause-absent : goal.put_in-requires-clause-absent
put_in-requires-clause-absent c =
    let none : is_there c.args.segment.now c.args.chapters.now.items ≡ false =
    ap (is_there c.args.segment.now) (sym c.deref.ensures.value) ∙ sym c.is_laid.ensures ∙ c.if-is_laid.false in
    ap (λ (k : KeyParts). register_of (segment c.args.segment.now.book k) c.args.chapters.now.items) c.new-register.ensures.key
    ∙ not_there c.args.segment.now c.args.chapters.now.items none

pub returns-clause-same : goal.returns-clause-same
returns-clause-same c =
    let r = c.new-register.result in
    let none : is_there c.args.segment.now c.args.chapters.now.items ≡ false =
    ap (is_there c.args.segment.now) (sym c.deref.ensures.value) ∙ sym c.is_laid.ensures ∙ c.if-is_laid.false in
    let gone = ap (λ (k : KeyParts). register_of (segment c.args.segment.now.book k) c.args.chapters.now.items) c.new-register.ensures.key
    ∙ not_there c.args.segment.now c.args.chapters.now.items none in
    either c.put_in.result
    (λ p. readies_put (segment c.args.segment.now.book r.key) r c.args.chapters.now.items _ p gone c.new-register.ensures.shown
    c.new-register.ensures.missing)
    (λ s. readies_like c.args.chapters.now.items _ s) c.put_in.ensures.ok c.put_in.ensures.err

pub returns-clause-there : goal.returns-clause-there
returns-clause-there c =
    let r = c.new-register.result in
    map_ok c.put_in.result
    (λ p. subst (λ (n : KeyParts). is_there (segment c.args.segment.now.book n) c.put_in.new.chapters.items ≡ true)
    c.new-register.ensures.key
    (there_itself (segment c.args.segment.now.book r.key) r c.args.chapters.now.items _ p)) c.put_in.ensures.ok
